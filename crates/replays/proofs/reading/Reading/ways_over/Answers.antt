use Rattle.std.proofs.Common.{◌≡◌, ◌∙◌, ◌+◌, IfNone, arith, ap, length, refl, sym, subst, suc, take}
use Rattle.std.proofs.lemmas.List.{take_all}
use Rattle.replays.proofs.WayLemmas.{ArePassed, all_passed, none_passed, one_passed}
use Rattle.replays.specs.LineTurns.{held_in}
use Rattle.replays.specs.Ways.{IsPassedBy}
use Rattle.replays.proofs.reading.Reading.ways_over.Goals as goal

pub loop-place-init : goal.loop-place-init
loop-place-init c =
    subst (ArePassed c.args.self.now c.args.setup.now c.args.piece.is_closed c.args.piece.bytes.now (held_in c.args.held.now) _) (sym c.new-parties.ensures.items)
    (none_passed c.args.self.now c.args.setup.now c.args.piece.is_closed c.args.piece.bytes.now (held_in c.args.held.now))

pub loop-place-preserved : goal.loop-place-preserved
loop-place-preserved c =
    let held = held_in c.args.held.now in
    let place = c.loop-place.place in
    let next : suc place ≡ place + 1 = omega arith in
    let passed = subst (λ o. IfNone o (IsPassedBy c.args.self.now c.args.setup.now c.args.piece held place c.loop-place.parties.items c.try_at.new.parties.items)) c.in-Ok-None.field-0-is c.in-Ok-None.ensures.none in
    subst (λ n. ArePassed c.args.self.now c.args.setup.now c.args.piece.is_closed c.args.piece.bytes.now held (take n c.args.setup.now) c.try_at.new.parties.items) next
    (one_passed c.args.self.now c.args.setup.now c.args.piece.is_closed c.args.piece.bytes.now held place c.loop-place.parties.items c.try_at.new.parties.items c.loop-place.invariant passed)

pub returns : goal.returns
returns c =
    let held = held_in c.args.held.now in
    let setup = c.args.setup.now in
    let size = ap length c.as_slice-place-end.ensures.value in
    let over : take c.loop-place.place setup ≡ setup = take_all c.loop-place.place setup (omega (arith, c.loop-place-test.false, size)) in
    all_passed c.args.self.now setup c.args.piece.is_closed c.args.piece.bytes.now held c.loop-place.parties.items
    (subst (λ l. ArePassed c.args.self.now setup c.args.piece.is_closed c.args.piece.bytes.now held l c.loop-place.parties.items) over c.loop-place.invariant)
