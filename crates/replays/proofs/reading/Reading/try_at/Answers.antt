use Rattle.std.proofs.Common.{◌≡◌, ◌∙◌, ◌++◌, ◌∷◌, [], get_or, length, refl, sym, ap, subst, true≢false}
use Rattle.std.proofs.lemmas.Option.{slice_get_read}
use Rattle.replays.proofs.WayLemmas.{way_of}
use Rattle.replays.specs.LineTurns.{held_in}
use Rattle.replays.specs.Reading.{MayBe}
use Rattle.replays.specs.Ways.{IsTried, May, Not, NotThere}
use Rattle.replays.specs.declared.opening.Tried.TheVariants as tried
use Rattle.replays.proofs.reading.Reading.try_at.Goals as goal

pub returns-then-not-may_be-clause-none : goal.returns-then-not-may_be-clause-none
returns-then-not-may_be-clause-none c =
    let member = c.index-nodes-place.result in
    let there = slice_get_read c.args.setup.now (length c.args.setup.now) c.args.place member refl c.requires.place
    (subst (λ l. member ≡ get_or l c.args.place member) c.nodes_of-nodes.ensures.value c.index-nodes-place.is) in
    NotThere member there (λ may. true≢false (sym (c.may_be.ensures.1 (subst (MayBe c.args.self.now) (sym c.party.ensures) may)) ∙ c.if-not-may_be.true)) refl

pub returns-in-No-clause-none : goal.returns-in-No-clause-none
returns-in-No-clause-none c =
    let member = c.index-nodes-place.result in
    let held = held_in c.args.held.now in
    let there = slice_get_read c.args.setup.now (length c.args.setup.now) c.args.place member refl c.requires.place
    (subst (λ l. member ≡ get_or l c.args.place member) c.nodes_of-nodes.ensures.value c.index-nodes-place.is) in
    Not member there (subst (λ l. IsTried l member held c.args.piece.is_closed c.args.piece.bytes.now tried.No) c.nodes_of-nodes.ensures.value
    (subst (IsTried c.nodes_of-nodes.result.now member held c.args.piece.is_closed c.args.piece.bytes.now) c.in-No.is c.in_ok-try_member.ensures)) refl

pub returns-in_ok-push-in-May-clause-none : goal.returns-in_ok-push-in-May-clause-none
returns-in_ok-push-in-May-clause-none c =
    let member = c.index-nodes-place.result in
    let held = held_in c.args.held.now in
    let there = slice_get_read c.args.setup.now (length c.args.setup.now) c.args.place member refl c.requires.place
    (subst (λ l. member ≡ get_or l c.args.place member) c.nodes_of-nodes.ensures.value c.index-nodes-place.is) in
    May member there (subst (MayBe c.args.self.now) c.party.ensures (c.may_be.ensures.0 c.if-not-may_be.false)) (subst (λ l. IsTried l member held c.args.piece.is_closed c.args.piece.bytes.now tried.May) c.nodes_of-nodes.ensures.value
    (subst (IsTried c.nodes_of-nodes.result.now member held c.args.piece.is_closed c.args.piece.bytes.now) c.in-May.is c.in_ok-try_member.ensures))
    (c.in_ok-push-in-May.ensures.items ∙ ap (λ p. c.args.parties.now.items ++ p ∷ []) c.party-in-May.ensures)

pub returns-in-Was-clause-some : goal.returns-in-Was-clause-some
returns-in-Was-clause-some c =
    let member = c.index-nodes-place.result in
    let held = held_in c.args.held.now in
    let there = slice_get_read c.args.setup.now (length c.args.setup.now) c.args.place member refl c.requires.place
    (subst (λ l. member ≡ get_or l c.args.place member) c.nodes_of-nodes.ensures.value c.index-nodes-place.is) in
    way_of c.args.self.now c.args.setup.now c.args.piece.is_closed c.args.piece.bytes.now held c.args.place member c.in-Was.opened there
    (subst (MayBe c.args.self.now) c.party.ensures (c.may_be.ensures.0 c.if-not-may_be.false)) (subst (λ l. IsTried l member held c.args.piece.is_closed c.args.piece.bytes.now (tried.Was c.in-Was.opened)) c.nodes_of-nodes.ensures.value
    (subst (IsTried c.nodes_of-nodes.result.now member held c.args.piece.is_closed c.args.piece.bytes.now) c.in-Was.is c.in_ok-try_member.ensures))
