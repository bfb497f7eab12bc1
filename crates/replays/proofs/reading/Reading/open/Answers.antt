use Rattle.std.proofs.Common.{◌∙◌, ap, subst, sym}
use Rattle.replays.proofs.OpenLemmas.{begins_so, way_so}
use Rattle.replays.specs.Answering.{shown}
use Rattle.replays.specs.LineTurns.{held_in}
use Rattle.replays.specs.Reading.{Reader, Story, left_out}
use Rattle.replays.specs.RunParts.{Before}
use Rattle.replays.specs.Ways.{AreWays}
use Rattle.replays.proofs.reading.Reading.open.Goals as goal

pub begin-requires-clause-way : goal.begin-requires-clause-way
begin-requires-clause-way c =
    let r = c.args.self.now in
    let t = c.self.inside in
    let piece = c.args.behind.piece in
    way_so r (record { earlier = t.earlier.now; parties = t.parties.items; story = c.leave_out.new.self }) c.args.setup piece.bytes.now (held_in c.held.result.now) c.leave_out.new.self.held c.in-Ok-Was.member c.in-Ok-Was.opened
    (sym (ap (λ (x : Reader). x.earlier) c.self.view_is)) (sym (ap (λ (x : Reader). x.parties) c.self.view_is)) (c.held.ensures ∙ sym (ap (λ (s : Story). s.held) c.leave_out.ensures))
    (subst (AreWays r c.args.setup piece.is_closed piece.bytes.now (held_in c.held.result.now)) c.in-Ok-Was.field-0-is c.in-Ok-Was.ensures)

pub returns-in_ok-running-in-Ok-Was-clause-some : goal.returns-in_ok-running-in-Ok-Was-clause-some
returns-in_ok-running-in-Ok-Was-clause-some c =
    let r = c.args.self.now in
    let t = c.self.inside in
    let now = c.in_ok-running-in-Ok-Was.running in
    Before (begins_so (record { earlier = t.earlier.now; parties = t.parties.items; story = c.leave_out.new.self }) r c.begin.new.self c.args.behind.line.bytes.now c.args.setup c.args.base c.args.behind.piece.bytes.now
    c.leave_out.new.self (left_out r.story) (shown now) now.opening (ap (λ (x : Reader). x.earlier) c.self.view_is) (ap (λ (x : Reader). x.parties) c.self.view_is)
    (c.leave_out.ensures ∙ ap (λ (x : Reader). left_out x.story) c.self.view_is) c.in_ok-running-in-Ok-Was.ensures)
