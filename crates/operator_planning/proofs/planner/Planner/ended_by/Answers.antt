use Rattle.std.proofs.Common.{◌≡◌, sym}
use Rattle.std.specs.Prelude.{Some}
use Rattle.std.specs.FinMap.{get}
use Rattle.operator_planning.proofs.Parts.{none_more}
use Rattle.operator_planning.proofs.planner.Planner.ended_by.Goals as goal

-- each open command is of a provider of the site
pub returns-clause-none : goal.returns-clause-none
returns-clause-none c =
    let s = c.args.self.now.state in
    let p = c.in_ok-provider.provider in
    let n = c.in_ok-provider.number in
    let stands : get s.rows.commands.pending (p, n) ≡ Some c.in_ok-open.open.now = rw (← c.self.view_is, ← c.commands.ensures) (sym c.in_ok-open.ensures) in
    let peer = (c.consistency.ensures.sound.pending p n c.in_ok-open.open.now stands).provider in
    none_more c.ending.result (λ none. absurd (none peer.0 peer.1 peer.2)) c.ending.ensures.none
