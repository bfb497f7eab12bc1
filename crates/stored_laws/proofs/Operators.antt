-- Each operator of a traced world is whole.
use Rattle.std.proofs.Common.{ℕ, List, subst}
use Rattle.node_laws.proofs.Runs.{kept_runs}
use Rattle.operator_rows.specs.State.{State, opening}
use Rattle.operator_rows.specs.Sound.{IsConsistent}
use Rattle.operator_steps.specs.Events.{Happens}
use Rattle.operator_stored.specs.Whole.{IsWhole}
use Rattle.stored_laws.specs.Laws.{OperatorsAreWhole}
use Rattle.stored_laws.proofs.OperatorSteps.{all_stay, opening_is_whole}
use Rattle.world_laws.proofs.NodeRuns.{line_of, operator_at}
use Rattle.world_steps.proofs.Tracing.{traced}

-- it began as one, and each of its own events leaves one
pub operators_are_whole : OperatorsAreWhole
operators_are_whole w reached o p s of =
    let (hs, traces) = traced reached.setup reached.events w reached.run in
    let at = operator_at reached.setup reached.is_setup w hs traces o p s of in
    let line = line_of reached.setup at.trace.party at.trace.site in
    let last = kept_runs Happens (λ (z : State). IsConsistent z × IsWhole z) (λ a b e happens h. all_stay a b e h.0 h.1 happens)
    (opening line) at.trace.state at.trace.events at.trace.run (opening_is_whole line at.trace.by_form) in
    subst IsWhole at.state_is last.1
