use Rattle.std.proofs.Common.{◌≡◌, ◌∙◌, ℕ, ◌+◌, length, ap}
use Rattle.ocpi_types.specs.declared.commands.Command.{Command}
use Rattle.node_steps.specs.Acts.{all_messages, all_requests}
use Rattle.node_steps.proofs.Gathering.{has_all, step_is}
use Rattle.operator_tables.specs.declared.decision.Decision.{Decision}
use Rattle.operator_tables.specs.declared.request.Request.{Request}
use Rattle.operator_steps.specs.Acts.{result_of}
use Rattle.operator_steps.specs.Moves.{counters_of}
use Rattle.operator_planning.specs.Requests.{decided_by, result_count}
use Rattle.operator_planning.proofs.Decisions.{decided_asks, decided_within, decided_sends}
use Rattle.operator_planning.proofs.CountedDrafts.{counted_in_range, counted_refused, counted_starved}
use Rattle.operator_planning.proofs.planner.Planner.plan_decided.Goals as goal

module _ (last : ℕ) (r : Request) (k : Command) (d : Decision) (results : ℕ) (is : results ≡ result_count (result_of d)) where
  sends : 1 + results ≡ length (all_messages (decided_by r last k d))
  sends = ap (λ n. 1 + n) is ∙ decided_sends r.at last r.from r.provider r.number k d

  asks : results ≡ all_requests (decided_by r last k d)
  asks = is ∙ decided_asks r.at last r.from r.provider r.number k d

-- what opens the draft is refused where the step is
pub returns-in_err-draft-clause-err : goal.returns-in_err-draft-clause-err
returns-in_err-draft-clause-err c =
    let s = c.args.self.now.state in
    let r = c.args.request.now in
    let k = c.args.command.now in
    let d = c.args.decision.now in
    let is : c.count-results.result ≡ result_count (result_of d) = c.count-results.ensures ∙ ap result_count c.result.ensures in
    counted_refused s (λ last. decided_by r last k d) _ _ (sends s.rows.request r k d _ is) (asks s.rows.request r k d _ is) (decided_within r.at s.rows.request r.from r.provider r.number k d)
    c.from_residual.result _ c.from_residual.ensures.1 c.in_err-draft.ensures.err

-- the draft has the numbers of all acts
pub add_decided-requires : goal.add_decided-requires
add_decided-requires c =
    let s = c.args.self.now.state in
    let r = c.args.request.now in
    let k = c.args.command.now in
    let d = c.args.decision.now in
    let is : c.count-results.result ≡ result_count (result_of d) = c.count-results.ensures ∙ ap result_count c.result.ensures in
    has_all s.party (counters_of s) (λ last. decided_by r last k d) _ _ (sends s.rows.request r k d _ is) (asks s.rows.request r k d _ is) c.in_ok-draft.draft c.in_ok-draft.ensures.ok

-- want of memory comes only where the numbers are in range
pub returns-in_err-add_decided-clause-err : goal.returns-in_err-add_decided-clause-err
returns-in_err-add_decided-clause-err c =
    let s = c.args.self.now.state in
    let r = c.args.request.now in
    let k = c.args.command.now in
    let d = c.args.decision.now in
    let is : c.count-results.result ≡ result_count (result_of d) = c.count-results.ensures ∙ ap result_count c.result.ensures in
    counted_starved s (λ last. decided_by r last k d) _ _ (sends s.rows.request r k d _ is) (asks s.rows.request r k d _ is) (decided_within r.at s.rows.request r.from r.provider r.number k d)
    c.from_residual-in_err-add_decided.result c.from_residual-in_err-add_decided.ensures.1 c.in_ok-draft.ensures.in_range

-- what was gathered is the step
pub returns-clause-ok : goal.returns-clause-ok
returns-clause-ok c =
    let s = c.args.self.now.state in
    let r = c.args.request.now in
    let k = c.args.command.now in
    let d = c.args.decision.now in
    let is : c.count-results.result ≡ result_count (result_of d) = c.count-results.ensures ∙ ap result_count c.result.ensures in
    c.into_plan.ensures ∙ step_is s.party (counters_of s) (λ last. decided_by r last k d) _ _ (sends s.rows.request r k d _ is) (asks s.rows.request r k d _ is)
    c.in_ok-draft.draft c.add_decided.new.draft c.in_ok-draft.ensures.ok c.in_ok-add_decided.ensures

pub returns-clause-in_range : goal.returns-clause-in_range
returns-clause-in_range c =
    let s = c.args.self.now.state in
    let r = c.args.request.now in
    let k = c.args.command.now in
    let d = c.args.decision.now in
    let is : c.count-results.result ≡ result_count (result_of d) = c.count-results.ensures ∙ ap result_count c.result.ensures in
    counted_in_range s (λ last. decided_by r last k d) _ _ (sends s.rows.request r k d _ is) (asks s.rows.request r k d _ is)
    (decided_within r.at s.rows.request r.from r.provider r.number k d) c.in_ok-draft.ensures.in_range
