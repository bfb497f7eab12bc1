use Rattle.std.proofs.Common.{◌≡◌, ◌≤◌, ◌+◌, ℕ, List, length, subst, ◌∙◌, arith}
use Rattle.ocpi_text.specs.Whole.{max_whole}
use Rattle.node_steps.specs.Acts.{Act}
use Rattle.node_steps.specs.Drafts.{with_acts}
use Rattle.node_steps.proofs.Gathering.{step_is}
use Rattle.operator_steps.specs.Moves.{counters_of}
use Rattle.operator_planning.specs.Planned.{IsNewSession, begins_acts}
use Rattle.operator_planning.proofs.BeginningCounts.{begins_ask, begins_line, begins_send, begins_within}
use Rattle.operator_planning.proofs.BeginningStops.{begins_refused, begins_starved, begins_unnumbered}
use Rattle.operator_planning.proofs.CountedDrafts.{counted_in_range, opened_with}
use Rattle.operator_planning.proofs.planner.Planner.plan_begun.Goals as goal

pub returns-in_err-number-clause-err : goal.returns-in_err-number-clause-err
returns-in_err-number-clause-err c =
    begins_unnumbered c.args.self.now.state c.args.at c.args.ends.now c.args.reference c.args.beginning.now c.requires.provider c.from_residual.result _ c.from_residual.ensures.1 c.in_err-number.ensures.err

pub returns-in_err-draft-clause-err : goal.returns-in_err-draft-clause-err
returns-in_err-draft-clause-err c =
    let s = c.args.self.now.state in
    let range : s.rows.charged.last_session + 1 ≤ max_whole = subst (λ k. k ≤ max_whole) c.in_ok-number.ensures.ok c.in_ok-number.ensures.in_range in
    begins_refused s c.args.at c.args.ends.now c.args.reference c.args.beginning.now c.requires.provider range c.from_residual-in_err-draft.result _ c.from_residual-in_err-draft.ensures.1 c.in_err-draft.ensures.err

pub returns-in_err-begun-clause-err : goal.returns-in_err-begun-clause-err
returns-in_err-begun-clause-err c =
    let s = c.args.self.now.state in
    let range : s.rows.charged.last_session + 1 ≤ max_whole = subst (λ k. k ≤ max_whole) c.in_ok-number.ensures.ok c.in_ok-number.ensures.in_range in
    begins_starved s c.args.at c.args.ends.now c.args.reference c.args.beginning.now c.requires.provider range c.from_residual-in_err-begun.result c.from_residual-in_err-begun.ensures.1 c.in_ok-draft.ensures.in_range

pub add_beginning-requires-clause-numbers : goal.add_beginning-requires-clause-numbers
add_beginning-requires-clause-numbers c =
    let s = c.args.self.now.state in
    let k = length c.args.ends.now + 1 in
    opened_with s.party (counters_of s) k k k k c.in_ok-draft.draft c.in_ok-draft.ensures.ok (omega arith) (omega arith)

pub returns-in_err-add_beginning-clause-err : goal.returns-in_err-add_beginning-clause-err
returns-in_err-add_beginning-clause-err c =
    let s = c.args.self.now.state in
    let range : s.rows.charged.last_session + 1 ≤ max_whole = subst (λ k. k ≤ max_whole) c.in_ok-number.ensures.ok c.in_ok-number.ensures.in_range in
    begins_starved s c.args.at c.args.ends.now c.args.reference c.args.beginning.now c.requires.provider range c.from_residual-in_err-add_beginning.result c.from_residual-in_err-add_beginning.ensures.1 c.in_ok-draft.ensures.in_range

pub returns-clause-ok : goal.returns-clause-ok
returns-clause-ok c =
    let s = c.args.self.now.state in
    let m = s.rows.commands.pending in
    let n = s.rows.charged.last_session + 1 in
    let x = c.in_ok-begun.begun in
    let k = length c.args.ends.now + 1 in
    let range : n ≤ max_whole = subst (λ j. j ≤ max_whole) c.in_ok-number.ensures.ok c.in_ok-number.ensures.in_range in
    let new : IsNewSession s c.args.at n c.args.beginning.now x = subst (λ j. IsNewSession s c.args.at j c.args.beginning.now x) c.in_ok-number.ensures.ok c.in_ok-begun.ensures in
    let gathered : c.add_beginning.new.draft ≡ with_acts (begins_acts c.args.at m c.in_ok-draft.draft.counters.request n c.args.ends.now c.args.reference x) c.in_ok-draft.draft =
    subst (λ j. c.add_beginning.new.draft ≡ with_acts (begins_acts c.args.at m c.in_ok-draft.draft.counters.request j c.args.ends.now c.args.reference x) c.in_ok-draft.draft) c.in_ok-number.ensures.ok c.in_ok-add_beginning.ensures in
    let acts : ℕ → List Act = λ last. begins_acts c.args.at m last n c.args.ends.now c.args.reference x in
    let sends = begins_send c.args.at m n c.args.ends.now c.args.reference x s.rows.request in
    let asks = begins_ask c.args.at m n c.args.ends.now c.args.reference x s.rows.request in
    record {
      acts = acts s.rows.request;
      line = begins_line s c.args.at c.args.ends.now c.args.reference c.args.beginning.now x new;
      in_range = counted_in_range s acts k k sends asks (begins_within c.args.at m n c.args.ends.now c.args.reference x s.rows.request range) c.in_ok-draft.ensures.in_range;
      step_is = c.into_plan.ensures ∙ step_is s.party (counters_of s) acts k k sends asks c.in_ok-draft.draft c.add_beginning.new.draft c.in_ok-draft.ensures.ok gathered;
    }
