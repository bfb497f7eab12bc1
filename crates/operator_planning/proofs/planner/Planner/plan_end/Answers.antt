use Rattle.std.proofs.Common.{◌∙◌, ℕ, List, [], ◌∷◌, sym}
use Rattle.node_steps.specs.Acts.{Act}
use Rattle.node_steps.proofs.Gathering.{has_all, step_is}
use Rattle.operator_steps.specs.Ends.{ends_acts}
use Rattle.operator_steps.specs.Moves.{counters_of}
use Rattle.operator_steps.proofs.Ends.{ends_ask, ends_send}
use Rattle.operator_planning.proofs.CountedDrafts.{counted_in_range, counted_refused, counted_starved}
use Rattle.operator_planning.proofs.planner.Planner.plan_end.Goals as goal

-- what opens the draft is refused where the step is
pub returns-in_err-draft-clause-err : goal.returns-in_err-draft-clause-err
returns-in_err-draft-clause-err c =
    let s = c.args.self.now.state in
    let m = s.rows.commands.pending in
    let acts : ℕ → List Act = λ last. ends_acts c.args.at m last (c.args.ending ∷ []) in
    counted_refused s acts _ _ (sym (ends_send c.args.at m s.rows.request (c.args.ending ∷ []))) (sym (ends_ask c.args.at m s.rows.request (c.args.ending ∷ []))) (tt, (tt, (tt, tt)))
    c.from_residual.result _ c.from_residual.ensures.1 c.in_err-draft.ensures.err

-- the draft has the numbers of all acts
pub add_ends-requires-clause-numbers : goal.add_ends-requires-clause-numbers
add_ends-requires-clause-numbers c =
    let s = c.args.self.now.state in
    let m = s.rows.commands.pending in
    let acts : ℕ → List Act = λ last. ends_acts c.args.at m last (c.args.ending ∷ []) in
    has_all s.party (counters_of s) acts _ _ (sym (ends_send c.args.at m s.rows.request (c.args.ending ∷ []))) (sym (ends_ask c.args.at m s.rows.request (c.args.ending ∷ [])))
    c.in_ok-draft.draft c.in_ok-draft.ensures.ok

-- want of memory comes only where the numbers are in range
pub returns-in_err-add_ends-clause-err : goal.returns-in_err-add_ends-clause-err
returns-in_err-add_ends-clause-err c =
    let s = c.args.self.now.state in
    let m = s.rows.commands.pending in
    let acts : ℕ → List Act = λ last. ends_acts c.args.at m last (c.args.ending ∷ []) in
    counted_starved s acts _ _ (sym (ends_send c.args.at m s.rows.request (c.args.ending ∷ []))) (sym (ends_ask c.args.at m s.rows.request (c.args.ending ∷ []))) (tt, (tt, (tt, tt)))
    c.from_residual-in_err-add_ends.result c.from_residual-in_err-add_ends.ensures.1 c.in_ok-draft.ensures.in_range

-- what was gathered is the step
pub returns-clause-ok : goal.returns-clause-ok
returns-clause-ok c =
    let s = c.args.self.now.state in
    let m = s.rows.commands.pending in
    let acts : ℕ → List Act = λ last. ends_acts c.args.at m last (c.args.ending ∷ []) in
    c.into_plan.ensures
    ∙ step_is s.party (counters_of s) acts _ _ (sym (ends_send c.args.at m s.rows.request (c.args.ending ∷ []))) (sym (ends_ask c.args.at m s.rows.request (c.args.ending ∷ [])))
    c.in_ok-draft.draft c.add_ends.new.draft c.in_ok-draft.ensures.ok c.in_ok-add_ends.ensures

pub returns-clause-in_range : goal.returns-clause-in_range
returns-clause-in_range c =
    let s = c.args.self.now.state in
    let m = s.rows.commands.pending in
    let acts : ℕ → List Act = λ last. ends_acts c.args.at m last (c.args.ending ∷ []) in
    counted_in_range s acts _ _ (sym (ends_send c.args.at m s.rows.request (c.args.ending ∷ []))) (sym (ends_ask c.args.at m s.rows.request (c.args.ending ∷ []))) (tt, (tt, (tt, tt)))
    c.in_ok-draft.ensures.in_range
