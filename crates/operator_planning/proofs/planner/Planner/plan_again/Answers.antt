use Rattle.std.proofs.Common.{◌∙◌, ℕ, List, [], ◌∷◌, refl, arith}
use Rattle.node_steps.specs.Acts.{Act, repeated}
use Rattle.node_steps.proofs.Gathering.{step_is}
use Rattle.operator_steps.specs.Moves.{counters_of}
use Rattle.operator_planning.proofs.CountedDrafts.{counted_in_range, counted_refused, counted_starved, opened_with}
use Rattle.operator_planning.proofs.planner.Planner.plan_again.Goals as goal

-- what opens the draft is refused where the step is
pub returns-in_err-draft-clause-err : goal.returns-in_err-draft-clause-err
returns-in_err-draft-clause-err c =
    let s = c.args.self.now.state in
    let acts : ℕ → List Act = λ last. repeated c.args.request.now.from c.args.request.now.number c.args.reply.now ∷ [] in
    counted_refused s acts 1 0 refl refl tt c.from_residual.result _ c.from_residual.ensures.1 c.in_err-draft.ensures.err

-- the draft has the numbers of all acts
pub repeat-requires : goal.repeat-requires
repeat-requires c = let s = c.args.self.now.state in opened_with s.party (counters_of s) 1 0 1 0 c.in_ok-draft.draft c.in_ok-draft.ensures.ok (omega arith) (omega arith)

-- want of memory comes only where the numbers are in range
pub returns-in_err-repeat-clause-err : goal.returns-in_err-repeat-clause-err
returns-in_err-repeat-clause-err c =
    let s = c.args.self.now.state in
    let acts : ℕ → List Act = λ last. repeated c.args.request.now.from c.args.request.now.number c.args.reply.now ∷ [] in
    counted_starved s acts 1 0 refl refl tt c.from_residual-in_err-repeat.result c.from_residual-in_err-repeat.ensures.1 c.in_ok-draft.ensures.in_range

-- what was gathered is the step
pub returns-clause-ok : goal.returns-clause-ok
returns-clause-ok c =
    let s = c.args.self.now.state in
    let acts : ℕ → List Act = λ last. repeated c.args.request.now.from c.args.request.now.number c.args.reply.now ∷ [] in
    c.into_plan.ensures ∙ step_is s.party (counters_of s) acts 1 0 refl refl c.in_ok-draft.draft c.repeat.new.self c.in_ok-draft.ensures.ok c.in_ok-repeat.ensures

pub returns-clause-in_range : goal.returns-clause-in_range
returns-clause-in_range c =
    let s = c.args.self.now.state in
    let acts : ℕ → List Act = λ last. repeated c.args.request.now.from c.args.request.now.number c.args.reply.now ∷ [] in
    counted_in_range s acts 1 0 refl refl tt c.in_ok-draft.ensures.in_range
