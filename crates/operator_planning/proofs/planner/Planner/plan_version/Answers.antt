use Rattle.std.proofs.Common.{ℕ, List, ◌∙◌, arith}
use Rattle.node_steps.specs.Acts.{Act}
use Rattle.node_steps.proofs.Gathering.{step_is}
use Rattle.operator_steps.specs.Moves.{counters_of}
use Rattle.operator_planning.specs.Planned.{version_acts}
use Rattle.operator_planning.proofs.CountedDrafts.{counted_in_range, counted_refused, counted_starved, opened_with}
use Rattle.operator_planning.proofs.VersionCounts.{version_asks, version_sends, version_within}
use Rattle.operator_planning.proofs.planner.Planner.plan_version.Goals as goal

-- what opens the draft is refused where the step is
pub returns-in_err-draft-clause-err : goal.returns-in_err-draft-clause-err
returns-in_err-draft-clause-err c =
    let s = c.args.self.now.state in
    let x = c.args.versioned.now in
    let acts : ℕ → List Act = λ last. version_acts c.args.at last x in
    counted_refused s acts 1 1 (version_sends c.args.at s.rows.request x) (version_asks c.args.at s.rows.request x) (version_within c.args.at s.rows.request x)
    c.from_residual.result _ c.from_residual.ensures.1 c.in_err-draft.ensures.err

pub add_version-requires : goal.add_version-requires
add_version-requires c = let s = c.args.self.now.state in opened_with s.party (counters_of s) 1 1 1 1 c.in_ok-draft.draft c.in_ok-draft.ensures.ok (omega arith) (omega arith)

-- want of memory comes only where the numbers are in range
pub returns-in_err-add_version-clause-err : goal.returns-in_err-add_version-clause-err
returns-in_err-add_version-clause-err c =
    let s = c.args.self.now.state in
    let x = c.args.versioned.now in
    let acts : ℕ → List Act = λ last. version_acts c.args.at last x in
    counted_starved s acts 1 1 (version_sends c.args.at s.rows.request x) (version_asks c.args.at s.rows.request x) (version_within c.args.at s.rows.request x)
    c.from_residual-in_err-add_version.result c.from_residual-in_err-add_version.ensures.1 c.in_ok-draft.ensures.in_range

-- what was gathered is the step
pub returns-clause-ok : goal.returns-clause-ok
returns-clause-ok c =
    let s = c.args.self.now.state in
    let x = c.args.versioned.now in
    let acts : ℕ → List Act = λ last. version_acts c.args.at last x in
    c.into_plan.ensures
    ∙ step_is s.party (counters_of s) acts 1 1 (version_sends c.args.at s.rows.request x) (version_asks c.args.at s.rows.request x)
    c.in_ok-draft.draft c.add_version.new.draft c.in_ok-draft.ensures.ok c.in_ok-add_version.ensures

pub returns-clause-in_range : goal.returns-clause-in_range
returns-clause-in_range c =
    let s = c.args.self.now.state in
    let x = c.args.versioned.now in
    let acts : ℕ → List Act = λ last. version_acts c.args.at last x in
    counted_in_range s acts 1 1 (version_sends c.args.at s.rows.request x) (version_asks c.args.at s.rows.request x) (version_within c.args.at s.rows.request x) c.in_ok-draft.ensures.in_range
