use Rattle.std.proofs.Common.{ℕ, List, ◌∙◌, arith}
use Rattle.node_steps.specs.Acts.{Act}
use Rattle.node_steps.specs.Drafts.{HasNumbers}
use Rattle.node_steps.proofs.Gathering.{step_is}
use Rattle.operator_steps.specs.Moves.{counters_of}
use Rattle.operator_planning.specs.Bills.{completed_acts}
use Rattle.operator_planning.specs.Planned.{version_acts}
use Rattle.operator_planning.proofs.CountedDrafts.{counted_in_range, counted_refused, counted_starved, left_after, opened_with}
use Rattle.operator_planning.proofs.VersionCounts.{completed_asks, completed_is, completed_sends, completed_within, version_asks, version_sends}
use Rattle.operator_planning.proofs.planner.Planner.plan_bill.Goals as goal

-- what opens the draft is refused where the step is
pub returns-in_err-draft-clause-err : goal.returns-in_err-draft-clause-err
returns-in_err-draft-clause-err c =
    let s = c.args.self.now.state in
    let x = c.args.versioned.now in
    let acts : ℕ → List Act = λ last. completed_acts c.args.at last x c.args.bill in
    counted_refused s acts 2 2 (completed_sends c.args.at s.rows.request x c.args.bill) (completed_asks c.args.at s.rows.request x c.args.bill) (completed_within c.args.at s.rows.request x c.args.bill c.requires)
    c.from_residual.result _ c.from_residual.ensures.1 c.in_err-draft.ensures.err

pub add_version-requires : goal.add_version-requires
add_version-requires c = let s = c.args.self.now.state in opened_with s.party (counters_of s) 2 2 1 1 c.in_ok-draft.draft c.in_ok-draft.ensures.ok (omega arith) (omega arith)

pub add_bill-requires : goal.add_bill-requires
add_bill-requires c =
    let s = c.args.self.now.state in
    let x = c.args.versioned.now in
    let d = c.in_ok-draft.draft in
    let start : HasNumbers 2 2 d = opened_with s.party (counters_of s) 2 2 2 2 d c.in_ok-draft.ensures.ok (omega arith) (omega arith) in
    let sends = version_sends c.args.at d.counters.request x in
    let asks = version_asks c.args.at d.counters.request x in
    left_after (version_acts c.args.at d.counters.request x) 2 2 1 1 d c.add_version.new.draft start c.in_ok-add_version.ensures (omega (arith, sends)) (omega (arith, asks))

-- want of memory comes only where the numbers are in range
pub returns-in_err-add_version-clause-err : goal.returns-in_err-add_version-clause-err
returns-in_err-add_version-clause-err c =
    let s = c.args.self.now.state in
    let x = c.args.versioned.now in
    let acts : ℕ → List Act = λ last. completed_acts c.args.at last x c.args.bill in
    counted_starved s acts 2 2 (completed_sends c.args.at s.rows.request x c.args.bill) (completed_asks c.args.at s.rows.request x c.args.bill) (completed_within c.args.at s.rows.request x c.args.bill c.requires)
    c.from_residual-in_err-add_version.result c.from_residual-in_err-add_version.ensures.1 c.in_ok-draft.ensures.in_range

pub returns-in_err-add_bill-clause-err : goal.returns-in_err-add_bill-clause-err
returns-in_err-add_bill-clause-err c =
    let s = c.args.self.now.state in
    let x = c.args.versioned.now in
    let acts : ℕ → List Act = λ last. completed_acts c.args.at last x c.args.bill in
    counted_starved s acts 2 2 (completed_sends c.args.at s.rows.request x c.args.bill) (completed_asks c.args.at s.rows.request x c.args.bill) (completed_within c.args.at s.rows.request x c.args.bill c.requires)
    c.from_residual-in_err-add_bill.result c.from_residual-in_err-add_bill.ensures.1 c.in_ok-draft.ensures.in_range

-- what was gathered is the step
pub returns-clause-ok : goal.returns-clause-ok
returns-clause-ok c =
    let s = c.args.self.now.state in
    let x = c.args.versioned.now in
    let acts : ℕ → List Act = λ last. completed_acts c.args.at last x c.args.bill in
    c.into_plan.ensures
    ∙ step_is s.party (counters_of s) acts 2 2 (completed_sends c.args.at s.rows.request x c.args.bill) (completed_asks c.args.at s.rows.request x c.args.bill)
    c.in_ok-draft.draft c.add_bill.new.draft c.in_ok-draft.ensures.ok
    (completed_is c.args.at x c.args.bill c.in_ok-draft.draft c.add_version.new.draft c.add_bill.new.draft c.in_ok-add_version.ensures c.in_ok-add_bill.ensures)

pub returns-clause-in_range : goal.returns-clause-in_range
returns-clause-in_range c =
    let s = c.args.self.now.state in
    let x = c.args.versioned.now in
    let acts : ℕ → List Act = λ last. completed_acts c.args.at last x c.args.bill in
    counted_in_range s acts 2 2 (completed_sends c.args.at s.rows.request x c.args.bill) (completed_asks c.args.at s.rows.request x c.args.bill) (completed_within c.args.at s.rows.request x c.args.bill c.requires) c.in_ok-draft.ensures.in_range
