use Rattle.node_steps.specs.Drafts.{step_of}
use Rattle.operator_planning.specs.Bills.{IsRecorded}
use Rattle.operator_planning.specs.Planned.{version_acts}
use Rattle.operator_planning.proofs.Billing.{recorded_going}
use Rattle.operator_planning.proofs.CountedDrafts.{line_planned, line_stops_early, starved_early}
use Rattle.operator_planning.proofs.planner.Planner.plan_going.Goals as goal

pub returns-in_err-versioned-clause-err : goal.returns-in_err-versioned-clause-err
returns-in_err-versioned-clause-err c =
    let s = c.args.self.now.state in
    starved_early (IsRecorded s c.args.at c.args.version.now) s c.from_residual.result c.from_residual.ensures.1

pub returns-clause-ok : goal.returns-clause-ok
returns-clause-ok c =
    let s = c.args.self.now.state in
    let x = c.in_ok-versioned.versioned in
    line_planned (IsRecorded s c.args.at c.args.version.now) s (version_acts c.args.at s.rows.request x) (recorded_going s c.args.at c.args.version.now x c.in_ok-versioned.ensures c.requires.going)
    c.plan_version.result step_of c.plan_version.ensures.in_range c.plan_version.ensures.ok

pub returns-clause-err : goal.returns-clause-err
returns-clause-err c =
    let s = c.args.self.now.state in
    let x = c.in_ok-versioned.versioned in
    line_stops_early (IsRecorded s c.args.at c.args.version.now) s (version_acts c.args.at s.rows.request x) (recorded_going s c.args.at c.args.version.now x c.in_ok-versioned.ensures c.requires.going)
    c.plan_version.result c.plan_version.ensures.err
