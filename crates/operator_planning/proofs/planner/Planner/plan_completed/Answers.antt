use Rattle.node_steps.specs.Drafts.{step_of}
use Rattle.operator_planning.specs.Bills.{IsRecorded, completed_acts}
use Rattle.operator_planning.proofs.Billing.{recorded_completed, unbilled}
use Rattle.operator_planning.proofs.CountedDrafts.{line_planned, line_stops_early, returned, starved_early}
use Rattle.operator_planning.proofs.planner.Planner.plan_completed.Goals as goal

pub returns-in_err-bill-clause-err : goal.returns-in_err-bill-clause-err
returns-in_err-bill-clause-err c =
    let s = c.args.self.now.state in
    returned (unbilled s c.args.at c.args.version.now c.requires.provider c.requires.place c.requires.completed) c.from_residual.result _ c.from_residual.ensures.1 c.in_err-bill.ensures.err

pub returns-in_err-versioned-clause-err : goal.returns-in_err-versioned-clause-err
returns-in_err-versioned-clause-err c =
    let s = c.args.self.now.state in
    starved_early (IsRecorded s c.args.at c.args.version.now) s c.from_residual-in_err-versioned.result c.from_residual-in_err-versioned.ensures.1

pub returns-clause-ok : goal.returns-clause-ok
returns-clause-ok c =
    let s = c.args.self.now.state in
    let x = c.in_ok-versioned.versioned in
    let b = c.in_ok-bill.bill in
    line_planned (IsRecorded s c.args.at c.args.version.now) s (completed_acts c.args.at s.rows.request x b)
    (recorded_completed s c.args.at c.args.version.now x b c.in_ok-versioned.ensures c.in_ok-bill.ensures.ok c.requires.completed) c.plan_bill.result step_of c.plan_bill.ensures.in_range c.plan_bill.ensures.ok

pub returns-clause-err : goal.returns-clause-err
returns-clause-err c =
    let s = c.args.self.now.state in
    let x = c.in_ok-versioned.versioned in
    let b = c.in_ok-bill.bill in
    line_stops_early (IsRecorded s c.args.at c.args.version.now) s (completed_acts c.args.at s.rows.request x b)
    (recorded_completed s c.args.at c.args.version.now x b c.in_ok-versioned.ensures c.in_ok-bill.ensures.ok c.requires.completed) c.plan_bill.result c.plan_bill.ensures.err
