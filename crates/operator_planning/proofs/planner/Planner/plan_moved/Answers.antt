use Rattle.std.proofs.Common.{sym, subst}
use Rattle.operator_steps.specs.Charger.{ChargerLine}
use Rattle.operator_steps.specs.Faults.{IsReportFault}
use Rattle.operator_steps.specs.Moves.{PlannedBy}
use Rattle.operator_planning.specs.Bills.{IsRecorded}
use Rattle.session_tables.specs.Moved.{IsMoved}
use Rattle.session_tables.specs.declared.outcome.Moved.TheVariants as moved
use Rattle.operator_planning.proofs.Parts.{err_one}
use Rattle.operator_planning.proofs.ReportLines.{completed_moves, early_fault, line_planned, moved_line, moved_place, moved_provider, nothing_moves, refused_moves, to_moves}
use Rattle.operator_planning.proofs.planner.Planner.plan_moved.Goals as goal

-- no session is changed
pub plan_shown-requires-clause-moves : goal.plan_shown-requires-clause-moves
plan_shown-requires-clause-moves c =
    let s = c.args.self.now.state in
    let is : IsMoved s.site s.rows c.args.at c.args.report.now moved.Nothing = rw (← c.self.view_is) c.in-Nothing.ensures in
    nothing_moves s c.args.at c.args.report.now is

pub returns-in-Refused-clause-fault : goal.returns-in-Refused-clause-fault
returns-in-Refused-clause-fault c =
    let s = c.args.self.now.state in
    let is : IsMoved s.site s.rows c.args.at c.args.report.now moved.Refused = rw (← c.self.view_is) c.in-Refused.ensures in
    refused_moves s c.args.at c.args.report.now is

-- a session goes on, or ends before it is charged
pub plan_going-requires-clause-provider : goal.plan_going-requires-clause-provider
plan_going-requires-clause-provider c =
    let s = c.args.self.now.state in
    let is : IsMoved s.site s.rows c.args.at c.args.report.now (moved.To c.in-To.version) = rw (← c.self.view_is) c.in-To.ensures in
    let goes = (to_moves s c.args.at c.args.report.now c.in-To.version is).0 in
    moved_provider s c.consistency.ensures.sound c.args.at c.args.report.now goes.before c.in-To.version goes.moves

pub plan_going-requires-clause-going : goal.plan_going-requires-clause-going
plan_going-requires-clause-going c =
    let s = c.args.self.now.state in
    let is : IsMoved s.site s.rows c.args.at c.args.report.now (moved.To c.in-To.version) = rw (← c.self.view_is) c.in-To.ensures in
    (to_moves s c.args.at c.args.report.now c.in-To.version is).1

pub returns-in_err-plan_going-in-To-clause-fault : goal.returns-in_err-plan_going-in-To-clause-fault
returns-in_err-plan_going-in-To-clause-fault c =
    let s = c.args.self.now.state in
    let is : IsMoved s.site s.rows c.args.at c.args.report.now (moved.To c.in-To.version) = rw (← c.self.view_is) c.in-To.ensures in
    let goes = (to_moves s c.args.at c.args.report.now c.in-To.version is).0 in
    err_one (IsReportFault s c.args.at c.args.report.now) c.from_residual.result _ c.from_residual.ensures.1
    (early_fault s c.args.at c.args.report.now (IsRecorded s c.args.at c.in-To.version) (moved_line s c.args.at c.args.report.now c.in-To.version goes) _ c.in_err-plan_going-in-To.ensures.err)

pub returns-in_ok-plan_going-in-To-clause-step : goal.returns-in_ok-plan_going-in-To-clause-step
returns-in_ok-plan_going-in-To-clause-step c =
    let s = c.args.self.now.state in
    let is : IsMoved s.site s.rows c.args.at c.args.report.now (moved.To c.in-To.version) = rw (← c.self.view_is) c.in-To.ensures in
    let goes = (to_moves s c.args.at c.args.report.now c.in-To.version is).0 in
    subst (PlannedBy (ChargerLine s c.args.at c.args.report.now) s) (sym c.quiet.ensures)
    (line_planned s c.args.at c.args.report.now (IsRecorded s c.args.at c.in-To.version) (moved_line s c.args.at c.args.report.now c.in-To.version goes) _ c.in_ok-plan_going-in-To.ensures.ok)

-- a session is completed
pub plan_completed-requires-clause-provider : goal.plan_completed-requires-clause-provider
plan_completed-requires-clause-provider c =
    let s = c.args.self.now.state in
    let is : IsMoved s.site s.rows c.args.at c.args.report.now (moved.Completed c.in-Completed.version c.in-Completed.draft) = rw (← c.self.view_is) c.in-Completed.ensures in
    let goes = (completed_moves s c.args.at c.args.report.now c.in-Completed.version c.in-Completed.draft is).0 in
    moved_provider s c.consistency.ensures.sound c.args.at c.args.report.now goes.before c.in-Completed.version goes.moves

pub plan_completed-requires-clause-place : goal.plan_completed-requires-clause-place
plan_completed-requires-clause-place c =
    let s = c.args.self.now.state in
    let is : IsMoved s.site s.rows c.args.at c.args.report.now (moved.Completed c.in-Completed.version c.in-Completed.draft) = rw (← c.self.view_is) c.in-Completed.ensures in
    let goes = (completed_moves s c.args.at c.args.report.now c.in-Completed.version c.in-Completed.draft is).0 in
    moved_place s c.consistency.ensures.sound c.args.at c.args.report.now goes.before c.in-Completed.version goes.moves

pub plan_completed-requires-clause-completed : goal.plan_completed-requires-clause-completed
plan_completed-requires-clause-completed c =
    let s = c.args.self.now.state in
    let is : IsMoved s.site s.rows c.args.at c.args.report.now (moved.Completed c.in-Completed.version c.in-Completed.draft) = rw (← c.self.view_is) c.in-Completed.ensures in
    (completed_moves s c.args.at c.args.report.now c.in-Completed.version c.in-Completed.draft is).1.0

pub plan_completed-requires-clause-drafted : goal.plan_completed-requires-clause-drafted
plan_completed-requires-clause-drafted c =
    let s = c.args.self.now.state in
    let is : IsMoved s.site s.rows c.args.at c.args.report.now (moved.Completed c.in-Completed.version c.in-Completed.draft) = rw (← c.self.view_is) c.in-Completed.ensures in
    (completed_moves s c.args.at c.args.report.now c.in-Completed.version c.in-Completed.draft is).1.1

pub returns-in_err-plan_completed-in-Completed-clause-fault : goal.returns-in_err-plan_completed-in-Completed-clause-fault
returns-in_err-plan_completed-in-Completed-clause-fault c =
    let s = c.args.self.now.state in
    let is : IsMoved s.site s.rows c.args.at c.args.report.now (moved.Completed c.in-Completed.version c.in-Completed.draft) = rw (← c.self.view_is) c.in-Completed.ensures in
    let goes = (completed_moves s c.args.at c.args.report.now c.in-Completed.version c.in-Completed.draft is).0 in
    let r = c.from_residual-in_err-plan_completed-in-Completed in
    err_one (IsReportFault s c.args.at c.args.report.now) r.result _ r.ensures.1
    (early_fault s c.args.at c.args.report.now (IsRecorded s c.args.at c.in-Completed.version) (moved_line s c.args.at c.args.report.now c.in-Completed.version goes) _ c.in_err-plan_completed-in-Completed.ensures.err)

pub returns-in_ok-plan_completed-in-Completed-clause-step : goal.returns-in_ok-plan_completed-in-Completed-clause-step
returns-in_ok-plan_completed-in-Completed-clause-step c =
    let s = c.args.self.now.state in
    let is : IsMoved s.site s.rows c.args.at c.args.report.now (moved.Completed c.in-Completed.version c.in-Completed.draft) = rw (← c.self.view_is) c.in-Completed.ensures in
    let goes = (completed_moves s c.args.at c.args.report.now c.in-Completed.version c.in-Completed.draft is).0 in
    subst (PlannedBy (ChargerLine s c.args.at c.args.report.now) s) (sym c.quiet-in-Completed.ensures)
    (line_planned s c.args.at c.args.report.now (IsRecorded s c.args.at c.in-Completed.version) (moved_line s c.args.at c.args.report.now c.in-Completed.version goes) _ c.in_ok-plan_completed-in-Completed.ensures.ok)
