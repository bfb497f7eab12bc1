use Rattle.std.proofs.Common.{[], ◌∷◌, sym, subst}
use Rattle.std.specs.Prelude.{None}
use Rattle.tables.proofs.Elements.{in_single}
use Rattle.operator_rows.specs.FullSteps.{full_step_of}
use Rattle.operator_steps.specs.declared.ending.Ending.{Ending}
use Rattle.operator_steps.specs.Charger.{ChargerLine}
use Rattle.operator_steps.specs.Ends.{IsOpen}
use Rattle.operator_steps.specs.Faults.{IsReportFault}
use Rattle.operator_steps.specs.Moves.{PlannedBy, quiet}
use Rattle.operator_steps.proofs.ReportSteps.{reports}
use Rattle.operator_planning.specs.Planned.{BeginsWith}
use Rattle.operator_planning.specs.Requests.{acts_of_end}
use Rattle.operator_planning.proofs.Parts.{err_one}
use Rattle.operator_planning.proofs.PlannedActs.{all_follow, planned_acts, planned_may}
use Rattle.operator_planning.proofs.ReportLines.{ended_line, line_fault, line_planned, report_fault, started_line, started_open, started_provider}
use Rattle.operator_planning.proofs.planner.Planner.plan_charger.Goals as goal

-- a start is carried out, and a session begins
pub plan_begun-requires-clause-open : goal.plan_begun-requires-clause-open
plan_begun-requires-clause-open c =
    let s = c.args.self.now.state in
    let e = c.in-Some.started.ending in
    λ x i. subst (λ (y : Ending). IsOpen s.rows y) (in_single e x i) (started_open s c.consistency.ensures.sound c.args.at c.args.report.now e c.in-Some.started.beginning c.in-Some.ensures.some)

pub plan_begun-requires-clause-provider : goal.plan_begun-requires-clause-provider
plan_begun-requires-clause-provider c =
    started_provider c.args.self.now.state c.consistency.ensures.sound c.args.at c.args.report.now c.in-Some.started.ending c.in-Some.started.beginning c.in-Some.ensures.some

pub returns-in_err-plan-clause-fault : goal.returns-in_err-plan-clause-fault
returns-in_err-plan-clause-fault c =
    let s = c.args.self.now.state in
    let e = c.in-Some.started.ending in
    let b = c.in-Some.started.beginning in
    err_one (IsReportFault s c.args.at c.args.report.now) c.from_residual.result _ c.from_residual.ensures.1
    (line_fault s c.args.at c.args.report.now (BeginsWith s c.args.at (e ∷ []) None b) (started_line s c.args.at c.args.report.now e b c.in-Some.ensures.some) _ c.in_err-plan.ensures.err)

pub returns-in-Some-clause-step : goal.returns-in-Some-clause-step
returns-in-Some-clause-step c =
    let s = c.args.self.now.state in
    let e = c.in-Some.started.ending in
    let b = c.in-Some.started.beginning in
    subst (PlannedBy (ChargerLine s c.args.at c.args.report.now) s) (sym c.quiet.ensures)
    (line_planned s c.args.at c.args.report.now (BeginsWith s c.args.at (e ∷ []) None b) (started_line s c.args.at c.args.report.now e b c.in-Some.ensures.some) _ c.in_ok-plan.ensures.ok)

pub returns-in-Some-clause-follows : goal.returns-in-Some-clause-follows
returns-in-Some-clause-follows c =
    let s = c.args.self.now.state in
    planned_may (ChargerLine s c.args.at c.args.report.now) s _ (λ work line range. reports c.args.at c.args.report.now s work c.consistency.ensures line range) (returns-in-Some-clause-step c)

-- a command ends
pub returns-in_err-plan_end-in-Some-ended_by-clause-fault : goal.returns-in_err-plan_end-in-Some-ended_by-clause-fault
returns-in_err-plan_end-in-Some-ended_by-clause-fault c =
    let s = c.args.self.now.state in
    let e = c.in-Some-ended_by.ending in
    let r = c.from_residual-in_err-plan_end-in-Some-ended_by in
    err_one (IsReportFault s c.args.at c.args.report.now) r.result _ r.ensures.1
    (report_fault s c.args.at c.args.report.now (quiet (acts_of_end s c.args.at e)) (ended_line s c.args.at c.args.report.now e c.in-Some-ended_by.ensures.some) _ c.in_err-plan_end-in-Some-ended_by.ensures.err)

pub returns-in_ok-plan_end-in-Some-ended_by-clause-step : goal.returns-in_ok-plan_end-in-Some-ended_by-clause-step
returns-in_ok-plan_end-in-Some-ended_by-clause-step c =
    let s = c.args.self.now.state in
    let e = c.in-Some-ended_by.ending in
    let planned = c.in_ok-plan_end-in-Some-ended_by.ensures in
    subst (PlannedBy (ChargerLine s c.args.at c.args.report.now) s) (sym c.quiet-in-Some-ended_by.ensures)
    (planned_acts (ChargerLine s c.args.at c.args.report.now) s (acts_of_end s c.args.at e) _ (ended_line s c.args.at c.args.report.now e c.in-Some-ended_by.ensures.some) planned.in_range planned.ok)

pub returns-in_ok-plan_end-in-Some-ended_by-clause-follows : goal.returns-in_ok-plan_end-in-Some-ended_by-clause-follows
returns-in_ok-plan_end-in-Some-ended_by-clause-follows c =
    let s = c.args.self.now.state in
    planned_may (ChargerLine s c.args.at c.args.report.now) s _ (λ work line range. reports c.args.at c.args.report.now s work c.consistency.ensures line range)
    (returns-in_ok-plan_end-in-Some-ended_by-clause-step c)

-- none does
pub returns-in-None-clause-follows : goal.returns-in-None-clause-follows
returns-in-None-clause-follows c =
    let s = c.args.self.now.state in
    all_follow (ChargerLine s c.args.at c.args.report.now) s c.plan_moved.result full_step_of (λ work line range. reports c.args.at c.args.report.now s work c.consistency.ensures line range) c.plan_moved.ensures.step
