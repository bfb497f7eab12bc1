use Rattle.std.proofs.Common.{◌≡◌, ◌⊎◌, List, [], ℕ, inl, inr, refl, sym, subst}
use Rattle.std.specs.Prelude.{None}
use Rattle.ocpi_types.specs.declared.rows.Place.{Place}
use Rattle.ocpi_types.specs.declared.token.Token.{Token}
use Rattle.operator_rows.specs.FullSteps.{full_step_of}
use Rattle.operator_rows.specs.State.{State}
use Rattle.ocpi_types.specs.declared.events.ChargerEvent.{ChargerEvent}
use Rattle.operator_steps.specs.Asking.{IsAsked}
use Rattle.operator_steps.specs.Charger.{ChargerLine, Idle, Shows}
use Rattle.operator_steps.specs.Faults.{IsReportFault}
use Rattle.operator_steps.specs.Moves.{PlannedBy}
use Rattle.operator_planning.specs.Planned.{BeginsWith}
use Rattle.session_tables.specs.declared.beginning.Beginning.{Beginning}
use Rattle.session_tables.specs.declared.shown.Shown.{Shown}
use Rattle.session_tables.specs.declared.shown.Shown.TheVariants as shown
use Rattle.operator_planning.proofs.Parts.{err_one}
use Rattle.operator_planning.proofs.PlannedActs.{planned_none}
use Rattle.operator_planning.proofs.ReportLines.{asked_line, asks_provider, begins_provider, begun_line, line_fault, line_planned, works_faults, works_planned}
use Rattle.operator_planning.proofs.planner.Planner.plan_shown.Goals as goal

-- what begins or asks for something is shown
begins_shown : (s : State) (report : ChargerEvent) (d : Shown) (b : Beginning) → d ≡ shown.Begins b → (d ≡ shown.Nothing) ⊎ Shows s report d → Shows s report (shown.Begins b)
begins_shown s report d b is (inl none) = absurd (cc)
begins_shown s report d b is (inr h) = subst (Shows s report) is h

asks_shown : (s : State) (report : ChargerEvent) (d : Shown) (t : Token) (l : List ℕ) (p : Place) → d ≡ shown.Asks t l p → (d ≡ shown.Nothing) ⊎ Shows s report d → Shows s report (shown.Asks t l p)
asks_shown s report d t l p is (inl none) = absurd (cc)
asks_shown s report d t l p is (inr h) = subst (Shows s report) is h

-- nothing happens
pub returns-in-Nothing-clause-step : goal.returns-in-Nothing-clause-step
returns-in-Nothing-clause-step c =
    let s = c.args.self.now.state in
    subst (PlannedBy (ChargerLine s c.args.at c.args.report.now) s) (sym c.quiet.ensures)
    (planned_none (ChargerLine s c.args.at c.args.report.now) s _ c.counters_in_range.ensures
    (Idle c.requires.ends c.requires.starts c.requires.moves (c.shown_by.ensures.none c.in-Nothing.is) refl) c.nothing.ensures)

-- a session begins
pub plan_begun-requires-clause-provider : goal.plan_begun-requires-clause-provider
plan_begun-requires-clause-provider c =
    let s = c.args.self.now.state in
    let b = c.in-Begins.beginning in
    begins_provider s c.consistency.ensures.sound c.args.report.now b (begins_shown s c.args.report.now c.shown_by.result b c.in-Begins.is c.shown_by.ensures.shows)

pub returns-in_err-plan_begun-in-Begins-clause-fault : goal.returns-in_err-plan_begun-in-Begins-clause-fault
returns-in_err-plan_begun-in-Begins-clause-fault c =
    let s = c.args.self.now.state in
    let b = c.in-Begins.beginning in
    let shows = begins_shown s c.args.report.now c.shown_by.result b c.in-Begins.is c.shown_by.ensures.shows in
    err_one (IsReportFault s c.args.at c.args.report.now) c.from_residual.result _ c.from_residual.ensures.1
    (line_fault s c.args.at c.args.report.now (BeginsWith s c.args.at [] None b) (begun_line s c.args.at c.args.report.now b shows) _ c.in_err-plan_begun-in-Begins.ensures.err)

pub returns-in_ok-plan_begun-in-Begins-clause-step : goal.returns-in_ok-plan_begun-in-Begins-clause-step
returns-in_ok-plan_begun-in-Begins-clause-step c =
    let s = c.args.self.now.state in
    let b = c.in-Begins.beginning in
    let shows = begins_shown s c.args.report.now c.shown_by.result b c.in-Begins.is c.shown_by.ensures.shows in
    subst (PlannedBy (ChargerLine s c.args.at c.args.report.now) s) (sym c.quiet-in-Begins.ensures)
    (line_planned s c.args.at c.args.report.now (BeginsWith s c.args.at [] None b) (begun_line s c.args.at c.args.report.now b shows) _ c.in_ok-plan_begun-in-Begins.ensures.ok)

-- the provider of the token is asked
pub plan_asked-requires : goal.plan_asked-requires
plan_asked-requires c =
    let s = c.args.self.now.state in
    let a = c.in-Asks in
    asks_provider s c.consistency.ensures.sound c.args.report.now a.token a.location_id a.place (asks_shown s c.args.report.now c.shown_by.result a.token a.location_id a.place a.is c.shown_by.ensures.shows)

pub returns-in-Asks-clause-step : goal.returns-in-Asks-clause-step
returns-in-Asks-clause-step c =
    let s = c.args.self.now.state in
    let a = c.in-Asks in
    let shows = asks_shown s c.args.report.now c.shown_by.result a.token a.location_id a.place a.is c.shown_by.ensures.shows in
    works_planned s c.args.at c.args.report.now (IsAsked s c.args.at a.token a.location_id a.place) (asked_line s c.args.at c.args.report.now a.token a.location_id a.place shows)
    c.plan_asked.result full_step_of c.plan_asked.ensures.ok

pub returns-in-Asks-clause-fault : goal.returns-in-Asks-clause-fault
returns-in-Asks-clause-fault c =
    let s = c.args.self.now.state in
    let a = c.in-Asks in
    let shows = asks_shown s c.args.report.now c.shown_by.result a.token a.location_id a.place a.is c.shown_by.ensures.shows in
    works_faults s c.args.at c.args.report.now (IsAsked s c.args.at a.token a.location_id a.place) (asked_line s c.args.at c.args.report.now a.token a.location_id a.place shows)
    c.plan_asked.result c.plan_asked.ensures.err
