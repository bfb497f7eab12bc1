use Rattle.std.proofs.Common.{◌∷◌, [], refl, sym, subst}
use Rattle.operator_steps.specs.Moves.{PlannedBy, Quietly, Work}
use Rattle.operator_steps.specs.Service.{ServiceLine}
use Rattle.operator_steps.proofs.ServiceSteps.{services}
use Rattle.operator_planning.proofs.PlannedActs.{planned_change, planned_may, planned_none}
use Rattle.operator_planning.proofs.ServiceChanges.{service_no_count}
use Rattle.node_steps.specs.Acts.{changed}
use Rattle.operator_planning.proofs.planner.Planner.plan_service.Goals as goal

pub returns-in_ok-one-in-Some-clause-step : goal.returns-in_ok-one-in-Some-clause-step
returns-in_ok-one-in-Some-clause-step c =
    let s = c.args.self.now.state in
    let Line : Work → Type 0 = Quietly (ServiceLine s c.args.evse_uid c.args.in_service) in
    let line = c.in-Some.ensures.change in
    subst (PlannedBy Line s) (sym c.quiet.ensures) (planned_change Line s _ c.in-Some.change c.counters_in_range.ensures
    (service_no_count s c.args.evse_uid c.args.in_service c.in-Some.change line) (changed c.in-Some.change ∷ [], line, refl) c.in_ok-one-in-Some.ensures)

pub returns-in_ok-one-in-Some-clause-follows : goal.returns-in_ok-one-in-Some-clause-follows
returns-in_ok-one-in-Some-clause-follows c =
    let s = c.args.self.now.state in
    let Line : Work → Type 0 = Quietly (ServiceLine s c.args.evse_uid c.args.in_service) in
    planned_may Line s _ (λ work line range. services c.args.evse_uid c.args.in_service s work c.consistency.ensures line range) (returns-in_ok-one-in-Some-clause-step c)

pub returns-in-None-clause-step : goal.returns-in-None-clause-step
returns-in-None-clause-step c =
    let s = c.args.self.now.state in
    let Line : Work → Type 0 = Quietly (ServiceLine s c.args.evse_uid c.args.in_service) in
    subst (PlannedBy Line s) (sym c.quiet-in-None.ensures) (planned_none Line s _ c.counters_in_range.ensures ([], c.in-None.ensures.none, refl) c.nothing.ensures)

pub returns-in-None-clause-follows : goal.returns-in-None-clause-follows
returns-in-None-clause-follows c =
    let s = c.args.self.now.state in
    let Line : Work → Type 0 = Quietly (ServiceLine s c.args.evse_uid c.args.in_service) in
    planned_may Line s _ (λ work line range. services c.args.evse_uid c.args.in_service s work c.consistency.ensures line range) (returns-in-None-clause-step c)
