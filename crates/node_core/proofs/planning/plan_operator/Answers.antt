use Rattle.std.proofs.Common.{refl, subst, sym}
use Rattle.node_core.proofs.PlannedInputs.{operator_planned}
use Rattle.node_core.proofs.planning.plan_operator.Goals as goal
use Rattle.node_core.specs.Inputs.{OperatorGets}
use Rattle.node_core.specs.declared.input.NodeInput.{NodeInput}
use Rattle.operator_steps.specs.Events as operator

pub returns-in_ok-plan-in-Service : goal.returns-in_ok-plan-in-Service
returns-in_ok-plan-in-Service c =
    let x = operator.Serves c.in-Service.evse_uid c.in-Service.in_service in
    record {
      input = x;
      gets = subst (λ (i : NodeInput). OperatorGets i x) (sym c.in-Service.is) refl;
      planned = c.in_ok-plan-in-Service.ensures.step;
      may = c.in_ok-plan-in-Service.ensures.follows;
    }

pub returns-in-Charger : goal.returns-in-Charger
returns-in-Charger c =
    let x = operator.Reports c.in-Charger.at c.in-Charger.event.now in
    operator_planned c.args.operator.now.state c.args.input.now x (subst (λ (i : NodeInput). OperatorGets i x) (sym c.in-Charger.is) refl)
    c.plan_charger.result c.plan_charger.ensures.step c.plan_charger.ensures.follows c.plan_charger.ensures.fault c.of_operator.result c.of_operator.ensures

pub returns-in-Credit : goal.returns-in-Credit
returns-in-Credit c =
    let x = operator.Credits c.in-Credit.at c.in-Credit.session_id in
    operator_planned c.args.operator.now.state c.args.input.now x (subst (λ (i : NodeInput). OperatorGets i x) (sym c.in-Credit.is) refl)
    c.plan_credit.result c.plan_credit.ensures.step c.plan_credit.ensures.follows c.plan_credit.ensures.fault c.of_operator-in-Credit.result c.of_operator-in-Credit.ensures

pub returns-in-Arrives : goal.returns-in-Arrives
returns-in-Arrives c =
    let x = operator.Arrives c.in-Arrives.at c.in-Arrives.packet.now in
    operator_planned c.args.operator.now.state c.args.input.now x (subst (λ (i : NodeInput). OperatorGets i x) (sym c.in-Arrives.is) refl)
    c.plan_packet.result c.plan_packet.ensures.step c.plan_packet.ensures.follows c.plan_packet.ensures.fault c.of_operator-in-Arrives.result c.of_operator-in-Arrives.ensures

pub returns-in-Tick : goal.returns-in-Tick
returns-in-Tick c =
    let x = operator.Ticks c.in-Tick.at in
    operator_planned c.args.operator.now.state c.args.input.now x (subst (λ (i : NodeInput). OperatorGets i x) (sym c.in-Tick.is) refl)
    c.plan_tick.result c.plan_tick.ensures.step c.plan_tick.ensures.follows c.plan_tick.ensures.fault c.of_operator-in-Tick.result c.of_operator-in-Tick.ensures
