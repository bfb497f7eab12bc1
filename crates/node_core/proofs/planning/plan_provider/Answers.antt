use Rattle.std.proofs.Common.{refl, subst, sym}
use Rattle.node_core.proofs.PlannedInputs.{provider_planned}
use Rattle.node_core.proofs.planning.plan_provider.Goals as goal
use Rattle.node_core.specs.Inputs.{ProviderGets}
use Rattle.node_core.specs.declared.input.NodeInput.{NodeInput}
use Rattle.provider_steps.specs.Events as provider

pub returns-in-Submit : goal.returns-in-Submit
returns-in-Submit c =
    let x = provider.Submits c.in-Submit.at c.in-Submit.operator.now c.in-Submit.order.now in
    provider_planned c.args.provider.now.state c.args.input.now x (subst (λ (i : NodeInput). ProviderGets i x) (sym c.in-Submit.is) refl)
    c.plan_order.result c.plan_order.ensures.step c.plan_order.ensures.follows c.plan_order.ensures.fault c.of_provider.result c.of_provider.ensures

pub returns-in-Token : goal.returns-in-Token
returns-in-Token c =
    let x = provider.Gives c.in-Token.at c.in-Token.token.now in
    provider_planned c.args.provider.now.state c.args.input.now x (subst (λ (i : NodeInput). ProviderGets i x) (sym c.in-Token.is) refl)
    c.plan_token.result c.plan_token.ensures.step c.plan_token.ensures.follows c.plan_token.ensures.fault c.of_provider-in-Token.result c.of_provider-in-Token.ensures

pub returns-in-Arrives : goal.returns-in-Arrives
returns-in-Arrives c =
    let x = provider.Arrives c.in-Arrives.at c.in-Arrives.packet.now in
    provider_planned c.args.provider.now.state c.args.input.now x (subst (λ (i : NodeInput). ProviderGets i x) (sym c.in-Arrives.is) refl)
    c.plan_packet.result c.plan_packet.ensures.step c.plan_packet.ensures.follows c.plan_packet.ensures.fault c.of_provider-in-Arrives.result c.of_provider-in-Arrives.ensures

pub returns-in-Tick : goal.returns-in-Tick
returns-in-Tick c =
    let x = provider.Ticks c.in-Tick.at in
    provider_planned c.args.provider.now.state c.args.input.now x (subst (λ (i : NodeInput). ProviderGets i x) (sym c.in-Tick.is) refl)
    c.plan_tick.result c.plan_tick.ensures.step c.plan_tick.ensures.follows c.plan_tick.ensures.fault c.of_provider-in-Tick.result c.of_provider-in-Tick.ensures
