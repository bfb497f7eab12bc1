-- What comes of a plan.
use Rattle.std.proofs.Common.{◌≡◌, sym, subst}
use Rattle.std.specs.Prelude.{Result, Ok, Err, IfOk, IfErr}
use Rattle.node_core.specs.Inputs.{OperatorGets, ProviderGets}
use Rattle.node_core.specs.Works.{ComesOf, ComesOfFull, IsPlanned}
use Rattle.node_core.specs.declared.input.NodeInput.{NodeInput}
use Rattle.node_core.specs.declared.work.NodePlan.{NodePlan}
use Rattle.node_steps.specs.Drafts.{step_of}
use Rattle.node_steps.specs.declared.fault.NodeFault.{NodeFault}
use Rattle.node_steps.specs.declared.plan.Plan.{Plan}
use Rattle.operator_rows.specs.FullSteps.{full_step_of}
use Rattle.operator_rows.specs.State as operator_state
use Rattle.operator_rows.specs.Steps as operator_rows
use Rattle.operator_rows.specs.declared.full_plan.FullPlan.{FullPlan}
use Rattle.operator_steps.specs.Events as operator
use Rattle.operator_steps.specs.Moves as operator_moves
use Rattle.provider_rows.specs.State as provider_state
use Rattle.provider_rows.specs.Steps as provider_rows
use Rattle.provider_steps.specs.Events as provider
use Rattle.provider_steps.specs.Moves as provider_moves
use Rattle.world_steps.specs.Network.{OfOperator, OfProvider}
use Rattle.world_steps.specs.Steps.{OperatorRefuses, ProviderRefuses}
use Rattle.world_steps.specs.World.{Operates, Provides}

if_ok_each : {X E : Type 0} (P Q : X → Type 0) → ((x : X) → P x → Q x) → (r : Result X E) → IfOk r P → IfOk r Q
if_ok_each P Q all (Ok x) h = all x h
if_ok_each P Q all (Err e) h = h

module _ (s : operator_state.State) (i : NodeInput) (x : operator.Input) (gets : OperatorGets i x) where
  came_of_full : (r : Result FullPlan NodeFault) → IfOk r (λ p. operator_moves.PlannedBy (operator.Asks s x) s (full_step_of p)) →
      IfOk r (λ p. operator_rows.MayFollowFull s (full_step_of p)) → IfErr r (OperatorRefuses s x) → (y : NodePlan) → ComesOfFull r y → IsPlanned (Operates s) i y
  came_of_full (Ok plan) planned may refused y came =
      subst (λ (z : NodePlan). IsPlanned (Operates s) i z) (sym came) (record { input = x; gets = gets; planned = planned; may = may })
  came_of_full (Err fault) planned may refused y came =
      subst (λ (z : NodePlan). IsPlanned (Operates s) i z) (sym came.0) (record { input = OfOperator x; gets = gets; refuses = refused; other = came.1 })

  -- what an operator plans is what it gets, and its refusal is one of that
  pub operator_planned : (r : Result FullPlan NodeFault) → IfOk r (λ p. operator_moves.PlannedBy (operator.Asks s x) s (full_step_of p)) →
      IfOk r (λ p. operator_rows.MayFollowFull s (full_step_of p)) → IfErr r (OperatorRefuses s x) → {E : Type 0} (q : Result NodePlan E) → IfOk q (λ y. ComesOfFull r y) →
      IfOk q (λ y. IsPlanned (Operates s) i y)
  operator_planned r planned may refused q h = if_ok_each (ComesOfFull r) (IsPlanned (Operates s) i) (came_of_full r planned may refused) q h

module _ (s : provider_state.State) (i : NodeInput) (x : provider.Input) (gets : ProviderGets i x) where
  came_of : (r : Result Plan NodeFault) → IfOk r (λ p. provider_moves.PlannedBy (provider.Asks s x) s (step_of p)) → IfOk r (λ p. provider_rows.MayFollow s (step_of p)) →
      IfErr r (ProviderRefuses s x) → (y : NodePlan) → ComesOf r y → IsPlanned (Provides s) i y
  came_of (Ok plan) planned may refused y came =
      subst (λ (z : NodePlan). IsPlanned (Provides s) i z) (sym came) (record { input = x; gets = gets; planned = planned; may = may })
  came_of (Err fault) planned may refused y came =
      subst (λ (z : NodePlan). IsPlanned (Provides s) i z) (sym came.0) (record { input = OfProvider x; gets = gets; refuses = refused; other = came.1 })

  -- and so it is with a provider
  pub provider_planned : (r : Result Plan NodeFault) → IfOk r (λ p. provider_moves.PlannedBy (provider.Asks s x) s (step_of p)) → IfOk r (λ p. provider_rows.MayFollow s (step_of p)) →
      IfErr r (ProviderRefuses s x) → {E : Type 0} (q : Result NodePlan E) → IfOk q (λ y. ComesOf r y) → IfOk q (λ y. IsPlanned (Provides s) i y)
  provider_planned r planned may refused q h = if_ok_each (ComesOf r) (IsPlanned (Provides s) i) (came_of r planned may refused) q h
