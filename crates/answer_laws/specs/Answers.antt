-- A node has one answer to what reaches it.
use Rattle.std.specs.Prelude.{◌≡◌, ◌≢◌}
use Rattle.node_steps.specs.declared.fault.NodeFault.{NodeFault}
use Rattle.node_steps.specs.declared.fault.NodeFault.TheVariants.{Memory}
use Rattle.operator_rows.specs.State as operator
use Rattle.operator_steps.specs.Events as operator_events
use Rattle.provider_rows.specs.State as provider
use Rattle.provider_steps.specs.Events as provider_events
use Rattle.stored_laws.specs.Nodes.{IsSound}
use Rattle.world_steps.specs.Network.{Input}
use Rattle.world_steps.specs.Steps.{AtOperator, AtProvider, NodeRefuses, NodeStep}
use Rattle.world_steps.specs.World.{NodeState, Operates, Provides}
use Rattle.answer_laws.specs.Nodes.{IsApart, SiteDiffers, UrlsDiffer}

-- what a provider does by an input is one thing: the rows that it changes and the packets that it sends, each in order,
-- and the provider behind it
abbrev pub ProvidersHaveOneStep : Type 0
ProvidersHaveOneStep = (s : provider.State) (m n : NodeState) (x y : provider_events.Event) → IsSound (Provides s) → UrlsDiffer s → x.input ≡ y.input →
    NodeStep (Provides s) (AtProvider x) m → NodeStep (Provides s) (AtProvider y) n → (x ≡ y) × (m ≡ n)

-- and so is what an operator does by an input
abbrev pub OperatorsHaveOneStep : Type 0
OperatorsHaveOneStep = (s : operator.State) (m n : NodeState) (x y : operator_events.Event) → IsSound (Operates s) → SiteDiffers s → x.input ≡ y.input →
    NodeStep (Operates s) (AtOperator x) m → NodeStep (Operates s) (AtOperator y) n → (x ≡ y) × (m ≡ n)

-- why a node refuses an input is one thing
abbrev pub RefusalsHaveOneReason : Type 0
RefusalsHaveOneReason = (s : NodeState) (i : Input) (f g : NodeFault) → IsSound s → IsApart s → NodeRefuses s i f → NodeRefuses s i g → f ≢ Memory → g ≢ Memory → f ≡ g
