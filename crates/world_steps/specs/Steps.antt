-- What an event makes of a world, and legal runs: chains of such steps.
use Rattle.std.specs.Prelude.{◌≡◌, ◌≢◌, ℕ, List, [], ◌∷◌, ◌++◌, slice_set}
use Rattle.std.specs.List.{flat_map}
use Rattle.node_laws.specs.Runs as runs
use Rattle.node_steps.specs.declared.fault.NodeFault.{NodeFault}
use Rattle.node_steps.specs.declared.fault.NodeFault.TheVariants.{Memory}
use Rattle.ocpi_types.specs.declared.events.Event.{Event}
use Rattle.ocpi_types.specs.declared.events.EventKind.TheVariants as kind
use Rattle.ocpi_types.specs.declared.packet.Packet.{Packet}
use Rattle.ocpi_types.specs.declared.rows.Change.{Change}
use Rattle.ocpi_types.specs.declared.rows.Change.TheVariants.{Drop, Put}
use Rattle.ocpi_types.specs.declared.rows.Row.TheVariants as row
use Rattle.ocpi_types.specs.declared.sessions.Session.{Session}
use Rattle.operator_rows.specs.State as operator_state
use Rattle.operator_rows.specs.Steps.{restarted}
use Rattle.operator_steps.specs.Events as operator
use Rattle.operator_steps.specs.Faults as operator_faults
use Rattle.operator_steps.specs.Moves as operator_moves
use Rattle.operator_steps.specs.Tick.{TickLine}
use Rattle.provider_rows.specs.State as provider_state
use Rattle.provider_rows.specs.Steps as provider_rows
use Rattle.provider_steps.specs.Events as provider
use Rattle.provider_steps.specs.Faults as provider_faults
use Rattle.provider_steps.specs.Moves as provider_moves
use Rattle.world_steps.specs.Network.{Input, OfOperator, OfProvider, Reaches}
use Rattle.world_steps.specs.World.{IsAt, NodeState, Operates, Place, Provides, World}

-- the operator does all that the input asks for, or starts again
pub data OperatorDoes (s : operator_state.State) (e : operator.Event) (t : operator_state.State) : Type 0 where
  Done : operator_moves.StepBy (operator.Asks s e.input) s (operator.event_out e t) → OperatorDoes s e t
  Restarted : e.input ≡ operator.Restarts → operator.event_out e t ≡ operator_moves.idle (restarted s) → OperatorDoes s e t

-- and so does a provider
pub data ProviderDoes (s : provider_state.State) (e : provider.Event) (t : provider_state.State) : Type 0 where
  Done : provider_moves.StepBy (provider.Asks s e.input) s (provider.event_out e t) → ProviderDoes s e t
  Restarted : e.input ≡ provider.Restarts → provider.event_out e t ≡ provider_moves.idle (provider_rows.restarted s) → ProviderDoes s e t

-- what a node of either role did: what reached it, the rows that it changed, and the packets that it sent
pub data NodeEvent : Type 0 where
  AtOperator : operator.Event → NodeEvent
  AtProvider : provider.Event → NodeEvent

abbrev pub input_of : NodeEvent → Input
input_of (AtOperator e) = OfOperator e.input
input_of (AtProvider e) = OfProvider e.input

abbrev pub changes_of : NodeEvent → List Change
changes_of (AtOperator e) = e.changes
changes_of (AtProvider e) = e.changes

abbrev pub packets_of : NodeEvent → List Packet
packets_of (AtOperator e) = e.packets
packets_of (AtProvider e) = e.packets

-- the version of a session that a change of a row puts
abbrev pub version_put : Change → List Session
version_put (Put (row.Session v)) = v ∷ []
version_put (Put r) = []
version_put (Drop k) = []

abbrev pub all_put : List Change → List Session
all_put changes = flat_map version_put changes

-- and those that an operator stores of its own sessions; a provider has none
abbrev pub versions_of : NodeEvent → List Session
versions_of (AtOperator e) = all_put e.changes
versions_of (AtProvider e) = []

abbrev pub NodeStep : NodeState → NodeEvent → NodeState → Type 0
NodeStep (Operates s) (AtOperator e) (Operates t) = OperatorDoes s e t
NodeStep (Provides s) (AtProvider e) (Provides t) = ProviderDoes s e t
NodeStep (Operates s) (AtOperator e) (Provides t) = ⊥
NodeStep (Operates s) (AtProvider e) t = ⊥
NodeStep (Provides s) (AtProvider e) (Operates t) = ⊥
NodeStep (Provides s) (AtOperator e) t = ⊥

-- a node does something: what it sends and what it stores of its sessions is added to what it ever sent and stored
pub record PlaceStep (p : Place) (x : NodeEvent) (q : Place) : Type 0 where
  pub step : NodeStep p.node x q.node
  pub party : q.party ≡ p.party
  pub sent : q.sent ≡ p.sent ++ packets_of x
  pub versions : q.versions ≡ p.versions ++ versions_of x

-- why an operator refuses what reaches it
abbrev pub OperatorRefuses : operator_state.State → operator.Input → NodeFault → Type 0
OperatorRefuses s (operator.Arrives at q) fault = operator_faults.IsDue s at q fault
OperatorRefuses s (operator.Serves evse in_service) fault = ⊥
OperatorRefuses s (operator.Reports at report) fault = operator_faults.IsReportFault s at report fault
OperatorRefuses s (operator.Credits at session) fault = operator_faults.IsCreditFault s at session fault
OperatorRefuses s (operator.Ticks at) fault = operator_faults.IsOwnFault (TickLine s at) s fault
OperatorRefuses s operator.Restarts fault = ⊥
OperatorRefuses s (operator.Reopens line) fault = ⊥

-- and a provider
abbrev pub ProviderRefuses : provider_state.State → provider.Input → NodeFault → Type 0
ProviderRefuses s (provider.Arrives at q) fault = provider_faults.IsPacketFault s at q fault
ProviderRefuses s (provider.Submits at to order) fault = provider_faults.IsOrderFault s at to order fault
ProviderRefuses s (provider.Gives at token) fault = provider_faults.IsTokenFault s at token fault
ProviderRefuses s (provider.Ticks at) fault = provider_faults.IsTickFault s at fault
ProviderRefuses s provider.Restarts fault = ⊥
ProviderRefuses s (provider.Reopens p) fault = ⊥

abbrev pub NodeRefuses : NodeState → Input → NodeFault → Type 0
NodeRefuses (Operates s) (OfOperator x) fault = OperatorRefuses s x fault
NodeRefuses (Operates s) (OfProvider x) fault = ⊥
NodeRefuses (Provides s) (OfOperator x) fault = ⊥
NodeRefuses (Provides s) (OfProvider x) fault = ProviderRefuses s x fault

-- the event is of no node: there is no node of that party, or nothing reaches it, since the event is not one of its
-- role, or the packet was not sent, or not to it
pub data IsForNone (w : World) (e : Event) : Type 0 where
  NoNode : ((i : ℕ) (p : Place) → IsAt w e.node i p → ⊥) → IsForNone w e
  NothingReaches : (i : ℕ) (p : Place) → IsAt w e.node i p → e.kind ≢ kind.Refused → ((x : Input) → Reaches w p.party p.node e.kind x → ⊥) → IsForNone w e

-- what is told of an event: the packets that the node sent and the rows that it changed; that it was passed over; or
-- why it was refused
pub data Outcome : Type 0 where
  Stepped : List Packet → List Change → Outcome
  Skipped : Outcome
  Refused : NodeFault → Outcome

-- one event of a world
pub data Gives (w : World) (e : Event) (o : Outcome) (v : World) : Type 0 where
  -- the event is of no node
  Passes : IsForNone w e → o ≡ Skipped → v ≡ w → Gives w e o v
  -- a node does what the event asks for
  Does : (i : ℕ) (p q : Place) (x : NodeEvent) → IsAt w e.node i p → Reaches w p.party p.node e.kind (input_of x) → PlaceStep p x q →
      o ≡ Stepped (packets_of x) (changes_of x) → v ≡ slice_set w i q → Gives w e o v
  -- a node refuses the event, for a reason that is not want of memory
  Refuses : (i : ℕ) (p : Place) (x : Input) (fault : NodeFault) → IsAt w e.node i p → Reaches w p.party p.node e.kind x → NodeRefuses p.node x fault → fault ≢ Memory →
      o ≡ Refused fault → v ≡ w → Gives w e o v
  -- the storing of an event was refused: nothing changes, and nothing is sent
  Loses : (i : ℕ) (p : Place) → IsAt w e.node i p → e.kind ≡ kind.Refused → o ≡ Stepped [] [] → v ≡ w → Gives w e o v

abbrev pub WorldStep : World → Event → World → Type 0
WorldStep w e v = (o : Outcome) × Gives w e o v

-- a legal run: a chain of steps
abbrev pub WorldRun : World → List Event → World → Type 0
WorldRun w es v = runs.Run WorldStep w es v
