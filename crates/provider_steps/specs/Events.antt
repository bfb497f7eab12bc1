-- The events of a provider, each with what it may leave.
use Rattle.std.specs.Prelude.{◌≡◌, ◌≢◌, ℕ, List}
use Rattle.ocpi_types.specs.declared.events.Order.{Order}
use Rattle.ocpi_types.specs.declared.packet.Packet.{Packet}
use Rattle.ocpi_types.specs.declared.rows.Change.{Change}
use Rattle.ocpi_types.specs.declared.token.Token.{Token}
use Rattle.node_steps.specs.Acts.{Act}
use Rattle.provider_rows.specs.State.{Peering, State}
use Rattle.provider_rows.specs.Steps.{MayReopen, reopened, restarted}
use Rattle.provider_steps.specs.Moves.{Out, StepBy, idle}
use Rattle.provider_steps.specs.Orders.{OrderLine}
use Rattle.provider_steps.specs.Packets.{Comes}
use Rattle.provider_steps.specs.Tick.{TickLine}
use Rattle.provider_steps.specs.Tokens.{TokenLine}

-- what reaches a provider: a packet comes at a moment, an order to an operator is submitted, a token is given, time
-- passes, and the provider starts again from what it stored, among the operators that it had or among others
pub data Input : Type 0 where
  Arrives : ℕ → Packet → Input
  Submits : ℕ → List ℕ → Order → Input
  Gives : ℕ → Token → Input
  Ticks : ℕ → Input
  Restarts : Input
  Reopens : Peering → Input

-- what an input comes to, were there no last number. A restart is no list of acts
abbrev pub Asks : State → Input → List Act → Type 0
Asks s (Arrives at q) acts = Comes s at q acts
Asks s (Submits at operator order) acts = OrderLine s at operator order acts
Asks s (Gives at t) acts = TokenLine s at t acts
Asks s (Ticks at) acts = TickLine s at acts
Asks s Restarts acts = ⊥
Asks s (Reopens p) acts = ⊥

-- what reached the provider, the rows that it changed, and the packets that it sent
pub record Event : Type 0 where
  pub input : Input
  pub changes : List Change
  pub packets : List Packet

abbrev pub event_out : Event → State → Out
event_out e t = record { state = t; changes = e.changes; packets = e.packets }

-- it is no start among other operators
abbrev pub IsAmongSame : Input → Type 0
IsAmongSame i = (p : Peering) → i ≢ Reopens p

-- an event leads from one state to another: the provider does what the input asks for, or starts again; or the event
-- is refused, by the provider or by the keeper of its rows, and then nothing changes and nothing is sent. A start among
-- other operators is no event where it is refused
pub data Happens (s : State) (e : Event) (t : State) : Type 0 where
  Done : StepBy (Asks s e.input) s (event_out e t) → Happens s e t
  Restarted : e.input ≡ Restarts → event_out e t ≡ idle (restarted s) → Happens s e t
  Reopened : (p : Peering) → e.input ≡ Reopens p → MayReopen s p → event_out e t ≡ idle (reopened p s) → Happens s e t
  Refused : IsAmongSame e.input → event_out e t ≡ idle s → Happens s e t
