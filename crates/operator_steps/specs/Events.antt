-- The events of an operator, each with what it may leave.
use Rattle.std.specs.Prelude.{◌≡◌, ◌≢◌, ℕ, Bool, List}
use Rattle.ocpi_types.specs.declared.events.ChargerEvent.{ChargerEvent}
use Rattle.ocpi_types.specs.declared.packet.Packet.{Packet}
use Rattle.ocpi_types.specs.declared.rows.Change.{Change}
use Rattle.operator_rows.specs.State.{State}
use Rattle.ocpi_types.specs.declared.site.SiteLine.{SiteLine}
use Rattle.operator_rows.specs.Steps.{MayReopen, reopened, restarted}
use Rattle.operator_steps.specs.Moves.{Out, Quietly, StepBy, Work, idle}
use Rattle.operator_steps.specs.Steps.{Comes}
use Rattle.operator_steps.specs.Charger.{ChargerLine}
use Rattle.operator_steps.specs.Credits.{CreditLine}
use Rattle.operator_steps.specs.Tick.{TickLine}
use Rattle.operator_steps.specs.Service.{ServiceLine}

-- what reaches an operator: a packet comes at a moment, an EVSE goes out of service or comes back, a charge point
-- reports at a moment, the bill of a session is taken back at a moment, time passes, and the operator starts again from
-- what it stored, under the setup that it had or under another
pub data Input : Type 0 where
  Arrives : ℕ → Packet → Input
  Serves : List ℕ → Bool → Input
  Reports : ℕ → ChargerEvent → Input
  Credits : ℕ → List ℕ → Input
  Ticks : ℕ → Input
  Restarts : Input
  Reopens : SiteLine → Input

-- what an input comes to, were there no last number. A restart is no list of acts
abbrev pub Asks : State → Input → Work → Type 0
Asks s (Arrives at q) work = Comes s at q work
Asks s (Serves evse in_service) work = Quietly (ServiceLine s evse in_service) work
Asks s (Reports at report) work = ChargerLine s at report work
Asks s (Credits at session) work = Quietly (CreditLine s at session) work
Asks s (Ticks at) work = TickLine s at work
Asks s Restarts work = ⊥
Asks s (Reopens line) work = ⊥

-- what reached the operator, the rows that it changed, and the packets that it sent
pub record Event : Type 0 where
  pub input : Input
  pub changes : List Change
  pub packets : List Packet

abbrev pub event_out : Event → State → Out
event_out e t = record { state = t; changes = e.changes; packets = e.packets }

-- it is no start under another setup
abbrev pub IsUnderSame : Input → Type 0
IsUnderSame i = (line : SiteLine) → i ≢ Reopens line

-- an event leads from one state to another: the operator does what the input asks for, or starts again; or the event
-- is refused, by the operator or by the keeper of its rows, and then nothing changes and nothing is sent. A start under
-- another setup is no event where it is refused
pub data Happens (s : State) (e : Event) (t : State) : Type 0 where
  Done : StepBy (Asks s e.input) s (event_out e t) → Happens s e t
  Restarted : e.input ≡ Restarts → event_out e t ≡ idle (restarted s) → Happens s e t
  Reopened : (line : SiteLine) → e.input ≡ Reopens line → MayReopen s line → event_out e t ≡ idle (reopened line s) → Happens s e t
  Refused : IsUnderSame e.input → event_out e t ≡ idle s → Happens s e t
