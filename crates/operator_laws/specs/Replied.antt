-- What the answer to a command brings about, then and for good; and what stands only because it was asked for.
use Rattle.std.specs.Prelude.{◌≡◌, ◌⊎◌, ◌≤◌, ℕ, List, Some, None, Contains}
use Rattle.std.specs.FinMap.{get}
use Rattle.ocpi_text.specs.Text.{key}
use Rattle.ocpi_types.specs.Commands.{url_of}
use Rattle.ocpi_types.specs.declared.commands.CancelReservation.{CancelReservation}
use Rattle.ocpi_types.specs.declared.commands.ReserveNow.{ReserveNow}
use Rattle.ocpi_types.specs.declared.packet.Body.TheVariants as body
use Rattle.ocpi_types.specs.declared.packet.Packet.{Packet}
use Rattle.ocpi_types.specs.declared.site.SiteLine.{SiteLine}
use Rattle.ocpi_types.specs.declared.replies.CommandResult.{CommandResult}
use Rattle.ocpi_types.specs.declared.commands.Command.{Command}
use Rattle.ocpi_types.specs.declared.commands.Command.TheVariants as command
use Rattle.ocpi_types.specs.declared.stored.OpenCommand.{OpenCommand}
use Rattle.ocpi_types.specs.declared.stored.Reply.{Reply}
use Rattle.ocpi_types.specs.declared.stored.Reservation.{Reservation}
use Rattle.ocpi_types.specs.declared.words.CommandResponseType.TheVariants.{Accepted}
use Rattle.ocpi_types.specs.declared.words.CommandResultType.{CommandResultType}
use Rattle.operator_rows.specs.State.{State, opening}
use Rattle.operator_steps.specs.Acts.{responded}
use Rattle.operator_steps.specs.Events.{Arrives, Event, Happens}
use Rattle.operator_laws.specs.Laws.{Came, IsOfParty, Run, sent}

-- the event answers the request of that packet: no reply was kept for it before, and this one is after
pub record AnswersIt (s : State) (e : Event) (t : State) (q : Packet) (r : Reply) : Type 0 where
  pub at : ℕ
  pub comes : e.input ≡ Arrives at q
  pub new : get s.rows.commands.replies (key q.from, q.request) ≡ None
  pub kept : get t.rows.commands.replies (key q.from, q.request) ≡ Some r

-- requests about the reservation of that id of a provider that are older than n come too late
abbrev pub IsMarked : State → List ℕ → List ℕ → ℕ → Type 0
IsMarked t p id n = (m : ℕ) × (get t.rows.booked.marks (p, id) ≡ Some m) × (n ≤ m)

-- a cancellation that was answered, however it was, holds from then on against older requests about its reservation
abbrev pub CancellationsAreMarked : Type 0
CancellationsAreMarked = (s u t : State) (e : Event) (es : List Event) (q : Packet) (c : CancelReservation) (r : Reply) → Happens s e u → AnswersIt s e u q r →
    q.body ≡ body.Command (command.CancelReservation c) → Run u es t → IsMarked t (key q.from) (key c.reservation_id) q.request

-- and so does a request to reserve that was accepted
abbrev pub ReservationsAreMarked : Type 0
ReservationsAreMarked = (s u t : State) (e : Event) (es : List Event) (q : Packet) (c : ReserveNow) (at : ℕ) → Happens s e u → AnswersIt s e u q (responded at Accepted) →
    q.body ≡ body.Command (command.ReserveNow c) → Run u es t → IsMarked t (key q.from) (key c.reservation_id) q.request

-- an authorization reference that is spent stays spent
abbrev pub SpentStays : Type 0
SpentStays = (s t : State) (es : List Event) → Run s es t → (p reference : List ℕ) → get s.rows.spent (p, reference) ≡ Some tt → get t.rows.spent (p, reference) ≡ Some tt

-- the provider asked for the reservation of that id, in the run
abbrev pub AskedToReserve : List Event → List ℕ → List ℕ → Type 0
AskedToReserve es p id = (q : Packet) × Came es q × (key q.from ≡ p) × ((c : ReserveNow) × (q.body ≡ body.Command (command.ReserveNow c)) × (key c.reservation_id ≡ id))

-- a reservation that stands, and did not stand so before, was asked for in between
abbrev pub ReservationsAreAskedFor : Type 0
ReservationsAreAskedFor = (s t : State) (es : List Event) → Run s es t → (p id : List ℕ) (r : Reservation) → get t.rows.booked.reservations (p, id) ≡ Some r →
    (get s.rows.booked.reservations (p, id) ≡ Some r) ⊎ AskedToReserve es p id

-- the command of that number of a provider is open
abbrev pub IsOpenNow : State → List ℕ → ℕ → Type 0
IsOpenNow t p n = (o : OpenCommand) × (get t.rows.commands.pending (p, n) ≡ Some o)

-- it has its result
abbrev pub IsSettled : State → List ℕ → ℕ → Type 0
IsSettled t p n = (x : CommandResultType) × (get t.rows.commands.results (p, n) ≡ Some x)

-- a command whose response was ACCEPTED is open or has its result, and never both
abbrev pub AcceptedIsOpenOrSettled : Type 0
AcceptedIsOpenOrSettled = (line : SiteLine) (es : List Event) (t : State) → IsOfParty line → Run (opening line) es t → (p : List ℕ) (n at : ℕ) →
    get t.rows.commands.replies (p, n) ≡ Some (responded at Accepted) → (IsOpenNow t p n ⊎ IsSettled t p n) × (IsOpenNow t p n → IsSettled t p n → ⊥)

-- a packet with that command came from that provider under that number, among these
abbrev pub Asked : (Packet → Type 0) → List ℕ → ℕ → Command → Type 0
Asked Came p n c = (q : Packet) × Came q × (key q.from ≡ p) × (q.request ≡ n) × (q.body ≡ body.Command c)

-- a result that was sent answers a command that came from its addressee: it is posted where that command says, and is
-- the result that is kept for it
abbrev pub ResultsArePosted : Type 0
ResultsArePosted = (line : SiteLine) (es : List Event) (t : State) → IsOfParty line → Run (opening line) es t → (x : Packet) (a : CommandResult) → Contains (sent es) x →
    x.body ≡ body.CommandResult a →
    (n : ℕ) × (c : Command) × Asked (Came es) (key x.to) n c × (a.response_url ≡ url_of c) × (get t.rows.commands.results (key x.to, n) ≡ Some a.result)
