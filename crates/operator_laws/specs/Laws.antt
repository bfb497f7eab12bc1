-- The laws of an operator over every list of events from its opening: packets that come, in any order and any number
-- of times, what charge points report, bills that are to be taken back, time that passes, at moments that may go back,
-- EVSEs that go out of service and come back, and restarts of the operator from what it stored, also under another
-- setup; events that are refused among them.
use Rattle.std.specs.Prelude.{◌≡◌, ◌⊎◌, ℕ, ◌+◌, ◌≤◌, ◌<◌, List, [], ◌∷◌, Some, Ok, Contains, slice_get}
use Rattle.std.specs.List.{flat_map}
use Rattle.std.specs.FinMap.{get}
use Rattle.ocpi_text.specs.Party.{party_at}
use Rattle.ocpi_text.specs.Text.{key}
use Rattle.ocpi_types.specs.Stored.{body_of_reply, body_of_push}
use Rattle.ocpi_types.specs.declared.cdrs.Cdr.{Cdr}
use Rattle.ocpi_types.specs.declared.site.SiteLine.{SiteLine}
use Rattle.ocpi_types.specs.declared.packet.Packet.{Packet}
use Rattle.ocpi_types.specs.declared.packet.Body.{Body}
use Rattle.ocpi_types.specs.declared.packet.Body.TheVariants as body
use Rattle.ocpi_types.specs.declared.replies.Ack.{Ack}
use Rattle.ocpi_types.specs.declared.replies.CommandResult.{CommandResult}
use Rattle.ocpi_types.specs.declared.commands.Command.{Command}
use Rattle.ocpi_types.specs.declared.stored.OpenCommand.{OpenCommand}
use Rattle.ocpi_types.specs.declared.stored.Reply.{Reply}
use Rattle.ocpi_types.specs.declared.stored.Reply.TheVariants as reply
use Rattle.ocpi_types.specs.declared.token.Token.{Token}
use Rattle.ocpi_types.specs.declared.stored.Reservation.{Reservation}
use Rattle.ocpi_types.specs.declared.words.CommandResultType.{CommandResultType}
use Rattle.ocpi_types.specs.declared.rows.Change.TheVariants.{Put}
use Rattle.ocpi_types.specs.declared.rows.Row.TheVariants as row
use Rattle.node_laws.specs.Nodes.{IsReply}
use Rattle.node_laws.specs.Runs as runs
use Rattle.outbox.specs.declared.push_book.Outgoing.{Outgoing}
use Rattle.operator_rows.specs.State.{State, opening}
use Rattle.operator_rows.specs.Sound.{IsConsistent}
use Rattle.operator_steps.specs.Events.{Arrives, Credits, Event, Happens, Input, Reopens, Reports, Restarts, Serves, Ticks}
use Rattle.operator_laws.specs.References.{AreSpent, HaveOneCarrier, Uses}

-- a run from one state to another, event by event
abbrev pub Run : State → List Event → State → Type 0
Run s es t = runs.Run Happens s es t

-- the setups under which the operator started again in the run
abbrev pub setup_of : Input → List SiteLine
setup_of (Arrives at q) = []
setup_of (Serves evse in_service) = []
setup_of (Reports at report) = []
setup_of (Credits at session) = []
setup_of (Ticks at) = []
setup_of Restarts = []
setup_of (Reopens line) = line ∷ []

abbrev pub setups_in : List Event → List SiteLine
setups_in es = flat_map (λ (e : Event). setup_of e.input) es

-- all providers that the operator was ever set up with, as they were spelled
abbrev pub providers_in : SiteLine → List Event → List (List ℕ)
providers_in line es = flat_map (λ (l : SiteLine). l.parties.providers) (line ∷ setups_in es)

-- all packets of a run, in order
abbrev pub sent : List Event → List Packet
sent es = flat_map (λ e. e.packets) es

-- the packet came in the run
abbrev pub Came : List Event → Packet → Type 0
Came es q = (e : Event) × Contains es e × ((at : ℕ) × (e.input ≡ Arrives at q))

-- the operator is a party by its form, so that the ids that it makes of numbers differ
abbrev pub IsOfParty : SiteLine → Type 0
IsOfParty line = party_at line.parties.operator ≡ Ok line.parties.operator

-- what holds of an operator at any time: what is kept of its rows and times, each EVSE with at most one claim among
-- it; and each reference of a provider is carried by one open start at most, and may not be used again
pub record HoldsAlways (t : State) : Type 0 where
  pub consistent : IsConsistent t
  pub one_carrier : HaveOneCarrier t.rows
  pub carried_spent : AreSpent t.rows

abbrev pub AlwaysConsistent : Type 0
AlwaysConsistent = (line : SiteLine) (es : List Event) (t : State) → IsOfParty line → Run (opening line) es t → HoldsAlways t

-- two open starts of a provider with one reference are one
abbrev pub ReferencesHaveOneCarrier : Type 0
ReferencesHaveOneCarrier = (line : SiteLine) (es : List Event) (t : State) → Run (opening line) es t → HaveOneCarrier t.rows

-- the reference of an open start may not be used again
abbrev pub CarriedReferencesAreSpent : Type 0
CarriedReferencesAreSpent = (line : SiteLine) (es : List Event) (t : State) → Run (opening line) es t → AreSpent t.rows

-- the event opens a start of a provider, both in key form, with a reference in key form
abbrev pub Opens : Event → List ℕ → List ℕ → Type 0
Opens e p reference = (n : ℕ) × (o : OpenCommand) × Contains e.changes (Put (row.Pending p n o)) × Uses o reference

-- each reference of a provider opens at most one start, in all the time of an operator
abbrev pub OneStart : Type 0
OneStart = (line : SiteLine) (es : List Event) (t : State) → Run (opening line) es t → (i j : ℕ) (e f : Event) → slice_get es i ≡ Some e → slice_get es j ≡ Some f →
    (p reference : List ℕ) → Opens e p reference → Opens f p reference → i ≡ j

-- each reply that was sent, a response or an acknowledgement, is the one that is kept for its request
abbrev pub SentRepliesAreKept : Type 0
SentRepliesAreKept = (line : SiteLine) (es : List Event) (t : State) → IsOfParty line → Run (opening line) es t → (x : Packet) (r : Reply) → Contains (sent es) x →
    x.body ≡ body_of_reply r → get t.rows.commands.replies (key x.to, x.request) ≡ Some r

-- a reply is kept for good
abbrev pub RepliesStay : Type 0
RepliesStay = (s t : State) (es : List Event) → Run s es t → (k : List ℕ × ℕ) (r : Reply) → get s.rows.commands.replies k ≡ Some r →
    get t.rows.commands.replies k ≡ Some r

-- which request a reply of an operator answers: a response answers a command, and an acknowledgement a token
abbrev pub IsReplyTo : Reply → Body → Type 0
IsReplyTo (reply.CommandResponse r) b = (c : Command) × (b ≡ body.Command c)
IsReplyTo (reply.Ack r) b = (t : Token) × (b ≡ body.PutToken t)
IsReplyTo (reply.Authorization r) b = ⊥

-- a result is kept for good
abbrev pub ResultsStay : Type 0
ResultsStay = (s t : State) (es : List Event) → IsConsistent s → Run s es t → (k : List ℕ × ℕ) (x : CommandResultType) → get s.rows.commands.results k ≡ Some x →
    get t.rows.commands.results k ≡ Some x

-- the packets are numbered from 1, each by the next number
abbrev pub Numbered : Type 0
Numbered = (line : SiteLine) (es : List Event) (t : State) → Run (opening line) es t → (i : ℕ) (x : Packet) → slice_get (sent es) i ≡ Some x → x.serial ≡ i + 1

-- each of the operator's own requests, be it a result, a session, a charge detail record or a question about a token,
-- has one number, one body and one addressee, however often it is sent, and however the addressee is spelled
abbrev pub RequestsAgree : Type 0
RequestsAgree = (line : SiteLine) (es : List Event) (t : State) → IsOfParty line → Run (opening line) es t → (x y : Packet) → Contains (sent es) x → Contains (sent es) y →
    ¬ IsReply x.body → ¬ IsReply y.body → x.request ≡ y.request → (x.body ≡ y.body) × (key x.to ≡ key y.to)

-- the party acknowledged the request of that number, in the run
abbrev pub Acknowledged : List Event → List ℕ → ℕ → Type 0
Acknowledged es to n = (q : Packet) × Came es q × ((a : Ack) × (q.body ≡ body.Ack a) × (a.status_code ≡ 1000)) × (key q.from ≡ key to) × (q.request ≡ n)

-- the push of that number stands, to that party, with that body
abbrev pub IsPushed : State → ℕ → List ℕ → Body → Type 0
IsPushed t n to b = (o : Outgoing) × (get t.rows.pushes n ≡ Some o) × (key o.to ≡ key to) × (body_of_push o.push ≡ b)

-- a result, or a charge detail record
abbrev pub IsResultOrRecord : Body → Type 0
IsResultOrRecord b = ((a : CommandResult) × (b ≡ body.CommandResult a)) ⊎ ((c : Cdr) × (b ≡ body.PostCdr c))

-- a result or a charge detail record that was sent is pushed until its addressee acknowledges its number
abbrev pub PushesStand : Type 0
PushesStand = (line : SiteLine) (es : List Event) (t : State) → IsOfParty line → Run (opening line) es t → (x : Packet) → Contains (sent es) x → IsResultOrRecord x.body →
    IsPushed t x.request x.to x.body ⊎ Acknowledged es x.to x.request

-- a result that was sent is the one that is kept for a command of its addressee, to be posted where it says
abbrev pub SentResultsAreKept : Type 0
SentResultsAreKept = (line : SiteLine) (es : List Event) (t : State) → IsOfParty line → Run (opening line) es t → (x : Packet) (a : CommandResult) → Contains (sent es) x →
    x.body ≡ body.CommandResult a →
    (n : ℕ) × (get t.rows.commands.results (key x.to, n) ≡ Some a.result)

-- no mark falls, and none goes
abbrev pub MarksNeverFall : Type 0
MarksNeverFall = (s t : State) (es : List Event) → Run s es t → (k : List ℕ × List ℕ) (m : ℕ) → get s.rows.booked.marks k ≡ Some m →
    (n : ℕ) × (get t.rows.booked.marks k ≡ Some n) × (m ≤ n)

-- the event makes or replaces the reservation of that id of a provider
abbrev pub Reserves : Event → List ℕ → List ℕ → Type 0
Reserves e p id = (r : Reservation) × Contains e.changes (Put (row.Reservation p id r))

-- the request of that number, which comes in the event, sets the mark of the reservation of that id of its sender
pub record SetsMark (e : Event) (p id : List ℕ) (n : ℕ) : Type 0 where
  pub at : ℕ
  pub packet : Packet
  pub comes : e.input ≡ Arrives at packet
  pub by : key packet.from ≡ p
  pub number : packet.request ≡ n
  pub puts : Contains e.changes (Put (row.Mark p id n))

-- a reservation is made only by a request that sets its mark, under a number above that of every request that set it
-- before: so one that was cancelled, whether or not it was known, is not made by a request that the cancellation overtook
abbrev pub ReservationsAreNewer : Type 0
ReservationsAreNewer = (line : SiteLine) (es : List Event) (t : State) → Run (opening line) es t → (i j : ℕ) (e f : Event) → slice_get es i ≡ Some e →
    slice_get es j ≡ Some f → i < j →
    (p id : List ℕ) (m : ℕ) → Contains e.changes (Put (row.Mark p id m)) → Reserves f p id → (n : ℕ) × SetsMark f p id n × (m < n)
