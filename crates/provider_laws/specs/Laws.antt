-- The laws of a provider over every list of events from its opening: packets that come, in any order and any number of
-- times, orders that are submitted, tokens that are given, time that passes, at moments that may go back, and restarts
-- of the provider from what it stored, also among other operators; events that are refused among them.
use Rattle.std.specs.Prelude.{◌≡◌, ◌⊎◌, ℕ, ◌+◌, List, [], Some, None, Contains, slice_get, ◌++◌, ◌∷◌}
use Rattle.std.specs.List.{flat_map}
use Rattle.std.specs.FinMap.{get}
use Rattle.ocpi_text.specs.Text.{key}
use Rattle.ocpi_types.specs.Stored.{body_of_reply}
use Rattle.ocpi_types.specs.declared.packet.Packet.{Packet}
use Rattle.ocpi_types.specs.declared.stored.Reply.{Reply}
use Rattle.node_laws.specs.Runs as runs
use Rattle.node_laws.specs.Nodes.{Answers, IsReply}
use Rattle.provider_rows.specs.State.{ArePeers, Peering, State, opening}
use Rattle.provider_rows.specs.Sound.{IsConsistent}
use Rattle.provider_steps.specs.Events.{Arrives, Event, Gives, Happens, Input, Reopens, Restarts, Submits, Ticks}

-- a run from one state to another, event by event
abbrev pub Run : State → List Event → State → Type 0
Run s es t = runs.Run Happens s es t

-- the peers among which the provider started again in the run
abbrev pub peering_of : Input → List Peering
peering_of (Arrives at q) = []
peering_of (Submits at operator order) = []
peering_of (Gives at t) = []
peering_of (Ticks at) = []
peering_of Restarts = []
peering_of (Reopens p) = p ∷ []

abbrev pub peerings_in : List Event → List Peering
peerings_in es = flat_map (λ (e : Event). peering_of e.input) es

-- all operators that the provider ever dealt with, as they were spelled
abbrev pub operators_in : Peering → List Event → List (List ℕ)
operators_in p es = flat_map (λ (q : Peering). q.operators) (p ∷ peerings_in es)

-- all packets of a run, in order
abbrev pub sent : List Event → List Packet
sent es = flat_map (λ (e : Event). e.packets) es

-- the event is that this packet comes
abbrev pub Brings : Event → Packet → Type 0
Brings e q = (at : ℕ) × (e.input ≡ Arrives at q)

-- the packet came in the run
abbrev pub Came : List Event → Packet → Type 0
Came es q = (e : Event) × Contains es e × Brings e q

-- what holds of a provider at all times holds after each event
abbrev pub AlwaysConsistent : Type 0
AlwaysConsistent = (p : Peering) (es : List Event) (t : State) → ArePeers p → Run (opening p) es t → IsConsistent t

-- the event answers the request of that packet: no reply was kept for it before, and this one is after
pub record AnswersIt (s : State) (e : Event) (t : State) (q : Packet) (r : Reply) : Type 0 where
  pub at : ℕ
  pub comes : e.input ≡ Arrives at q
  pub new : get s.rows.replies (key q.from, q.request) ≡ None
  pub kept : get t.rows.replies (key q.from, q.request) ≡ Some r

-- an event of the run answered the request of that packet
pub record IsAnsweredIn (s : State) (es : List Event) (t : State) (q : Packet) (r : Reply) : Type 0 where
  pub before : State
  pub after : State
  pub earlier : List Event
  pub event : Event
  pub later : List Event
  pub reached : Run s earlier before
  pub happens : Happens before event after
  pub left : Run after later t
  pub all : es ≡ earlier ++ event ∷ later
  pub answers : AnswersIt before event after q r

-- a reply of any kind is kept for good
abbrev pub RepliesStay : Type 0
RepliesStay = (s t : State) (es : List Event) → Run s es t → (k : List ℕ × ℕ) (r : Reply) → get s.rows.replies k ≡ Some r → get t.rows.replies k ≡ Some r

-- the reply was given to a request that came, of that party and number, in an event of the run
pub record IsReplyTo (s : State) (es : List Event) (t : State) (p : List ℕ) (n : ℕ) (r : Reply) : Type 0 where
  pub packet : Packet
  pub answered : IsAnsweredIn s es t packet r
  pub by : key packet.from ≡ p
  pub number : packet.request ≡ n
  pub answers : Answers r packet.body

-- each reply that is kept was kept before, or answers a request that came
abbrev pub RepliesAnswer : Type 0
RepliesAnswer = (s t : State) (es : List Event) → Run s es t → (p : List ℕ) (n : ℕ) (r : Reply) → get t.rows.replies (p, n) ≡ Some r →
    (get s.rows.replies (p, n) ≡ Some r) ⊎ IsReplyTo s es t p n r

-- the packets are numbered from 1, each by the next number
abbrev pub Numbered : Type 0
Numbered = (p : Peering) (es : List Event) (t : State) → Run (opening p) es t → (i : ℕ) (x : Packet) → slice_get (sent es) i ≡ Some x → x.serial ≡ i + 1

-- each packet is from this provider, to an operator that it was ever set up with, as that setup spells it
abbrev pub PacketsAreAddressed : Type 0
PacketsAreAddressed = (p : Peering) (es : List Event) (t : State) → Run (opening p) es t → (x : Packet) → Contains (sent es) x → (x.from ≡ p.provider) × Contains (operators_in p es) x.to

-- each reply that was sent is the one that is kept for its request
abbrev pub SentRepliesAreKept : Type 0
SentRepliesAreKept = (p : Peering) (es : List Event) (t : State) → Run (opening p) es t → (x : Packet) (r : Reply) → Contains (sent es) x → x.body ≡ body_of_reply r →
    get t.rows.replies (key x.to, x.request) ≡ Some r

-- each of the provider's own requests, commands and tokens together, has one number, one body and one addressee,
-- however often it is sent, and however the addressee is spelled
abbrev pub RequestsAgree : Type 0
RequestsAgree = (p : Peering) (es : List Event) (t : State) → Run (opening p) es t → (x y : Packet) → Contains (sent es) x → Contains (sent es) y →
    ¬ IsReply x.body → ¬ IsReply y.body → x.request ≡ y.request → (x.body ≡ y.body) × (key x.to ≡ key y.to)
