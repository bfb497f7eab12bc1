-- What every node keeps to over all runs, from any state to any later one.
use Rattle.std.specs.Prelude.{◌≡◌, ◌⊎◌, ℕ, ◌+◌, List, Some, length, Contains, slice_get}
use Rattle.std.specs.FinMap.{get}
use Rattle.ocpi_text.specs.Text.{key}
use Rattle.ocpi_types.specs.Stored.{body_of_reply}
use Rattle.ocpi_types.specs.declared.packet.Packet.{Packet}
use Rattle.ocpi_types.specs.declared.stored.Reply.{Reply}
use Rattle.node_laws.specs.Runs.{Run}
use Rattle.node_laws.specs.Nodes.{Node, Exchange, Request, NodeStep, AreGiven, Carries, CarriesStanding, IsReply, IsRepeated, IsNumbered, IsAnswer, IsMade, IsSettled, request_of, exchanged}

abbrev pub NodeRun : Node → List Exchange → Node → Type 0
NodeRun s es t = Run NodeStep s es t

abbrev pub sent : List Exchange → List Packet
sent es = (exchanged es).packets

-- a run is one step, by all that came and all that was sent
abbrev pub RunsAreSteps : Type 0
RunsAreSteps = (s t : Node) (es : List Exchange) → NodeRun s es t → NodeStep s (exchanged es) t

-- packets leave under the next numbers, from this party
abbrev pub Numbered : Type 0
Numbered = (s t : Node) (es : List Exchange) → NodeRun s es t → (t.serial ≡ s.serial + length (sent es)) × ((k : ℕ) (x : Packet) → slice_get (sent es) k ≡ Some x → IsNumbered s k x)

-- each packet is to a peer
abbrev pub SentToPeers : Type 0
SentToPeers = (s t : Node) (es : List Exchange) → NodeRun s es t → AreGiven s → (x : Packet) → Contains (sent es) x → Contains s.peers x.to

-- each reply that was sent, of whatever kind, is the one that is kept for its request
abbrev pub SentRepliesAreKept : Type 0
SentRepliesAreKept = (s t : Node) (es : List Exchange) → NodeRun s es t → (x : Packet) (r : Reply) → Contains (sent es) x → x.body ≡ body_of_reply r → get t.replies (key x.to, x.request) ≡ Some r

-- a reply is kept for good
abbrev pub RepliesStay : Type 0
RepliesStay = (s t : Node) (es : List Exchange) → NodeRun s es t → (k : List ℕ × ℕ) (r : Reply) → get s.replies k ≡ Some r → get t.replies k ≡ Some r

-- each reply that is kept was kept before, or answers a request that came
abbrev pub RepliesAnswer : Type 0
RepliesAnswer = (s t : Node) (es : List Exchange) → NodeRun s es t → (p : List ℕ) (n : ℕ) (r : Reply) → get t.replies (p, n) ≡ Some r → (get s.replies (p, n) ≡ Some r) ⊎ IsAnswer (exchanged es) p n r

-- each number of an own request has one body and one addressee, however often it is sent, and however the addressee is
-- spelled
abbrev pub RequestsAgree : Type 0
RequestsAgree = (s t : Node) (es : List Exchange) → NodeRun s es t → AreGiven s → (x y : Packet) → Contains (sent es) x → Contains (sent es) y → ¬ IsReply x.body → ¬ IsReply y.body →
    x.request ≡ y.request → Carries x (request_of y)

-- a request that was sent, and is repeated until it is settled, stands until then
abbrev pub RequestsStand : Type 0
RequestsStand = (s t : Node) (es : List Exchange) → NodeRun s es t → AreGiven s → (x : Packet) → Contains (sent es) x → IsRepeated x.body →
    CarriesStanding t x ⊎ IsSettled (exchanged es) x.request (request_of x)

-- a request that stands stood before, or was sent under its number
abbrev pub RequestsWereSent : Type 0
RequestsWereSent = (s t : Node) (es : List Exchange) → NodeRun s es t → AreGiven s → (n : ℕ) (r : Request) → t.standing n ≡ Some r → (s.standing n ≡ Some r) ⊎ IsMade s (exchanged es) t n r

-- the requests that stand stay given
abbrev pub StayGiven : Type 0
StayGiven = (s t : Node) (es : List Exchange) → NodeRun s es t → AreGiven s → AreGiven t
