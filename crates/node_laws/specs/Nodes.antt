-- A node of either role, as far as packets are concerned: what it sends, what it answers, and what it asks.
use Rattle.std.specs.Prelude.{◌≡◌, ◌⊎◌, ℕ, ◌+◌, ◌<◌, ◌≤◌, List, [], ◌++◌, length, Option, Some, Contains, slice_get}
use Rattle.std.specs.List.{flat_map}
use Rattle.std.specs.FinMap.{FinMap, get}
use Rattle.ocpi_text.specs.Text.{key}
use Rattle.tables.specs.Keys.{text_number_cmp}
use Rattle.ocpi_types.specs.Commands.{url_of}
use Rattle.ocpi_types.specs.Stored.{body_of_reply, body_of_push}
use Rattle.ocpi_types.specs.declared.authorizations.Authorize.{Authorize}
use Rattle.ocpi_types.specs.declared.packet.Packet.{Packet}
use Rattle.ocpi_types.specs.declared.packet.Body.{Body}
use Rattle.ocpi_types.specs.declared.packet.Body.TheVariants as body
use Rattle.ocpi_types.specs.declared.replies.Ack.{Ack}
use Rattle.ocpi_types.specs.declared.replies.CommandResponse.{CommandResponse}
use Rattle.ocpi_types.specs.declared.replies.CommandResult.{CommandResult}
use Rattle.ocpi_types.specs.declared.sessions.Session.{Session}
use Rattle.ocpi_types.specs.declared.commands.Command.{Command}
use Rattle.ocpi_types.specs.declared.commands.Command.TheVariants as command
use Rattle.ocpi_types.specs.declared.stored.Push.{Push}
use Rattle.ocpi_types.specs.declared.stored.Reply.{Reply}
use Rattle.ocpi_types.specs.declared.stored.Reply.TheVariants as reply
use Rattle.ocpi_types.specs.declared.token.Token.{Token}

-- what a node asks of another
pub record Request : Type 0 where
  pub to : List ℕ
  pub body : Body

abbrev pub request_of : Packet → Request
request_of x = record { to = x.to; body = x.body }

-- the packet carries the request: its body, to its party, however that is spelled
pub record Carries (x : Packet) (r : Request) : Type 0 where
  pub to : key x.to ≡ key r.to
  pub body : x.body ≡ r.body

pub record Node : Type 0 where
  pub party : List ℕ
  -- the parties that it exchanges packets with, as they are spelled
  pub peers : List (List ℕ)
  -- the number of the last packet that it sent
  pub serial : ℕ
  -- the number of the last request of its own
  pub last : ℕ
  -- the reply that each request got, by its sender and its number
  pub replies : FinMap text_number_cmp Reply
  -- its own requests that stand, and may be sent again, by number
  pub standing : ℕ → Option Request

-- what a node took and what it sent, in order: in one event, or in several
pub record Exchange : Type 0 where
  pub came : List Packet
  pub packets : List Packet

-- nothing came and nothing was sent
abbrev pub no_exchange : Exchange
no_exchange = record { came = []; packets = [] }

-- one exchange and then another
abbrev pub both : Exchange → Exchange → Exchange
both e f = record { came = e.came ++ f.came; packets = e.packets ++ f.packets }

-- all that came, and all that was sent
abbrev pub exchanged : List Exchange → Exchange
exchanged es = record { came = flat_map (λ (e : Exchange). e.came) es; packets = flat_map (λ (e : Exchange). e.packets) es }

-- the body answers a request of another node
abbrev pub IsReply : Body → Type 0
IsReply b = (r : Reply) × (b ≡ body_of_reply r)

-- the body is a request that is sent again until it is settled: a command or a push
abbrev pub IsRepeated : Body → Type 0
IsRepeated b = ((c : Command) × (b ≡ body.Command c)) ⊎ ((p : Push) × (b ≡ body_of_push p))

-- which reply answers which request (OCPI 2.2.1, Commands: CommandResponse; Tokens: AuthorizationInfo; Transport and
-- format: the response to what is handed over)
abbrev pub Answers : Reply → Body → Type 0
Answers (reply.CommandResponse r) b = (c : Command) × (b ≡ body.Command c)
Answers (reply.Authorization r) b = (a : Authorize) × (b ≡ body.Authorize a)
Answers (reply.Ack r) b = (p : Push) × (b ≡ body_of_push p)

-- the k-th packet of those that a node sends from here on
pub record IsNumbered (s : Node) (k : ℕ) (x : Packet) : Type 0 where
  pub from : x.from ≡ s.party
  pub serial : x.serial ≡ s.serial + (k + 1)

-- packets leave under the next numbers
pub record CountsPackets (s : Node) (e : Exchange) (t : Node) : Type 0 where
  pub party : t.party ≡ s.party
  pub peers : t.peers ≡ s.peers
  pub serial : t.serial ≡ s.serial + length e.packets
  pub each : (k : ℕ) (x : Packet) → slice_get e.packets k ≡ Some x → IsNumbered s k x

-- the reply is to a request that came, of that party and number
pub record IsAnswer (e : Exchange) (p : List ℕ) (n : ℕ) (r : Reply) : Type 0 where
  pub packet : Packet
  pub came : Contains e.came packet
  pub from : key packet.from ≡ p
  pub number : packet.request ≡ n
  pub answers : Answers r packet.body

-- replies are kept, and answer what came; what is sent as a reply is the one that is kept
pub record KeepsReplies (s : Node) (e : Exchange) (t : Node) : Type 0 where
  pub stay : (k : List ℕ × ℕ) (r : Reply) → get s.replies k ≡ Some r → get t.replies k ≡ Some r
  pub answer : (p : List ℕ) (n : ℕ) (r : Reply) → get t.replies (p, n) ≡ Some r → (get s.replies (p, n) ≡ Some r) ⊎ IsAnswer e p n r
  pub kept : (x : Packet) (r : Reply) → Contains e.packets x → x.body ≡ body_of_reply r → get t.replies (key x.to, x.request) ≡ Some r

-- two requests are about the same, of which the later is the newer state: one session, or one token at one operator
-- (OCPI 2.2.1, Sessions: Session object; Tokens: Token object)
pub data AreAboutSame (a b : Request) : Type 0 where
  Sessions : (x y : Session) → a.body ≡ body.PutSession x → b.body ≡ body.PutSession y → key x.party ≡ key y.party → key x.id ≡ key y.id → AreAboutSame a b
  Tokens : (x y : Token) → a.body ≡ body.PutToken x → b.body ≡ body.PutToken y → key a.to ≡ key b.to → key x.party ≡ key y.party → x.token_type ≡ y.token_type → key x.uid ≡ key y.uid →
      AreAboutSame a b

-- the request of that number is settled: its addressee acknowledged it, or a newer one about the same went out; or it
-- is a command, and its addressee answered it, or posted its result to where it says
pub data IsSettled (e : Exchange) (n : ℕ) (r : Request) : Type 0 where
  Acknowledged : (q : Packet) → Contains e.came q → (a : Ack) → q.body ≡ body.Ack a → a.status_code ≡ 1000 → key q.from ≡ key r.to → q.request ≡ n → IsSettled e n r
  Replaced : (x : Packet) → Contains e.packets x → n < x.request → AreAboutSame r (request_of x) → IsSettled e n r
  Responded : (c : Command) → r.body ≡ body.Command c → (q : Packet) → Contains e.came q → (w : CommandResponse) → q.body ≡ body.CommandResponse w → key q.from ≡ key r.to → q.request ≡ n →
      IsSettled e n r
  Resulted : (c : Command) → r.body ≡ body.Command c → (q : Packet) → Contains e.came q → (w : CommandResult) → q.body ≡ body.CommandResult w → key q.from ≡ key r.to →
      w.response_url ≡ url_of c → IsSettled e n r

-- the request was made under that number, and sent
pub record IsMade (s : Node) (e : Exchange) (t : Node) (n : ℕ) (r : Request) : Type 0 where
  pub above : s.last < n
  pub given : n ≤ t.last
  pub packet : Packet
  pub was_sent : Contains e.packets packet
  pub number : packet.request ≡ n
  pub request : request_of packet ≡ r

-- the packet carries the request that stands under its number
abbrev pub CarriesStanding : Node → Packet → Type 0
CarriesStanding s x = (r : Request) × (s.standing x.request ≡ Some r) × Carries x r

-- a request of its own that a node sends: one that stood, or the next
abbrev pub IsOwn : Node → Node → Packet → Type 0
IsOwn s t x = CarriesStanding s x ⊎ ((s.last < x.request) × (x.request ≤ t.last))

-- what the node asks: a number is of one request, which stands until it is settled. All that is sent is to a peer
pub record KeepsRequests (s : Node) (e : Exchange) (t : Node) : Type 0 where
  pub to_peer : (x : Packet) → Contains e.packets x → Contains s.peers x.to
  pub own : (x : Packet) → Contains e.packets x → ¬ IsReply x.body → IsOwn s t x
  pub one : (x y : Packet) → Contains e.packets x → Contains e.packets y → ¬ IsReply x.body → ¬ IsReply y.body → x.request ≡ y.request → Carries x (request_of y)
  pub made : (n : ℕ) (r : Request) → t.standing n ≡ Some r → (s.standing n ≡ Some r) ⊎ IsMade s e t n r
  pub stays : (n : ℕ) (r : Request) → s.standing n ≡ Some r → (t.standing n ≡ Some r) ⊎ IsSettled e n r
  pub stands : (x : Packet) → Contains e.packets x → IsRepeated x.body → CarriesStanding t x ⊎ IsSettled e x.request (request_of x)

-- the number of a request was given, and it is to a peer
pub record IsGiven (s : Node) (n : ℕ) (r : Request) : Type 0 where
  pub below : n ≤ s.last
  pub peer : Contains s.peers r.to

-- all requests that stand are such
abbrev pub AreGiven : Node → Type 0
AreGiven s = (n : ℕ) (r : Request) → s.standing n ≡ Some r → IsGiven s n r

-- a node of either role may go on so
pub record NodeStep (s : Node) (e : Exchange) (t : Node) : Type 0 where
  pub counts : CountsPackets s e t
  pub replies : KeepsReplies s e t
  pub rises : s.last ≤ t.last
  pub asks : AreGiven s → KeepsRequests s e t
