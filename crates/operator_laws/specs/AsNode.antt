-- An operator as a node of any role: what the laws of nodes speak of.
use Rattle.std.specs.Prelude.{◌≡◌, ℕ, List, [], ◌∷◌, map, Some, Contains}
use Rattle.std.specs.Option.{option_map}
use Rattle.std.specs.FinMap.{get}
use Rattle.ocpi_types.specs.Stored.{body_of_push}
use Rattle.ocpi_types.specs.declared.packet.Packet.{Packet}
use Rattle.ocpi_types.specs.declared.site.SiteLine.{SiteLine}
use Rattle.outbox.specs.declared.push_book.Outgoing.{Outgoing}
use Rattle.node_laws.specs.Nodes.{Node, Exchange, Request, NodeStep}
use Rattle.node_laws.specs.Laws.{NodeRun}
use Rattle.operator_rows.specs.State.{State, opening}
use Rattle.operator_rows.specs.Sound.{IsConsistent}
use Rattle.operator_steps.specs.Events.{Input, Arrives, Serves, Reports, Credits, Ticks, Restarts, Reopens, Event, Happens}
use Rattle.operator_laws.specs.Laws.{IsOfParty, Run, providers_in, sent, setups_in}

abbrev pub pushed_request : Outgoing → Request
pushed_request o = record { to = o.to; body = body_of_push o.push }

-- the operator, were it set up with these providers
abbrev pub wide : List (List ℕ) → State → State
wide ps s = record s { providers = ps }

-- these are among those
abbrev pub AreAmong : List (List ℕ) → List (List ℕ) → Type 0
AreAmong xs ps = (x : List ℕ) → Contains xs x → Contains ps x

-- its peers are the providers of its site, and its own requests the pushes that stand
abbrev pub node : State → Node
node s = record {
  party = s.party;
  peers = s.providers;
  serial = s.rows.serial;
  last = s.rows.request;
  replies = s.rows.commands.replies;
  standing = λ n. option_map pushed_request (get s.rows.pushes n);
}

abbrev pub came_in : Input → List Packet
came_in (Arrives at q) = q ∷ []
came_in (Serves evse in_service) = []
came_in (Reports at report) = []
came_in (Credits at session) = []
came_in (Ticks at) = []
came_in Restarts = []
came_in (Reopens line) = []

abbrev pub exchange : Event → Exchange
exchange e = record { came = came_in e.input; packets = e.packets }

-- each event of an operator is a step of a node, whose peers are any list with the providers of its setup
abbrev pub StepsAreNodeSteps : Type 0
StepsAreNodeSteps = (ps : List (List ℕ)) (s t : State) (e : Event) → AreAmong s.providers ps → IsConsistent s → Happens s e t → NodeStep (node (wide ps s)) (exchange e) (node (wide ps t))

-- so each run is a run of a node, and the laws of nodes hold of it
abbrev pub RunsAreNodeRuns : Type 0
RunsAreNodeRuns = (ps : List (List ℕ)) (s t : State) (es : List Event) → AreAmong s.providers ps → ((line : SiteLine) → Contains (setups_in es) line → AreAmong line.parties.providers ps) →
    IsConsistent s → Run s es t → NodeRun (node (wide ps s)) (map exchange es) (node (wide ps t))

-- each packet is from this operator, to a provider that it was ever set up with, as that setup spells it
abbrev pub PacketsAreAddressed : Type 0
PacketsAreAddressed = (line : SiteLine) (es : List Event) (t : State) → IsOfParty line → Run (opening line) es t → (x : Packet) → Contains (sent es) x →
    (x.from ≡ line.parties.operator) × Contains (providers_in line es) x.to

-- each packet of an event is to a provider of the site at that time, as it spells it then
abbrev pub PacketsAreSpelled : Type 0
PacketsAreSpelled = (s t : State) (e : Event) → IsConsistent s → Happens s e t → (x : Packet) → Contains e.packets x → Contains s.providers x.to

-- a push that stands was sent under its number
abbrev pub PushesWereSent : Type 0
PushesWereSent = (line : SiteLine) (es : List Event) (t : State) → IsOfParty line → Run (opening line) es t → (n : ℕ) (o : Outgoing) → get t.rows.pushes n ≡ Some o →
    (x : Packet) × Contains (sent es) x × (x.request ≡ n) × (x.to ≡ o.to) × (x.body ≡ body_of_push o.push)
