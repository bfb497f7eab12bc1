-- A provider as a node of any role: what the laws of nodes speak of.
use Rattle.std.specs.Prelude.{ℕ, List, [], ◌∷◌, map, Option, Some, None, Contains}
use Rattle.std.specs.FinMap.{get}
use Rattle.ocpi_types.specs.Stored.{body_of_push}
use Rattle.ocpi_types.specs.declared.packet.Body.TheVariants as body
use Rattle.ocpi_types.specs.declared.packet.Packet.{Packet}
use Rattle.ocpi_types.specs.declared.replies.CommandResponse.{CommandResponse}
use Rattle.ocpi_types.specs.declared.stored.SentCommand.{SentCommand}
use Rattle.ocpi_types.specs.declared.words.CommandResultType.{CommandResultType}
use Rattle.outbox.specs.Outbox.{OutboxRows}
use Rattle.outbox.specs.declared.push_book.Outgoing.{Outgoing}
use Rattle.node_laws.specs.Nodes.{Node, Exchange, Request, NodeStep}
use Rattle.node_laws.specs.Laws.{NodeRun}
use Rattle.provider_rows.specs.State.{Peering, State}
use Rattle.provider_rows.specs.Sound.{IsConsistent}
use Rattle.provider_steps.specs.Events.{Input, Arrives, Submits, Gives, Ticks, Restarts, Reopens, Event, Happens}
use Rattle.provider_laws.specs.Laws.{Run, peerings_in}

abbrev pub pushed_request : Outgoing → Request
pushed_request o = record { to = o.to; body = body_of_push o.push }

abbrev pub command_request : SentCommand → Request
command_request c = record { to = c.to; body = body.Command c.command }

-- a command waits until its answer or its result came
abbrev pub while_open : Option CommandResponse → Option CommandResultType → Request → Option Request
while_open None None r = Some r
while_open None (Some x) r = None
while_open (Some x) result r = None

abbrev pub standing_of : Option Outgoing → Option SentCommand → Option Request
standing_of (Some o) c = Some (pushed_request o)
standing_of None (Some c) = while_open c.answer c.result (command_request c)
standing_of None None = None

abbrev pub standing_in : OutboxRows → ℕ → Option Request
standing_in r n = standing_of (get r.pushes n) (get r.commands n)

-- the provider, did it deal with these operators
abbrev pub wide : List (List ℕ) → State → State
wide ps s = record s { operators = ps }

-- these are among those
abbrev pub AreAmong : List (List ℕ) → List (List ℕ) → Type 0
AreAmong xs ps = (x : List ℕ) → Contains xs x → Contains ps x

-- its peers are the operators that it deals with, and its own requests that stand the tokens that it pushes and the
-- commands that have neither an answer nor a result
abbrev pub node : State → Node
node s = record {
  party = s.party;
  peers = s.operators;
  serial = s.rows.serial;
  last = s.rows.outbox.last;
  replies = s.rows.replies;
  standing = standing_in s.rows.outbox;
}

abbrev pub came_in : Input → List Packet
came_in (Arrives at q) = q ∷ []
came_in (Submits at operator order) = []
came_in (Gives at t) = []
came_in (Ticks at) = []
came_in Restarts = []
came_in (Reopens p) = []

abbrev pub exchange : Event → Exchange
exchange e = record { came = came_in e.input; packets = e.packets }

-- each event of a provider is a step of a node
abbrev pub StepsAreNodeSteps : Type 0
StepsAreNodeSteps = (ps : List (List ℕ)) (s t : State) (e : Event) → AreAmong s.operators ps → IsConsistent s → Happens s e t → NodeStep (node (wide ps s)) (exchange e) (node (wide ps t))

-- so each run is a run of a node, and the laws of nodes hold of it
abbrev pub RunsAreNodeRuns : Type 0
RunsAreNodeRuns = (ps : List (List ℕ)) (s t : State) (es : List Event) → AreAmong s.operators ps → ((p : Peering) → Contains (peerings_in es) p → AreAmong p.operators ps) →
    IsConsistent s → Run s es t → NodeRun (node (wide ps s)) (map exchange es) (node (wide ps t))

-- each packet of an event is to an operator that the provider deals with at that time, as it spells it then
abbrev pub PacketsAreSpelled : Type 0
PacketsAreSpelled = (s t : State) (e : Event) → IsConsistent s → Happens s e t → (x : Packet) → Contains e.packets x → Contains s.operators x.to
