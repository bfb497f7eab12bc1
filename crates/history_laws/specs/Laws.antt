-- What an interleaving of replayed histories is in the world.
use Rattle.std.specs.Prelude.{◌≡◌, ℕ, List, Some, Contains, slice_get}
use Rattle.ocpi_text.specs.Text.{key}
use Rattle.ocpi_types.specs.Setups.{node_key, party_of}
use Rattle.ocpi_types.specs.declared.events.Event.{Event}
use Rattle.ocpi_types.specs.declared.setup.Node.{Node}
use Rattle.histories.specs.declared.history.NodeHistory.{NodeHistory}
use Rattle.histories.specs.Entries.{IsNumbered, sent}
use Rattle.histories.specs.Weaving.{AreApart, IsInterleaving}
use Rattle.world_laws.specs.Laws.{IsRight, IsSetup}
use Rattle.world_steps.specs.Steps.{WorldRun}
use Rattle.world_steps.specs.World.{NodeState, Place, World, opened, opening_of, place_of}
use Rattle.history_laws.specs.Replays.{Replays}

-- the history is that of a node of the setup since its opening, and left it in this state
pub record IsReplayed (setup : List Node) (h : NodeHistory) (t : NodeState) : Type 0 where
  pub node : Node
  pub in_setup : Contains setup node
  pub party : h.party ≡ party_of node
  pub replays : Replays (opening_of setup node) h.entries.now t

-- histories of nodes of a setup, no two of one node, each with the state in which it left its node
pub record AreReplayed (setup : List Node) (hs : List NodeHistory) (states : List NodeState) : Type 0 where
  pub is_setup : IsSetup setup
  pub apart : AreApart hs
  pub each : (i : ℕ) (h : NodeHistory) → slice_get hs i ≡ Some h → (t : NodeState) × (slice_get states i ≡ Some t) × IsReplayed setup h t

-- the node of that party is in that state, and has sent just what its history sent
pub record StandsAs (w : World) (h : NodeHistory) (t : NodeState) : Type 0 where
  pub number : ℕ
  pub place : Place
  pub here : slice_get w number ≡ Some place
  pub party : place.party ≡ h.party
  pub node : place.node ≡ t
  pub sent_is : place.sent ≡ sent h.entries.now

-- none of the histories is that of the node
abbrev pub HasNoHistory : List NodeHistory → Node → Type 0
HasNoHistory hs n = (h : NodeHistory) → Contains hs h → key h.party ≡ node_key n → ⊥

-- The events are a legal run of the setup's nodes from their opening. It ends with each node as its history left it, with
-- all that this sent; and with each node that has no history as it was opened. And the world is right: safe, what is
-- acknowledged is held, and answers agree.
pub record IsRunOf (setup : List Node) (hs : List NodeHistory) (states : List NodeState) (events : List Event) : Type 0 where
  pub world : World
  pub run : WorldRun (opened setup) events world
  pub ends : (i : ℕ) (h : NodeHistory) (t : NodeState) → slice_get hs i ≡ Some h → slice_get states i ≡ Some t → StandsAs world h t
  pub others : (i : ℕ) (n : Node) → slice_get setup i ≡ Some n → HasNoHistory hs n → slice_get world i ≡ Some (place_of setup n)
  pub right : IsRight world

-- an interleaving of replayed histories is such a run
abbrev pub InterleavingsAreRuns : Type 0
InterleavingsAreRuns = (setup : List Node) (hs : List NodeHistory) (states : List NodeState) (events : List Event) → AreReplayed setup hs states → IsInterleaving hs events → IsRunOf setup hs states events

-- a node of a setup numbers its packets from 1, whatever happened to it since its opening
abbrev pub ReplaysAreNumbered : Type 0
ReplaysAreNumbered = (setup : List Node) → IsSetup setup → (h : NodeHistory) (t : NodeState) → IsReplayed setup h t → IsNumbered h.party 0 (sent h.entries.now)
