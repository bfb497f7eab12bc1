-- What nodes that are fed lines are in a network.
use Rattle.std.specs.Prelude.{◌≡◌, ◌<◌, ℕ, List, ◌∷◌, ◌++◌, Some, Contains, length, map, slice_get}
use Rattle.network_laws.specs.Laws.{IsRight}
use Rattle.network_laws.specs.Setups.{Setup, opened}
use Rattle.network_laws.specs.Steps.{Happening, NetworkRun, history}
use Rattle.ocpi_text.specs.Text.{key}
use Rattle.ocpi_types.specs.Setups.{party_of}
use Rattle.ocpi_types.specs.declared.packet.Packet.{Packet}
use Rattle.ocpi_types.specs.declared.setup.Node.{Node}
use Rattle.reopening_laws.specs.Nodes.{IsAlike, setup_of}
use Rattle.world_laws.specs.Laws.{IsSetup}
use Rattle.world_steps.specs.Traces.{Brings, sent}
use Rattle.world_steps.specs.World.{Place, World}
use Rattle.fed_networks.specs.Lives.{History, Life, NodeSetups, history_of}

-- nodes of setups, no two of one party; each keeps its party, spelled so, and its role
pub record AreNodes (nodes : List NodeSetups) : Type 0 where
  pub setups : (n : NodeSetups) → Contains nodes n → IsSetup n.setup
  pub members : (n : NodeSetups) → Contains nodes n → Contains n.setup n.member
  pub alike : (n : NodeSetups) → Contains nodes n → (setup : List Node) (member : Node) → Contains n.setups (setup, member) → IsAlike n.member member
  pub apart : (i j : ℕ) (n m : NodeSetups) → slice_get nodes i ≡ Some n → slice_get nodes j ≡ Some m → key (party_of n.member) ≡ key (party_of m.member) → i ≡ j

abbrev pub AreLives : List History → Type 0
AreLives lives = AreNodes (map (λ (l : History). l.of) lives)

-- these happened one after another: at each node what its history has, in that order, and nothing else
pub record Happened (lives : List History) (xs : List Happening) : Type 0 where
  pub within : (x : Happening) → Contains xs x → x.node < length lives
  pub each : (i : ℕ) (l : History) → slice_get lives i ≡ Some l → history xs i ≡ l.events

-- What came and claims to be from one of these nodes was sent before, by it, and to the node to which it came. What others
-- send may be anything.
abbrev pub InventNothing : List History → List Happening → Type 0
InventNothing lives xs = (before after : List Happening) (x : Happening) → xs ≡ before ++ x ∷ after → (l : History) → slice_get lives x.node ≡ Some l → (q : Packet) → Brings x.event q →
    (j : ℕ) (m : History) → slice_get lives j ≡ Some m → key (party_of m.of.member) ≡ key q.from → (key q.to ≡ key (party_of l.of.member)) × Contains (sent (history before j)) q

abbrev pub setups_of : List History → List Setup
setups_of lives = map (λ (l : History). setup_of l.of.setup l.of.member) lives

-- it is a run of the network of these nodes, which ends with each as its history left it; and all is right
pub record IsNetworkOf (lives : List History) (xs : List Happening) : Type 0 where
  pub network : World
  pub run : NetworkRun (opened (setups_of lives)) xs network
  pub ends : (i : ℕ) (l : History) (p : Place) → slice_get lives i ≡ Some l → slice_get network i ≡ Some p → p.node ≡ l.now
  pub right : IsRight (setups_of lives) xs network

abbrev pub NodesFormNetworks : Type 0
NodesFormNetworks = (lives : List Life) (xs : List Happening) → AreLives (map history_of lives) → Happened (map history_of lives) xs → InventNothing (map history_of lives) xs
    → IsNetworkOf (map history_of lives) xs
