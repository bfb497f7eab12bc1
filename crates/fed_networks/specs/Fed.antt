-- What nodes that run by the program `node`, and are fed lines by their numbers, are in a network.
use Rattle.std.specs.FinMap.{empty}
use Rattle.std.specs.Prelude.{◌≡◌, ℕ, List, [], ◌∷◌, Contains, map}
use Rattle.feeding_laws.specs.Fed.{AreExact, AreFedRuns, AreTold, told_in}
use Rattle.network_laws.specs.Steps.{Happening}
use Rattle.node_keepers.specs.Opening.{Source}
use Rattle.node_store.specs.Contents.{Content}
use Rattle.stored_nodes.specs.Keepers.{Keeper}
use Rattle.stored_laws.specs.Nodes.{restarted}
use Rattle.world_steps.specs.Steps.{NodeEvent}
use Rattle.world_steps.specs.World.{opening_of}
use Rattle.fed_networks.specs.Laws.{AreNodes, Happened, InventNothing, IsNetworkOf}
use Rattle.fed_networks.specs.Lives.{History, Life, NodeSetups, events_of_runs, history_of}

-- A node, and runs of it over one store, which was empty at first: fed lines by their numbers, and stopped anywhere. Each
-- line up to that of the number `seen` was answered.
pub record FedNode {K : Type 0} (keeper : Keeper K) (source : Source K) : Type 0 where
  pub of : NodeSetups
  pub lines : ℕ → List ℕ
  pub seen : ℕ
  pub last : Content
  pub runs : AreFedRuns keeper source of.setups lines empty seen last

-- The life is that of the node: what came to it once and in order, of which its store has the rows at the end (`AreExact`).
abbrev pub IsLifeOf : {K : Type 0} {keeper : Keeper K} {source : Source K} → FedNode keeper source → Life → Type 0
IsLifeOf n l = (e : AreExact n.of.setups n.lines (record { state = opening_of n.of.setup n.of.member; line = 1 }) n.seen n.last)
    × (l ≡ record { of = n.of; lines = n.lines; last = e.exact.member; number = e.exact.last; now = e.exact.now; came = e.exact.came })

abbrev pub AreLivesOf : {K : Type 0} {keeper : Keeper K} {source : Source K} → List (FedNode keeper source) → List Life → Type 0
AreLivesOf [] [] = Unit {0}
AreLivesOf [] (l ∷ ls) = ⊥
AreLivesOf (n ∷ ns) [] = ⊥
AreLivesOf (n ∷ ns) (l ∷ ls) = IsLifeOf n l × AreLivesOf ns ls

-- Any nodes that are fed so, no two of one party, have such lives; and whatever happened at them over links that invent
-- nothing between them is a run of their network.
abbrev pub FedNodesFormNetworks : {K : Type 0} → Keeper K → Source K → Type 0
FedNodesFormNetworks keeper source = (nodes : List (FedNode keeper source)) → AreNodes (map (λ (n : FedNode keeper source). n.of) nodes) →
    (lives : List Life) × AreLivesOf nodes lives × ((xs : List Happening) → Happened (map history_of lives) xs → InventNothing (map history_of lives) xs → IsNetworkOf (map history_of lives) xs)

-- ---- what the runs write

-- All that happened at the node in these runs, of which its store has the rows at the end. Of whatever the runs wrote, the
-- node did it: so each packet that they print is one that it sent.
pub record IsTold {K : Type 0} {keeper : Keeper K} {source : Source K} (n : FedNode keeper source) (h : History) : Type 0 where
  pub are : AreTold (record { state = opening_of n.of.setup n.of.member; line = 1 }) n.runs
  pub of : h.of ≡ n.of
  pub events : h.events ≡ events_of_runs are.runs
  pub kept : restarted are.left.state ≡ restarted h.now
  pub told : (x : NodeEvent) → Contains (told_in n.runs) x → Contains h.events x

abbrev pub AreAllTold : {K : Type 0} {keeper : Keeper K} {source : Source K} → List (FedNode keeper source) → List History → Type 0
AreAllTold [] [] = Unit {0}
AreAllTold [] (h ∷ hs) = ⊥
AreAllTold (n ∷ ns) [] = ⊥
AreAllTold (n ∷ ns) (h ∷ hs) = IsTold n h × AreAllTold ns hs

-- Any nodes that are fed so have such histories; and whatever happened at them over links that carry nothing but what these
-- sent before is a run of their network.
abbrev pub FedNodesAreTold : {K : Type 0} → Keeper K → Source K → Type 0
FedNodesAreTold keeper source = (nodes : List (FedNode keeper source)) → AreNodes (map (λ (n : FedNode keeper source). n.of) nodes) →
    (hs : List History) × AreAllTold nodes hs × ((xs : List Happening) → Happened hs xs → InventNothing hs xs → IsNetworkOf hs xs)
