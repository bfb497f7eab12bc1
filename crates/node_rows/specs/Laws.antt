-- The laws of contents that hold the rows of a node.
use Rattle.std.specs.Prelude.{◌≡◌, ℕ, ◌+◌, List, [], All, Option, Some, length, slice_get}
use Rattle.std.specs.FinMap.{empty}
use Rattle.ocpi_types.specs.declared.packet.Packet.{Packet}
use Rattle.ocpi_types.specs.declared.rows.Row.{Row}
use Rattle.ocpi_types.specs.declared.setup.Node.{Node}
use Rattle.ocpi_types.specs.declared.site.SiteLine.{SiteLine}
use Rattle.node_steps.specs.Drafts.{Step}
use Rattle.node_store.specs.Contents.{Content, IsReadAgain, changed_all, marked, rows_of}
use Rattle.operator_rows.specs.Sound as operator_sound
use Rattle.operator_rows.specs.State as operator
use Rattle.operator_rows.specs.Steps as operator_steps
use Rattle.operator_stored.specs.Making as operator_making
use Rattle.provider_rows.specs.State as provider
use Rattle.provider_rows.specs.Steps as provider_steps
use Rattle.provider_stored.specs.Making as provider_making
use Rattle.stored_laws.specs.Nodes.{CanStartAgain, IsOfOpening, IsSound, last_serial, restarted}
use Rattle.world_steps.specs.Steps.{NodeEvent, NodeStep, changes_of, packets_of}
use Rattle.world_steps.specs.World.{NodeState, Operates, Provides, opening_of}
use Rattle.node_rows.specs.Holds.{HasRow, HoldsRows, StoresAlike}

-- where a content holds the rows of a node, the changes of a step make it one that holds those of the node after it
abbrev pub ChangesAreHeld : Type 0
ChangesAreHeld = (c : Content) (n m : NodeState) (x : NodeEvent) → IsSound n → HoldsRows c n → NodeStep n x m → All IsReadAgain (changes_of x) →
    HoldsRows (changed_all c (changes_of x)) m

-- and so do those of a step that is planned, and may be carried out
pub record PlansAreHeld : Type 0 where
  pub operators : (c : Content) (s : operator.State) (x : Step) → operator_sound.IsSound s → HoldsRows c (Operates s) → operator_steps.MayFollow s x → All IsReadAgain x.changes →
      HoldsRows (changed_all c x.changes) (Operates (operator_steps.after x s))
  pub providers : (c : Content) (s : provider.State) (x : Step) → HoldsRows c (Provides s) → provider_steps.MayFollow s x → All IsReadAgain x.changes →
      HoldsRows (changed_all c x.changes) (Provides (provider_steps.after x s))

-- whether a content holds the rows of a node does not depend on the number of a line that took hold
pub record NumbersAreApart : Type 0 where
  pub numbered : (c : Content) (n : NodeState) (m : Option ℕ) → HoldsRows c n → HoldsRows (marked m c) n
  pub without : (c : Content) (n : NodeState) (m : Option ℕ) → HoldsRows (marked m c) n → HoldsRows c n

-- the empty content holds the rows of each node before its first event, and of no node in which a row stands
pub record EmptyIsHeld : Type 0 where
  pub openings : (setup : List Node) (n : Node) → HoldsRows empty (opening_of setup n)
  pub only : (n : NodeState) → HoldsRows empty n → (r : Row) → HasRow n r → ⊥

-- what holds the rows of a node holds those of each that stores alike; a node does so as it starts again, and after a
-- step that changes no row
pub record RestartsAreHeld : Type 0 where
  pub alike : (c : Content) (n m : NodeState) → StoresAlike n m → HoldsRows c n → HoldsRows c m
  pub by_steps : (n m : NodeState) (x : NodeEvent) → NodeStep n x m → changes_of x ≡ [] → StoresAlike n m
  pub by_restarts : (n : NodeState) → StoresAlike n (restarted n)

-- nodes that store alike are classes
pub record AreClasses : Type 0 where
  pub same : (n : NodeState) → StoresAlike n n
  pub back : (n m : NodeState) → StoresAlike n m → StoresAlike m n
  pub through : (n m k : NodeState) → StoresAlike n m → StoresAlike m k → StoresAlike n k

-- of one opening, rows are those of one node, as it starts again
abbrev pub RowsAreOfOne : Type 0
RowsAreOfOne = (first n m : NodeState) (c : Content) → IsOfOpening first n → IsOfOpening first m → IsSound n → IsSound m → HoldsRows c n → HoldsRows c m → StoresAlike n m

-- and of them that node is made again
pub record HeldRowsStartAgain : Type 0 where
  pub operators : (line : SiteLine) (c : Content) (rows : List Row) (s : operator.State) → CanStartAgain (Operates s) → IsOfOpening (Operates (operator.opening line)) (Operates s) →
      HoldsRows c (Operates s) → rows_of c ≡ Some rows → operator_making.StartsAgain line rows s
  pub providers : (peers : provider.Peering) (c : Content) (rows : List Row) (s : provider.State) → CanStartAgain (Provides s) → IsOfOpening (Provides (provider.opening peers)) (Provides s) →
      HoldsRows c (Provides s) → rows_of c ≡ Some rows → provider_making.StartsAgain peers rows s

-- the packets of a step have the serials that follow the last one, in order
pub record SerialsFollow (n : NodeState) (x : NodeEvent) (m : NodeState) : Type 0 where
  pub last : last_serial m ≡ last_serial n + length (packets_of x)
  pub each : (k : ℕ) (q : Packet) → slice_get (packets_of x) k ≡ Some q → q.serial ≡ last_serial n + (k + 1)

abbrev pub SerialsAreInOrder : Type 0
SerialsAreInOrder = (n m : NodeState) (x : NodeEvent) → IsSound n → NodeStep n x m → SerialsFollow n x m
