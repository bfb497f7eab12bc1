-- What holds of one node of either role, wherever it comes from: its rows, what its own code keeps, what is tested of
-- its rows before it is made again of them, and what it is as it starts again.
use Rattle.std.specs.Prelude.{◌≡◌, ℕ, List, Some, Contains}
use Rattle.std.specs.FinMap.{get}
use Rattle.ocpi_types.specs.declared.cdrs.Cdr.{Cdr}
use Rattle.ocpi_types.specs.declared.rows.Row.{Row}
use Rattle.ocpi_types.specs.declared.sessions.Session.{Session}
use Rattle.ocpi_types.specs.declared.setup.Node.{Node}
use Rattle.ocpi_types.specs.declared.site.SiteLine.{SiteLine}
use Rattle.ocpi_types.specs.declared.words.SessionStatus.TheVariants.{Completed}
use Rattle.session_book.specs.Records.{HasCredit}
use Rattle.operator_rows.specs.Rows as operator_rows
use Rattle.operator_rows.specs.Sound as operator_sound
use Rattle.operator_rows.specs.State as operator
use Rattle.operator_rows.specs.Steps as operator_steps
use Rattle.operator_steps.specs.Credits.{IsToCredit}
use Rattle.operator_stored.specs.Whole as operator_whole
use Rattle.provider_rows.specs.Rows as provider_rows
use Rattle.provider_rows.specs.Rows.{AreKeyed}
use Rattle.provider_rows.specs.Sound as provider_sound
use Rattle.provider_rows.specs.State as provider
use Rattle.provider_rows.specs.Steps as provider_steps
use Rattle.provider_stored.specs.Whole as provider_whole
use Rattle.world_laws.specs.Laws.{IsSetup}
use Rattle.world_steps.specs.Steps.{NodeEvent, NodeStep}
use Rattle.world_steps.specs.World.{NodeState, Operates, Provides, opening_of}

-- the list has exactly the rows of the node, each once
abbrev pub AreNodeRows : List Row → NodeState → Type 0
AreNodeRows rows (Operates s) = operator_rows.AreRowsOf rows s.rows
AreNodeRows rows (Provides s) = provider_rows.AreRowsOf rows s.rows

-- the number of the last packet that it sent, 0 where it sent none
abbrev pub last_serial : NodeState → ℕ
last_serial (Operates s) = s.rows.serial
last_serial (Provides s) = s.rows.serial

-- the node as it starts again: what it stored stays, and nothing else
abbrev pub restarted : NodeState → NodeState
restarted (Operates s) = Operates (operator_steps.restarted s)
restarted (Provides s) = Provides (provider_steps.restarted s)

-- the second node, as it starts again, is the first with other rows: both were opened alike
abbrev pub IsOfOpening : NodeState → NodeState → Type 0
IsOfOpening (Operates first) (Operates s) = operator_steps.restarted s ≡ operator_sound.with_rows s.rows first
IsOfOpening (Provides first) (Provides s) = provider_steps.restarted s ≡ provider_sound.with_rows s.rows first
IsOfOpening (Operates first) (Provides s) = ⊥
IsOfOpening (Provides first) (Operates s) = ⊥

-- what the type of each node keeps
abbrev pub IsSound : NodeState → Type 0
IsSound (Operates s) = operator_sound.IsConsistent s
IsSound (Provides s) = provider_sound.IsConsistent s × AreKeyed s.rows

-- what its rows are tested for beside
abbrev pub IsWhole : NodeState → Type 0
IsWhole (Operates s) = operator_whole.IsWhole s
IsWhole (Provides s) = provider_whole.IsWhole s

-- so it can be made again of its rows
pub record CanStartAgain (n : NodeState) : Type 0 where
  pub sound : IsSound n
  pub whole : IsWhole n

-- each node of a setup can, before its first event
abbrev pub OpeningsCanStartAgain : Type 0
OpeningsCanStartAgain = (setup : List Node) → IsSetup setup → (n : Node) → Contains setup n → CanStartAgain (opening_of setup n)

-- and each can that did something, wherever it came from
abbrev pub NodesCanStartAgain : Type 0
NodesCanStartAgain = (n m : NodeState) (x : NodeEvent) → CanStartAgain n → NodeStep n x m → CanStartAgain m

-- a node that can start again still can once it has
abbrev pub RestartsCanStartAgain : Type 0
RestartsCanStartAgain = (n : NodeState) → CanStartAgain n → CanStartAgain (restarted n)

-- and so can one that starts again under another setup, where it may
pub record ReopeningsCanStartAgain : Type 0 where
  pub operators : (s : operator.State) (line : SiteLine) → CanStartAgain (Operates s) → operator_steps.MayReopen s line → CanStartAgain (Operates (operator_steps.reopened line s))
  pub providers : (s : provider.State) (p : provider.Peering) → CanStartAgain (Provides s) → provider_steps.MayReopen s p → CanStartAgain (Provides (provider_steps.reopened p s))

-- a node is of its opening from there on
pub record NodesKeepOpenings : Type 0 where
  pub at_first : (setup : List Node) (n : Node) → IsOfOpening (opening_of setup n) (opening_of setup n)
  pub by_steps : (first n m : NodeState) (x : NodeEvent) → IsOfOpening first n → NodeStep n x m → IsOfOpening first m
  pub by_restarts : (first n : NodeState) → IsOfOpening first n → IsOfOpening first (restarted n)

-- an operator that can start again has, of each COMPLETED session that no credit is of, a bill that may be taken back: its
-- id is short enough, no record has that of its credit, and the session has no other bill
abbrev pub BillsMayBeTakenBack : Type 0
BillsMayBeTakenBack =
    (s : operator.State) → CanStartAgain (Operates s) → (session : List ℕ) (v : Session) → get s.rows.charged.sessions session ≡ Some v → v.status ≡ Completed →
    ¬ HasCredit s.rows.charged session → (bill : Cdr) × IsToCredit s.rows session bill
