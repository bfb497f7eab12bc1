-- What of the entries of a history a stop may leave.
use Rattle.std.specs.Prelude.{◌≡◌, ◌⊎◌, List, [], ◌++◌, ⊤}
use Rattle.node_laws.specs.Runs.{Run}
use Rattle.node_rows.specs.Holds.{HoldsRows}
use Rattle.node_store.specs.Contents.{Content}
use Rattle.stored_laws.specs.Nodes.{CanStartAgain}
use Rattle.world_steps.specs.Steps.{NodeEvent, NodeStep, changes_of}
use Rattle.world_steps.specs.World.{NodeState}
use Rattle.histories.specs.declared.entry.Entry.{Entry}
use Rattle.history_laws.specs.Replays.{Does, EntryStep, Idle, Replays}

-- no row is changed by it
abbrev pub IsQuiet : {s : NodeState} {e : Entry} {t : NodeState} → EntryStep s e t → Type 0
IsQuiet (Does x did) = changes_of x ≡ []
IsQuiet (Idle idle) = ⊤

abbrev pub QuietStep : NodeState → Entry → NodeState → Type 0
QuietStep s e t = (step : EntryStep s e t) × IsQuiet step

-- A content that a stop may leave. A beginning of the history, behind which no entry changed a row, made a state; the
-- content holds the rows of that one, or of one to which one event more leads from there. The node can be made again
-- of it.
pub record IsLeft (first state : NodeState) (history : List Entry) (content : Content) : Type 0 where
  pub front : List Entry
  pub rest : List Entry
  pub split : history ≡ front ++ rest
  pub reached : NodeState
  pub replays : Replays first front reached
  pub quiet : Run QuietStep reached rest state
  pub left : NodeState
  pub goes : (left ≡ reached) ⊎ ((x : NodeEvent) × NodeStep reached x left)
  pub holds : HoldsRows content left
  pub starts : CanStartAgain left
