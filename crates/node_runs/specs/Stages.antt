-- What the program has behind a line, from what the line left.
use Rattle.std.specs.Prelude.{◌≡◌, ◌≤◌, ℕ, List, ◌++◌, Option, None, Some}
use Rattle.line_runs.specs.declared.run.Turn.{Turn}
use Rattle.line_runs.specs.declared.run.Turn.TheVariants.{Ended, Taken}
use Rattle.stored_laws.specs.Nodes.{last_serial}
use Rattle.node_runs.specs.DoneLines.{opened_line}
use Rattle.node_runs.specs.NodeAnswers.{lost_stage, next_stage}
use Rattle.node_runs.specs.NodeTurns.{Running, Stage, number_from}
use Rattle.node_runs.specs.declared.beginning.Begun.{Begun}
use Rattle.node_runs.specs.declared.fault.NodeStop.{NodeStop}
use Rattle.node_runs.specs.declared.fault.NodeStop.TheVariants.{Memory}
use Rattle.node_runs.specs.declared.list_lines.After.{After}
use Rattle.node_runs.specs.declared.list_lines.After.TheVariants.{Lost, Runs}

-- once the node runs, the number of the last line is 1 or more: so that of each line behind the setup is 2 or more
abbrev pub IsCounted : {K : Type 0} → Option (Running K) → ℕ → Type 0
IsCounted None number = Unit {0}
IsCounted (Some now) number = 1 ≤ number

-- this stopped the run; all else is as before
abbrev pub stopped_stage : {K : Type 0} → Stage K → NodeStop → Stage K
stopped_stage s stop = record { wanted = s.wanted; opened = s.opened; running = s.running; spare = s.spare; stop = Some stop; number = s.number; known = s.known }

-- the node runs that was begun, whose lines are counted on from that number
abbrev pub begun_stage : {K : Type 0} → Stage K → Begun K → Option ℕ → Option NodeStop → Stage K
begun_stage s b base stop = record {
  wanted = s.wanted;
  opened = s.opened;
  running = Some b.running;
  spare = s.spare;
  stop = stop;
  number = number_from base b.line;
  known = b.line;
}

-- and that is told; or memory ran out for telling it
pub data IsOpenedWith {K : Type 0} (s : Stage K) (b : Begun K) (base : Option ℕ) (before after : List ℕ) (turn : Turn) (t : Stage K) : Type 0 where
  IsTold : turn ≡ Taken → after ≡ before ++ opened_line b.line b.running.party b.rows (last_serial b.running.node.state)
      → t ≡ begun_stage s b base s.stop → IsOpenedWith s b base before after turn t
  IsUntold : turn ≡ Ended → after ≡ before → t ≡ begun_stage s b base (Some Memory) → IsOpenedWith s b base before after turn t

-- the program goes on with what a line behind the setup left
abbrev pub GoesOnWith : {K : Type 0} → Stage K → After K → Turn → Stage K → Type 0
GoesOnWith s (Runs next answered) turn t = (turn ≡ answered) × (t ≡ next_stage s next s.number)
GoesOnWith s (Lost keep stop) turn t = (turn ≡ Ended) × (t ≡ lost_stage s keep stop s.number)
