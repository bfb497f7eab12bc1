-- What a node of a setup is opened with, over what a store has.
use Rattle.std.specs.Prelude.{◌≡◌, ℕ, List, Option, Some, Ok, length}
use Rattle.node_core.specs.Members.{IsMadeOfRows}
use Rattle.node_runs.specs.DoneLines.{opened_line}
use Rattle.node_runs.specs.NodeTurns.{IsMember, number_from}
use Rattle.node_runs.specs.SetupLines.{numbered_setup_in}
use Rattle.ocpi_types.specs.Setups.{party_of}
use Rattle.ocpi_types.specs.declared.rows.Row.{Row}
use Rattle.ocpi_types.specs.declared.setup.Node.{Node}
use Rattle.stored_laws.specs.Nodes.{CanStartAgain, last_serial}
use Rattle.world_steps.specs.World.{NodeState}
use Rattle.replays.specs.Happenings.{OpenedRun}
use Rattle.replays.specs.LineTurns.{Held, Lists, Running}

-- The line is a setup that has a node of the party that was asked for, in whichever case, and that node is made of the
-- rows. The setup may be another than before.
pub record Opens (wanted : List ℕ) (held : Held) (line : List ℕ) : Type 0 where
  pub setup : List Node
  pub base : Option ℕ
  pub reads : numbered_setup_in line ≡ Ok (setup, base)
  pub member : Node
  pub asked : IsMember setup (Some wanted) member
  pub state : NodeState
  pub rows : List Row
  pub lists : Lists held.kept rows
  pub made : IsMadeOfRows setup member rows state
  pub starts : CanStartAgain state

-- what is printed then
abbrev pub opening_of : {wanted : List ℕ} {held : Held} {line : List ℕ} → Opens wanted held line → List ℕ
opening_of {held = held} o = opened_line held.line (party_of o.member) (length o.rows) (last_serial o.state)

-- the node that runs
abbrev pub begun : {wanted : List ℕ} {held : Held} {line : List ℕ} → Opens wanted held line → Running
begun {held = held} o =
    record { party = party_of o.member; state = o.state; known = held.line; last = held.line; number = number_from o.base held.line }

-- what is told of it
abbrev pub opened_by : {wanted : List ℕ} {held : Held} {line : List ℕ} → Opens wanted held line → OpenedRun
opened_by {held = held} {line = line} o =
    record { line = line; setup = o.setup; member = o.member; rows = length o.rows; serial = last_serial o.state }
