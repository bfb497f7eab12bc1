-- What the program `answer` writes for what it reads: the site line, and then packets at that line's moment.
use Rattle.std.specs.Prelude.{◌≡◌, ℕ, List, [], Option, None, Some, Ok}
use Rattle.program_lines.specs.Writing.{packet_lines, refusal_line}
use Rattle.ocpi_types.specs.declared.packet.Packet.{Packet}
use Rattle.ocpi_types.specs.declared.rows.Change.{Change}
use Rattle.ocpi_types.specs.declared.site.SiteLine.{SiteLine}
use Rattle.json_text.specs.declared.fault.JsonFault.{JsonFault}
use Rattle.json_text.specs.declared.fault.JsonFault.TheVariants.{Syntax}
use Rattle.json_text.specs.Fault.{Fails, fault_text as json_fault_text}
use Rattle.ocpi_json.specs.Packets.{packet_in}
use Rattle.ocpi_json.specs.SiteLines.{site_in}
use Rattle.node_steps.specs.declared.fault.NodeFault.{NodeFault}
use Rattle.node_steps.specs.FaultText.{fault_text as node_fault_text}
use Rattle.operator_rows.specs.State.{State, opening}
use Rattle.operator_steps.specs.Faults.{IsDue}
use Rattle.operator_steps.specs.Moves.{Out}
use Rattle.operator_steps.specs.Steps.{OperatorStep}
use Rattle.line_runs.specs.declared.outcome.Ran.{Ran}
use Rattle.line_runs.specs.declared.outcome.Ran.TheVariants.{Whole, WithRefusals}
use Rattle.line_runs.specs.declared.run.Turn.{Turn}
use Rattle.line_runs.specs.declared.run.Turn.TheVariants.{Taken, Refused, Ended}

-- an operator, and the moment at which each packet comes
pub record Answering : Type 0 where
  pub at : ℕ
  pub operator : State

-- what a site line makes: its operator, and its moment
abbrev pub made_by : SiteLine → Answering
made_by site = record { at = site.at; operator = opening site }

-- what a step of the operator leaves, changes and sends
abbrev pub out_with : State → List Change → List Packet → Out
out_with s changes packets = record { state = s; changes = changes; packets = packets }

-- The first line makes the operator. Where it is no site line, that is all.
pub data SiteTurn (line : List ℕ) (turn : Turn) (out : List ℕ) (next : Option Answering) : Type 0 where
  Opened : (site : SiteLine) → site_in line ≡ Ok site → turn ≡ Taken → out ≡ [] → next ≡ Some (made_by site)
      → SiteTurn line turn out next
  NoSite : (fault : JsonFault) → Fails fault (site_in line) → turn ≡ Ended → out ≡ refusal_line (json_fault_text fault)
      → next ≡ None → SiteTurn line turn out next

-- Each other line is a packet that comes to the operator at the site line's moment. A refused one changes nothing.
pub data PacketTurn (now : Answering) (line : List ℕ) (turn : Turn) (out : List ℕ) (next : Option Answering) : Type 0 where
  Answered : (packet : Packet) → packet_in line ≡ Ok packet → (step : Out) → OperatorStep now.operator now.at packet step
      → turn ≡ Taken → out ≡ packet_lines step.packets → next ≡ Some (record { at = now.at; operator = step.state })
      → PacketTurn now line turn out next
  Unanswered : (packet : Packet) → packet_in line ≡ Ok packet → (fault : NodeFault) → IsDue now.operator now.at packet fault
      → turn ≡ Refused → out ≡ refusal_line (node_fault_text fault) → next ≡ Some now → PacketTurn now line turn out next
  Unread : (fault : JsonFault) → Fails fault (packet_in line)
      → turn ≡ Refused → out ≡ refusal_line (json_fault_text fault) → next ≡ Some now → PacketTurn now line turn out next

-- one line, with no operator before the first
abbrev pub LineGives : Option Answering → List ℕ → Turn → List ℕ → Option Answering → Type 0
LineGives None line turn out next = SiteTurn line turn out next
LineGives (Some now) line turn out next = PacketTurn now line turn out next

-- An input with no line is refused as one with a line that is no JSON. Otherwise nothing is written at the end.
abbrev pub EndGives : Option Answering → Ran → List ℕ → Type 0
EndGives None ran out = (ran ≡ WithRefusals) × (out ≡ refusal_line (json_fault_text Syntax))
EndGives (Some now) ran out = (ran ≡ Whole) × (out ≡ [])
