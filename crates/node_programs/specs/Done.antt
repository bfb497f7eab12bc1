-- The line that says what became of an event of `play`, under the number of its line. Its form is that of `node`.
use Rattle.std.specs.Prelude.{ℕ, List, [], ◌∷◌, ◌++◌, Option, None, Some, codes, decimal, length}
use Rattle.json_text.specs.Fault.{fault_field, fault_name as line_fault_name, fault_number as line_fault_number}
use Rattle.json_text.specs.declared.fault.JsonFault.{JsonFault}
use Rattle.node_steps.specs.FaultText.{fault_name as event_fault_name, fault_number as event_fault_number}
use Rattle.node_steps.specs.declared.fault.NodeFault.{NodeFault}
use Rattle.ocpi_types.specs.Fields.{name_of}
use Rattle.ocpi_types.specs.declared.field.Field.{Field}
use Rattle.ocpi_types.specs.declared.packet.Packet.{Packet}
use Rattle.ocpi_types.specs.declared.rows.Change.{Change}

-- rows were changed, or packets sent: so many
abbrev pub stepped_line : ℕ → ℕ → List ℕ
stepped_line line packets =
    codes "{\"done\":\"stepped\",\"line\":" ++ (decimal line ++ (codes ",\"packets\":" ++ (decimal packets ++ codes "}\n")))

-- the node did the event, which changed no row and sent nothing
abbrev pub idle_line : ℕ → List ℕ
idle_line line = codes "{\"done\":\"idle\",\"line\":" ++ (decimal line ++ codes "}\n")

-- the event is of no node
abbrev pub skipped_line : ℕ → List ℕ
skipped_line line = codes "{\"done\":\"skipped\",\"line\":" ++ (decimal line ++ codes "}\n")

-- the line was refused as a text, under that name and number, because of no member
abbrev pub line_of_fault : ℕ → List ℕ → ℕ → List ℕ
line_of_fault line name number =
    codes "{\"done\":\"malformed\",\"line\":" ++ (decimal line ++ (codes ",\"name\":\"" ++ (name ++
    (codes "\",\"number\":" ++ (decimal number ++ codes "}\n")))))

-- and because of one
abbrev pub line_of_member_fault : List ℕ → ℕ → List ℕ → ℕ → List ℕ
line_of_member_fault field line name number =
    codes "{\"done\":\"malformed\",\"field\":\"" ++ (field ++ (codes "\",\"line\":" ++ (decimal line ++
    (codes ",\"name\":\"" ++ (name ++ (codes "\",\"number\":" ++ (decimal number ++ codes "}\n")))))))

abbrev pub fault_line : ℕ → JsonFault → Option Field → List ℕ
fault_line line fault None = line_of_fault line (line_fault_name fault) (line_fault_number fault)
fault_line line fault (Some field) = line_of_member_fault (name_of field) line (line_fault_name fault) (line_fault_number fault)

-- the line was refused as a text
abbrev pub malformed_line : ℕ → JsonFault → List ℕ
malformed_line line fault = fault_line line fault (fault_field fault)

-- the node refused the event, under that name and number
abbrev pub line_of_refusal : ℕ → List ℕ → ℕ → List ℕ
line_of_refusal line name number =
    codes "{\"done\":\"refused\",\"line\":" ++ (decimal line ++ (codes ",\"name\":\"" ++ (name ++
    (codes "\",\"number\":" ++ (decimal number ++ codes "}\n")))))

abbrev pub refused_line : ℕ → NodeFault → List ℕ
refused_line line fault = line_of_refusal line (event_fault_name fault) (event_fault_number fault)

-- the line behind the packets that the node sent for an event which changed these rows
abbrev pub step_line : ℕ → List Packet → List Change → List ℕ
step_line line [] [] = idle_line line
step_line line [] (c ∷ cs) = stepped_line line 0
step_line line (p ∷ ps) changes = stepped_line line (length (p ∷ ps))
