-- The line that says what became of a line of the input, or of one event of it.
use Rattle.std.specs.Prelude.{ℕ, List, [], ◌∷◌, ◌++◌, Option, None, Some, codes, decimal}
use Rattle.json.specs.Print.{print}
use Rattle.json.specs.Token.{string}
use Rattle.json_text.specs.Fault.{fault_field as line_fault_field, fault_name as line_fault_name, fault_number as line_fault_number}
use Rattle.json_text.specs.declared.fault.JsonFault.{JsonFault}
use Rattle.node_steps.specs.FaultText.{fault_name as event_fault_name, fault_number as event_fault_number}
use Rattle.node_steps.specs.declared.fault.NodeFault.{NodeFault}
use Rattle.ocpi_types.specs.Fields.{name_of}
use Rattle.ocpi_types.specs.declared.field.Field.{Field}

-- the member that tells the place of an event in its line, from 0; where the line is one event, it is left out
abbrev pub place_member : Option ℕ → List ℕ
place_member None = []
place_member (Some place) = codes ",\"event\":" ++ decimal place

-- a text as JSON has it
abbrev pub text_json : List ℕ → List ℕ
text_json text = print (string text ∷ [])

-- the setup was read: the number of the last line that had taken hold, the party as JSON has it, how many rows were
-- loaded, and the serial of the last packet that the node sent
abbrev pub opened_as : ℕ → List ℕ → ℕ → ℕ → List ℕ
opened_as line party rows serial =
    codes "{\"done\":\"opened\",\"line\":" ++ (decimal line ++ (codes ",\"party\":" ++ (party ++
    (codes ",\"rows\":" ++ (decimal rows ++ (codes ",\"serial\":" ++ (decimal serial ++ codes "}\n")))))))

abbrev pub opened_line : ℕ → List ℕ → ℕ → ℕ → List ℕ
opened_line line party rows serial = opened_as line (text_json party) rows serial

-- rows were changed, or packets sent: so many
abbrev pub stepped_line : ℕ → Option ℕ → ℕ → List ℕ
stepped_line line place packets =
    codes "{\"done\":\"stepped\"" ++ (place_member place ++ (codes ",\"line\":" ++ (decimal line ++
    (codes ",\"packets\":" ++ (decimal packets ++ codes "}\n")))))

-- the event was this node's, changed no row and sent nothing
abbrev pub idle_line : ℕ → Option ℕ → List ℕ
idle_line line place =
    codes "{\"done\":\"idle\"" ++ (place_member place ++ (codes ",\"line\":" ++ (decimal line ++ codes "}\n")))

-- the event is another node's, or of the other role
abbrev pub skipped_line : ℕ → Option ℕ → List ℕ
skipped_line line place =
    codes "{\"done\":\"skipped\"" ++ (place_member place ++ (codes ",\"line\":" ++ (decimal line ++ codes "}\n")))

-- the line, or the event at that place of it, was refused as a text, under that name and number, because of no member
abbrev pub line_of_fault : ℕ → Option ℕ → List ℕ → ℕ → List ℕ
line_of_fault line place name number =
    codes "{\"done\":\"malformed\"" ++ (place_member place ++ (codes ",\"line\":" ++ (decimal line ++ (codes ",\"name\":\"" ++ (name ++
    (codes "\",\"number\":" ++ (decimal number ++ codes "}\n")))))))

-- and because of one
abbrev pub line_of_member_fault : List ℕ → ℕ → Option ℕ → List ℕ → ℕ → List ℕ
line_of_member_fault field line place name number =
    codes "{\"done\":\"malformed\"" ++ (place_member place ++ (codes ",\"field\":\"" ++ (field ++ (codes "\",\"line\":" ++ (decimal line ++
    (codes ",\"name\":\"" ++ (name ++ (codes "\",\"number\":" ++ (decimal number ++ codes "}\n")))))))))

abbrev pub fault_line : ℕ → Option ℕ → JsonFault → Option Field → List ℕ
fault_line line place fault None = line_of_fault line place (line_fault_name fault) (line_fault_number fault)
fault_line line place fault (Some field) =
    line_of_member_fault (name_of field) line place (line_fault_name fault) (line_fault_number fault)

-- the line, or the event at that place of it, was refused as a text
abbrev pub malformed_line : ℕ → Option ℕ → JsonFault → List ℕ
malformed_line line place fault = fault_line line place fault (line_fault_field fault)

-- the node refused the event, under that name and number
abbrev pub line_of_refusal : ℕ → Option ℕ → List ℕ → ℕ → List ℕ
line_of_refusal line place name number =
    codes "{\"done\":\"refused\"" ++ (place_member place ++ (codes ",\"line\":" ++ (decimal line ++ (codes ",\"name\":\"" ++ (name ++
    (codes "\",\"number\":" ++ (decimal number ++ codes "}\n")))))))

abbrev pub refused_line : ℕ → Option ℕ → NodeFault → List ℕ
refused_line line place fault = line_of_refusal line place (event_fault_name fault) (event_fault_number fault)

-- a line of that many events was carried out
abbrev pub all_line : ℕ → ℕ → List ℕ
all_line line events =
    codes "{\"done\":\"all\",\"events\":" ++ (decimal events ++ (codes ",\"line\":" ++ (decimal line ++ codes "}\n")))

-- the line is one of those that had taken hold before the run, and was not read
abbrev pub known_line : ℕ → List ℕ
known_line line = codes "{\"done\":\"known\",\"line\":" ++ (decimal line ++ codes "}\n")
