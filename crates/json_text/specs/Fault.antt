-- What a reader answers, memory aside.
use Rattle.std.specs.Prelude.{ℕ, ◌≡◌, List, ◌++◌, Option, None, Some, codes, Result, Ok, Err}
use Rattle.ocpi_types.specs.Fields.{name_of}
use Rattle.ocpi_types.specs.declared.field.Field.{Field}
use Rattle.json_text.specs.declared.fault.JsonFault.{JsonFault}
use Rattle.json_text.specs.declared.fault.JsonFault.TheVariants.{Syntax, BadNumberToken, TaggedText, Missing, WrongForm, UnknownWord, UnknownKind, Memory}

-- the value, or the first fault
abbrev pub Read : Type 0 → Type 0
Read X = Result X JsonFault

infixl 10 ◌>>=◌
abbrev pub ◌>>=◌ : {A B : Type 0} → Read A → (A → Read B) → Read B
(Ok x) >>= f = f x
(Err e) >>= f = Err e

-- the refusal e was due, or memory ran out
abbrev pub Fails : {X : Type 0} → JsonFault → Read X → Type 0
Fails Memory read = Unit {0}
Fails Syntax read = read ≡ Err Syntax
Fails BadNumberToken read = read ≡ Err BadNumberToken
Fails TaggedText read = read ≡ Err TaggedText
Fails (Missing f) read = read ≡ Err (Missing f)
Fails (WrongForm f) read = read ≡ Err (WrongForm f)
Fails (UnknownWord f) read = read ≡ Err (UnknownWord f)
Fails UnknownKind read = read ≡ Err UnknownKind

-- the answer, seen by view, is what reading gives, unless memory ran out
abbrev pub GivesBy : {X Y : Type 0} → (X → Y) → Read X → Read Y → Type 0
GivesBy view (Ok x) read = read ≡ Ok (view x)
GivesBy view (Err e) read = Fails e read

abbrev pub Gives : {X : Type 0} → Read X → Read X → Type 0
Gives (Ok x) read = read ≡ Ok x
Gives (Err e) read = Fails e read

-- the answer, seen by view, is what reading gives
abbrev pub IsBy : {X Y : Type 0} → (X → Y) → Read X → Read Y → Type 0
IsBy view (Ok x) read = read ≡ Ok (view x)
IsBy view (Err e) read = read ≡ Err e

-- the number of a refusal
abbrev pub fault_number : JsonFault → ℕ
fault_number Syntax = 1
fault_number BadNumberToken = 2
fault_number TaggedText = 3
fault_number (Missing f) = 4
fault_number (WrongForm f) = 5
fault_number (UnknownWord f) = 6
fault_number UnknownKind = 7
fault_number Memory = 8

-- its name
abbrev pub fault_name : JsonFault → List ℕ
fault_name Syntax = codes "Syntax"
fault_name BadNumberToken = codes "BadNumberToken"
fault_name TaggedText = codes "TaggedText"
fault_name (Missing f) = codes "Missing"
fault_name (WrongForm f) = codes "WrongForm"
fault_name (UnknownWord f) = codes "UnknownWord"
fault_name UnknownKind = codes "UnknownKind"
fault_name Memory = codes "Memory"

-- the member that is at fault, where one is
abbrev pub fault_field : JsonFault → Option Field
fault_field Syntax = None
fault_field BadNumberToken = None
fault_field TaggedText = None
fault_field (Missing f) = Some f
fault_field (WrongForm f) = Some f
fault_field (UnknownWord f) = Some f
fault_field UnknownKind = None
fault_field Memory = None

-- how a refusal is told: its number and name, and the name of the member in brackets
abbrev pub fault_text : JsonFault → List ℕ
fault_text Syntax = codes "1 Syntax"
fault_text BadNumberToken = codes "2 BadNumberToken"
fault_text TaggedText = codes "3 TaggedText"
fault_text (Missing f) = codes "4 Missing(" ++ name_of f ++ codes ")"
fault_text (WrongForm f) = codes "5 WrongForm(" ++ name_of f ++ codes ")"
fault_text (UnknownWord f) = codes "6 UnknownWord(" ++ name_of f ++ codes ")"
fault_text UnknownKind = codes "7 UnknownKind"
fault_text Memory = codes "8 Memory"
