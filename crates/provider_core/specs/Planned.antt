-- What a step answers, and when what a line asks for is refused.
use Rattle.std.specs.Prelude.{◌≤◌, ℕ, List, [], ◌∷◌, ⊤}
use Rattle.ocpi_text.specs.Whole.{max_whole}
use Rattle.ocpi_types.specs.declared.rows.Change.{Change}
use Rattle.ocpi_types.specs.declared.rows.Change.TheVariants.{Put, Drop}
use Rattle.ocpi_types.specs.declared.rows.Counter.{Counter}
use Rattle.ocpi_types.specs.declared.rows.Counter.TheVariants.{Serial, Request, Session, Cdr, Reference}
use Rattle.ocpi_types.specs.declared.rows.Row.{Row}
use Rattle.ocpi_types.specs.declared.rows.Row.TheVariants as row
use Rattle.node_steps.specs.Acts.{Act, all_changes}
use Rattle.node_steps.specs.declared.fault.NodeFault.{NodeFault}
use Rattle.node_steps.specs.declared.fault.NodeFault.TheVariants.{NotForMe, UnknownOperator, UnknownToken, StampEnd, NumbersUsedUp, Memory}
use Rattle.node_steps.specs.declared.plan.Stepped.{Stepped}
use Rattle.provider_rows.specs.State.{State}
use Rattle.provider_steps.specs.Faults.{MayStep, PassesLast}
use Rattle.provider_steps.specs.Moves.{Out}

abbrev pub out_of : State → Stepped → Out
out_of s x = record { state = s; changes = x.rows.items; packets = x.packets.items }

-- why what a line asks for is refused: a counter would pass its last number, or else memory ran out
abbrev pub IsLineFault : (List Act → Type 0) → State → NodeFault → Type 0
IsLineFault Line s NotForMe = ⊥
IsLineFault Line s UnknownOperator = ⊥
IsLineFault Line s UnknownToken = ⊥
IsLineFault Line s StampEnd = ⊥
IsLineFault Line s NumbersUsedUp = PassesLast Line s
IsLineFault Line s Memory = MayStep Line s

-- a row does not take the counter of references past its last number
abbrev pub IsCountWithin : Counter → ℕ → Type 0
IsCountWithin Reference n = n ≤ max_whole
IsCountWithin Serial n = ⊤
IsCountWithin Request n = ⊤
IsCountWithin Session n = ⊤
IsCountWithin Cdr n = ⊤

abbrev pub IsRowWithin : Row → Type 0
IsRowWithin (row.Count c n) = IsCountWithin c n
IsRowWithin (row.Reply sender number reply) = ⊤
IsRowWithin (row.Token t) = ⊤
IsRowWithin (row.Push n to push) = ⊤
IsRowWithin (row.Command n command) = ⊤
IsRowWithin (row.Session x) = ⊤
IsRowWithin (row.Cdr x) = ⊤
IsRowWithin (row.Service evse) = ⊤
IsRowWithin (row.Spent provider reference) = ⊤
IsRowWithin (row.Mark provider id n) = ⊤
IsRowWithin (row.Reservation provider id r) = ⊤
IsRowWithin (row.Pending provider n o) = ⊤
IsRowWithin (row.Result provider n x) = ⊤

abbrev pub IsWithin : Change → Type 0
IsWithin (Put r) = IsRowWithin r
IsWithin (Drop k) = ⊤

abbrev pub AreWithin : List Change → Type 0
AreWithin [] = ⊤
AreWithin (c ∷ cs) = IsWithin c × AreWithin cs

-- acts that do not take the counter of references past its last number
abbrev pub ReferWithin : List Act → Type 0
ReferWithin acts = AreWithin (all_changes acts)
