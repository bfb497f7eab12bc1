-- How a refusal is told: its number and its name.
use Rattle.std.specs.Prelude.{ℕ, List, codes}
use Rattle.node_steps.specs.declared.fault.NodeFault.{NodeFault}
use Rattle.node_steps.specs.declared.fault.NodeFault.TheVariants.{NotForMe, UnknownOperator, UnknownToken, StampEnd, NumbersUsedUp, Memory}

abbrev pub fault_number : NodeFault → ℕ
fault_number NotForMe = 1
fault_number NumbersUsedUp = 2
fault_number StampEnd = 3
fault_number Memory = 4
fault_number UnknownOperator = 5
fault_number UnknownToken = 6

abbrev pub fault_name : NodeFault → List ℕ
fault_name NotForMe = codes "NotForMe"
fault_name NumbersUsedUp = codes "NumbersUsedUp"
fault_name StampEnd = codes "StampEnd"
fault_name Memory = codes "Memory"
fault_name UnknownOperator = codes "UnknownOperator"
fault_name UnknownToken = codes "UnknownToken"

abbrev pub fault_text : NodeFault → List ℕ
fault_text NotForMe = codes "1 NotForMe"
fault_text UnknownOperator = codes "5 UnknownOperator"
fault_text UnknownToken = codes "6 UnknownToken"
fault_text StampEnd = codes "3 StampEnd"
fault_text NumbersUsedUp = codes "2 NumbersUsedUp"
fault_text Memory = codes "4 Memory"
