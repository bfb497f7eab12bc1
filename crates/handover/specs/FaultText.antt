-- How a refusal is written: its number and its name.
use Rattle.std.specs.Prelude.{ℕ, List, codes}
use Rattle.handover.specs.declared.fault.HandoverFault.{HandoverFault}
use Rattle.handover.specs.declared.fault.HandoverFault.TheVariants.{WrongParty, Memory}

abbrev pub fault_text : HandoverFault → List ℕ
fault_text WrongParty = codes "1 WrongParty"
fault_text Memory = codes "3 Memory"
