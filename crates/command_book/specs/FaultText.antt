-- How a refusal is written: its number and its name.
use Rattle.std.specs.Prelude.{ℕ, List, codes}
use Rattle.command_book.specs.declared.fault.CommandFault.{CommandFault}
use Rattle.command_book.specs.declared.fault.CommandFault.TheVariants.{AlreadyOpen, Settled, Memory}

abbrev pub fault_text : CommandFault → List ℕ
fault_text AlreadyOpen = codes "1 AlreadyOpen"
fault_text Settled = codes "2 Settled"
fault_text Memory = codes "3 Memory"
