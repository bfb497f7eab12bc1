-- How a refusal is written: its number and its name.
use Rattle.std.specs.Prelude.{ℕ, List, codes}
use Rattle.outbox.specs.declared.fault.OutboxFault.{OutboxFault}
use Rattle.outbox.specs.declared.fault.OutboxFault.TheVariants.{NumbersUsedUp, Memory}

abbrev pub fault_text : OutboxFault → List ℕ
fault_text NumbersUsedUp = codes "2 NumbersUsedUp"
fault_text Memory = codes "3 Memory"
