-- How a refusal is written: its number and its name.
use Rattle.std.specs.Prelude.{ℕ, List, codes}
use Rattle.session_state.specs.declared.fault.SessionFault.{SessionFault}
use Rattle.session_state.specs.declared.fault.SessionFault.TheVariants.{StampEnd, Memory}

abbrev pub fault_text : SessionFault → List ℕ
fault_text StampEnd = codes "1 StampEnd"
fault_text Memory = codes "2 Memory"
