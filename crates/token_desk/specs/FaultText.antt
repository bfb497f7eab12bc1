-- How a refusal is written: its number and its name.
use Rattle.std.specs.Prelude.{ℕ, List, codes}
use Rattle.token_desk.specs.declared.fault.TokenFault.{TokenFault}
use Rattle.token_desk.specs.declared.fault.TokenFault.TheVariants.{UnknownToken, WrongParty, NumbersUsedUp, Memory}

abbrev pub fault_text : TokenFault → List ℕ
fault_text UnknownToken = codes "1 UnknownToken"
fault_text WrongParty = codes "2 WrongParty"
fault_text NumbersUsedUp = codes "3 NumbersUsedUp"
fault_text Memory = codes "4 Memory"
