-- A refusal that was due.
use Rattle.std.proofs.Common.{◌≡◌, Err}
use Rattle.json_text.specs.declared.fault.JsonFault.{JsonFault}
use Rattle.json_text.specs.declared.fault.JsonFault.TheVariants.{Syntax, BadNumberToken, TaggedText, Missing, WrongForm, UnknownWord, UnknownKind, Memory}
use Rattle.json_text.specs.Fault.{Read, Fails}

pub Fails-err : {X : Type 0} (e : JsonFault) (r : Read X) → r ≡ Err e → Fails e r
Fails-err Memory r h = tt
Fails-err Syntax r h = h
Fails-err BadNumberToken r h = h
Fails-err TaggedText r h = h
Fails-err (Missing f) r h = h
Fails-err (WrongForm f) r h = h
Fails-err (UnknownWord f) r h = h
Fails-err UnknownKind r h = h

-- what failed, and is passed on
pub Fails-through : {X Y : Type 0} (e : JsonFault) (r : Read X) (s : Read Y) → Fails e r → ((f : JsonFault) → r ≡ Err f → s ≡ Err f) → Fails e s
Fails-through Memory r s h k = tt
Fails-through Syntax r s h k = k Syntax h
Fails-through BadNumberToken r s h k = k BadNumberToken h
Fails-through TaggedText r s h k = k TaggedText h
Fails-through (Missing f) r s h k = k (Missing f) h
Fails-through (WrongForm f) r s h k = k (WrongForm f) h
Fails-through (UnknownWord f) r s h k = k (UnknownWord f) h
Fails-through UnknownKind r s h k = k UnknownKind h
