use Rattle.std.proofs.Common.{◌≡◌, ℕ, List, Option, Result, Ok, Err, IfErr, length, take, sym, subst, arith, take_all}
use Rattle.std.specs.Io.KnownBytes.{Appends, Keeps}
use Rattle.std.proofs.KnownBytes.{Appends-kept}
use Rattle.line_runs.specs.declared.outcome.RunFault.{RunFault}
use Rattle.line_runs.specs.declared.outcome.RunFault.TheVariants.{WriteFailed}
use Rattle.line_runs.proofs.writing.write_flushed.Goals as goal

-- the whole is a beginning too
whole : {T : Type 0} (result : Result T RunFault) (old now new : Option (List ℕ)) (bytes : List ℕ) → Appends old now bytes → Keeps now new → IfErr result (λ fault. fault ≡ WriteFailed)
    → IfErr result (λ fault. (fault ≡ WriteFailed) × (n : ℕ) × Appends old new (take n bytes))
whole (Ok x) old now new bytes a k e = tt
whole (Err fault) old now new bytes a k e = (e, length bytes, subst (Appends old new) (sym (take_all (length bytes) bytes (omega arith))) (Appends-kept old now new bytes a k))

pub returns-in-Ok-clause-err : goal.returns-in-Ok-clause-err
returns-in-Ok-clause-err g c = whole c.flush.result _ _ _ c.args.bytes.now c.in-Ok.ensures.ok c.flush.ensures.writer c.flush.ensures.err
