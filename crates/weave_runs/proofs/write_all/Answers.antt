use Rattle.std.proofs.Common.{ap, length, sym, subst, arith, take_all}
use Rattle.std.specs.Io.KnownBytes.{Appends}
use Rattle.std.proofs.KnownBytes.{Appends-kept}
use Rattle.weave_runs.specs.declared.fault.WeaveRunFault.TheVariants.{Run}
use Rattle.weave_runs.proofs.write_all.Goals as goal

-- the whole is a beginning too
pub returns-in-Err-flush-clause-err : goal.returns-in-Err-flush-clause-err
returns-in-Err-flush-clause-err g c =
    let bytes = c.args.bytes.now in (
      ap Run c.in-Err-flush.ensures.err,
      length bytes,
      subst (Appends _ _) (sym (take_all (length bytes) bytes (omega arith))) (Appends-kept _ _ _ bytes c.in-Ok.ensures.ok c.flush.ensures.writer),
    )
