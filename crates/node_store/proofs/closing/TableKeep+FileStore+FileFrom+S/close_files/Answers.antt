use Rattle.std.proofs.Common.{subst}
use Rattle.sqlite.specs.Closing.{IsCopied}
use Rattle.node_store.specs.Closed.{IsUnclosed}
use Rattle.node_store.proofs.closing.TableKeep+FileStore+FileFrom+S.close_files.Goals as goal

pub returns-in-Ok-clause-copied : goal.returns-in-Ok-clause-copied
returns-in-Ok-clause-copied g c clean = subst (λ conn. IsCopied conn c.in-Ok.files) c.into_connection.ensures (c.in-Ok.ensures.copied clean)

pub returns-in-Err-clause-unclosed : goal.returns-in-Err-clause-unclosed
returns-in-Err-clause-unclosed g c =
    subst (λ conn. IsUnclosed conn c.in-Err.store c.fault_of.result) c.into_connection.ensures (record {
      error = c.in-Err.error;
      told = c.fault_of.ensures.value;
      kind = c.in-Err.ensures.kind;
      closed = c.in-Err.ensures.err.0;
      cause = c.in-Err.ensures.err.1;
    })
