use Rattle.std.proofs.Common.{refl}
use Rattle.node_runs.proofs.beginning.begin_over.Goals as goal

pub returns-in-Ok-clause-ok : goal.returns-in-Ok-clause-ok
returns-in-Ok-clause-ok g c =
    (c.party-party.ensures, record { fresh = c.args.keep; settled = c.requires.settled; reopens = c.in-Ok.ensures.ok; stored = c.is_stored.ensures; again = c.in-Ok.ensures.again }, refl)

pub returns-in-Err-clause-err : goal.returns-in-Err-clause-err
returns-in-Err-clause-err g c = (
  c.in-Err.unopened.fault,
  c.in-Err.unopened.keep,
  record { fresh = c.args.keep; settled = c.requires.settled; is = c.in-Err.ensures.err; keeps = c.in-Err.ensures.kept; good = c.in-Err.ensures.good },
  refl,
  refl,
  c.stop_of.ensures,
)
