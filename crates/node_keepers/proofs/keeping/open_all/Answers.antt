use Rattle.std.proofs.Common.{inr, refl}
use Rattle.node_keepers.proofs.KeeperLemmas.{err_one}
use Rattle.node_keepers.specs.Keeping.{AreUnopened, keeping_of}
use Rattle.node_keepers.proofs.keeping.open_all.Goals as goal

-- there is no room for the list of them
pub returns-in_err-kept-clause-err : goal.returns-in_err-kept-clause-err
returns-in_err-kept-clause-err g c =
    err_one (AreUnopened (keeping_of g.S.Kept.Keep.content g.S.Kept.Keep.is_honest g.S.Kept.Keep.refusals) g.S.Keeps.may_refuse c.args.setup.now) c.from_residual.result _ c.from_residual.ensures.1 (inr refl)
