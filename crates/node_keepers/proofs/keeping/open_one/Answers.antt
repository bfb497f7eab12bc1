use Rattle.node_keepers.specs.Keeping.{IsUnopened, Not_opened, keeping_of}
use Rattle.node_keepers.proofs.KeeperLemmas.{err_one, not_taken}
use Rattle.node_keepers.proofs.keeping.open_one.Goals as goal

pub returns-in_err-keep-clause-err : goal.returns-in_err-keep-clause-err
returns-in_err-keep-clause-err g c =
    err_one (IsUnopened (keeping_of g.S.Kept.Keep.content g.S.Kept.Keep.is_honest g.S.Kept.Keep.refusals) g.S.Keeps.may_refuse c.args.place) c.from_residual.result _ c.from_residual.ensures.1 (Not_opened c.in_err-keep.ensures.fault)

pub returns-in-Err-clause-err : goal.returns-in-Err-clause-err
returns-in-Err-clause-err g c =
    not_taken (keeping_of g.S.Kept.Keep.content g.S.Kept.Keep.is_honest g.S.Kept.Keep.refusals) g.S.Keeps.may_refuse c.args.place c.in-Err.fault c.in_ok-keep.keep c.try_empty.new.keep
    c.in-Err.ensures.err
