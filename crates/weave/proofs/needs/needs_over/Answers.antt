use Rattle.std.proofs.Common.{sym, subst, ◌+◌}
use Rattle.std.proofs.lemmas.Result.{err_from_is_err_and}
use Rattle.weave.specs.Needs.{AreAllNeeds}
use Rattle.weave.proofs.Needing.{explained, rows_push}
use Rattle.weave.proofs.needs.needs_over.Goals as goal

pub returns-in_err-row-clause-fault : goal.returns-in_err-row-clause-fault
returns-in_err-row-clause-fault c =
    let p = err_from_is_err_and c.from_residual.result c.from_residual.ensures.1 in
    rw (p.1, p.2) (explained c.args.given.now c.args.histories.now c.loop-number.number c.loop-number.rows.items c.loop-number.invariant c.in_err-row.field-0.0 c.in_err-row.ensures.fault)

pub loop-number-preserved : goal.loop-number-preserved
loop-number-preserved c =
    subst (AreAllNeeds c.args.given.now c.args.histories.now (c.loop-number.number + 1)) (sym c.in_ok-push.ensures.items)
    (rows_push c.args.given.now c.args.histories.now c.loop-number.number c.loop-number.rows.items c.loop-number.invariant c.in_ok-row.row c.in_ok-row.ensures.needs)
