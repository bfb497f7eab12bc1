use Rattle.std.proofs.Common.{refl, subst, take_all, rules, to_z-of_z, SFits, w64}
use Rattle.row_table.specs.Checking.{AreWhole}
use Rattle.row_table.proofs.CheckLemmas.{one_checked}
use Rattle.row_table.proofs.checking.are_whole.Goals as goal

pub loop-row-preserved : goal.loop-row-preserved
loop-row-preserved c =
    let at = c.loop-row in
    let id = c.in_ok-id.id in
    let fits : SFits w64 id = search rules in
    simp (to_z-of_z, fits) (one_checked c.args.rows.now at.row-index at.last c.row-item.result id c.loop-row-test.true c.row-item.is c.in_ok-id.ensures.whole c.in_ok-id.ensures.id
    (simp (to_z-of_z, fits) at (c.if-not-is_above.ensures refl)) at.invariant)

pub returns : goal.returns
returns c _ =
    let at = c.loop-row in
    subst AreWhole (take_all at.row-index c.args.rows.now c.loop-row-test.false) at.invariant.whole
