use Rattle.std.proofs.Common.{◌≡◌, IfSome, not, sym, ap, subst, ◌∙◌, arith}
use Rattle.sqlite.specs.State.{HasCleanDisk}
use Rattle.sqlite.specs.Held.{state}
use Rattle.row_table.specs.Layout.{both_tables}
use Rattle.row_table.specs.Contents.{HasVersion}
use Rattle.row_table.proofs.OpenLemmas.{of_version}
use Rattle.row_table.proofs.opening.check_tables.Goals as goal

pub returns-clause-one : goal.returns-clause-one
returns-clause-one g c clean =
    let old = state g.S.Store c.args.conn.now in
    let mid = state g.S.Store c.version_of.new.conn in
    let early : HasCleanDisk mid = omega (arith, c.are_rows_whole.ensures.crash.clean) in
    let has : old.now.schema ≡ both_tables = sym c.schema.ensures.value ∙ c.in_ok-check_schema.ensures.ours in
    let was = c.in_ok-found.ensures.was_open early in
    let idle = c.is_autocommit-settled.ensures.value ∙ ap not c.requires in
    of_version old mid c.in-Some.found was (c.in_ok-are_rows_whole.ensures.was_open clean) (c.schema.ensures.live was).0 (c.is_autocommit-settled.ensures.settled idle was) (c.version_of.ensures.same early) has
    (subst (λ o. IfSome o (λ v. HasVersion v old.now.trees)) c.in-Some.is (c.in_ok-found.ensures.one early has)) (λ also. c.in_ok-are_rows_whole.ensures.whole clean also c.if-not-branch.false)
