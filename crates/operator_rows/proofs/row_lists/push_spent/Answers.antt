use Rattle.std.proofs.Common.{◌++◌, map, ap, ◌∙◌}
use Rattle.operator_rows.specs.Listing.{spent_row}
use Rattle.tables.proofs.Elements.{one_more, none_left}
use Rattle.operator_rows.proofs.row_lists.push_spent.Goals as goal

pub loop-key-preserved : goal.loop-key-preserved
loop-key-preserved c = one_more _ _ _ _ _ _ c.in_ok-push.ensures.items (ap (map spent_row) c.in-Some.ensures.steps) c.loop-key.invariant

pub returns : goal.returns
returns c = (c.iter-key-items.result, c.iter-key-items.ensures, none_left _ _ _ (ap (map spent_row) c.in-None.ensures.steps.0) c.loop-key.invariant ∙ ap (λ l. c.args.rows.now.items ++ map spent_row l) (cc))
