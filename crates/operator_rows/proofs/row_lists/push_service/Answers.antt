use Rattle.std.proofs.Common.{◌++◌, map, ap, ◌∙◌}
use Rattle.operator_rows.specs.Listing.{service_row}
use Rattle.tables.proofs.Elements.{one_more, none_left}
use Rattle.operator_rows.proofs.row_lists.push_service.Goals as goal

pub loop-key-preserved : goal.loop-key-preserved
loop-key-preserved c = one_more _ _ _ _ _ _ c.in_ok-push.ensures.items (ap (map service_row) c.in-Some.ensures.steps) c.loop-key.invariant

pub returns : goal.returns
returns c = none_left _ _ _ (ap (map service_row) c.in-None.ensures.steps.0) c.loop-key.invariant ∙ ap (λ l. c.args.rows.now.items ++ map service_row l) (cc)
