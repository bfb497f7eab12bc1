use Rattle.std.proofs.Common.{◌∙◌, sym}
use Rattle.tables.proofs.Ordered.{least_after, none_after}
use Rattle.sorted_lists.proofs.list.SortedList.first_after.Goals as goal

pub returns-in_err-found-clause-none : goal.returns-in_err-found-clause-none
returns-in_err-found-clause-none g c = rw c.from_residual.ensures (none_after g.met.K.Ord.total g.met.K.TableKey.exact _ c.args.key (sym c.range_after.ensures ∙ c.in_err-found.ensures.steps.0))

pub returns-clause-some : goal.returns-clause-some
returns-clause-some g c = least_after g.met.K.Ord.total g.met.K.TableKey.exact _ c.args.key _ _ (sym c.range_after.ensures ∙ c.in_ok-found.ensures.steps)
