use Rattle.std.proofs.Common.{sym, ap, subst, ◌∙◌, ◌++◌}
use Rattle.outbox.specs.OutboxListing.{AreRowsOf, rows_of}
use Rattle.outbox.proofs.OutboxListed.{rows_are}
use Rattle.outbox.proofs.outbox.Outbox.rows.Goals as goal

pub returns : goal.returns
returns c = subst (λ l. AreRowsOf l c.args.self.now.rows) (sym (c.in_ok-push_rows.ensures ∙ ap (λ l. l ++ rows_of c.args.self.now.rows) c.new-rows.ensures.items)) (rows_are c.args.self.now.rows)
