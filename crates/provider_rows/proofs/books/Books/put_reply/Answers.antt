use Rattle.provider_rows.proofs.KeepingRows.{kept_put_reply}
use Rattle.provider_rows.proofs.books.Books.put_reply.Goals as goal

pub invariant_of-self : goal.invariant_of-self
invariant_of-self c = rw c.put_row.ensures.rows (kept_put_reply _ _ _ c.self.invariant c.args.sender c.args.number c.args.reply)
