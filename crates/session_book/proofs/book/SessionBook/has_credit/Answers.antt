use Rattle.session_book.proofs.Bills.{credit_of}
use Rattle.session_book.proofs.book.SessionBook.has_credit.Goals as goal

pub returns : goal.returns
returns c = rw (← c.self.view_is) (credit_of _ c.args.session _ c.has_credit.ensures)
