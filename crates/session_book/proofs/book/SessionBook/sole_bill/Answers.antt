use Rattle.session_book.proofs.Bills.{none_bill_of, some_bill_of}
use Rattle.session_book.proofs.book.SessionBook.sole_bill.Goals as goal

pub returns-clause-some : goal.returns-clause-some
returns-clause-some c = rw (← c.self.view_is) (some_bill_of _ c.args.session _ c.sole_bill.ensures.some)

pub returns-clause-none : goal.returns-clause-none
returns-clause-none c = rw (← c.self.view_is) (none_bill_of _ c.args.session _ c.sole_bill.ensures.none)
