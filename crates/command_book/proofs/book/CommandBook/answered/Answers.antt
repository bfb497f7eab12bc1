use Rattle.command_book.proofs.book.CommandBook.answered.Goals as goal

pub returns : goal.returns
returns c = rw (← c.self.view_is) (cc)
