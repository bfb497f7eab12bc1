use Rattle.site_book.proofs.book.SiteBook.evses_differ.Goals as goal

pub returns : goal.returns
returns c = rw (← c.self.view_is) c.self.invariant.1
