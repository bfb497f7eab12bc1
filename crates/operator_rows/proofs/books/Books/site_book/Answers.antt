use Rattle.operator_rows.proofs.books.Books.site_book.Goals as goal

pub returns-clause-claims : goal.returns-clause-claims
returns-clause-claims c = rw (← c.self.view_is) c.self.invariant.indexed
