use Rattle.operator_rows.proofs.ClaimIndex.{contained, found_spent}
use Rattle.operator_rows.proofs.books.Books.is_spent.Goals as goal

pub returns-in-Some-clause-yes : goal.returns-in-Some-clause-yes
returns-in-Some-clause-yes c = rw (c.in-Some.is, ← c.self.view_is) (contained _ c.contains.result (cc))

pub returns-in-Some-clause-no : goal.returns-in-Some-clause-no
returns-in-Some-clause-no c = rw (c.in-Some.is, ← c.self.view_is) (found_spent _ c.contains.result (cc))
