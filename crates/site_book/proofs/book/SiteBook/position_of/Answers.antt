use Rattle.site_book.proofs.Finding.{found_there, none_there}
use Rattle.site_book.proofs.book.SiteBook.position_of.Goals as goal

pub returns-clause-found : goal.returns-clause-found
returns-clause-found c = rw (← c.self.view_is) (found_there _ _ _ _ c.self.invariant.2.evses_found c.args.evse c.position.result c.position.ensures)

pub returns-clause-none : goal.returns-clause-none
returns-clause-none c = rw (← c.self.view_is) (none_there _ _ _ _ c.self.invariant.2.evses_found c.args.evse c.position.result c.position.ensures)
