use Rattle.site_book.specs.Sites.{location_of}
use Rattle.site_book.proofs.Finding.{none_from, no_evse_there, found_of, sole_of}
use Rattle.site_book.proofs.book.SiteBook.find_of.Goals as goal

pub returns-in_err-found-clause-none : goal.returns-in_err-found-clause-none
returns-in_err-found-clause-none c =
    none_from c.from_residual-in_err-found.result (absurd (no_evse_there _ c.args.evse c.in_ok-position.position (rw (← c.self.view_is) at c.in_ok-position.ensures.found) (rw c.as_slice.ensures.value at c.in_err-found.ensures.none)))

pub returns-clause-named : goal.returns-clause-named
returns-clause-named c =
    rw (← c.self.view_is)
    (found_of _ c.args.evse c.in_ok-position.position (rw (← c.self.view_is) at c.in_ok-position.ensures.found) (location_of c.in_ok-location.location) (rw (← c.self.view_is) at c.in_ok-location.ensures.stands) c.in_ok-found.found.now (rw c.as_slice.ensures.value at c.in_ok-found.ensures.found))

pub returns-clause-sole : goal.returns-clause-sole
returns-clause-sole c =
    rw (← c.self.view_is)
    (sole_of _ c.args.evse c.in_ok-position.position (rw (← c.self.view_is) at c.in_ok-position.ensures.found) (location_of c.in_ok-location.location) (rw (← c.self.view_is) at c.in_ok-location.ensures.stands) c.in_ok-found.found.now (rw c.as_slice.ensures.value at c.in_ok-found.ensures.found) c.self.invariant.1)
