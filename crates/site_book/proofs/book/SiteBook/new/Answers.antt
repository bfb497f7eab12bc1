use Rattle.site_book.proofs.Apart.{one_evse_each, one_location_each}
use Rattle.site_book.proofs.book.SiteBook.new.Goals as goal

pub invariant_of-result : goal.invariant_of-result
invariant_of-result c = (one_location_each _ c.as_slice.ensures.are.apart, one_evse_each _ c.as_slice.ensures.are.evses_apart, rw c.as_slice.ensures.value at c.in_ok-indexes.ensures.found)
