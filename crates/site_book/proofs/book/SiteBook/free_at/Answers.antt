use Rattle.std.proofs.lemmas.Option.{IfSome_then}
use Rattle.site_book.proofs.Finding.{none_from, none_then, any_there, marked_there, marked_stands, none_marked, first_marked}
use Rattle.site_book.proofs.book.SiteBook.free_at.Goals as goal

pub returns-in_err-place-clause-none : goal.returns-in_err-place-clause-none
returns-in_err-place-clause-none c = none_from c.from_residual.result
    (rw (← c.self.view_is) (none_marked _ _ _ (rw (← c.self.view_is) at c.requires) _ _ c.self.invariant.2.free (rw c.as_slice.ensures.value at c.in_err-place.ensures.none)))

pub returns-clause-found : goal.returns-clause-found
returns-clause-found c =
    IfSome_then c.evse_at.result (rw c.as_slice-2.ensures.value at c.evse_at.ensures.found) (λ e there. any_there _ _ _ (rw (← c.self.view_is) at c.requires) c.in_ok-place.place e.now there)

pub returns-clause-free : goal.returns-clause-free
returns-clause-free c =
    rw (← c.self.view_is) (IfSome_then c.evse_at.result (rw c.as_slice-2.ensures.value at c.evse_at.ensures.found)
    (λ e there. marked_there _ _ _ (rw (← c.self.view_is) at c.requires) _ _ c.self.invariant.2.free c.in_ok-place.place e.now (rw c.as_slice.ensures.value at c.in_ok-place.ensures.some) there))

pub returns-clause-none : goal.returns-clause-none
returns-clause-none c =
    rw (← c.self.view_is) (none_then c.evse_at.result (rw c.as_slice-2.ensures.value at c.evse_at.ensures.none)
    (λ none. absurd (marked_stands _ _ _ (rw (← c.self.view_is) at c.requires) _ _ c.self.invariant.2.free c.in_ok-place.place (rw c.as_slice.ensures.value at c.in_ok-place.ensures.some) none)))

pub returns-clause-first : goal.returns-clause-first
returns-clause-first c =
    rw (← c.self.view_is) (IfSome_then c.evse_at.result (rw c.as_slice-2.ensures.value at c.evse_at.ensures.found)
    (λ e there. first_marked _ _ _ (rw (← c.self.view_is) at c.requires) _ _ c.self.invariant.2.free c.in_ok-place.place e.now (rw c.as_slice.ensures.value at c.in_ok-place.ensures.first) there))
