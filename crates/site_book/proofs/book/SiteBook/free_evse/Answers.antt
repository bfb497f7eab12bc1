use Rattle.std.proofs.lemmas.Option.{IfSome_then}
use Rattle.ocpi_text.specs.Text.{key}
use Rattle.ocpi_types.specs.declared.site.Evse.{Evse}
use Rattle.site_book.proofs.Finding.{first_named, first_of, found_uid, no_evse_there, none_then, sole_uid}
use Rattle.site_book.proofs.book.SiteBook.free_evse.Goals as goal

pub returns-in-None-clause-first : goal.returns-in-None-clause-first
returns-in-None-clause-first c = rw c.in-None.is (IfSome_then c.free_at.result c.free_at.ensures.first (λ e first. first_of _ _ _ e.now (λ (f : Evse) free. free.free) first))

pub returns-else-not-is_free_at-clause-first : goal.returns-else-not-is_free_at-clause-first
returns-else-not-is_free_at-clause-first c =
    let has = rw (← c.self.view_is) at c.in_ok-position-in-Some.ensures.found in
    rw c.in-Some.is
    (rw (← c.self.view_is) (IfSome_then c.evse_at.result (rw c.as_slice.ensures.value at c.evse_at.ensures.found)
    (λ e there. first_named _ _ _ (rw (← c.self.view_is) at c.requires) c.self.invariant.1 _ _ _ (λ (f : Evse) free. free.named)
    (found_uid _ _ _ (rw (← c.self.view_is) at c.requires) c.in-Some.uid c.in_ok-position-in-Some.position has c.in_ok-position-in-Some.ensures.there e.now there))))

pub returns-else-not-is_free_at-clause-sole : goal.returns-else-not-is_free_at-clause-sole
returns-else-not-is_free_at-clause-sole c =
    let has = rw (← c.self.view_is) at c.in_ok-position-in-Some.ensures.found in
    rw c.in-Some.is
    (IfSome_then c.evse_at.result (rw c.as_slice.ensures.value at c.evse_at.ensures.found)
    (λ e there some. sole_uid _ _ _ (rw (← c.self.view_is) at c.requires) c.in-Some.uid c.in_ok-position-in-Some.position has c.self.invariant.1 e.now there))

pub returns-else-not-is_free_at-clause-none : goal.returns-else-not-is_free_at-clause-none
returns-else-not-is_free_at-clause-none c =
    let has = rw (← c.self.view_is) at c.in_ok-position-in-Some.ensures.found in
    none_then c.evse_at.result (rw c.as_slice.ensures.value at c.evse_at.ensures.none)
    (λ none. absurd (no_evse_there _ (key c.in-Some.uid) c.in_ok-position-in-Some.position has none))
