use Rattle.std.proofs.lemmas.Option.{IfSome_then}
use Rattle.ocpi_text.specs.Text.{key}
use Rattle.site_book.proofs.Finding.{none_then, found_uid, sole_uid, no_evse_there}
use Rattle.site_book.proofs.book.SiteBook.named_evse.Goals as goal

pub returns-clause-found : goal.returns-clause-found
returns-clause-found c =
    IfSome_then c.evse_at.result (rw c.as_slice.ensures.value at c.evse_at.ensures.found)
    (λ e there. found_uid _ _ _ (rw (← c.self.view_is) at c.requires) c.args.uid.now c.in_ok-position.position (rw (← c.self.view_is) at c.in_ok-position.ensures.found) c.in_ok-position.ensures.there e.now there)

pub returns-clause-sole : goal.returns-clause-sole
returns-clause-sole c =
    IfSome_then c.evse_at.result (rw c.as_slice.ensures.value at c.evse_at.ensures.found)
    (λ e there. sole_uid _ _ _ (rw (← c.self.view_is) at c.requires) c.args.uid.now c.in_ok-position.position (rw (← c.self.view_is) at c.in_ok-position.ensures.found) c.self.invariant.1 e.now there)

pub returns-clause-none : goal.returns-clause-none
returns-clause-none c =
    none_then c.evse_at.result (rw c.as_slice.ensures.value at c.evse_at.ensures.none)
    (λ none. absurd (no_evse_there _ (key c.args.uid.now) c.in_ok-position.position (rw (← c.self.view_is) at c.in_ok-position.ensures.found) none))
