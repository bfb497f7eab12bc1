use Rattle.std.proofs.Common.{sym}
use Rattle.std.proofs.lemmas.Option.{IfSome_then}
use Rattle.site_book.specs.Sites.{location_of}
use Rattle.site_book.proofs.Finding.{none_from, none_then, unknown_id, no_location, found_id, sole_id}
use Rattle.site_book.proofs.book.SiteBook.find_location.Goals as goal

pub returns-in_err-position-clause-none : goal.returns-in_err-position-clause-none
returns-in_err-position-clause-none c =
    rw (← c.self.view_is) (none_from c.from_residual.result (unknown_id _ _ c.self.invariant.2.ids c.args.id.now (sym (rw c.of-key.ensures at c.in_err-position.ensures.found))))

pub returns-clause-named : goal.returns-clause-named
returns-clause-named c =
    rw (← c.self.view_is) (IfSome_then c.location_at.result (rw (← c.self.view_is) at c.location_at.ensures.stands)
    (λ f stands. found_id _ _ c.self.invariant.2.ids c.args.id.now c.in_ok-position.position (sym (rw c.of-key.ensures at c.in_ok-position.ensures.index)) (location_of f) stands))

pub returns-clause-sole : goal.returns-clause-sole
returns-clause-sole c =
    rw (← c.self.view_is) (IfSome_then c.location_at.result (rw (← c.self.view_is) at c.location_at.ensures.stands)
    (λ f stands. sole_id _ _ c.self.invariant.2.ids c.args.id.now c.in_ok-position.position (sym (rw c.of-key.ensures at c.in_ok-position.ensures.index)) c.self.invariant.0 (location_of f) stands))

pub returns-clause-none : goal.returns-clause-none
returns-clause-none c =
    rw (← c.self.view_is) (none_then c.location_at.result (rw (← c.self.view_is) at c.location_at.ensures.none)
    (λ none. absurd (no_location _ _ c.self.invariant.2.ids c.args.id.now c.in_ok-position.position (sym (rw c.of-key.ensures at c.in_ok-position.ensures.index)) none)))
