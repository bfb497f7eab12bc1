use Rattle.site_book.proofs.Finding.{none_from, is_of_site, other_location}
use Rattle.site_book.proofs.book.SiteBook.named_position.Goals as goal

pub returns-in_err-position-clause-none : goal.returns-in_err-position-clause-none
returns-in_err-position-clause-none c =
    none_from c.from_residual.result (λ e is. (rw c.key.ensures at c.in_err-position.ensures.none) (is_of_site _ _ _ c.requires c.args.uid.now e is))

pub returns-then-position-at-clause-none : goal.returns-then-position-at-clause-none
returns-then-position-at-clause-none c =
    other_location _ _ _ c.requires c.args.uid.now c.in_ok-position.position (rw c.key.ensures at c.in_ok-position.ensures.found) c.evses_differ.ensures c.if-position-at.true
