use Rattle.std.proofs.Common.{sym, ◌∙◌}
use Rattle.site_book.proofs.Finding.{evse_known, known_evse}
use Rattle.site_book.proofs.book.SiteBook.has_evse.Goals as goal

pub returns : goal.returns
returns c = rw (← c.self.view_is) (
  λ is. evse_known _ _ _ _ c.self.invariant.2.evses_found c.args.evse (sym c.contains.ensures ∙ is),
  λ is. c.contains.ensures ∙ known_evse _ _ _ _ c.self.invariant.2.evses_found c.args.evse is,
)
