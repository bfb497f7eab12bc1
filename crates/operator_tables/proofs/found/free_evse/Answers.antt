use Rattle.std.proofs.Common.{◌∙◌, sym, ap, subst}
use Rattle.std.specs.Prelude.{IsTrue}
use Rattle.ocpi_text.specs.Text.{key}
use Rattle.site_book.specs.Sites.{IsEvse, is_free}
use Rattle.operator_tables.proofs.FreePlaces.{named_first, named_taken}
use Rattle.operator_tables.proofs.found.free_evse.Goals as goal

pub returns-then-not-is_free-clause-none : goal.returns-then-not-is_free-clause-none
returns-then-not-is_free-clause-none c =
    let e = c.requires.evse in
    let s = c.args.site.now in
    let its = sym (c.key.ensures ∙ ap key e.2) in
    named_taken s _ _ c.args.name.now _ e.0 c.requires.found c.in-Some.is e.1 c.is_free.result
    (λ h. c.is_free.ensures.1 (subst (IsEvse s.site.locations) its h.0, subst (λ k. IsTrue (is_free s.claims s.out_of_service k)) its h.1)) (cc)

pub returns-else-not-is_free-clause-found : goal.returns-else-not-is_free-clause-found
returns-else-not-is_free-clause-found c =
    let e = c.requires.evse in
    let s = c.args.site.now in
    let free = (c.is_free.ensures.0 (cc)).1 in
    (e.0, named_first s _ _ c.args.name.now _ e.0 c.requires.found c.in-Some.is e.1 c.evses_differ.ensures (subst (λ k. IsTrue (is_free s.claims s.out_of_service k)) (c.key.ensures ∙ ap key e.2) free), e.2)
