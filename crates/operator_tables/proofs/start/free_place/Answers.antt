use Rattle.std.proofs.Common.{◌≡◌, ◌∙◌, sym, ap, subst}
use Rattle.std.specs.Prelude.{IsTrue}
use Rattle.ocpi_text.specs.Text.{key}
use Rattle.ocpi_types.specs.declared.rows.Place.{Place}
use Rattle.site_book.specs.Sites.{IsEvse, is_free}
use Rattle.operator_tables.proofs.FreePlaces.{named_first, named_taken}
use Rattle.operator_tables.proofs.start.free_place.Goals as goal

pub returns-then-not-is_free-clause-none : goal.returns-then-not-is_free-clause-none
returns-then-not-is_free-clause-none c = λ f k fits.
    let p = c.requires.place in
    let s = c.args.site.now in
    let its = sym (c.key.ensures ∙ ap (λ (x : Place). key x.evse_uid) p.3) in
    named_taken s _ _ c.args.command.now.evse_uid _ p.0 c.requires.found c.in-Some.is (record { listed = p.2.listed; named = p.2.named }) c.is_free.result
    (λ h. c.is_free.ensures.1 (subst (IsEvse s.site.locations) its h.0, subst (λ k. IsTrue (is_free s.claims s.out_of_service k)) its h.1)) (cc) f (record { listed = fits.listed; named = fits.named })

pub returns-else-not-is_free-clause-found : goal.returns-else-not-is_free-clause-found
returns-else-not-is_free-clause-found c =
    let p = c.requires.place in
    let s = c.args.site.now in
    let free = (c.is_free.ensures.0 (cc)).1 in
    let first = named_first s _ _ c.args.command.now.evse_uid _ p.0 c.requires.found c.in-Some.is (record { listed = p.2.listed; named = p.2.named }) c.evses_differ.ensures
    (subst (λ k. IsTrue (is_free s.claims s.out_of_service k)) (c.key.ensures ∙ ap (λ (x : Place). key x.evse_uid) p.3) free) in
    record { evse = p.0; connector = p.1; fits = p.2; free = first.free; first = first.first; place_is = p.3 }
