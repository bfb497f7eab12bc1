use Rattle.std.proofs.lemmas.Option.{IfSome_then}
use Rattle.site_book.proofs.Finding.{none_then, no_place}
use Rattle.site_book.proofs.book.SiteBook.free_place.Goals as goal

pub returns-clause-none : goal.returns-clause-none
returns-clause-none c =
    none_then c.place_of.result
    (no_place _ c.place_of.result c.args.evse_uid.now c.args.connector_id.now c.in_ok-evse.evse.now c.requires.named c.in_ok-evse.ensures.sole c.place_of.ensures.none c.place_of.ensures.first)
    (λ none e k fit free. none e k fit)

pub returns-clause-found : goal.returns-clause-found
returns-clause-found c = IfSome_then c.place_of.result c.place_of.ensures.found (λ p there. record {
  evse = c.in_ok-evse.evse.now;
  connector = there.0;
  fits = record { listed = c.in_ok-evse.ensures.found.listed; named = c.in_ok-evse.ensures.found.named; chosen = there.1 };
  free = c.in_ok-evse.ensures.free;
  first = c.in_ok-evse.ensures.first;
  place_is = there.2;
})
