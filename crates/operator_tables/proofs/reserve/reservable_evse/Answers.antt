use Rattle.std.proofs.lemmas.Option.{IfSome_then}
use Rattle.site_book.proofs.Finding.{none_then}
use Rattle.site_book.specs.Sites.{location_of}
use Rattle.operator_tables.specs.Reserve.{First, Own}
use Rattle.operator_tables.proofs.Reserving.{first_reservable, own_reservable, free_reservable, none_reservable}
use Rattle.operator_tables.proofs.reserve.reservable_evse.Goals as goal

pub returns-in-Some-clause-found : goal.returns-in-Some-clause-found
returns-in-Some-clause-found c =
    let own = c.in-Some.ensures.found in
    let site = c.site_book-site.ensures in
    (own.0, own_reservable _ _ c.args.books.now.state.rows site.claims site.service _ c.args.command.now (location_of c.args.at.now) own.0 own.1, Own own.1, own.2)

pub returns-clause-found : goal.returns-clause-found
returns-clause-found c = IfSome_then c.free_evse.result c.free_evse.ensures.found (λ uid free.
    let site = c.site_book-site.ensures in
    let rows = c.args.books.now.state.rows in (
      free.0,
      free_reservable _ _ rows site.claims site.service _ c.args.command.now (location_of c.args.at.now) free.0 free.1.fits free.1.free,
      First c.in_default.ensures.none (first_reservable _ rows site.claims site.service _ c.args.command.now (location_of c.args.at.now) free.0 c.in_default.ensures.none free.1.first),
      free.2,
    ))

pub returns-clause-none : goal.returns-clause-none
returns-clause-none c = none_then c.free_evse.result c.free_evse.ensures.none (λ none e may.
    let site = c.site_book-site.ensures in
    none_reservable _ _ c.args.books.now.state.rows site.claims site.service _ c.args.command.now (location_of c.args.at.now) e (none e may.place) (c.in_default.ensures.none e) may)
