use Rattle.std.proofs.Common.{sym, ap, subst, ◌∙◌}
use Rattle.std.proofs.lemmas.Bool.{false≢true}
use Rattle.ocpi_types.specs.declared.words.CommandResultType.TheVariants.{EvseInoperative, EvseOccupied}
use Rattle.ocpi_types.specs.declared.site.Location.{Location}
use Rattle.site_book.specs.Sites.{location_of}
use Rattle.operator_tables.specs.declared.decision.Decision.TheVariants.{Noted}
use Rattle.operator_tables.specs.Reserve as lines
use Rattle.operator_tables.specs.Reserve.{IsTaken}
use Rattle.operator_tables.proofs.Reserving.{reservable_as, reserved_as, may_hold}
use Rattle.operator_tables.proofs.reserve.decide_at.Goals as goal

pub returns-then-not-serves : goal.returns-then-not-serves
returns-then-not-serves c = λ sender e own may.
    let service = rw c.site_book.ensures.service at c.serves.ensures in
    lines.Inoperative (location_of c.args.at.now) e may (λ has. false≢true (sym c.if-not-serves.true ∙ service.1 has)) (ap (λ id. Noted id EvseInoperative) c.key-reservation_id.ensures)

pub returns-in_default : goal.returns-in_default
returns-in_default c = λ sender e own may.
    let service = rw c.site_book.ensures.service at c.serves.ensures in
    let one = service.0 c.if-not-serves.false in
    lines.Occupied (location_of c.args.at.now) one.0 (may_hold _ _ _ _ _ _ _ e one.0 may one.1) one.2
    (λ f free. c.in_default.ensures.none f (reservable_as c.args.books.now.state.rows _ _ c.args.command.now _ f (sym own) free))
    (ap (λ id. Noted id EvseOccupied) c.key-reservation_id.ensures)

pub returns : goal.returns
returns c = λ sender e own may.
    let found = c.in-Some.ensures.found in
    lines.Held (location_of c.args.at.now) found.0 (may_hold _ _ _ _ _ _ _ e found.0 may found.1.place) (reservable_as c.args.books.now.state.rows _ _ c.args.command.now _ found.0 own found.1)
    (subst (λ k. IsTaken c.args.books.now.state.rows k c.args.command.now (location_of c.args.at.now) found.0) own found.2)
    (reserved_as c.args.command.now (location_of c.args.at.now) found.0 _ _ _ c.key-reservation_id.ensures found.3 (ap (λ (l : Location). l.id) c.location.ensures))
