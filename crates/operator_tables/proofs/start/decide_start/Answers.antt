use Rattle.std.proofs.Common.{◌≡◌, refl, ap, true, false}
use Rattle.std.specs.Prelude.{Some, None}
use Rattle.ocpi_text.specs.Text.{key}
use Rattle.site_book.specs.Sites.{location_of}
use Rattle.operator_tables.specs.declared.decision.Decision.TheVariants.{Refused, Started}
use Rattle.operator_tables.specs.Start as lines
use Rattle.operator_tables.proofs.FreePlaces.{in_service, unclaimed, first_start, free_of, held_for, least_for, none_held}
use Rattle.operator_tables.proofs.start.decide_start.Goals as goal

pub returns-in_default : goal.returns-in_default
returns-in_default c =
    lines.UnknownLocation (c.if-is_mismatched.ensures.no refl) (rw c.site_book-site.ensures.site at c.in_default.ensures.none) (ap Refused c.unknown_location.ensures)

pub returns-in_default-find_place : goal.returns-in_default-find_place
returns-in_default-find_place c =
    let there = rw c.site_book-site.ensures.site at c.in-Some.ensures.named in
    lines.NoPlace (location_of c.in-Some.at) (record { matched = c.if-is_mismatched.ensures.no refl; location = there }) c.in_default-find_place.ensures.none refl

pub returns-then-is_barred : goal.returns-then-is_barred
returns-then-is_barred c =
    let there = rw c.site_book-site.ensures.site at c.in-Some.ensures.named in
    let place = c.in-Some-find_place.ensures.found in
    let barred = rw c.requires at (c.if-is_barred.ensures.yes refl) in
    lines.Barred (location_of c.in-Some.at) place.0 place.1
    (record { placed = record { matched = c.if-is_mismatched.ensures.no refl; location = there }; place = place.2 }) barred refl

pub returns-then-not-serves : goal.returns-then-not-serves
returns-then-not-serves c =
    let there = rw c.site_book-site.ensures.site at c.in-Some.ensures.named in
    let place = c.in-Some-find_place.ensures.found in
    let allowed = rw c.requires at (c.if-is_barred.ensures.no refl) in
    let service = rw c.site_book-site.ensures.service at c.if-not-serves.ensures in
    lines.Inoperative (location_of c.in-Some.at) place.0 place.1
    (record { reached = record { placed = record { matched = c.if-is_mismatched.ensures.no refl; location = there }; place = place.2 }; allowed = allowed })
    (λ has. let never : false ≡ true = service.1 has in cc) refl

pub returns-in-Some-find_held : goal.returns-in-Some-find_held
returns-in-Some-find_held c =
    let there = rw c.site_book-site.ensures.site at c.in-Some.ensures.named in
    let allowed = rw c.requires at (c.if-is_barred.ensures.no refl) in
    let place = rw c.requires at c.in-Some-find_held.ensures.found in
    lines.Held (location_of c.in-Some.at) place.evse place.connector
    (record { reached = record { placed = record { matched = c.if-is_mismatched.ensures.no refl; location = there }; place = place.held.place }; allowed = allowed })
    place.held.works place.reservation
    (held_for c.args.books.now.state.rows c.args.sender.now c.args.command.now (location_of c.in-Some.at) there.same place.reservation place.evse place.connector place.held)
    (least_for c.args.books.now.state.rows c.args.sender.now c.args.command.now (location_of c.in-Some.at) there.same place.evse place.least)
    (λ i. Started (place.place_is i) (Some (place.id_is i)))

pub returns-in-None : goal.returns-in-None
returns-in-None c =
    let there = rw c.site_book-site.ensures.site at c.in-Some.ensures.named in
    let place = c.in-Some-find_place.ensures.found in
    let allowed = rw c.requires at (c.if-is_barred.ensures.no refl) in
    let service = rw c.site_book-site.ensures.service at c.if-not-serves.ensures in
    let no_held = rw c.requires at c.in_default-find_held.ensures.none in
    let none = rw c.site_book-site.ensures.service at c.in-None.ensures.none in
    lines.Occupied (location_of c.in-Some.at) place.0 place.1
    (record { reached = record { placed = record { matched = c.if-is_mismatched.ensures.no refl; location = there }; place = place.2 }; allowed = allowed })
    (record {
      service = service.0 refl;
      none_held = none_held c.args.books.now.state.rows c.args.sender.now c.args.command.now (location_of c.in-Some.at) there.same no_held;
      none_free = λ f j fits serves free. none f j fits (free_of _ _ c.args.books.now.state.rows c.site_book-site.ensures.claims (key f.uid) free serves);
    }) refl

pub returns-in-Some-free_place : goal.returns-in-Some-free_place
returns-in-Some-free_place c =
    let there = rw c.site_book-site.ensures.site at c.in-Some.ensures.named in
    let allowed = rw c.requires at (c.if-is_barred.ensures.no refl) in
    let no_held = rw c.requires at c.in_default-find_held.ensures.none in
    let place = c.in-Some-free_place.ensures.found in
    let free = rw c.site_book-site.ensures.service at place.free in
    lines.Free (location_of c.in-Some.at) place.evse place.connector
    (record { reached = record { placed = record { matched = c.if-is_mismatched.ensures.no refl; location = there }; place = place.fits }; allowed = allowed })
    (in_service _ _ c.args.books.now.state.rows c.site_book-site.ensures.claims (key place.evse.uid) free)
    (none_held c.args.books.now.state.rows c.args.sender.now c.args.command.now (location_of c.in-Some.at) there.same no_held)
    (unclaimed _ _ c.args.books.now.state.rows c.site_book-site.ensures.claims (key place.evse.uid) free)
    (first_start _ c.args.books.now.state.rows c.site_book-site.ensures.claims c.site_book-site.ensures.service c.args.command.now (location_of c.in-Some.at) place.evse place.first)
    (λ i. Started (place.place_is i) None)
