use Rattle.std.proofs.Common.{refl}
use Rattle.provider_rows.specs.contracts.books.Books.{the_view}
use Rattle.provider_rows.proofs.Listings.{all_rows}
use Rattle.provider_rows.proofs.books.Books.stored.Goals as goal

pub returns : goal.returns
returns c =
    let i = c.self.inside in
    let kept = c.self.invariant in
    rw (c.in_ok-push_rows-3.ensures, c.in_ok-push_rows-2.ensures, c.in_ok-push_rows.ensures, c.in_ok-push_serial.ensures, ← c.self.view_is)
    (all_rows (the_view i).state.rows c.in_ok-rows.rows.items c.in_ok-rows-2.field-0.items c.in_ok-rows-3.field-0.items c.in_ok-rows-4.field-0.items i.answered.rows refl kept.none_pending kept.no_results
    c.in_ok-rows.ensures.list c.in_ok-rows-2.ensures.list c.in_ok-rows-3.ensures c.in_ok-rows-4.ensures.ok)
