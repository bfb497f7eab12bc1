use Rattle.std.proofs.Common.{subst}
use Rattle.outbox.specs.OutboxListing as outbox_lists
use Rattle.token_desk.specs.Stored as desk
use Rattle.operator_rows.specs.contracts.books.Books.{the_view}
use Rattle.operator_rows.proofs.ChargedListings.{all_of_desk, all_rows}
use Rattle.operator_rows.proofs.KeepingRows.{all_of_outbox}
use Rattle.operator_rows.proofs.books.Books.stored.Goals as goal

pub returns : goal.returns
returns c =
    let i = c.self.inside in
    let pushed = subst (λ r. outbox_lists.AreRowsOf c.in_ok-pushed.pushed.items r) (all_of_outbox i.outbox.rows c.self.invariant.none_sent) c.in_ok-pushed.ensures in
    let tokens = subst (λ (r : desk.Rows). desk.AreRowsOf r c.in_ok-tokens.tokens.items) (all_of_desk i.desk.rows c.self.invariant.none_given) c.in_ok-tokens.ensures.list in
    let others = c.in_ok-push_others.ensures in
    rw (c.in_ok-append-4.ensures.items, c.in_ok-append-3.ensures.items, c.in_ok-append-2.ensures.items, others.2, c.in_ok-append.ensures.items, ← c.self.view_is)
    (all_rows (the_view i).state.rows c.in_ok-rows.rows.items c.in_ok-booked.booked.items c.in_ok-pushed.pushed.items c.in_ok-tokens.tokens.items c.in_ok-charged.charged.items others.0
    c.in_ok-rows.ensures.list c.in_ok-booked.ensures.list pushed tokens c.in_ok-charged.ensures.list (rw (← c.self.view_is) at others.1))
