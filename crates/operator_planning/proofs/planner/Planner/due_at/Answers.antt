use Rattle.outbox.specs.Due.{AreExactly, IsDue}
use Rattle.reservation_book.specs.Calls.{AreExpired}
use Rattle.operator_rows.specs.State.{as_outbox}
use Rattle.operator_planning.proofs.planner.Planner.due_at.Goals as goal

pub returns : goal.returns
returns c =
    let s = c.args.self.now.state in
    let expired : AreExpired c.args.at s.rows.booked.reservations c.in_ok-expired.expired.items = rw (← c.self.view_is, ← c.booked.ensures) c.in_ok-expired.ensures.list in
    let due : AreExactly (IsDue (as_outbox s.rows) s.resend c.args.at) c.in_ok-pushes.pushes.items = rw (← c.self.view_is, ← c.outbox.ensures.rows, ← c.outbox.ensures.resend) c.in_ok-pushes.ensures.ok in
    record { timed_out = c.in_ok-ends.ensures; have_expired = expired; are_due = due }
