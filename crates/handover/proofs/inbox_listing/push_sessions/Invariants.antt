use Rattle.std.proofs.Common.{◌≡◌, ◌++◌, map}
use Rattle.handover.specs.InboxListing.{session_row}
use Rattle.handover.proofs.inbox_listing.push_sessions.Given as goal

abbrev pub invariant-loop-session : goal.invariant-loop-session
invariant-loop-session l = l.rows.items ++ map session_row l.session-iterator ≡ l.initial.rows.items ++ map session_row l.initial.session-iterator
