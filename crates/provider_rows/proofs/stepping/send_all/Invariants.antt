use Rattle.std.proofs.Common.{◌≡◌, drop}
use Rattle.provider_rows.specs.Steps.{AreSendable, HaveTimeRoom, timed_all}
use Rattle.provider_rows.proofs.stepping.send_all.Given as goal

abbrev pub invariant-loop-change : goal.invariant-loop-change
invariant-loop-change l = record {
  rows : l.outbox.rows ≡ l.initial.outbox.rows;
  rooms : l.outbox.rooms ≡ l.initial.outbox.rooms;
  resend : timed_all (drop l.change-index l.volatile) l.outbox.resend ≡ timed_all l.volatile l.initial.outbox.resend;
  room : HaveTimeRoom l.outbox.sending (drop l.change-index l.volatile);
  sendable : AreSendable l.outbox.rows (drop l.change-index l.volatile);
}
