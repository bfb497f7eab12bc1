use Rattle.std.proofs.Common.{◌≡◌}
use Rattle.std.specs.FinMap.{empty}
use Rattle.tables.proofs.Entries.{insert_all}
use Rattle.outbox.proofs.send_times.SendTimes.copy.Given as goal

abbrev pub invariant-loop-number : goal.invariant-loop-number
invariant-loop-number l = insert_all l.number-iterator l.copy.resend ≡ insert_all l.initial.number-iterator empty
