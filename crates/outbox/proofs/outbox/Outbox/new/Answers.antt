use Rattle.std.proofs.Common.{rules, ◌≡◌}
use Rattle.outbox.proofs.Held.{none_held}
use Rattle.outbox.proofs.outbox.Outbox.new.Goals as goal

pub invariant_of-result : goal.invariant_of-result
invariant_of-result c =
    let zero : c.unwrap.result ≡ 0 = search (rules, c.new.ensures, c.unwrap.ensures) in
    rw (zero, c.new-3.ensures, c.new-4.ensures, c.new-5.ensures) (none_held _)
