use Rattle.std.proofs.Common.{rules, ◌≡◌}
use Rattle.outbox.proofs.Held.{restart_held}
use Rattle.outbox.proofs.outbox.Outbox.restart.Goals as goal

pub invariant_of-self : goal.invariant_of-self
invariant_of-self c =
    let zero : c.unwrap-self-inside.result ≡ 0 = search (rules, c.new-2.ensures, c.unwrap-self-inside.ensures) in
    rw (zero, c.new.ensures) (restart_held _ _ _ _ _ c.self.invariant)
