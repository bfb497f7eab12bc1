use Rattle.std.proofs.Common.{ℕ, subst, sym}
use Rattle.node_desk.proofs.Going.{stays}
use Rattle.node_desk.proofs.locked.Locked.new.Goals as goal
use Rattle.node_desk.specs.Logs.{GoesOn, Log, log_of}

pub invariant_of-result : goal.invariant_of-result
invariant_of-result g c =
    subst (λ (n : ℕ). GoesOn g.J.Naming.before (log_of c.args.cell) n) (sym c.requires.none)
    (subst (λ (l : Log). GoesOn g.J.Naming.before l 0) (sym c.requires.before) (stays g.J.Naming.before))
