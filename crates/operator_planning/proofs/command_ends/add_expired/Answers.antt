use Rattle.std.proofs.Common.{arith}
use Rattle.reservation_book.specs.declared.standing.Standing.{Standing}
use Rattle.operator_steps.specs.Acts.{freed}
use Rattle.operator_planning.proofs.Loops.{single_done}
use Rattle.operator_planning.proofs.command_ends.add_expired.Goals as goal

pub returns : goal.returns
returns c =
    let at = c.loop-standing in
    single_done (λ (x : Standing). freed x.provider x.id) c.args.expired.now at.standing-index at.draft c.args.draft.now (omega (arith, c.loop-standing-test.false)) at.invariant
