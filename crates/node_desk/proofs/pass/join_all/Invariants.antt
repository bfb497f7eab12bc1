use Rattle.std.proofs.Common.{◌≡◌, ◌+◌, sum_by, vec_len}
use Rattle.node_desk.specs.Passes.{PassOf}
use Rattle.node_desk.proofs.pass.join_all.Given as goal

abbrev pub invariant-loop-pass : goal.invariant-loop-pass
invariant-loop-pass g l =
    (l.all.parts + vec_len l.passes ≡ vec_len l.fn.passes)
    × (l.all.amount + sum_by (λ (p : PassOf). p.count) l.passes.items ≡ sum_by (λ (p : PassOf). p.count) l.fn.passes.items)

abbrev pub decreases-loop-pass : goal.decreases-loop-pass
decreases-loop-pass g l = goal.left-loop-pass g l
