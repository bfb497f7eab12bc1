use Rattle.std.proofs.Common.{◌≡◌, ◌+◌, All, length, vec_len}
use Rattle.node_desk.specs.Passes.{IsUnused, PassOf}
use Rattle.node_desk.proofs.desk.Desk.new.Given as goal

abbrev pub invariant-loop-i : goal.invariant-loop-i
invariant-loop-i g l =
    (l.rest.parts + l._i ≡ l.passes) × (l.rest.amount ≡ 0) × (vec_len l.all ≡ l._i)
    × All IsUnused l.all.items × All (λ (p : PassOf). p.seen ≡ length l.cell.history) l.all.items
