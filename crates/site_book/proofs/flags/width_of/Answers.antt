use Rattle.std.proofs.Common.{suc, sym, ap, ◌*◌, ◌∙◌, arith}
use Rattle.std.proofs.Math.Nat.{pow-suc}
use Rattle.site_book.proofs.flags.width_of.Goals as goal

pub loop-width-preserved : goal.loop-width-preserved
loop-width-preserved c =
    let level = c.loop-width.invariant.2 in
    (omega arith, omega arith, (suc level.0, ap (λ n. n * 2) level.1 ∙ sym (pow-suc 2 level.0)))
