use Rattle.std.proofs.Common.{arith}
use Rattle.ocpi_forms.proofs.sites.evses_of.Goals as goal

pub unreachable-requires : goal.unreachable-requires
unreachable-requires c =
    let count = c.in_ok-values.ensures.count in
    c.in-None.ensures (record { some = omega (arith, c.in_ok-evses.ensures.count, count.0); few = omega (arith, c.in_ok-evses.ensures.count, count.1) })
