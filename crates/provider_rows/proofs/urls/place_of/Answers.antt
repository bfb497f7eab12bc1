use Rattle.std.proofs.Common.{arith}
use Rattle.std.proofs.lemmas.Nat.{mod_below}
use Rattle.provider_rows.proofs.Finding.{place_start, place_step}
use Rattle.provider_rows.proofs.urls.place_of.Goals as goal

pub loop-i-init : goal.loop-i-init
loop-i-init c = record { place = place_start c.as_bytes-bytes.result.now; small = omega arith }

pub loop-i-preserved : goal.loop-i-preserved
loop-i-preserved c = record {
  place = place_step c.as_bytes-bytes.result.now c.loop-i.i c.from.result c.loop-i.place c.loop-i-test.true c.from.ensures c.loop-i.invariant.place;
  small = mod_below _ 1000000007 (omega arith);
}
