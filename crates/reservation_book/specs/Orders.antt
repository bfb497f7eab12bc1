-- The orders of expiries and of places are total, and only equal keys tie.
use Rattle.std.specs.Prelude.{ℕ, List}
use Rattle.std.specs.declared.cmp.Ordering.{Ordering}
use Rattle.std.specs.Ordering.{nat_cmp}
use Rattle.std.specs.Cmp.{IsTotalOrder, nat_cmp_total}
use Rattle.std.specs.FinMap.{IsAntisymmetric, nat_cmp-IsAntisymmetric}
use Rattle.std.proofs.lemmas.Cmp.{on_total, then_total}
use Rattle.tables.specs.Keys.{text_cmp, text_total, text_exact, pair_exact, triple_exact, triple_total}
use Rattle.reservation_book.specs.Places.{Place, triple_cmp, expiry_cmp, group_cmp, place_cmp}

pub expiry_total : IsTotalOrder expiry_cmp
expiry_total = triple_total nat_cmp_total text_total text_total

pub expiry_exact : IsAntisymmetric expiry_cmp
expiry_exact = triple_exact nat_cmp text_cmp text_cmp nat_cmp-IsAntisymmetric text_exact text_exact

pub group_total : IsTotalOrder group_cmp
group_total = triple_total text_total text_total text_total

pub group_exact : IsAntisymmetric group_cmp
group_exact = triple_exact text_cmp text_cmp text_cmp text_exact text_exact text_exact

pub place_total : IsTotalOrder place_cmp
place_total = then_total (on_total (λ (p : Place). p.0) group_total) (on_total (λ (p : Place). p.1) expiry_total)

pub place_exact : IsAntisymmetric place_cmp
place_exact = pair_exact group_cmp expiry_cmp group_exact expiry_exact
