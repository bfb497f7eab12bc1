-- What stands at which place of a list.
use Rattle.std.proofs.Common.{zero, suc, ◌≡◌, ◌≢◌, ℕ, List, [], ◌∷◌, map, refl, arith}
use Rattle.std.specs.Prelude.{Some, slice_get, slice_set}
pub use Rattle.tables.proofs.Places.{got_within, is_in, stands}
pub use Rattle.tables.proofs.Options.{some_same}

pub of_mapped : {X Y : Type 0} (f : X → Y) (xs : List X) (i : ℕ) (y : Y) → slice_get (map f xs) i ≡ Some y → (x : X) × (slice_get xs i ≡ Some x) × (f x ≡ y)
of_mapped f [] i y at = cc
of_mapped f (x ∷ xs) zero y at = (x, refl, some_same (f x) y at)
of_mapped f (x ∷ xs) (suc i) y at = of_mapped f xs i y at

module _ {X : Type 0} where
  pub set_same : (xs : List X) (i : ℕ) (x y : X) → slice_get xs i ≡ Some x → slice_get (slice_set xs i y) i ≡ Some y
  set_same [] i x y at = cc
  set_same (z ∷ xs) zero x y at = refl
  set_same (z ∷ xs) (suc i) x y at = set_same xs i x y at

  pub set_other : (xs : List X) (i j : ℕ) (y : X) → j ≢ i → slice_get (slice_set xs i y) j ≡ slice_get xs j
  set_other [] i j y apart = refl
  set_other (z ∷ xs) zero zero y apart = absurd (apart refl)
  set_other (z ∷ xs) zero (suc j) y apart = refl
  set_other (z ∷ xs) (suc i) zero y apart = refl
  set_other (z ∷ xs) (suc i) (suc j) y apart = set_other xs i j y (λ e. apart (omega (arith, e)))
