-- What stands at which place of a list.
use Rattle.std.proofs.Common.{zero, suc, ◌≡◌, ℕ, ◌<◌, List, [], ◌∷◌, length, refl, arith}
use Rattle.std.specs.Prelude.{Some, Contains, slice_get}
use Rattle.tables.proofs.Elements.{in_later}

module _ {X : Type 0} where
  pub is_in : (xs : List X) (k : ℕ) (x : X) → slice_get xs k ≡ Some x → Contains xs x
  is_in [] k x at = cc
  is_in (y ∷ xs) zero x at = (zero, omega arith, cc)
  is_in (y ∷ xs) (suc k) x at = in_later y xs x (is_in xs k x at)

  pub got_within : (xs : List X) (i : ℕ) (x : X) → slice_get xs i ≡ Some x → i < length xs
  got_within [] i x at = cc
  got_within (y ∷ xs) zero x at = omega arith
  got_within (y ∷ xs) (suc i) x at = let h = got_within xs i x at in omega (arith, h)

  pub stands : (xs : List X) (i : ℕ) → i < length xs → (x : X) × (slice_get xs i ≡ Some x)
  stands [] i h = absurd (omega (arith, h))
  stands (y ∷ xs) zero h = (y, refl)
  stands (y ∷ xs) (suc i) h = stands xs i (omega (arith, h))
