-- A list that is gathered, an element for each of another list.
use Rattle.std.proofs.Common.{zero, suc, ◌≡◌, ℕ, List, [], ◌∷◌, length, refl, ap, subst}
use Rattle.std.specs.Prelude.{Some, slice_get}
use Rattle.histories.proofs.Lists.{some_same}

-- a list that is gathered element by element
module _ {X Y : Type 0} (P : X → Y → Type 0) where
  abbrev pub Gives : List X → Type 0
  Gives xs = (i : ℕ) (x : X) → slice_get xs i ≡ Some x → (y : Y) × P x y

  pub gather : (xs : List X) → Gives xs → List Y
  gather [] f = []
  gather (x ∷ xs) f = (f zero x refl).0 ∷ gather xs (λ i y at. f (suc i) y at)

  pub gathered : (xs : List X) (f : Gives xs) (i : ℕ) (y : Y) → slice_get (gather xs f) i ≡ Some y → (x : X) × (slice_get xs i ≡ Some x) × P x y
  unfolding gather
  gathered [] f i y at = cc
  gathered (x ∷ xs) f zero y at = (x, refl, subst (P x) (some_same (f zero x refl).0 y at) (f zero x refl).1)
  gathered (x ∷ xs) f (suc i) y at = gathered xs (λ i z at. f (suc i) z at) i y at

  pub gathered_size : (xs : List X) (f : Gives xs) → length (gather xs f) ≡ length xs
  unfolding gather
  gathered_size [] f = refl
  gathered_size (x ∷ xs) f = ap suc (gathered_size xs (λ i z at. f (suc i) z at))
