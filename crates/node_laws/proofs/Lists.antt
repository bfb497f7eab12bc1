-- What stands in two lists that are joined, by place.
use Rattle.std.proofs.Common.{zero, suc, ◌≡◌, ◌⊎◌, ℕ, ◌+◌, List, [], ◌∷◌, ◌++◌, length, inl, inr, arith, Some}
use Rattle.std.proofs.Common.{slice_get}

pub in_joined : {X : Type 0} (xs ys : List X) (i : ℕ) (x : X) → slice_get (xs ++ ys) i ≡ Some x → (slice_get xs i ≡ Some x) ⊎ ((j : ℕ) × (i ≡ length xs + j) × (slice_get ys j ≡ Some x))
in_joined [] ys i x at = inr (i, omega arith, at)
in_joined (y ∷ xs) ys zero x at = inl at
in_joined (y ∷ xs) ys (suc i) x at = elim (in_joined xs ys i x at) [ inl h ↦ inl h | inr h ↦ inr (h.0, let is = h.1 in omega (arith, is), h.2) ]
