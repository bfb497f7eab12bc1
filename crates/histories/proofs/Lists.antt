-- What stands at which place of lists that are joined or cut.
use Rattle.std.proofs.Common.{zero, suc, ◌≡◌, ◌⊎◌, ℕ, ◌+◌, ◌<◌, ◌≤◌, List, [], ◌∷◌, ◌++◌, length, take, inl, inr, refl, sym, ap, ◌∙◌, arith, add-one, zero-add, suc-add}
use Rattle.std.specs.Prelude.{Some, Contains, slice_get}
use Rattle.std.proofs.lemmas.List.Elements.{Contains-append_cases}
use Rattle.tables.proofs.Elements.{in_none, in_single}
pub use Rattle.tables.proofs.Places.{got_within, is_in, stands}
pub use Rattle.tables.proofs.Options.{some_same}
pub use Rattle.tables.proofs.Elements.{in_later}

module _ {X : Type 0} where
  pub place_in : (xs : List X) (x : X) → Contains xs x → (k : ℕ) × (slice_get xs k ≡ Some x)
  place_in [] x h = absurd (in_none x h)
  place_in (y ∷ xs) x h = elim (Contains-append_cases (y ∷ []) xs x h) [
    | inl here ↦ (zero, ap Some (in_single y x here))
    | inr later ↦ let r = place_in xs x later in (suc r.0, r.1)
  ]

  -- what stands between two lists
  pub got_between : (xs : List X) (x : X) (ys : List X) (k : ℕ) → k ≡ length xs → slice_get (xs ++ x ∷ ys) k ≡ Some x
  got_between [] x ys zero at = refl
  got_between [] x ys (suc k) at = absurd (omega (arith, at))
  got_between (y ∷ xs) x ys zero at = absurd (omega (arith, at))
  got_between (y ∷ xs) x ys (suc k) at = got_between xs x ys k (omega (arith, at))

  -- a longer prefix has more
  pub take_past : (xs ys : List X) (n : ℕ) → length xs ≤ n → (zs : List X) × (take n (xs ++ ys) ≡ xs ++ zs)
  take_past [] ys n h = (take n ys, refl)
  take_past (x ∷ xs) ys zero h = absurd (omega (arith, h))
  take_past (x ∷ xs) ys (suc n) h = let r = take_past xs ys n (omega (arith, h)) in (r.0, ap (λ l. x ∷ l) r.1)

  pub got_left : (xs ys : List X) (k : ℕ) (x : X) → slice_get xs k ≡ Some x → slice_get (xs ++ ys) k ≡ Some x
  got_left [] ys k x at = cc
  got_left (y ∷ xs) ys zero x at = at
  got_left (y ∷ xs) ys (suc k) x at = got_left xs ys k x at

  pub got_front : (xs ys : List X) (k : ℕ) (x : X) → slice_get (xs ++ ys) k ≡ Some x → k < length xs → slice_get xs k ≡ Some x
  got_front [] ys k x at h = absurd (omega (arith, h))
  got_front (y ∷ xs) ys zero x at h = at
  got_front (y ∷ xs) ys (suc k) x at h = got_front xs ys k x at (omega (arith, h))

  pub got_after : (xs ys : List X) (k : ℕ) (x : X) → slice_get ys k ≡ Some x → slice_get (xs ++ ys) (length xs + k) ≡ Some x
  got_after [] ys k x at = ap (slice_get ys) (zero-add k) ∙ at
  got_after (y ∷ xs) ys k x at = ap (slice_get (y ∷ xs ++ ys)) (suc-add (length xs) k) ∙ got_after xs ys k x at

  -- what stands in a list behind which one more was put
  pub got_pushed : (xs : List X) (x : X) (k : ℕ) (y : X) → slice_get (xs ++ x ∷ []) k ≡ Some y → (slice_get xs k ≡ Some y) ⊎ ((k ≡ length xs) × (x ≡ y))
  got_pushed [] x zero y at = inr (refl, some_same x y at)
  got_pushed [] x (suc k) y at = cc
  got_pushed (z ∷ xs) x zero y at = inl at
  got_pushed (z ∷ xs) x (suc k) y at = elim (got_pushed xs x k y at) [ inl h ↦ inl h | inr (is, same) ↦ inr (omega (arith, is), same) ]

  pub got_taken : (xs : List X) (n k : ℕ) (x : X) → slice_get xs k ≡ Some x → k < n → slice_get (take n xs) k ≡ Some x
  got_taken [] n k x at h = cc
  got_taken (y ∷ xs) zero k x at h = absurd (omega (arith, h))
  got_taken (y ∷ xs) (suc n) zero x at h = at
  got_taken (y ∷ xs) (suc n) (suc k) x at h = got_taken xs n k x at (omega (arith, h))

  -- one element more
  pub take_one : (xs : List X) (k : ℕ) (x : X) → slice_get xs k ≡ Some x → take (k + 1) xs ≡ take k xs ++ x ∷ []
  take_one [] k x at = cc
  take_one (y ∷ xs) zero x at = ap (λ z. z ∷ []) (some_same y x at)
  take_one (y ∷ xs) (suc k) x at = rw add-one (ap (λ l. y ∷ l) (sym (ap (λ n. take n xs) (add-one k)) ∙ take_one xs k x at))
