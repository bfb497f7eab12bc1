-- Lists of which a test takes the front, and their last entries.
use Rattle.std.proofs.Common.{◌≡◌, ℕ, zero, suc, ◌+◌, ◌<◌, ◌≤◌, inl, inr, arith, Bool, true, false, true≢false, cond, Option, Some, List, [], ◌∷◌, filter, length, take, get_or, AllPairs, ltb, ltb-true, lt-ltb, IsTrue, ◌↔◌, refl, sym, ap, subst, ◌∙◌}
use Rattle.std.specs.List.{AllWithin, AllAdjacentBelow, IsAllAdjacentAnswer, last_or}
use Rattle.std.specs.List.Sorted.{IsPartitionPoint}
use Rattle.std.proofs.Math.Nat.{eq-or-lt_of_le}

-- none passes
pub none_kept : {X : Type 0} (p : X → Bool) (xs : List X) → AllWithin (λ y. p y ≡ false) xs 0 (length xs) → filter p xs ≡ []
none_kept p [] none = refl
none_kept p (x ∷ xs) none =
    ap (λ b. cond b (x ∷ filter p xs) (filter p xs)) (none 0 x (omega arith) (omega arith)) ∙ none_kept p xs (λ k d low high. none (suc k) d (omega arith) (omega arith))

-- those that pass stand in front
pub front_kept : {X : Type 0} (p : X → Bool) (xs : List X) (i : ℕ) → IsPartitionPoint (λ y. p y ≡ true) (λ y. p y ≡ false) xs i → i ≤ length xs → filter p xs ≡ take i xs
front_kept p [] zero point within = refl
front_kept p [] (suc i) point within = absurd (omega arith)
front_kept p (x ∷ xs) zero point within = none_kept p (x ∷ xs) point.1
front_kept p (x ∷ xs) (suc i) point within =
    ap (λ b. cond b (x ∷ filter p xs) (filter p xs)) (point.0 0 x (omega arith) (omega arith))
    ∙ ap (λ l. x ∷ l) (front_kept p xs i (λ k d low high. point.0 (suc k) d (omega arith) (omega arith), λ k d low high. point.1 (suc k) d (omega arith) (omega arith)) (omega arith))

-- the last of the first so many
pub last_of_front : {X : Type 0} (o : Option X) (xs : List X) (n : ℕ) (d : X) → n < length xs → last_or o (take (suc n) xs) ≡ Some (get_or xs n d)
last_of_front o [] n d within = absurd (omega arith)
last_of_front o (x ∷ xs) zero d within = refl
last_of_front o (x ∷ xs) (suc n) d within = last_of_front (Some x) xs n d (omega arith)

-- what holds of each and the next, and of the ends of two steps where it holds of both, holds of each and all behind it
pub all_behind : {X : Type 0} (R : X → X → Type 0) → ((x y z : X) → R x y → R y z → R x z) → (xs : List X) → AllAdjacentBelow R xs (length xs) → AllPairs R xs
all_behind R along xs next i zero d before within = absurd (omega arith)
all_behind R along xs next i (suc j) d before within =
    let step : R (get_or xs j d) (get_or xs (suc j) d) = subst (λ n. R (get_or xs j d) (get_or xs n d)) (omega arith) (next j d (omega arith)) in
    elim (let h : i ≤ j = omega arith in eq-or-lt_of_le h) [ inl e ↦ subst (λ n. R (get_or xs n d) (get_or xs (suc j) d)) (sym e) step | inr h ↦ along _ _ _ (all_behind R along xs next i j d h (omega arith)) step ]

-- a test of each and the next tells whether numbers rise
pub rising_decided : {X : Type 0} (n : X → ℕ) (xs : List X) (r : Bool) → IsAllAdjacentAnswer (λ x y b. b ≡ ltb (n x) (n y)) xs r → IsTrue r ↔ AllPairs (λ x y. n x < n y) xs
rising_decided n xs true next = (λ t. all_behind (λ x y. n x < n y) (λ x y z h k. omega arith) xs (λ k d within. ltb-true _ _ (sym (next k d within))), λ all. refl)
rising_decided n [] false (k, within, fails) = absurd (omega arith)
rising_decided n (x ∷ xs) false (k, within, fails) = (
  λ t. absurd (true≢false (sym t)),
  λ all. absurd (true≢false (sym (lt-ltb _ _ (all k (k + 1) x (omega arith) within)) ∙ sym (fails x))),
)
