-- Steps of reading, and tests on single bytes.
use Rattle.std.proofs.Common.{◌≡◌, ◌≢◌, ℕ, true, false, List, [], ◌∷◌, ◌++◌, Ok, Err, refl, sym, ap, append_assoc}
use Rattle.std.proofs.Common.{arith, ◌||◌, ◌==◌}
use Rattle.std.proofs.lemmas.Bool.Decides.{nat_tests}
use Rattle.json_text.specs.Fault.{Read, ◌>>=◌}
use Rattle.json_text.specs.Quote.{before, is_digit, is_number_char}

-- ---- steps

abbrev pub done : {A : Type 0} → A → Read A
done x = Ok x

pub ok_is : {A : Type 0} (x y : A) → done x ≡ done y → x ≡ y
ok_is x y e = cc

-- the value of a step that did not fail
pub bind_ok : {A B : Type 0} (r : Read A) (f : A → Read B) (y : B) → (r >>= f) ≡ Ok y → (x : A) × (r ≡ Ok x) × (f x ≡ Ok y)
bind_ok (Ok x) f y e = (x, refl, e)
bind_ok (Err d) f y e = absurd cc

pub before-before : (front mid : List ℕ) (r : Read (List ℕ)) → before front (before mid r) ≡ before (front ++ mid) r
before-before front mid (Ok x) = ap (λ (t : List ℕ). Ok t) (sym (append_assoc front mid x))
before-before front mid (Err e) = refl

pub before-nil : (r : Read (List ℕ)) → before [] r ≡ r
before-nil (Ok x) = refl
before-nil (Err e) = refl

-- ---- bytes

pub test_is : (c n : ℕ) → (c == n) ≡ true → c ≡ n
test_is c n h = grind (arith, nat_tests)

pub test_is_not : (c n : ℕ) → (c == n) ≡ false → c ≢ n
test_is_not c n h e = grind (arith, nat_tests)

pub is_not_test : (c n : ℕ) → c ≢ n → (c == n) ≡ false
is_not_test c n h = grind (arith, nat_tests)

pub first_is : (c d : ℕ) (s t : List ℕ) → c ≡ d → s ≡ t → c ∷ s ≡ d ∷ t
first_is c d s t h e = rw (h, e) refl

-- no number begins at a character that is in none
pub not_begun : (c : ℕ) → is_number_char c ≡ false → (is_digit c || (c == 45)) ≡ false
not_begun c h = grind (arith, nat_tests)
