-- What is read as the number at the front of a text is a number of JSON.
use Rattle.std.proofs.Common.{◌≡◌, ℕ, suc, ◌+◌, Bool, true, false, cond, List, [], ◌∷◌, ◌++◌, drop, Option, Some, None}
use Rattle.std.proofs.Common.{option_and_then, refl, sym, ap, subst, ◌∙◌, append_assoc, arith, ◌||◌, ◌==◌}
use Rattle.std.specs.List.{prefix_len}
use Rattle.std.specs.Char.{is_ascii_digit}
use Rattle.std.proofs.lemmas.Bool.{ne_eqb}
use Rattle.json.specs.Word.{after_digits, after_minus, after_sign, after_whole, after_fraction, after_exponent, after_number}
use Rattle.json_text.specs.Quote.{is_digit, is_mark}
use Rattle.json_text.specs.Numbers.{AreDigits, IsDigits, IsMinus, no_minus, minus, IsInt, zero_int, other_int, IsFraction, no_fraction, fraction, IsSign, no_sign, sign, IsExponent, no_exponent, exponent, IsJsonNumber}
use Rattle.json_text.proofs.Steps.{test_is, test_is_not}

-- the text begins with such a part, and the rest follows
record Begins (P : List ℕ → Type 0) (text rest : List ℕ) : Type 0 where
  part : List ℕ
  is : text ≡ part ++ rest
  holds : P part

some_is : (a b : List ℕ) → Some a ≡ Some b → a ≡ b
some_is a b e = cc

bound : (f : List ℕ → Option (List ℕ)) (o : Option (List ℕ)) (r : List ℕ) → option_and_then f o ≡ Some r → (a : List ℕ) × (o ≡ Some a) × (f a ≡ Some r)
bound f None r e = absurd cc
bound f (Some a) r e = (a, refl, e)

-- ---- digits

more_of : (c : ℕ) (s t : List ℕ) → s ≡ t → c ∷ s ≡ c ∷ t
more_of c s t e = ap (λ (u : List ℕ). c ∷ u) e

run_by : (x n : ℕ) (xs : List ℕ) (b : Bool) → is_ascii_digit x ≡ b → Begins AreDigits xs (drop n xs) → Begins AreDigits (x ∷ xs) (drop (cond b (1 + n) 0) (x ∷ xs))
run_by x n xs false e h = record { part = []; is = refl; holds = refl }
run_by x n xs true e h =
    let next : suc n ≡ 1 + n = omega arith in
    subst (λ (k : ℕ). Begins AreDigits (x ∷ xs) (drop k (x ∷ xs))) next (record { part = x ∷ h.part; is = more_of x xs (h.part ++ drop n xs) h.is; holds = rw (e, h.holds) refl })

run : (t : List ℕ) → Begins AreDigits t (drop (prefix_len is_ascii_digit t) t)
run [] = record { part = []; is = refl; holds = refl }
run (x ∷ xs) = run_by x (prefix_len is_ascii_digit xs) xs (is_ascii_digit x) refl (run xs)

-- a digit, and more of them
record Digits (x : ℕ) (xs rest : List ℕ) : Type 0 where
  more : List ℕ
  is : xs ≡ more ++ rest
  digit : is_digit x ≡ true
  digits : AreDigits more

digits_by : (x n : ℕ) (xs r : List ℕ) (b : Bool) → is_ascii_digit x ≡ b → Begins AreDigits xs (drop n xs)
    → cond (cond b (1 + n) 0 == 0) None (Some (drop (cond b (1 + n) 0) (x ∷ xs))) ≡ Some r → Digits x xs r
digits_by x n xs r false e h g = absurd cc
digits_by x n xs r true e h g =
    let some : (1 + n == 0) ≡ false = ne_eqb (1 + n) 0 (omega arith) in
    let next : suc n ≡ 1 + n = omega arith in
    let left : drop n xs ≡ r =
    ap (λ (k : ℕ). drop k (x ∷ xs)) next ∙ some_is (drop (1 + n) (x ∷ xs)) r (sym (ap (λ (b : Bool). cond b None (Some (drop (1 + n) (x ∷ xs)))) some) ∙ g) in
    record { more = h.part; is = h.is ∙ ap (λ (t : List ℕ). h.part ++ t) left; digit = e; digits = h.holds }

digits : (x : ℕ) (xs r : List ℕ) → after_digits (x ∷ xs) ≡ Some r → Digits x xs r
digits x xs r e = digits_by x (prefix_len is_ascii_digit xs) xs r (is_ascii_digit x) refl (run xs) e

are_digits : (t r : List ℕ) → after_digits t ≡ Some r → Begins IsDigits t r
are_digits [] r e = absurd cc
are_digits (x ∷ xs) r e =
    let d = digits x xs r e in
    record { part = x ∷ d.more; is = more_of x xs (d.more ++ r) d.is; holds = record { first = x; more = d.more; is = refl; digit = d.digit; digits = d.digits } }

-- ---- the parts of a number

minus_by : (x : ℕ) (xs : List ℕ) (b : Bool) → (x == 45) ≡ b → Begins IsMinus (x ∷ xs) (cond b xs (x ∷ xs))
minus_by x xs false e = record { part = []; is = refl; holds = no_minus refl }
minus_by x xs true e = record { part = 45 ∷ []; is = ap (λ (c : ℕ). c ∷ xs) (test_is x 45 e); holds = minus refl }

minus_first : (t : List ℕ) → Begins IsMinus t (after_minus t)
minus_first [] = record { part = []; is = refl; holds = no_minus refl }
minus_first (x ∷ xs) = minus_by x xs (x == 45) refl

whole_by : (x : ℕ) (xs r : List ℕ) (b : Bool) → (x == 48) ≡ b → cond b (Some xs) (after_digits (x ∷ xs)) ≡ Some r → Begins IsInt (x ∷ xs) r
whole_by x xs r true e g = record { part = 48 ∷ []; is = ap (λ (c : ℕ). c ∷ xs) (test_is x 48 e) ∙ more_of 48 xs r (some_is xs r g); holds = zero_int refl }
whole_by x xs r false e g =
    let d = digits x xs r g in
    let are : IsDigits (x ∷ d.more) = record { first = x; more = d.more; is = refl; digit = d.digit; digits = d.digits } in
    record { part = x ∷ d.more; is = more_of x xs (d.more ++ r) d.is; holds = other_int are (test_is_not x 48 e) }

whole_first : (t r : List ℕ) → after_whole t ≡ Some r → Begins IsInt t r
whole_first [] r e = absurd cc
whole_first (x ∷ xs) r e = whole_by x xs r (x == 48) refl e

fraction_by : (x : ℕ) (xs r : List ℕ) (b : Bool) → (x == 46) ≡ b → cond b (after_digits xs) (Some (x ∷ xs)) ≡ Some r → Begins IsFraction (x ∷ xs) r
fraction_by x xs r false e g = record { part = []; is = some_is (x ∷ xs) r g; holds = no_fraction refl }
fraction_by x xs r true e g =
    let d = are_digits xs r g in
    record { part = 46 ∷ d.part; is = ap (λ (c : ℕ). c ∷ xs) (test_is x 46 e) ∙ more_of 46 xs (d.part ++ r) d.is; holds = fraction d.part refl d.holds }

fraction_first : (t r : List ℕ) → after_fraction t ≡ Some r → Begins IsFraction t r
fraction_first [] r e = record { part = []; is = some_is [] r e; holds = no_fraction refl }
fraction_first (x ∷ xs) r e = fraction_by x xs r (x == 46) refl e

sign_by : (x : ℕ) (xs : List ℕ) (a b : Bool) → (x == 45) ≡ a → (x == 43) ≡ b → Begins IsSign (x ∷ xs) (cond (a || b) xs (x ∷ xs))
sign_by x xs true b e g = record { part = x ∷ []; is = refl; holds = sign x refl (rw (test_is x 45 e) refl) }
sign_by x xs false true e g = record { part = x ∷ []; is = refl; holds = sign x refl (rw (test_is x 43 g) refl) }
sign_by x xs false false e g = record { part = []; is = refl; holds = no_sign refl }

sign_first : (t : List ℕ) → Begins IsSign t (after_sign t)
sign_first [] = record { part = []; is = refl; holds = no_sign refl }
sign_first (x ∷ xs) = sign_by x xs (x == 45) (x == 43) refl refl

exponent_by : (x : ℕ) (xs r : List ℕ) (b : Bool) → is_mark x ≡ b → cond b (after_digits (after_sign xs)) (Some (x ∷ xs)) ≡ Some r → Begins IsExponent (x ∷ xs) r
exponent_by x xs r false e g = record { part = []; is = some_is (x ∷ xs) r g; holds = no_exponent refl }
exponent_by x xs r true e g =
    let s = sign_first xs in
    let d = are_digits (after_sign xs) r g in
    let same : xs ≡ (s.part ++ d.part) ++ r = s.is ∙ ap (λ (t : List ℕ). s.part ++ t) d.is ∙ sym (append_assoc s.part d.part r) in
    record { part = x ∷ (s.part ++ d.part); is = more_of x xs ((s.part ++ d.part) ++ r) same; holds = exponent x s.part d.part refl e s.holds d.holds }

exponent_first : (t r : List ℕ) → after_exponent t ≡ Some r → Begins IsExponent t r
exponent_first [] r e = record { part = []; is = some_is [] r e; holds = no_exponent refl }
exponent_first (x ∷ xs) r e = exponent_by x xs r (is_mark x) refl e

-- ---- the number

pub number_first : (t r : List ℕ) → after_number t ≡ Some r → (number : List ℕ) × (t ≡ number ++ r) × IsJsonNumber number
unfolding after_number
number_first t r e =
    let power = bound after_exponent (option_and_then after_fraction (after_whole (after_minus t))) r e in
    let point = bound after_fraction (after_whole (after_minus t)) power.0 power.1 in
    let m = minus_first t in
    let i = whole_first (after_minus t) point.0 point.1 in
    let f = fraction_first point.0 power.0 point.2 in
    let x = exponent_first power.0 r power.2 in
    let number = m.part ++ (i.part ++ (f.part ++ x.part)) in
    let ends : power.0 ≡ x.part ++ r = x.is in
    let same : t ≡ number ++ r =
    m.is ∙ ap (λ (s : List ℕ). m.part ++ s) (i.is ∙ ap (λ (s : List ℕ). i.part ++ s) (f.is ∙ ap (λ (s : List ℕ). f.part ++ s) ends))
    ∙ sym (append_assoc m.part (i.part ++ (f.part ++ x.part)) r ∙ ap (λ (s : List ℕ). m.part ++ s) (append_assoc i.part (f.part ++ x.part) r ∙ ap (λ (s : List ℕ). i.part ++ s) (append_assoc f.part x.part r))) in
    (number, same, record { minus = m.part; int = i.part; fraction = f.part; exponent = x.part; parts = refl; is_minus = m.holds; is_int = i.holds; is_fraction = f.holds; is_exponent = x.holds })
