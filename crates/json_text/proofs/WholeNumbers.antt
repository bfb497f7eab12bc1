-- A number of JSON, before what is no character of one, is read whole at the front of a text.
use Rattle.std.proofs.Common.{◌≡◌, ℕ, true, false, cond, List, [], ◌∷◌, ◌++◌, length, drop, Some, None, option_and_then}
use Rattle.std.proofs.Common.{refl, sym, ap, subst, ◌∙◌, append_assoc, arith, ◌||◌, ◌==◌}
use Rattle.std.specs.List.{prefix_len, list_all}
use Rattle.std.specs.Char.{is_ascii_digit}
use Rattle.std.proofs.lemmas.Bool.{and_parts, ne_eqb}
use Rattle.std.proofs.lemmas.Bool.Decides.{nat_tests}
use Rattle.json.specs.Word.{head, after_digits, after_minus, after_sign, after_whole, after_fraction, after_exponent, after_number}
use Rattle.json_text.specs.Numbers.{AreDigits, IsDigits, IsMinus, no_minus, minus, IsInt, zero_int, other_int, IsFraction, no_fraction, fraction, IsSign, no_sign, sign, IsExponent, no_exponent, exponent, IsJsonNumber}
use Rattle.json_text.specs.Pieces.{Stops}
use Rattle.json_text.specs.Quote.{is_digit, is_mark, is_sign}
use Rattle.json_text.proofs.Steps.{is_not_test}

-- no digit comes first
abbrev NoDigit : List ℕ → Type 0
NoDigit [] = Unit {0}
NoDigit (c ∷ cs) = is_ascii_digit c ≡ false

-- ---- digits

run_len : (ds x : List ℕ) → AreDigits ds → NoDigit x → prefix_len is_ascii_digit (ds ++ x) ≡ length ds
run_len [] [] h n = refl
run_len [] (c ∷ x) h n = rw n refl
run_len (d ∷ ds) x h n =
    let p = and_parts (is_digit d) (list_all is_digit ds) h in
    rw (p.0, run_len ds x p.1 n) (omega arith)

passed : (ds x : List ℕ) → drop (length ds) (ds ++ x) ≡ x
passed [] x = refl
passed (d ∷ ds) x = passed ds x

digits_by : (d : ℕ) (more x : List ℕ) → is_digit d ≡ true → AreDigits more → NoDigit x → after_digits ((d ∷ more) ++ x) ≡ Some x
digits_by d more x h a n =
    let len : prefix_len is_ascii_digit ((d ∷ more) ++ x) ≡ length (d ∷ more) = run_len (d ∷ more) x (rw (h, a) refl) n in
    let some : (length (d ∷ more) == 0) ≡ false = ne_eqb (length (d ∷ more)) 0 (omega arith) in
    ap (λ k. cond (k == 0) None (Some (drop k ((d ∷ more) ++ x)))) len
    ∙ ap (λ b. cond b None (Some (drop (length (d ∷ more)) ((d ∷ more) ++ x)))) some
    ∙ ap (λ (t : List ℕ). Some t) (passed (d ∷ more) x)

digits_over : (s x : List ℕ) → IsDigits s → NoDigit x → after_digits (s ++ x) ≡ Some x
digits_over s x h n = subst (λ (t : List ℕ). after_digits (t ++ x) ≡ Some x) (sym h.is) (digits_by h.first h.more x h.digit h.digits n)

-- ---- what follows a part

stop_digit : (after : List ℕ) → Stops after → NoDigit after
stop_digit [] h = tt
stop_digit (c ∷ cs) h = grind (arith, nat_tests)

stop_point : (after : List ℕ) → Stops after → (head after == 46) ≡ false
stop_point [] h = refl
stop_point (c ∷ cs) h = grind (arith, nat_tests)

stop_mark : (after : List ℕ) → Stops after → is_mark (head after) ≡ false
stop_mark [] h = refl
stop_mark (c ∷ cs) h = grind (arith, nat_tests)

mark_digit : (c : ℕ) → is_mark c ≡ true → is_ascii_digit c ≡ false
mark_digit c h = grind (arith, nat_tests)

mark_point : (c : ℕ) → is_mark c ≡ true → (c == 46) ≡ false
mark_point c h = grind (arith, nat_tests)

digit_sign : (c : ℕ) → is_digit c ≡ true → ((c == 45) || (c == 43)) ≡ false
digit_sign c h = grind (arith, nat_tests)

digit_minus : (c : ℕ) → is_digit c ≡ true → (c == 45) ≡ false
digit_minus c h = grind (arith, nat_tests)

sign_first : (c : ℕ) → is_sign c ≡ true → ((c == 45) || (c == 43)) ≡ true
sign_first c h = grind (arith, nat_tests)

-- ---- the parts

signed : (s ds x : List ℕ) → IsSign s → IsDigits ds → after_sign (s ++ (ds ++ x)) ≡ ds ++ x
signed s ds x (no_sign is) h =
    let first : after_sign ((h.first ∷ h.more) ++ x) ≡ (h.first ∷ h.more) ++ x = rw (digit_sign h.first h.digit) refl in
    ap (λ (t : List ℕ). after_sign (t ++ (ds ++ x))) is ∙ subst (λ (t : List ℕ). after_sign (t ++ x) ≡ t ++ x) (sym h.is) first
signed s ds x (sign c is p) h = ap (λ (t : List ℕ). after_sign (t ++ (ds ++ x))) is ∙ rw (sign_first c p) refl

exponent_over : (s after : List ℕ) → IsExponent s → Stops after → after_exponent (s ++ after) ≡ Some after
exponent_over s after (no_exponent is) h = ap (λ (t : List ℕ). after_exponent (t ++ after)) is ∙ rw (stop_mark after h) refl
exponent_over s after (exponent mark sg ds is m p d) h =
    let joined : (sg ++ ds) ++ after ≡ sg ++ (ds ++ after) = append_assoc sg ds after in
    let behind : after_digits (after_sign ((sg ++ ds) ++ after)) ≡ Some after =
    ap (λ (t : List ℕ). after_digits (after_sign t)) joined ∙ ap after_digits (signed sg ds after p d) ∙ digits_over ds after d (stop_digit after h) in
    ap (λ (t : List ℕ). after_exponent (t ++ after)) is ∙ rw m behind

fraction_over : (s x : List ℕ) → IsFraction s → NoDigit x → (head x == 46) ≡ false → after_fraction (s ++ x) ≡ Some x
fraction_over s x (no_fraction is) n p = ap (λ (t : List ℕ). after_fraction (t ++ x)) is ∙ rw p refl
fraction_over s x (fraction ds is d) n p = ap (λ (t : List ℕ). after_fraction (t ++ x)) is ∙ digits_over ds x d n

whole_over : (s x : List ℕ) → IsInt s → NoDigit x → after_whole (s ++ x) ≡ Some x
whole_over s x (zero_int is) n = ap (λ (t : List ℕ). after_whole (t ++ x)) is
whole_over s x (other_int h other) n =
    let first : (h.first == 48) ≡ false = is_not_test h.first 48 other in
    let there : after_whole ((h.first ∷ h.more) ++ x) ≡ Some x = rw first (digits_by h.first h.more x h.digit h.digits n) in
    subst (λ (t : List ℕ). after_whole (t ++ x) ≡ Some x) (sym h.is) there

minus_over : (s x : List ℕ) → IsMinus s → (head x == 45) ≡ false → after_minus (s ++ x) ≡ x
minus_over s x (no_minus is) h = ap (λ (t : List ℕ). after_minus (t ++ x)) is ∙ rw h refl
minus_over s x (minus is) h = ap (λ (t : List ℕ). after_minus (t ++ x)) is

-- ---- what comes first

exponent_digit : (s after : List ℕ) → IsExponent s → Stops after → NoDigit (s ++ after)
exponent_digit s after (no_exponent is) h = subst (λ (t : List ℕ). NoDigit (t ++ after)) (sym is) (stop_digit after h)
exponent_digit s after (exponent mark sg ds is m p d) h = subst (λ (t : List ℕ). NoDigit (t ++ after)) (sym is) (mark_digit mark m)

exponent_point : (s after : List ℕ) → IsExponent s → Stops after → (head (s ++ after) == 46) ≡ false
exponent_point s after (no_exponent is) h = subst (λ (t : List ℕ). (head (t ++ after) == 46) ≡ false) (sym is) (stop_point after h)
exponent_point s after (exponent mark sg ds is m p d) h = subst (λ (t : List ℕ). (head (t ++ after) == 46) ≡ false) (sym is) (mark_point mark m)

fraction_digit : (s x : List ℕ) → IsFraction s → NoDigit x → NoDigit (s ++ x)
fraction_digit s x (no_fraction is) n = subst (λ (t : List ℕ). NoDigit (t ++ x)) (sym is) n
fraction_digit s x (fraction ds is d) n = subst (λ (t : List ℕ). NoDigit (t ++ x)) (sym is) refl

int_minus : (s x : List ℕ) → IsInt s → (head (s ++ x) == 45) ≡ false
int_minus s x (zero_int is) = subst (λ (t : List ℕ). (head (t ++ x) == 45) ≡ false) (sym is) refl
int_minus s x (other_int h other) = subst (λ (t : List ℕ). (head (t ++ x) == 45) ≡ false) (sym h.is) (digit_minus h.first h.digit)

-- ---- the number

pub number_over : (s after : List ℕ) → IsJsonNumber s → Stops after → after_number (s ++ after) ≡ Some after
unfolding after_number
number_over s after n h =
    let x = n.exponent ++ after in
    let f = n.fraction ++ x in
    let i = n.int ++ f in
    let joined : s ++ after ≡ n.minus ++ i =
    ap (λ (t : List ℕ). t ++ after) n.parts ∙ append_assoc n.minus (n.int ++ (n.fraction ++ n.exponent)) after
    ∙ ap (λ (t : List ℕ). n.minus ++ t) (append_assoc n.int (n.fraction ++ n.exponent) after ∙ ap (λ (t : List ℕ). n.int ++ t) (append_assoc n.fraction n.exponent after)) in
    let x_digit = exponent_digit n.exponent after n.is_exponent h in
    let x_point = exponent_point n.exponent after n.is_exponent h in
    let f_digit = fraction_digit n.fraction x n.is_fraction x_digit in
    let by = λ (t : List ℕ). option_and_then after_exponent (option_and_then after_fraction (after_whole t)) in
    ap (λ (t : List ℕ). by (after_minus t)) joined
    ∙ ap by (minus_over n.minus i n.is_minus (int_minus n.int f n.is_int))
    ∙ ap (λ o. option_and_then after_exponent (option_and_then after_fraction o)) (whole_over n.int f n.is_int f_digit)
    ∙ ap (option_and_then after_exponent) (fraction_over n.fraction x n.is_fraction x_digit x_point)
    ∙ exponent_over n.exponent after n.is_exponent h
