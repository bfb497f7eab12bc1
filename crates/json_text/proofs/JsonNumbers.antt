-- The places of a number accept the numbers of JSON and no other text.
use Rattle.std.proofs.Common.{◌≡◌, ℕ, Bool, true, false, cond, List, [], ◌∷◌, ◌++◌, refl, sym, ap, subst, ◌∙◌, arith}
use Rattle.std.proofs.Common.{◌||◌, ◌==◌}
use Rattle.std.specs.List.{list_all}
use Rattle.std.proofs.lemmas.Bool.{and_parts}
use Rattle.std.proofs.lemmas.Bool.Decides.{nat_tests}
use Rattle.json_text.specs.declared.quote.Place.{Place}
use Rattle.json_text.specs.declared.quote.Place.TheVariants.{Minus, Zero, Whole, Point, Fraction, Mark, Sign, Exponent, Bad}
use Rattle.json_text.specs.Numbers.{AreDigits, IsDigits, IsMinus, no_minus, minus, IsInt, zero_int, other_int, IsFraction, no_fraction, fraction, IsSign, no_sign, sign, IsExponent, no_exponent, exponent, IsJsonNumber}
use Rattle.json_text.specs.Quote.{is_digit, is_mark, is_sign, is_number_char, first_place, next_place, place_after, is_whole}
use Rattle.json_text.proofs.Steps.{test_is, test_is_not, is_not_test, first_is}

-- a number token, by the places
pub record IsNumber (first : ℕ) (more : List ℕ) : Type 0 where
  pub begins : (is_digit first || (first == 45)) ≡ true
  pub goes_on : list_all is_number_char more ≡ true
  pub ends : is_whole (place_after (first_place first) more) ≡ true

-- ---- what may follow at each place

abbrev Rest : Place → List ℕ → Type 0
Rest Minus s = (i : List ℕ) × (f : List ℕ) × (e : List ℕ) × (s ≡ i ++ (f ++ e)) × IsInt i × IsFraction f × IsExponent e
Rest Zero s = (f : List ℕ) × (e : List ℕ) × (s ≡ f ++ e) × IsFraction f × IsExponent e
Rest Whole s = (ds : List ℕ) × (f : List ℕ) × (e : List ℕ) × (s ≡ ds ++ (f ++ e)) × AreDigits ds × IsFraction f × IsExponent e
Rest Point s = (ds : List ℕ) × (e : List ℕ) × (s ≡ ds ++ e) × IsDigits ds × IsExponent e
Rest Fraction s = (ds : List ℕ) × (e : List ℕ) × (s ≡ ds ++ e) × AreDigits ds × IsExponent e
Rest Mark s = (g : List ℕ) × (ds : List ℕ) × (s ≡ g ++ ds) × IsSign g × IsDigits ds
Rest Sign s = IsDigits s
Rest Exponent s = AreDigits s
Rest Bad s = ⊥

at_end : (p : Place) → is_whole p ≡ true → Rest p []
at_end Minus h = absurd cc
at_end Zero h = ([], [], refl, no_fraction refl, no_exponent refl)
at_end Whole h = ([], [], [], refl, refl, no_fraction refl, no_exponent refl)
at_end Point h = absurd cc
at_end Fraction h = ([], [], refl, refl, no_exponent refl)
at_end Mark h = absurd cc
at_end Sign h = absurd cc
at_end Exponent h = refl
at_end Bad h = absurd cc

one_more : (c : ℕ) (s t : List ℕ) → s ≡ t → c ∷ s ≡ c ∷ t
one_more c s t e = ap (λ (u : List ℕ). c ∷ u) e

abbrev digits_with : (c : ℕ) (ds : List ℕ) → is_digit c ≡ true → AreDigits ds → IsDigits (c ∷ ds)
digits_with c ds h g = record { first = c; more = ds; is = refl; digit = h; digits = g }

more_digits : (c : ℕ) (ds : List ℕ) → is_digit c ≡ true → AreDigits ds → AreDigits (c ∷ ds)
more_digits c ds h g = rw (h, g) refl

-- an exponent, from what may follow its mark
marked : (c : ℕ) (s : List ℕ) → is_mark c ≡ true → Rest Mark s → IsExponent (c ∷ s)
marked c s h r = exponent c r.0 r.1 (one_more c s (r.0 ++ r.1) r.2) h r.3 r.4

after_minus : (c : ℕ) (s : List ℕ) (a b : Bool) → (c == 48) ≡ a → is_digit c ≡ b → Rest (cond a Zero (cond b Whole Bad)) s → Rest Minus (c ∷ s)
after_minus c s true b h g r = (48 ∷ [], r.0, r.1, first_is c 48 s (r.0 ++ r.1) (test_is c 48 h) r.2, zero_int refl, r.3, r.4)
after_minus c s false true h g r = (c ∷ r.0, r.1, r.2, one_more c s _ r.3, other_int (digits_with c r.0 g r.4) (test_is_not c 48 h), r.5, r.6)
after_minus c s false false h g r = absurd r

-- a fraction, from what may follow its point
pointed : (c : ℕ) (s : List ℕ) → (c == 46) ≡ true → Rest Point s → Rest Zero (c ∷ s)
pointed c s h r = (46 ∷ r.0, r.1, first_is c 46 s (r.0 ++ r.1) (test_is c 46 h) r.2, fraction r.0 refl r.3, r.4)

after_zero : (c : ℕ) (s : List ℕ) (a b : Bool) → (c == 46) ≡ a → is_mark c ≡ b → Rest (cond a Point (cond b Mark Bad)) s → Rest Zero (c ∷ s)
after_zero c s true b h g r = pointed c s h r
after_zero c s false true h g r = ([], c ∷ s, refl, no_fraction refl, marked c s g r)
after_zero c s false false h g r = absurd r

after_whole : (c : ℕ) (s : List ℕ) (a b d : Bool) → is_digit c ≡ a → (c == 46) ≡ b → is_mark c ≡ d → Rest (cond a Whole (cond b Point (cond d Mark Bad))) s → Rest Whole (c ∷ s)
after_whole c s true b d h g k r = (c ∷ r.0, r.1, r.2, one_more c s _ r.3, more_digits c r.0 h r.4, r.5, r.6)
after_whole c s false true d h g k r = let z = pointed c s g r in ([], z.0, z.1, z.2, refl, z.3, z.4)
after_whole c s false false true h g k r = ([], [], c ∷ s, refl, refl, no_fraction refl, marked c s k r)
after_whole c s false false false h g k r = absurd r

after_point : (c : ℕ) (s : List ℕ) (a : Bool) → is_digit c ≡ a → Rest (cond a Fraction Bad) s → Rest Point (c ∷ s)
after_point c s true h r = (c ∷ r.0, r.1, one_more c s _ r.2, digits_with c r.0 h r.3, r.4)
after_point c s false h r = absurd r

after_fraction : (c : ℕ) (s : List ℕ) (a b : Bool) → is_digit c ≡ a → is_mark c ≡ b → Rest (cond a Fraction (cond b Mark Bad)) s → Rest Fraction (c ∷ s)
after_fraction c s true b h g r = (c ∷ r.0, r.1, one_more c s _ r.2, more_digits c r.0 h r.3, r.4)
after_fraction c s false true h g r = ([], c ∷ s, refl, refl, marked c s g r)
after_fraction c s false false h g r = absurd r

after_mark : (c : ℕ) (s : List ℕ) (a b : Bool) → is_digit c ≡ a → is_sign c ≡ b → Rest (cond a Exponent (cond b Sign Bad)) s → Rest Mark (c ∷ s)
after_mark c s true b h g r = ([], c ∷ s, refl, no_sign refl, digits_with c s h r)
after_mark c s false true h g r = (c ∷ [], s, refl, sign c refl g, r)
after_mark c s false false h g r = absurd r

after_sign : (c : ℕ) (s : List ℕ) (a : Bool) → is_digit c ≡ a → Rest (cond a Exponent Bad) s → Rest Sign (c ∷ s)
after_sign c s true h r = digits_with c s h r
after_sign c s false h r = absurd r

after_exponent : (c : ℕ) (s : List ℕ) (a : Bool) → is_digit c ≡ a → Rest (cond a Exponent Bad) s → Rest Exponent (c ∷ s)
after_exponent c s true h r = more_digits c s h r
after_exponent c s false h r = absurd r

step : (p : Place) (c : ℕ) (s : List ℕ) → Rest (next_place p c) s → Rest p (c ∷ s)
step Minus c s r = after_minus c s (c == 48) (is_digit c) refl refl r
step Zero c s r = after_zero c s (c == 46) (is_mark c) refl refl r
step Whole c s r = after_whole c s (is_digit c) (c == 46) (is_mark c) refl refl refl r
step Point c s r = after_point c s (is_digit c) refl r
step Fraction c s r = after_fraction c s (is_digit c) (is_mark c) refl refl r
step Mark c s r = after_mark c s (is_digit c) (is_sign c) refl refl r
step Sign c s r = after_sign c s (is_digit c) refl r
step Exponent c s r = after_exponent c s (is_digit c) refl r
step Bad c s r = absurd r

rest_is : (p : Place) (s : List ℕ) → is_whole (place_after p s) ≡ true → Rest p s
rest_is p [] h = at_end p h
rest_is p (c ∷ s) h = step p c s (rest_is (next_place p c) s h)

-- ---- a number of JSON ends where a number may end

place_append : (p : Place) (s t : List ℕ) → place_after p (s ++ t) ≡ place_after (place_after p s) t
place_append p [] t = refl
place_append p (c ∷ s) t = place_append (next_place p c) s t

record TakesExponent (p : Place) : Type 0 where
  whole : is_whole p ≡ true
  small : next_place p 101 ≡ Mark
  large : next_place p 69 ≡ Mark

record TakesFraction (p : Place) : Type 0 where
  point : next_place p 46 ≡ Point
  or_exponent : TakesExponent p

zero_takes : TakesFraction Zero
zero_takes = record { point = refl; or_exponent = record { whole = refl; small = refl; large = refl } }

whole_takes : TakesFraction Whole
whole_takes = record { point = refl; or_exponent = record { whole = refl; small = refl; large = refl } }

fraction_takes : TakesExponent Fraction
fraction_takes = record { whole = refl; small = refl; large = refl }

whole_stays : (s : List ℕ) → AreDigits s → place_after Whole s ≡ Whole
whole_stays [] h = refl
whole_stays (c ∷ s) h = let both = and_parts (is_digit c) (list_all is_digit s) h in rw both.0 (whole_stays s both.1)

fraction_stays : (s : List ℕ) → AreDigits s → place_after Fraction s ≡ Fraction
fraction_stays [] h = refl
fraction_stays (c ∷ s) h = let both = and_parts (is_digit c) (list_all is_digit s) h in rw both.0 (fraction_stays s both.1)

exponent_stays : (s : List ℕ) → AreDigits s → place_after Exponent s ≡ Exponent
exponent_stays [] h = refl
exponent_stays (c ∷ s) h = let both = and_parts (is_digit c) (list_all is_digit s) h in rw both.0 (exponent_stays s both.1)

digits_end : (s : List ℕ) → IsDigits s → place_after Mark s ≡ Exponent
digits_end s h = rw (h.is, h.digit) (exponent_stays h.more h.digits)

sign_is_no_digit : (c : ℕ) → is_sign c ≡ true → is_digit c ≡ false
sign_is_no_digit c h = grind (arith, nat_tests)

sign_is : (c : ℕ) → is_sign c ≡ true → next_place Mark c ≡ Sign
sign_is c h = rw (sign_is_no_digit c h, h) refl

digits_follow : (s : List ℕ) → IsDigits s → place_after Sign s ≡ Exponent
digits_follow s h = rw (h.is, h.digit) (exponent_stays h.more h.digits)

signed_end : (s ds : List ℕ) → IsSign s → IsDigits ds → place_after Mark (s ++ ds) ≡ Exponent
signed_end s ds (no_sign e) h = rw e (digits_end ds h)
signed_end s ds (sign c e g) h = rw e (ap (λ (p : Place). place_after p ds) (sign_is c g) ∙ digits_follow ds h)

mark_is : (p : Place) (c : ℕ) (b : Bool) → (c == 101) ≡ b → is_mark c ≡ true → TakesExponent p → next_place p c ≡ Mark
mark_is p c true e h t = rw (test_is c 101 e) t.small
mark_is p c false e h t = let is : c ≡ 69 = grind (arith, nat_tests) in rw is t.large

exponent_ends : (p : Place) (s : List ℕ) → TakesExponent p → IsExponent s → is_whole (place_after p s) ≡ true
exponent_ends p s t (no_exponent e) = rw e t.whole
exponent_ends p s t (exponent m g ds e h k d) =
    subst (λ (x : List ℕ). is_whole (place_after p x) ≡ true) (sym e)
    (ap is_whole (ap (λ (q : Place). place_after q (g ++ ds)) (mark_is p m (m == 101) refl h t) ∙ signed_end g ds k d))

pointed_end : (s : List ℕ) → IsDigits s → place_after Point s ≡ Fraction
pointed_end s h = rw (h.is, h.digit) (fraction_stays h.more h.digits)

fraction_ends : (p : Place) (f e : List ℕ) → TakesFraction p → IsFraction f → IsExponent e → is_whole (place_after p (f ++ e)) ≡ true
fraction_ends p f e t (no_fraction is) k = subst (λ (x : List ℕ). is_whole (place_after p (x ++ e)) ≡ true) (sym is) (exponent_ends p e t.or_exponent k)
fraction_ends p f e t (fraction ds is d) k =
    subst (λ (x : List ℕ). is_whole (place_after p (x ++ e)) ≡ true) (sym is)
    (ap is_whole (ap (λ (q : Place). place_after q (ds ++ e)) t.point ∙ place_append Point ds e ∙ ap (λ (q : Place). place_after q e) (pointed_end ds d))
    ∙ exponent_ends Fraction e fraction_takes k)

int_first : (c : ℕ) → is_digit c ≡ true → (c ≡ 48 → ⊥) → next_place Minus c ≡ Whole
int_first c h n = rw (is_not_test c 48 n, h) refl

-- an int, at either of the places where it may end
int_ends : (i rest : List ℕ) → IsInt i → ((p : Place) → TakesFraction p → is_whole (place_after p rest) ≡ true) → is_whole (place_after Minus (i ++ rest)) ≡ true
int_ends i rest (zero_int e) k = rw e (k Zero zero_takes)
int_ends i rest (other_int h n) k =
    rw h.is
    (ap is_whole (ap (λ (p : Place). place_after p (h.more ++ rest)) (int_first h.first h.digit n) ∙ place_append Whole h.more rest ∙ ap (λ (p : Place). place_after p rest) (whole_stays h.more h.digits))
    ∙ k Whole whole_takes)

unsigned_ends : (i f e : List ℕ) → IsInt i → IsFraction f → IsExponent e → is_whole (place_after Minus (i ++ (f ++ e))) ≡ true
unsigned_ends i f e a b d = int_ends i (f ++ e) a (λ p t. fraction_ends p f e t b d)

-- ---- both ways

first_digit : (c : ℕ) → is_digit c ≡ true → first_place c ≡ next_place Minus c
first_digit c h = let other : (c == 45) ≡ false = grind (arith, nat_tests) in rw (other, h) refl

json_by : (c : ℕ) (cs : List ℕ) (b : Bool) → (c == 45) ≡ b → (is_digit c || b) ≡ true → is_whole (place_after (first_place c) cs) ≡ true → IsJsonNumber (c ∷ cs)
json_by c cs true is h e =
    let same : c ≡ 45 = test_is c 45 is in
    let start : first_place c ≡ Minus = rw is refl in
    let r : Rest Minus cs = rest_is Minus cs (ap (λ (p : Place). is_whole (place_after p cs)) (sym start) ∙ e) in
    record { minus = 45 ∷ []; int = r.0; fraction = r.1; exponent = r.2; parts = first_is c 45 cs _ same r.3; is_minus = minus refl; is_int = r.4; is_fraction = r.5; is_exponent = r.6 }
json_by c cs false is h e =
    let digit : is_digit c ≡ true = grind (arith, nat_tests) in
    let r : Rest Minus (c ∷ cs) = rest_is Minus (c ∷ cs) (ap (λ (p : Place). is_whole (place_after p cs)) (sym (first_digit c digit)) ∙ e) in
    record { minus = []; int = r.0; fraction = r.1; exponent = r.2; parts = r.3; is_minus = no_minus refl; is_int = r.4; is_fraction = r.5; is_exponent = r.6 }

pub json_from_places : (c : ℕ) (cs : List ℕ) → (is_digit c || (c == 45)) ≡ true → is_whole (place_after (first_place c) cs) ≡ true → IsJsonNumber (c ∷ cs)
json_from_places c cs h e = json_by c cs (c == 45) refl h e

-- how a text begins that is a number
abbrev Starts : List ℕ → Type 0
Starts [] = ⊥
Starts (c ∷ cs) = (is_digit c || (c == 45)) ≡ true

abbrev StartsWithDigit : List ℕ → Type 0
StartsWithDigit [] = ⊥
StartsWithDigit (c ∷ cs) = is_digit c ≡ true

digit_starts : (c : ℕ) → is_digit c ≡ true → (is_digit c || (c == 45)) ≡ true
digit_starts c h = rw h refl

starts : (s : List ℕ) → StartsWithDigit s → Starts s
starts [] h = h
starts (c ∷ cs) h = digit_starts c h

int_starts : (i rest : List ℕ) → IsInt i → StartsWithDigit (i ++ rest)
int_starts i rest (zero_int e) = subst (λ (t : List ℕ). StartsWithDigit (t ++ rest)) (sym e) refl
int_starts i rest (other_int h n) = subst (λ (t : List ℕ). StartsWithDigit (t ++ rest)) (sym h.is) h.digit

starts_by : (m s : List ℕ) → IsMinus m → StartsWithDigit s → Starts (m ++ s)
starts_by m s (no_minus e) h = subst (λ (t : List ℕ). Starts (t ++ s)) (sym e) (starts s h)
starts_by m s (minus e) h = subst (λ (t : List ℕ). Starts (t ++ s)) (sym e) refl

number_starts : (s : List ℕ) → IsJsonNumber s → Starts s
number_starts s n = subst Starts (sym n.parts) (starts_by n.minus (n.int ++ (n.fraction ++ n.exponent)) n.is_minus (int_starts n.int (n.fraction ++ n.exponent) n.is_int))

pub no_empty_number : IsJsonNumber [] → ⊥
no_empty_number n = number_starts [] n

-- the places, over a text that may begin with a minus
abbrev Ends : List ℕ → Type 0
Ends [] = ⊥
Ends (c ∷ cs) = is_whole (place_after (first_place c) cs) ≡ true

digit_ends : (s : List ℕ) → StartsWithDigit s → is_whole (place_after Minus s) ≡ true → Ends s
digit_ends [] h e = h
digit_ends (c ∷ cs) h e = ap (λ (p : Place). is_whole (place_after p cs)) (first_digit c h) ∙ e

signed_ends : (m s : List ℕ) → IsMinus m → StartsWithDigit s → is_whole (place_after Minus s) ≡ true → Ends (m ++ s)
signed_ends m s (no_minus is) h e = subst (λ (t : List ℕ). Ends (t ++ s)) (sym is) (digit_ends s h e)
signed_ends m s (minus is) h e = subst (λ (t : List ℕ). Ends (t ++ s)) (sym is) e

number_ends : (s : List ℕ) → IsJsonNumber s → Ends s
number_ends s n =
    subst Ends (sym n.parts)
    (signed_ends n.minus (n.int ++ (n.fraction ++ n.exponent)) n.is_minus (int_starts n.int (n.fraction ++ n.exponent) n.is_int) (unsigned_ends n.int n.fraction n.exponent n.is_int n.is_fraction n.is_exponent))

pub places_from_json : (c : ℕ) (cs : List ℕ) → IsJsonNumber (c ∷ cs) → is_whole (place_after (first_place c) cs) ≡ true
places_from_json c cs n = number_ends (c ∷ cs) n

-- ---- each character of a number is one of a number token

bad_stays : (s : List ℕ) → is_whole (place_after Bad s) ≡ false
bad_stays [] = refl
bad_stays (c ∷ s) = bad_stays s

record IsForeign (c : ℕ) : Type 0 where
  digit : is_digit c ≡ false
  zero_too : (c == 48) ≡ false
  point : (c == 46) ≡ false
  mark : is_mark c ≡ false
  sign_too : is_sign c ≡ false

foreign : (c : ℕ) → is_number_char c ≡ false → IsForeign c
foreign c h = record { digit = grind (arith, nat_tests); zero_too = grind (arith, nat_tests); point = grind (arith, nat_tests); mark = grind (arith, nat_tests); sign_too = grind (arith, nat_tests) }

foreign_bad : (p : Place) (c : ℕ) → IsForeign c → next_place p c ≡ Bad
foreign_bad Minus c h = rw (h.zero_too, h.digit) refl
foreign_bad Zero c h = rw (h.point, h.mark) refl
foreign_bad Whole c h = rw (h.digit, h.point, h.mark) refl
foreign_bad Point c h = rw h.digit refl
foreign_bad Fraction c h = rw (h.digit, h.mark) refl
foreign_bad Mark c h = rw (h.digit, h.sign_too) refl
foreign_bad Sign c h = rw h.digit refl
foreign_bad Exponent c h = rw h.digit refl
foreign_bad Bad c h = refl

char_by : (p : Place) (c : ℕ) (s : List ℕ) (b : Bool) → is_number_char c ≡ b → is_whole (place_after (next_place p c) s) ≡ true → is_number_char c ≡ true
char_by p c s true h e = h
char_by p c s false h e = absurd (cc (e, ap (λ (q : Place). is_whole (place_after q s)) (foreign_bad p c (foreign c h)), bad_stays s))

number_chars : (p : Place) (s : List ℕ) → is_whole (place_after p s) ≡ true → list_all is_number_char s ≡ true
number_chars p [] e = refl
number_chars p (c ∷ s) e = rw (char_by p c s (is_number_char c) refl e, number_chars (next_place p c) s e) refl

pub number_from_json : (c : ℕ) (cs : List ℕ) → IsJsonNumber (c ∷ cs) → IsNumber c cs
number_from_json c cs n = record { begins = number_starts (c ∷ cs) n; goes_on = number_chars (first_place c) cs (places_from_json c cs n); ends = places_from_json c cs n }
