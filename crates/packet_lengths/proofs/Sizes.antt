-- The text of a JSON value is no longer than its room: what its tokens have, each with a comma.
use Rattle.std.proofs.Common.{◌≡◌, ◌≤◌, ◌<◌, ◌+◌, ◌*◌, ℕ, ℤ, zero, suc, Bool, true, false, cond, List, [], ◌∷◌, ◌++◌, length, decimal, Option, Some, None, refl, arith, length-append}
use Rattle.std.specs.Prelude.{◌-◌, ◌/◌, ◌%◌, ◌==◌, if◌then◌else◌, nat_lt, unsigned_abs}
use Rattle.std.specs.Char.{digit_char}
use Rattle.std.specs.Int.{is_negative}
use Rattle.std.specs.Str.{chars, chars_after, continuation_len, lead_bits}
use Rattle.std.proofs.lemmas.Fmt.{length-decimal-le}
use Rattle.json.specs.Json as json
use Rattle.json.specs.Print.{begins, ends, escape, escape_byte, escape_letter, print_from, quoted, separator, token_text}
use Rattle.json.specs.Token.{Token}
use Rattle.json.specs.Tree.{json_tokens, members_tokens, room}
use Rattle.ocpi_text.specs.Digits.{three_digits, four_digits}
use Rattle.ocpi_text.specs.Decimal.{e4_limit, e4_text, sign_text, sum_text, unsigned_text}
use Rattle.ocpi_text.specs.Moment.{fraction_text, moment_text}
use Rattle.ocpi_text.specs.Whole.{max_whole}
use Rattle.ocpi_types.specs.declared.field.Field.{Field}
use Rattle.ocpi_types.specs.declared.field.Field.TheVariants.{Line}
use Rattle.ocpi_types.specs.Fields.{name_of}
use Rattle.json_text.specs.Fits.{FitsCi, FitsFree}
use Rattle.json_text.specs.Members.{Member, and_before, members_of, object_of}

-- ---- texts of tokens

separator_short : (b : Bool) (t : Token) → length (separator b t) ≤ 1
separator_short false t = omega arith
separator_short true t = at (begins t) where
  at : (s : Bool) → length {A = ℕ} (cond s (44 ∷ []) []) ≤ 1
  at false = omega arith
  at true = omega arith

pub print_short : (b : Bool) (ts : List Token) → length (print_from b ts) ≤ room ts
unfolding print_from
print_short b [] = omega arith
print_short b (t ∷ ts) =
    let rest = print_short (ends t) ts in
    let first = separator_short b t in
    omega (arith, length-append (separator b t) (token_text t ++ print_from (ends t) ts), length-append (token_text t) (print_from (ends t) ts), rest, first)

pub room_append : (xs ys : List Token) → room (xs ++ ys) ≡ room xs + room ys
room_append [] ys = omega arith
room_append (x ∷ xs) ys = omega (arith, room_append xs ys)

byte_short : (x : ℕ) → length (escape_byte x) ≤ 6
unfolding escape_byte
byte_short x = at (nat_lt 0 (escape_letter x)) (nat_lt x 32) where
  at : (e c : Bool) → length (cond e (92 ∷ escape_letter x ∷ []) (cond c (92 ∷ 117 ∷ 48 ∷ 48 ∷ digit_char (x / 16) ∷ digit_char (x % 16) ∷ []) (x ∷ []))) ≤ 6
  at true c = omega arith
  at false true = omega arith
  at false false = omega arith

escape_short : (s : List ℕ) → length (escape s) ≤ 6 * length s
escape_short [] = omega arith
escape_short (x ∷ s) = omega (arith, length-append (escape_byte x) (escape s), byte_short x, escape_short s)

quoted_short : (s : List ℕ) → length (quoted s) ≤ 2 + 6 * length s
quoted_short s = omega (arith, length-append (escape s) (34 ∷ []), escape_short s)

-- ---- values

-- a value that needs at most so much
abbrev pub Needs : ℕ → json.Json → Type 0
Needs n j = room (json_tokens j) ≤ n

pub text_needs : (most : ℕ) (s : List ℕ) → length s ≤ most → Needs (3 + 6 * most) (json.string s)
text_needs most s le = omega (arith, quoted_short s)

pub number_needs : (most : ℕ) (s : List ℕ) → length s ≤ most → Needs (1 + most) (json.number s)
number_needs most s le = omega arith

pub truth_needs : (b : Bool) → Needs 6 (json.boolean b)
truth_needs true = omega arith
truth_needs false = omega arith

-- ---- texts of OCPI

continuations : (b : ℕ) → continuation_len b ≤ 3
continuations b = at (nat_lt b 128) (nat_lt b 224) (nat_lt b 240) where
  at : (one two three : Bool) → cond one 0 (cond two 1 (cond three 2 3)) ≤ 3
  at true two three = omega arith
  at false true three = omega arith
  at false false true = omega arith
  at false false false = omega arith

after_short : (n c : ℕ) (bs : List ℕ) → length bs ≤ 4 * length (chars_after n c bs) + n
after_short zero c [] = omega arith
after_short zero c (b ∷ bs) = omega (arith, after_short (continuation_len b) (lead_bits b) bs, continuations b)
after_short (suc n) c [] = omega arith
after_short (suc n) c (b ∷ bs) = omega (arith, after_short n (c * 64 + (b - 128)) bs)

-- a character has at most four bytes, and what ends inside one fewer
chars_short : (s : List ℕ) → length s ≤ 4 * length (chars s) + 4
unfolding chars
chars_short [] = omega arith
chars_short (b ∷ bs) = omega (arith, after_short (continuation_len b) (lead_bits b) bs, continuations b)

pub ci_needs : (max : ℕ) (s : List ℕ) → FitsCi max s → Needs (3 + 6 * max) (json.string s)
ci_needs max s fits = text_needs max s fits.short

pub free_needs : (max : ℕ) (s : List ℕ) → FitsFree max s → Needs (27 + 24 * max) (json.string s)
free_needs max s fits = let le = text_needs (4 * max + 4) s (let short = fits.short in omega (arith, chars_short s)) in omega (arith, le)

fraction_short : (m : ℕ) → length (fraction_text m) ≤ 4
fraction_short m = at (m == 0) where
  at : (b : Bool) → length (if b then [] else 46 ∷ three_digits m) ≤ 4
  at true = omega arith
  at false = omega arith

moment_short : (n : ℕ) → length (moment_text n) ≤ 24
unfolding moment_text
moment_short n = omega (arith, length-append (fraction_text (n % 1000)) (90 ∷ []), fraction_short (n % 1000))

sign_short : (b : Bool) → length (sign_text b) ≤ 1
sign_short true = omega arith
sign_short false = omega arith

unsigned_short : (n : ℕ) → n < e4_limit → length (unsigned_text n) ≤ 16
unfolding unsigned_text
unsigned_short n small =
    omega (arith, length-append (decimal (n / 10000)) (46 ∷ four_digits (n % 10000)), length-decimal-le 11 (n / 10000) (omega arith) (omega arith) (omega arith))

e4_short : (z : ℤ) → unsigned_abs z < e4_limit → length (e4_text z) ≤ 17
unfolding sum_text
e4_short z small = omega (arith, length-append (sign_text (is_negative z)) (unsigned_text (unsigned_abs z)), sign_short (is_negative z), unsigned_short (unsigned_abs z) small)

pub moment_needs : (n : ℕ) → Needs 147 (json.string (moment_text n))
moment_needs n = text_needs 24 (moment_text n) (moment_short n)

pub whole_needs : (n : ℕ) → n ≤ max_whole → Needs 19 (json.number (decimal n))
whole_needs n le = number_needs 18 (decimal n) (length-decimal-le 18 n (omega arith) (omega arith) (omega arith))

pub e4_needs : (z : ℤ) → unsigned_abs z < e4_limit → Needs 18 (json.number (e4_text z))
e4_needs z small = number_needs 17 (e4_text z) (e4_short z small)

-- ---- records

-- an optional value needs at most so much
abbrev pub OptionNeeds : ℕ → Option json.Json → Type 0
OptionNeeds n None = Unit {0}
OptionNeeds n (Some j) = Needs n j

abbrev pub MembersNeed : List ℕ → List Member → Type 0
MembersNeed [] [] = Unit {0}
MembersNeed [] (m ∷ ms) = ⊥
MembersNeed (n ∷ ns) [] = ⊥
MembersNeed (n ∷ ns) (m ∷ ms) = OptionNeeds n m.value × MembersNeed ns ms

-- with the names of the members
abbrev pub total : List ℕ → ℕ
total [] = 0
total (n ∷ ns) = 142 + n + total ns

-- one fact after another
infixr 5 ◌and◌
pub ◌and◌ : {A B : Type 0} → A → B → A × B
a and b = (a, b)

name_short : (f : Field) → length (name_of f) ≤ 23
unfolding name_of
name_short Line = omega arith
name_short f = omega arith

member_needs : (f : Field) (n more : ℕ) (o : Option json.Json) (ms : json.Members) → OptionNeeds n o → room (members_tokens ms) ≤ more
    → room (members_tokens (and_before f o ms)) ≤ 142 + n + more
member_needs f n more None ms fits rest = omega arith
member_needs f n more (Some j) ms fits rest =
    omega (arith, room_append (json_tokens j) (members_tokens ms), quoted_short (name_of f), name_short f, length-append (quoted (name_of f)) (58 ∷ []))

members_need : (ns : List ℕ) (ms : List Member) → MembersNeed ns ms → room (members_tokens (members_of ms)) ≤ 2 + total ns
members_need [] [] fits = omega arith
members_need [] (m ∷ ms) fits = absurd fits
members_need (n ∷ ns) [] fits = absurd fits
members_need (n ∷ ns) (m ∷ ms) fits = omega (arith, member_needs m.field n (2 + total ns) m.value (members_of ms) fits.0 (members_need ns ms fits.1))

pub record_needs : (ns : List ℕ) (ms : List Member) → MembersNeed ns ms → Needs (4 + total ns) (object_of ms)
record_needs ns ms fits = omega (arith, members_need ns ms fits)

pub record_within : (ns : List ℕ) (ms : List Member) {most : ℕ} → MembersNeed ns ms → 4 + total ns ≤ most → Needs most (object_of ms)
record_within ns ms fits le = omega (arith, record_needs ns ms fits, le)

pub wider : (j : json.Json) {least most : ℕ} → Needs least j → least ≤ most → Needs most j
wider j fits le = omega arith
