-- The string at the front of a text ends at a quote, and is read alike whatever follows it.
use Rattle.std.proofs.Common.{◌≡◌, ◌≢◌, ℕ, Bool, true, false, cond, List, [], ◌∷◌, ◌++◌, Option, Some, None}
use Rattle.std.proofs.Common.{option_and_then, refl, sym, ap, ◌∙◌, append_assoc, arith, ◌&&◌, ◌==◌, nat_lt, codes}
use Rattle.std.specs.Char.{is_digit, encode_utf8}
use Rattle.std.proofs.lemmas.Bool.{and_parts}
use Rattle.std.proofs.lemmas.Bool.Decides.{nat_tests}
use Rattle.json.specs.Text.{code_unit, short_escape, is_high_surrogate, is_low_surrogate, surrogate_pair, Within, plain, after_backslash, after_u, after_high, prepend, content}
use Rattle.json.specs.Word.{is_operator, is_space}
use Rattle.json.specs.Lex.{Lexeme, operator, space, other, Mode, between, in_string, lex_byte, lex}
use Rattle.json_text.specs.Pieces as pieces
use Rattle.json_text.specs.Pieces.{Character, escaped, characters_text, AreCharacters, IsTagged}
use Rattle.json_text.specs.Tag.{is_tagged}
use Rattle.json_text.proofs.Steps.{test_is, test_is_not, is_not_test}

-- what stands before the quote that ends the string: characters, behind a backslash the first of which is escaped by it
abbrev Shape : Within → List ℕ → Type 0
Shape plain front = (cs : List Character) × (front ≡ characters_text cs) × AreCharacters cs
Shape after_backslash front = (c : ℕ) × (cs : List Character) × (front ≡ c ∷ characters_text cs) × AreCharacters cs
Shape after_u front = (cs : List Character) × (front ≡ characters_text cs) × AreCharacters cs
Shape (after_high h) front = (cs : List Character) × (front ≡ characters_text cs) × AreCharacters cs

record Closed (w : Within) (xs s : List ℕ) : Type 0 where
  front : List ℕ
  after : List ℕ
  is : xs ≡ front ++ 34 ∷ after
  again : (rest : List ℕ) → content w (front ++ 34 ∷ rest) ≡ Some s
  shape : Shape w front

-- ---- cases

pub either : (G : Type 0) (s : List ℕ) (b : Bool) (x y : Option (List ℕ)) → cond b x y ≡ Some s → (b ≡ true → x ≡ Some s → G) → (b ≡ false → y ≡ Some s → G) → G
either G s true x y e f g = f refl e
either G s false x y e f g = g refl e

pub bound : (f : ℕ → Option (List ℕ)) (o : Option ℕ) (s : List ℕ) → option_and_then f o ≡ Some s → (u : ℕ) × (o ≡ Some u) × (f u ≡ Some s)
bound f None s e = absurd cc
bound f (Some u) s e = (u, refl, e)

pub behind : (bytes : List ℕ) (o : Option (List ℕ)) (s : List ℕ) → prepend bytes o ≡ Some s → (t : List ℕ) × (o ≡ Some t) × (Some (bytes ++ t) ≡ Some s)
behind bytes None s e = absurd cc
behind bytes (Some t) s e = (t, refl, e)

cons_is : (c : ℕ) (s t : List ℕ) → s ≡ t → c ∷ s ≡ c ∷ t
cons_is c s t e = ap (λ (u : List ℕ). c ∷ u) e

-- ---- four hex digits

record IsPlainByte (x : ℕ) : Type 0 where
  quote_not : x ≢ 34
  backslash_not : x ≢ 92

hex_plain : (x : ℕ) → is_digit x 16 ≡ true → IsPlainByte x
hex_plain x h = record { quote_not = λ e. grind (arith, nat_tests); backslash_not = λ e. grind (arith, nat_tests) }

some_by : (b : Bool) (v u : ℕ) → cond b (Some v) None ≡ Some u → b ≡ true
some_by true v u e = refl
some_by false v u e = absurd cc

record FourPlain (a b c d : ℕ) : Type 0 where
  first : IsPlainByte a
  second : IsPlainByte b
  third : IsPlainByte c
  fourth : IsPlainByte d

unit_plain : (a b c d u : ℕ) → code_unit a b c d ≡ Some u → FourPlain a b c d
unfolding code_unit
unit_plain a b c d u e =
    let p = and_parts (is_digit a 16 && is_digit b 16 && is_digit c 16) (is_digit d 16) (some_by _ _ u e) in
    let q = and_parts (is_digit a 16 && is_digit b 16) (is_digit c 16) p.0 in
    let r = and_parts (is_digit a 16) (is_digit b 16) q.0 in
    record { first = hex_plain a r.0; second = hex_plain b r.1; third = hex_plain c q.1; fourth = hex_plain d p.1 }

abbrev four : (a b c d : ℕ) → List Character → List Character
four a b c d cs = pieces.plain a ∷ pieces.plain b ∷ pieces.plain c ∷ pieces.plain d ∷ cs

four_are : (a b c d : ℕ) (cs : List Character) → FourPlain a b c d → AreCharacters cs → AreCharacters (four a b c d cs)
four_are a b c d cs f h =
    ((f.first.quote_not, f.first.backslash_not), ((f.second.quote_not, f.second.backslash_not), ((f.third.quote_not, f.third.backslash_not), ((f.fourth.quote_not, f.fourth.backslash_not), h))))

-- ---- one byte, or an escape

ends_here : (x : ℕ) (xs s : List ℕ) → (x == 34) ≡ true → Some [] ≡ Some s → Closed plain (x ∷ xs) s
unfolding content
ends_here x xs s q e = record { front = []; after = xs; is = ap (λ (c : ℕ). c ∷ xs) (test_is x 34 q); again = λ rest. e; shape = ([], refl, tt) }

plain_byte : (x : ℕ) (xs s t : List ℕ) → (x == 34) ≡ false → (x == 92) ≡ false → nat_lt x 32 ≡ false → Some (x ∷ t) ≡ Some s → Closed plain xs t → Closed plain (x ∷ xs) s
unfolding content
plain_byte x xs s t q b l e c = record {
  front = x ∷ c.front;
  after = c.after;
  is = cons_is x xs (c.front ++ 34 ∷ c.after) c.is;
  again = λ rest. rw (q, b, l, c.again rest) e;
  shape = (pieces.plain x ∷ c.shape.0, cons_is x c.front (characters_text c.shape.0) c.shape.1, ((test_is_not x 34 q, test_is_not x 92 b), c.shape.2));
}

backslash_byte : (x : ℕ) (xs s : List ℕ) → (x == 34) ≡ false → (x == 92) ≡ true → Closed after_backslash xs s → Closed plain (x ∷ xs) s
unfolding content
backslash_byte x xs s q b c =
    let is : x ≡ 92 = test_is x 92 b in record {
      front = x ∷ c.front;
      after = c.after;
      is = cons_is x xs (c.front ++ 34 ∷ c.after) c.is;
      again = λ rest. rw (q, b) (c.again rest);
      shape = (escaped c.shape.0 ∷ c.shape.1, ap (λ (y : ℕ). y ∷ c.front) is ∙ cons_is 92 c.front (c.shape.0 ∷ characters_text c.shape.1) c.shape.2, (tt, c.shape.3));
    }

u_byte : (x : ℕ) (xs s : List ℕ) → (x == 117) ≡ true → Closed after_u xs s → Closed after_backslash (x ∷ xs) s
unfolding content
u_byte x xs s u c = record {
  front = x ∷ c.front;
  after = c.after;
  is = cons_is x xs (c.front ++ 34 ∷ c.after) c.is;
  again = λ rest. rw u (c.again rest);
  shape = (x, c.shape.0, cons_is x c.front (characters_text c.shape.0) c.shape.1, c.shape.2);
}

short_byte : (x n : ℕ) (xs s t : List ℕ) → (x == 117) ≡ false → short_escape x ≡ Some n → Some (n ∷ t) ≡ Some s → Closed plain xs t → Closed after_backslash (x ∷ xs) s
unfolding content
short_byte x n xs s t u short e c = record {
  front = x ∷ c.front;
  after = c.after;
  is = cons_is x xs (c.front ++ 34 ∷ c.after) c.is;
  again = λ rest. rw (u, short, c.again rest) e;
  shape = (x, c.shape.0, cons_is x c.front (characters_text c.shape.0) c.shape.1, c.shape.2);
}

four_is : (a b c d : ℕ) (s t : List ℕ) → s ≡ t → a ∷ b ∷ c ∷ d ∷ s ≡ a ∷ b ∷ c ∷ d ∷ t
four_is a b c d s t e = ap (λ (u : List ℕ). a ∷ b ∷ c ∷ d ∷ u) e

high_unit : (a b c d u : ℕ) (xs s : List ℕ) → code_unit a b c d ≡ Some u → is_high_surrogate u ≡ true → Closed (after_high u) xs s → Closed after_u (a ∷ b ∷ c ∷ d ∷ xs) s
unfolding content
high_unit a b c d u xs s e h k = record {
  front = a ∷ b ∷ c ∷ d ∷ k.front;
  after = k.after;
  is = four_is a b c d xs (k.front ++ 34 ∷ k.after) k.is;
  again = λ rest. rw (e, h) (k.again rest);
  shape = (four a b c d k.shape.0, four_is a b c d k.front (characters_text k.shape.0) k.shape.1, four_are a b c d k.shape.0 (unit_plain a b c d u e) k.shape.2);
}

one_unit : (a b c d u : ℕ) (xs s t : List ℕ) → code_unit a b c d ≡ Some u → is_high_surrogate u ≡ false → is_low_surrogate u ≡ false → Some (encode_utf8 u ++ t) ≡ Some s → Closed plain xs t
    → Closed after_u (a ∷ b ∷ c ∷ d ∷ xs) s
unfolding content
one_unit a b c d u xs s t e h l g k = record {
  front = a ∷ b ∷ c ∷ d ∷ k.front;
  after = k.after;
  is = four_is a b c d xs (k.front ++ 34 ∷ k.after) k.is;
  again = λ rest. rw (e, h, l, k.again rest) g;
  shape = (four a b c d k.shape.0, four_is a b c d k.front (characters_text k.shape.0) k.shape.1, four_are a b c d k.shape.0 (unit_plain a b c d u e) k.shape.2);
}

low_unit : (high x y a b c d u : ℕ) (xs s t : List ℕ) → ((x == 92) && (y == 117)) ≡ true → code_unit a b c d ≡ Some u → is_low_surrogate u ≡ true
    → Some (encode_utf8 (surrogate_pair high u) ++ t) ≡ Some s → Closed plain xs t → Closed (after_high high) (x ∷ y ∷ a ∷ b ∷ c ∷ d ∷ xs) s
unfolding content
low_unit high x y a b c d u xs s t m e l g k =
    let is : x ≡ 92 = test_is x 92 (and_parts (x == 92) (y == 117) m).0 in record {
      front = x ∷ y ∷ a ∷ b ∷ c ∷ d ∷ k.front;
      after = k.after;
      is = ap (λ (v : List ℕ). x ∷ y ∷ a ∷ b ∷ c ∷ d ∷ v) k.is;
      again = λ rest. rw (m, e, l, k.again rest) g;
      shape = (
        escaped y ∷ four a b c d k.shape.0,
        ap (λ (v : ℕ). v ∷ y ∷ a ∷ b ∷ c ∷ d ∷ k.front) is ∙ ap (λ (v : List ℕ). 92 ∷ y ∷ a ∷ b ∷ c ∷ d ∷ v) k.shape.1,
        (tt, four_are a b c d k.shape.0 (unit_plain a b c d u e) k.shape.2),
      );
    }

-- ---- all of it

closed : (w : Within) (xs s : List ℕ) → content w xs ≡ Some s → Closed w xs s
unfolding content
closed plain [] s e = absurd cc
closed plain (x ∷ xs) s e =
    either (Closed plain (x ∷ xs) s) s (x == 34) _ _ e (λ q f. ends_here x xs s q f)
    (λ q f. either (Closed plain (x ∷ xs) s) s (x == 92) _ _ f (λ b g. backslash_byte x xs s q b (closed after_backslash xs s g))
    (λ b g. either (Closed plain (x ∷ xs) s) s (nat_lt x 32) _ _ g (λ l h. absurd cc)
    (λ l h. let t = behind (x ∷ []) (content plain xs) s h in plain_byte x xs s t.0 q b l t.2 (closed plain xs t.0 t.1))))
closed after_backslash [] s e = absurd cc
closed after_backslash (x ∷ xs) s e =
    either (Closed after_backslash (x ∷ xs) s) s (x == 117) _ _ e (λ u f. u_byte x xs s u (closed after_u xs s f))
    (λ u f. let n = bound _ (short_escape x) s f in let t = behind (n.0 ∷ []) (content plain xs) s n.2 in short_byte x n.0 xs s t.0 u n.1 t.2 (closed plain xs t.0 t.1))
closed after_u [] s e = absurd cc
closed after_u (a ∷ []) s e = absurd cc
closed after_u (a ∷ b ∷ []) s e = absurd cc
closed after_u (a ∷ b ∷ c ∷ []) s e = absurd cc
closed after_u (a ∷ b ∷ c ∷ d ∷ xs) s e =
    let u = bound _ (code_unit a b c d) s e in
    either (Closed after_u (a ∷ b ∷ c ∷ d ∷ xs) s) s (is_high_surrogate u.0) _ _ u.2 (λ h f. high_unit a b c d u.0 xs s u.1 h (closed (after_high u.0) xs s f))
    (λ h f. either (Closed after_u (a ∷ b ∷ c ∷ d ∷ xs) s) s (is_low_surrogate u.0) _ _ f (λ l g. absurd cc)
    (λ l g. let t = behind (encode_utf8 u.0) (content plain xs) s g in one_unit a b c d u.0 xs s t.0 u.1 h l t.2 (closed plain xs t.0 t.1)))
closed (after_high h) [] s e = absurd cc
closed (after_high h) (x ∷ []) s e = absurd cc
closed (after_high h) (x ∷ y ∷ []) s e = absurd cc
closed (after_high h) (x ∷ y ∷ a ∷ []) s e = absurd cc
closed (after_high h) (x ∷ y ∷ a ∷ b ∷ []) s e = absurd cc
closed (after_high h) (x ∷ y ∷ a ∷ b ∷ c ∷ []) s e = absurd cc
closed (after_high h) (x ∷ y ∷ a ∷ b ∷ c ∷ d ∷ xs) s e =
    let all = Closed (after_high h) (x ∷ y ∷ a ∷ b ∷ c ∷ d ∷ xs) s in
    either all s ((x == 92) && (y == 117)) _ _ e
    (λ m f. let u = bound _ (code_unit a b c d) s f in either all s (is_low_surrogate u.0) _ _ u.2
    (λ l g. let t = behind (encode_utf8 (surrogate_pair h u.0)) (content plain xs) s g in low_unit h x y a b c d u.0 xs s t.0 m u.1 l t.2 (closed plain xs t.0 t.1)) (λ l g. absurd cc))
    (λ m f. absurd cc)

-- ---- a string and what follows

pub record IsString (xs s : List ℕ) : Type 0 where
  pub characters : List Character
  pub after : List ℕ
  pub is : xs ≡ characters_text characters ++ 34 ∷ after
  pub again : (rest : List ℕ) → content plain (characters_text characters ++ 34 ∷ rest) ≡ Some s
  pub are : AreCharacters characters

pub string_first : (xs s : List ℕ) → content plain xs ≡ Some s → IsString xs s
string_first xs s e =
    let c = closed plain xs s e in record {
      characters = c.shape.0;
      after = c.after;
      is = c.is ∙ ap (λ (t : List ℕ). t ++ 34 ∷ c.after) c.shape.1;
      again = λ rest. ap (λ (t : List ℕ). content plain (t ++ 34 ∷ rest)) (sym c.shape.1) ∙ c.again rest;
      are = c.shape.2;
    }

tag_first : (o : Option (List ℕ)) (s : List ℕ) → prepend (encode_utf8 1) o ≡ Some s → is_tagged s ≡ true
unfolding encode_utf8
tag_first None s e = absurd cc
tag_first (Some t) s e = ap (λ (o : Option (List ℕ)). is_tagged (bytes_or o)) (sym e)
  where
    bytes_or : Option (List ℕ) → List ℕ
    bytes_or None = []
    bytes_or (Some b) = b

tag_content : (more : List ℕ) → content plain (codes "\\u0001" ++ more) ≡ prepend (encode_utf8 1) (content plain more)
unfolding content code_unit
tag_content more = refl

-- a string that is written with the tag in front is read with it
pub read_with_tag : (cs : List Character) (s : List ℕ) → content plain (characters_text cs ++ 34 ∷ []) ≡ Some s → IsTagged cs → is_tagged s ≡ true
read_with_tag cs s e t =
    let there : content plain (characters_text cs ++ 34 ∷ []) ≡ prepend (encode_utf8 1) (content plain (t.0 ++ 34 ∷ [])) =
    ap (λ (x : List ℕ). content plain (x ++ 34 ∷ [])) t.1 ∙ ap (content plain) (append_assoc (codes "\\u0001") t.0 (34 ∷ [])) ∙ tag_content (t.0 ++ 34 ∷ []) in
    tag_first (content plain (t.0 ++ 34 ∷ [])) s (sym there ∙ e)

-- ---- its lexemes

passed : (o s : Bool) (x : ℕ) (xs : List ℕ) (k : Mode → List Lexeme) → lex_byte in_string (cond o operator (cond s space other)) x xs k ≡ k in_string
passed true s x xs k = refl
passed false true x xs k = refl
passed false false x xs k = refl

plain_passed : (c : ℕ) (xs : List ℕ) → c ≢ 34 → c ≢ 92 → lex in_string (c ∷ xs) ≡ lex in_string xs
unfolding lex
plain_passed c xs q b = rw (is_not_test c 34 q, is_not_test c 92 b) (passed (is_operator c) (is_space c) c xs (λ m. lex m xs))

pub string_passed : (cs : List Character) (rest : List ℕ) → AreCharacters cs → lex in_string (characters_text cs ++ 34 ∷ rest) ≡ lex between rest
unfolding lex
string_passed [] rest h = refl
string_passed (pieces.plain c ∷ cs) rest h = plain_passed c (characters_text cs ++ 34 ∷ rest) h.0.0 h.0.1 ∙ string_passed cs rest h.1
string_passed (escaped c ∷ cs) rest h = string_passed cs rest h.1
