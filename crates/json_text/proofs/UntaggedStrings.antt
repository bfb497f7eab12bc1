-- A string that is not written with the tag in front is read without it, alike whatever follows it.
use Rattle.std.proofs.Common.{◌≡◌, ◌≢◌, ℕ, ◌+◌, ◌*◌, ◌<◌, Bool, true, false, cond, List, [], ◌∷◌, ◌++◌, length, get_or}
use Rattle.std.proofs.Common.{Some, None, refl, sym, ap, ap₂, subst, ◌∙◌, arith, ◌&&◌, ◌==◌, nat_lt}
use Rattle.std.specs.Char.{digit_value, encode_utf8}
use Rattle.std.proofs.lemmas.Bool.Decides.{nat_tests}
use Rattle.std.proofs.lemmas.Str.{inside_one, length-encode, len_utf8_bounds}
use Rattle.json.specs.Text.{code_unit, short_escape, is_high_surrogate, is_low_surrogate, surrogate_pair, plain, after_u, after_high, content}
use Rattle.json_text.specs.Pieces as pieces
use Rattle.json_text.specs.Pieces.{Character, escaped, characters_text, AreCharacters, IsTagged}
use Rattle.json_text.specs.Tag.{is_tagged}
use Rattle.json_text.proofs.Steps.{test_is, is_not_test}
use Rattle.json_text.proofs.TaggedStrings.{either, bound, behind, string_first}

some_is : (a b : List ℕ) → Some a ≡ Some b → a ≡ b
some_is a b e = cc

-- ---- characters are told apart by their text, up to the quote that ends it

tail_is : (c d : ℕ) (s t : List ℕ) → c ∷ s ≡ d ∷ t → (c ≡ d) × (s ≡ t)
tail_is c d s t e = (cc, cc)

other_quote : ◌≡◌ {A = ℕ} 34 92 → ⊥
other_quote e = cc e

pub same_characters : (ks ls : List Character) (r t : List ℕ) → AreCharacters ks → AreCharacters ls → characters_text ks ++ 34 ∷ r ≡ characters_text ls ++ 34 ∷ t → characters_text ks ≡ characters_text ls
same_characters [] [] r t g h e = refl
same_characters [] (pieces.plain d ∷ ls) r t g h e = absurd (h.0.0 (sym (tail_is 34 d r (characters_text ls ++ 34 ∷ t) e).0))
same_characters [] (escaped d ∷ ls) r t g h e = absurd (other_quote (tail_is 34 92 r (d ∷ (characters_text ls ++ 34 ∷ t)) e).0)
same_characters (pieces.plain c ∷ ks) [] r t g h e = absurd (g.0.0 (tail_is c 34 (characters_text ks ++ 34 ∷ r) t e).0)
same_characters (pieces.plain c ∷ ks) (pieces.plain d ∷ ls) r t g h e =
    let p = tail_is c d (characters_text ks ++ 34 ∷ r) (characters_text ls ++ 34 ∷ t) e in
    ap₂ (λ (x : ℕ) (xs : List ℕ). x ∷ xs) p.0 (same_characters ks ls r t g.1 h.1 p.1)
same_characters (pieces.plain c ∷ ks) (escaped d ∷ ls) r t g h e = absurd (g.0.1 (tail_is c 92 (characters_text ks ++ 34 ∷ r) (d ∷ (characters_text ls ++ 34 ∷ t)) e).0)
same_characters (escaped c ∷ ks) [] r t g h e = absurd (other_quote (sym (tail_is 92 34 (c ∷ (characters_text ks ++ 34 ∷ r)) t e).0))
same_characters (escaped c ∷ ks) (pieces.plain d ∷ ls) r t g h e = absurd (h.0.1 (sym (tail_is 92 d (c ∷ (characters_text ks ++ 34 ∷ r)) (characters_text ls ++ 34 ∷ t) e).0))
same_characters (escaped c ∷ ks) (escaped d ∷ ls) r t g h e =
    let p = tail_is 92 92 (c ∷ (characters_text ks ++ 34 ∷ r)) (d ∷ (characters_text ls ++ 34 ∷ t)) e in
    let q = tail_is c d (characters_text ks ++ 34 ∷ r) (characters_text ls ++ 34 ∷ t) p.1 in
    ap₂ (λ (x : ℕ) (xs : List ℕ). 92 ∷ x ∷ xs) q.0 (same_characters ks ls r t g.1 h.1 q.1)

-- what a string is read as does not rest on what follows it
pub read_alike : (cs : List Character) (s r t : List ℕ) → AreCharacters cs → content plain (characters_text cs ++ 34 ∷ r) ≡ Some s → content plain (characters_text cs ++ 34 ∷ t) ≡ Some s
read_alike cs s r t h e =
    let st = string_first (characters_text cs ++ 34 ∷ r) s e in
    let same : characters_text cs ≡ characters_text st.characters = same_characters cs st.characters r st.after h st.are st.is in
    ap (λ (u : List ℕ). content plain (u ++ 34 ∷ t)) same ∙ st.again t

-- ---- what stands for U+0001

pub if_tagged : (s : List ℕ) (b : Bool) → is_tagged s ≡ b → (is_tagged s ≡ true → ⊥) → is_tagged s ≡ false
if_tagged s true e never = absurd (never e)
if_tagged s false e never = e

zero_digit : (x : ℕ) → digit_value x ≡ 0 → x ≡ 48
zero_digit x h = grind (arith, nat_tests)

one_digit : (x : ℕ) → digit_value x ≡ 1 → x ≡ 49
one_digit x h = grind (arith, nat_tests)

unit_value : (b : Bool) (v u : ℕ) → cond b (Some v) None ≡ Some u → v ≡ u
unit_value true v u e = cc
unit_value false v u e = absurd cc

record Digits0001 (a b c d : ℕ) : Type 0 where
  first : a ≡ 48
  second : b ≡ 48
  third : c ≡ 48
  fourth : d ≡ 49

unit_one : (a b c d : ℕ) → code_unit a b c d ≡ Some 1 → Digits0001 a b c d
unfolding code_unit
unit_one a b c d e =
    let sum : digit_value a * 4096 + digit_value b * 256 + digit_value c * 16 + digit_value d ≡ 1 = unit_value _ _ 1 e in
    record { first = zero_digit a (omega (arith, sum)); second = zero_digit b (omega (arith, sum)); third = zero_digit c (omega (arith, sum)); fourth = one_digit d (omega (arith, sum)) }

-- the first byte of a character is U+0001 just for that character
tag_character : (u : ℕ) (t : List ℕ) → is_tagged (encode_utf8 u ++ t) ≡ true → u ≡ 1
unfolding encode_utf8
tag_character u t e =
    let first : get_or (encode_utf8 u ++ t) 0 0 ≡ 1 = test_is _ 1 e in
    let some : 0 < length (encode_utf8 u) = omega (arith, length-encode u, (len_utf8_bounds u).0) in
    inside_one u t (encode_utf8 u ++ t) 0 refl some (omega (arith, first)) ∙ first

plain_untagged : (c : ℕ) (t : List ℕ) → nat_lt c 32 ≡ false → is_tagged (c ∷ t) ≡ false
plain_untagged c t l = grind (arith, nat_tests)

escape_untagged : (c n : ℕ) → short_escape c ≡ Some n → n ≢ 1
unfolding short_escape
escape_untagged c n e is = grind (arith, nat_tests)

no_tag : (n : ℕ) (t : List ℕ) → n ≢ 1 → is_tagged (n ∷ t) ≡ false
no_tag n t other = is_not_test n 1 other

pair_untagged : (h l : ℕ) (t : List ℕ) → is_tagged (encode_utf8 (surrogate_pair h l) ++ t) ≡ false
pair_untagged h l t =
    if_tagged (encode_utf8 (surrogate_pair h l) ++ t) _ refl (λ e. let one : surrogate_pair h l ≡ 1 = tag_character (surrogate_pair h l) t e in absurd (omega (arith, one)))

-- the four digits of the tag
abbrev Spelled : List ℕ → Type 0
Spelled ws = (xs : List ℕ) × (ws ≡ 48 ∷ 48 ∷ 48 ∷ 49 ∷ xs)

spelled : (a b c d u : ℕ) (xs t : List ℕ) → code_unit a b c d ≡ Some u → is_tagged (encode_utf8 u ++ t) ≡ true → Spelled (a ∷ b ∷ c ∷ d ∷ xs)
spelled a b c d u xs t e tag =
    let k = unit_one a b c d (e ∙ ap (λ (n : ℕ). Some n) (tag_character u t tag)) in
    (xs, rw (k.first, k.second, k.third, k.fourth) refl)

high_untagged : (h : ℕ) (xs s : List ℕ) → content (after_high h) xs ≡ Some s → is_tagged s ≡ false
unfolding content
high_untagged h [] s e = absurd cc
high_untagged h (x ∷ []) s e = absurd cc
high_untagged h (x ∷ y ∷ []) s e = absurd cc
high_untagged h (x ∷ y ∷ a ∷ []) s e = absurd cc
high_untagged h (x ∷ y ∷ a ∷ b ∷ []) s e = absurd cc
high_untagged h (x ∷ y ∷ a ∷ b ∷ c ∷ []) s e = absurd cc
high_untagged h (x ∷ y ∷ a ∷ b ∷ c ∷ d ∷ xs) s e =
    let all = is_tagged s ≡ false in
    either all s ((x == 92) && (y == 117)) _ _ e
    (λ m f. let u = bound _ (code_unit a b c d) s f in either all s (is_low_surrogate u.0) _ _ u.2
    (λ l g. let t = behind (encode_utf8 (surrogate_pair h u.0)) (content plain xs) s g in subst (λ (v : List ℕ). is_tagged v ≡ false) (some_is _ s t.2) (pair_untagged h u.0 t.0)) (λ l g. absurd cc))
    (λ m f. absurd cc)

unit_untagged : (ws s : List ℕ) → ¬ (Spelled ws) → content after_u ws ≡ Some s → is_tagged s ≡ false
unfolding content
unit_untagged [] s n e = absurd cc
unit_untagged (a ∷ []) s n e = absurd cc
unit_untagged (a ∷ b ∷ []) s n e = absurd cc
unit_untagged (a ∷ b ∷ c ∷ []) s n e = absurd cc
unit_untagged (a ∷ b ∷ c ∷ d ∷ xs) s n e =
    let all = is_tagged s ≡ false in
    let u = bound _ (code_unit a b c d) s e in
    either all s (is_high_surrogate u.0) _ _ u.2 (λ h f. high_untagged u.0 xs s f)
    (λ h f. either all s (is_low_surrogate u.0) _ _ f (λ l g. absurd cc)
    (λ l g. let t = behind (encode_utf8 u.0) (content plain xs) s g in
    subst (λ (v : List ℕ). is_tagged v ≡ false) (some_is _ s t.2) (if_tagged (encode_utf8 u.0 ++ t.0) _ refl (λ tag. n (spelled a b c d u.0 xs t.0 u.1 tag)))))

no_zero : ◌≡◌ {A = ℕ} 34 48 → ⊥
no_zero e = cc e

no_one : ◌≡◌ {A = ℕ} 34 49 → ⊥
no_one e = cc e

-- what is no quote stands before the quote
before_quote : (x : ℕ) (ct xs : List ℕ) → (34 ≡ x → ⊥) → ct ++ 34 ∷ [] ≡ x ∷ xs → (more : List ℕ) × (ct ≡ x ∷ more) × (more ++ 34 ∷ [] ≡ xs)
before_quote x [] xs h e = absurd (h (tail_is 34 x [] xs e).0)
before_quote x (c ∷ ct) xs h e = let p = tail_is c x (ct ++ 34 ∷ []) xs e in (ct, ap (λ (y : ℕ). y ∷ ct) p.0, p.1)

-- the tag's digits stand before the quote that ends the string
digits_before : (ct : List ℕ) → Spelled (ct ++ 34 ∷ []) → (more : List ℕ) × (ct ≡ 48 ∷ 48 ∷ 48 ∷ 49 ∷ more)
digits_before ct k =
    let a = before_quote 48 ct (48 ∷ 48 ∷ 49 ∷ k.0) (λ e. no_zero e) k.1 in
    let b = before_quote 48 a.0 (48 ∷ 49 ∷ k.0) (λ e. no_zero e) a.2 in
    let c = before_quote 48 b.0 (49 ∷ k.0) (λ e. no_zero e) b.2 in
    let d = before_quote 49 c.0 k.0 (λ e. no_one e) c.2 in
    (d.0, a.1 ∙ ap (λ (t : List ℕ). 48 ∷ t) (b.1 ∙ ap (λ (t : List ℕ). 48 ∷ t) (c.1 ∙ ap (λ (t : List ℕ). 48 ∷ t) d.1)))

u_untagged : (c : ℕ) (cs : List Character) → (c == 117) ≡ true → ¬ (IsTagged (escaped c ∷ cs)) → ¬ (Spelled (characters_text cs ++ 34 ∷ []))
u_untagged c cs u n k =
    let d = digits_before (characters_text cs) k in
    n (d.0, ap₂ (λ (x : ℕ) (xs : List ℕ). 92 ∷ x ∷ xs) (test_is c 117 u) d.1)

pub untagged : (cs : List Character) (s : List ℕ) → AreCharacters cs → ¬ (IsTagged cs) → content plain (characters_text cs ++ 34 ∷ []) ≡ Some s → is_tagged s ≡ false
unfolding content
untagged [] s h n e = subst (λ (v : List ℕ). is_tagged v ≡ false) (some_is [] s e) refl
untagged (pieces.plain c ∷ cs) s h n e =
    let all = is_tagged s ≡ false in
    either all s (c == 34) _ _ e (λ q f. absurd (h.0.0 (test_is c 34 q)))
    (λ q f. either all s (c == 92) _ _ f (λ b g. absurd (h.0.1 (test_is c 92 b)))
    (λ b g. either all s (nat_lt c 32) _ _ g (λ l k. absurd cc)
    (λ l k. let t = behind (c ∷ []) (content plain (characters_text cs ++ 34 ∷ [])) s k in subst (λ (v : List ℕ). is_tagged v ≡ false) (some_is (c ∷ t.0) s t.2) (plain_untagged c t.0 l))))
untagged (escaped c ∷ cs) s h n e =
    let all = is_tagged s ≡ false in
    either all s (c == 117) _ _ e (λ u f. unit_untagged (characters_text cs ++ 34 ∷ []) s (u_untagged c cs u n) f)
    (λ u f. let m = bound _ (short_escape c) s f in let t = behind (m.0 ∷ []) (content plain (characters_text cs ++ 34 ∷ [])) s m.2 in
    subst (λ (v : List ℕ). is_tagged v ≡ false) (some_is (m.0 ∷ t.0) s t.2) (no_tag m.0 t.0 (escape_untagged c m.0 m.1)))
