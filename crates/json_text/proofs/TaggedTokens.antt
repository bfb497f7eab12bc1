-- The tokens of a text whose numbers are quoted are those of the text, with each number as a string behind U+0001.
use Rattle.std.proofs.Common.{◌≡◌, ℕ, Bool, true, false, List, [], ◌∷◌, map, refl, sym, ap₂}
use Rattle.json.specs.Token.{Token, begin_object, end_object, begin_array, end_array, key, string, number, boolean, null, bad}
use Rattle.json.specs.Lex.{Lexeme, token, comma, colon, Place, fresh, after_value, after_comma, after_key, begins_colon, may_begin, may_close, if_allowed, place_token, punctuate}
use Rattle.json_text.proofs.TaggedTexts.{tag_token, tag_lexeme, IsClean, AreCleanLexemes}

abbrev pub AreClean : List Token → Type 0
AreClean [] = Unit {0}
AreClean (t ∷ ts) = IsClean t × AreClean ts

pub colon_again : (ls : List Lexeme) → begins_colon (map tag_lexeme ls) ≡ begins_colon ls
colon_again [] = refl
colon_again (token t ∷ ls) = refl
colon_again (comma ∷ ls) = refl
colon_again (colon ∷ ls) = refl

-- what is said of the tokens without a fault that lexemes are punctuated to
pub record Punctuated (p : Place) (ls : List Lexeme) : Type 0 where
  pub lexemes : AreCleanLexemes ls
  pub tokens : punctuate p (map tag_lexeme ls) ≡ map tag_token (punctuate p ls)

-- the same where a token comes first that is or becomes another one
record Placed (t : Token) (ls : List Lexeme) (now before : List Token) : Type 0 where
  clean : IsClean t
  rest : AreCleanLexemes ls
  tokens : now ≡ map tag_token before

abbrev Rest : List Lexeme → Type 0
Rest ls = (p : Place) → AreClean (punctuate p ls) → Punctuated p ls

placed : (b : Bool) (t u : Token) (next : Place) (ls : List Lexeme) → tag_token t ≡ u → AreClean (if_allowed b t (λ n. punctuate n ls) next) → Rest ls
    → Placed t ls (if_allowed b u (λ n. punctuate n (map tag_lexeme ls)) next) (if_allowed b t (λ n. punctuate n ls) next)
placed false t u next ls e h f = absurd h.0
placed true t u next ls e h f =
    let r = f next h.1 in
    record { clean = h.0; rest = r.lexemes; tokens = ap₂ (λ (x : Token) (ts : List Token). x ∷ ts) (sym e) r.tokens }

-- a text is a name where a colon follows
text_placed : (p : Place) (s : List ℕ) (ls : List Lexeme) (b c : Bool) → c ≡ b → AreClean (place_token p (string s) b (λ n. punctuate n ls)) → Rest ls
    → Placed (string s) ls (place_token p (string s) c (λ n. punctuate n (map tag_lexeme ls))) (place_token p (string s) b (λ n. punctuate n ls))
text_placed p s ls true false e h f = absurd cc
text_placed p s ls false true e h f = absurd cc
text_placed p s ls true true e h f =
    let r = placed (may_begin p) (key s) (key s) after_key ls refl h f in record { clean = r.clean; rest = r.rest; tokens = r.tokens }
text_placed p s ls false false e h f = placed (may_begin p) (string s) (string s) after_value ls refl h f

no_colon : (b : Bool) (s : List ℕ) (ls : List Lexeme) → begins_colon ls ≡ true → AreClean (if_allowed b (number s) (λ n. punctuate n ls) after_value) → ⊥
unfolding punctuate
no_colon false s ls e h = h.0
no_colon true s [] e h = absurd cc
no_colon true s (token t ∷ ls) e h = absurd cc
no_colon true s (comma ∷ ls) e h = absurd cc
no_colon true s (colon ∷ ls) e h = h.1.0

-- no colon follows a number
number_placed : (p : Place) (s : List ℕ) (ls : List Lexeme) (b c : Bool) → begins_colon ls ≡ b → c ≡ b → AreClean (if_allowed (may_begin p) (number s) (λ n. punctuate n ls) after_value) → Rest ls
    → Placed (number s) ls (place_token p (string (1 ∷ s)) c (λ n. punctuate n (map tag_lexeme ls))) (if_allowed (may_begin p) (number s) (λ n. punctuate n ls) after_value)
number_placed p s ls true c is e h f = absurd (no_colon (may_begin p) s ls is h)
number_placed p s ls false true is e h f = absurd cc
number_placed p s ls false false is e h f = placed (may_begin p) (number s) (string (1 ∷ s)) after_value ls refl h f

token_placed : (p : Place) (t : Token) (ls : List Lexeme) → AreClean (place_token p t (begins_colon ls) (λ n. punctuate n ls)) → Rest ls
    → Placed t ls (place_token p (tag_token t) (begins_colon (map tag_lexeme ls)) (λ n. punctuate n (map tag_lexeme ls))) (place_token p t (begins_colon ls) (λ n. punctuate n ls))
token_placed p begin_object ls h f = placed (may_begin p) begin_object begin_object fresh ls refl h f
token_placed p end_object ls h f = placed (may_close p) end_object end_object after_value ls refl h f
token_placed p begin_array ls h f = placed (may_begin p) begin_array begin_array fresh ls refl h f
token_placed p end_array ls h f = placed (may_close p) end_array end_array after_value ls refl h f
token_placed p (key s) ls h f = absurd h.0
token_placed p (string s) ls h f = text_placed p s ls (begins_colon ls) (begins_colon (map tag_lexeme ls)) (colon_again ls) h f
token_placed p (number s) ls h f = number_placed p s ls (begins_colon ls) (begins_colon (map tag_lexeme ls)) refl (colon_again ls) h f
token_placed p (boolean b) ls h f = placed (may_begin p) (boolean b) (boolean b) after_value ls refl h f
token_placed p null ls h f = placed (may_begin p) null null after_value ls refl h f
token_placed p bad ls h f = absurd h.0

pub punctuated : (ls : List Lexeme) (p : Place) → AreClean (punctuate p ls) → Punctuated p ls
unfolding punctuate
punctuated [] fresh h = record { lexemes = tt; tokens = refl }
punctuated [] after_value h = record { lexemes = tt; tokens = refl }
punctuated [] after_comma h = absurd h.0
punctuated [] after_key h = absurd h.0
punctuated (token t ∷ ls) p h = let r = token_placed p t ls h (punctuated ls) in record { lexemes = (r.clean, r.rest); tokens = r.tokens }
punctuated (comma ∷ ls) fresh h = absurd h.0
punctuated (comma ∷ ls) after_value h = let r = punctuated ls after_comma h in record { lexemes = (tt, r.lexemes); tokens = r.tokens }
punctuated (comma ∷ ls) after_comma h = absurd h.0
punctuated (comma ∷ ls) after_key h = absurd h.0
punctuated (colon ∷ ls) fresh h = absurd h.0
punctuated (colon ∷ ls) after_value h = absurd h.0
punctuated (colon ∷ ls) after_comma h = absurd h.0
punctuated (colon ∷ ls) after_key h = let r = punctuated ls fresh h in record { lexemes = (tt, r.lexemes); tokens = r.tokens }
