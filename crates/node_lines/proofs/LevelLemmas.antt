-- How many arrays and objects are open behind the lexemes of a text.
use Rattle.std.proofs.Common.{◌≡◌, ℕ, zero, suc, List, [], ◌∷◌, ◌++◌, Option, None, Some, option_and_then, ap}
use Rattle.json.specs.Token.{begin_object, end_object, begin_array, end_array, key, string, number, boolean, null, bad}
use Rattle.json.specs.Lex.{Lexeme, token, comma, colon}
use Rattle.json_text.proofs.FaultyTexts.{IsGood}

-- ---- how many arrays and objects are open

-- behind a lexeme; None where an element ends before it
abbrev pub level : ℕ → Lexeme → Option ℕ
level d (token begin_object) = Some (suc d)
level zero (token end_object) = None
level (suc d) (token end_object) = Some d
level d (token begin_array) = Some (suc d)
level zero (token end_array) = None
level (suc d) (token end_array) = Some d
level d (token (key s)) = Some d
level d (token (string s)) = Some d
level d (token (number s)) = Some d
level d (token (boolean b)) = Some d
level d (token null) = Some d
level d (token bad) = Some d
level zero comma = None
level (suc d) comma = Some (suc d)
level d colon = Some d

abbrev pub levels : ℕ → List Lexeme → Option ℕ
levels d [] = Some d
levels d (l ∷ ls) = option_and_then (λ e. levels e ls) (level d l)

levels_by : (o : Option ℕ) (xs ys : List Lexeme) (e : ℕ) → ((d : ℕ) → levels d xs ≡ Some e → levels d (xs ++ ys) ≡ levels e ys)
    → option_and_then (λ d. levels d xs) o ≡ Some e → option_and_then (λ d. levels d (xs ++ ys)) o ≡ levels e ys
levels_by None xs ys e law h = absurd cc
levels_by (Some d) xs ys e law h = law d h

pub levels_on : (xs ys : List Lexeme) (d e : ℕ) → levels d xs ≡ Some e → levels d (xs ++ ys) ≡ levels e ys
levels_on [] ys d e h = let is : d ≡ e = cc in ap (λ (n : ℕ). levels n ys) is
levels_on (x ∷ xs) ys d e h = levels_by (level d x) xs ys e (λ n. levels_on xs ys n e) h

-- no fault among them
abbrev pub AreGood : List Lexeme → Type 0
AreGood [] = Unit {0}
AreGood (token t ∷ ls) = IsGood t × AreGood ls
AreGood (comma ∷ ls) = AreGood ls
AreGood (colon ∷ ls) = AreGood ls

pub good_on : (xs ys : List Lexeme) → AreGood xs → AreGood ys → AreGood (xs ++ ys)
good_on [] ys g h = h
good_on (token t ∷ xs) ys g h = (g.0, good_on xs ys g.1 h)
good_on (comma ∷ xs) ys g h = good_on xs ys g h
good_on (colon ∷ xs) ys g h = good_on xs ys g h
