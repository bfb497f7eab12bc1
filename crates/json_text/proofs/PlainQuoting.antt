-- Quoting, a character at a time: what is copied, and what a number becomes.
use Rattle.std.proofs.Common.{◌≡◌, ℕ, Bool, true, false, List, [], ◌∷◌, ◌++◌, Ok, refl, sym, ap, ◌∙◌, append_assoc}
use Rattle.std.proofs.Common.{arith, nat_lt, ◌||◌, ◌==◌}
use Rattle.std.specs.List.{list_all}
use Rattle.std.proofs.lemmas.Bool.{and_parts}
use Rattle.std.proofs.lemmas.Bool.Decides.{nat_tests}
use Rattle.json.specs.Print.{quoted, escape, escape_byte, escape_letter}
use Rattle.json_text.specs.declared.quote.Mode.{Mode}
use Rattle.json_text.specs.declared.quote.Mode.TheVariants.{Between, Number, Opening, Inside, Escaped}
use Rattle.json_text.specs.declared.quote.Place.{Place}
use Rattle.json_text.specs.Quote.{quote_from, next_mode, mark, ending, before, in_number, outside, is_digit, is_number_char, first_place, next_place, place_after, is_whole}
use Rattle.json_text.specs.Pieces.{Stops}
use Rattle.json_text.proofs.Steps.{before-before, before-nil, not_begun}
use Rattle.json_text.proofs.JsonNumbers.{IsNumber}

-- one character from mode m to n, neither in a number
pub pass : (m n : Mode) (c : ℕ) (rest : List ℕ) → next_mode m c ≡ Ok n → in_number m ≡ false → in_number n ≡ false → quote_from m (c ∷ rest) ≡ before (c ∷ []) (quote_from n rest)
unfolding quote_from mark
pass m n c rest e a b = rw (e, a, b) refl

-- what text does from m to n, whatever follows
abbrev pub Copies : Mode → Mode → List ℕ → Type 0
Copies m n text = (rest : List ℕ) → quote_from m (text ++ rest) ≡ before text (quote_from n rest)

pub copies_then : (l m n : Mode) (xs ys : List ℕ) → Copies l m xs → Copies m n ys → Copies l n (xs ++ ys)
copies_then l m n xs ys p q rest =
    ap (quote_from l) (append_assoc xs ys rest) ∙ p (ys ++ rest) ∙ ap (before xs) (q rest) ∙ before-before xs ys (quote_from n rest)

pub copies_one : (m n : Mode) (c : ℕ) → next_mode m c ≡ Ok n → in_number m ≡ false → in_number n ≡ false → Copies m n (c ∷ [])
copies_one m n c e a b rest = pass m n c rest e a b

-- ---- strings

inside_plain : (x : ℕ) → (x == 34) ≡ false → (x == 92) ≡ false → next_mode Inside x ≡ Ok Inside
unfolding next_mode
inside_plain x a b = rw (a, b) refl

escape_next : next_mode Inside 92 ≡ Ok Escaped
unfolding next_mode
escape_next = refl

pub escaped_next : (x : ℕ) → next_mode Escaped x ≡ Ok Inside
unfolding next_mode
escaped_next x = refl

pub inside_one : (x : ℕ) → (x == 34) ≡ false → (x == 92) ≡ false → Copies Inside Inside (x ∷ [])
inside_one x a b = copies_one Inside Inside x (inside_plain x a b) refl refl

pub inside_two : (l : ℕ) → Copies Inside Inside (92 ∷ l ∷ [])
inside_two l = copies_then Inside Escaped Inside (92 ∷ []) (l ∷ []) (copies_one Inside Escaped 92 escape_next refl refl) (copies_one Escaped Inside l (escaped_next l) refl refl)

pub open_plain : (x : ℕ) → (x == 34) ≡ false → (x == 92) ≡ false → next_mode (Opening 0) x ≡ Ok Inside
unfolding next_mode
open_plain x a b = rw (b, a) refl

pub open_0 : next_mode (Opening 0) 92 ≡ Ok (Opening 1)
unfolding next_mode
open_0 = refl

pub open_1 : next_mode (Opening 1) 117 ≡ Ok (Opening 2)
unfolding next_mode
open_1 = refl

open_1_other : (l : ℕ) → (l == 117) ≡ false → next_mode (Opening 1) l ≡ Ok Inside
unfolding next_mode
open_1_other l a = rw a refl

pub open_two : (l : ℕ) → (l == 117) ≡ false → Copies (Opening 0) Inside (92 ∷ l ∷ [])
open_two l h = copies_then (Opening 0) (Opening 1) Inside (92 ∷ []) (l ∷ []) (copies_one (Opening 0) (Opening 1) 92 open_0 refl refl) (copies_one (Opening 1) Inside l (open_1_other l h) refl refl)

pub quote_opens : next_mode Between 34 ≡ Ok (Opening 0)
unfolding next_mode
quote_opens = refl

not_quote : (c : ℕ) → (is_digit c || (c == 45)) ≡ true → (c == 34) ≡ false
not_quote c h = grind (arith, nat_tests)

outside_by : (c : ℕ) (t : Bool) → (c == 34) ≡ t → (is_digit c || (c == 45)) ≡ false → in_number (outside c) ≡ false
outside_by c true q h = rw q refl
outside_by c false q h = rw (q, h) refl

pub number_begins : (c : ℕ) (rest : List ℕ) → (is_digit c || (c == 45)) ≡ true → quote_from Between (c ∷ rest) ≡ before (34 ∷ 92 ∷ 117 ∷ 48 ∷ 48 ∷ 48 ∷ 49 ∷ c ∷ []) (quote_from (Number (first_place c)) rest)
unfolding quote_from next_mode mark
number_begins c rest h = let q = not_quote c h in rw (q, h) refl

number_goes_on : (p : Place) (c : ℕ) (rest : List ℕ) → is_number_char c ≡ true → quote_from (Number p) (c ∷ rest) ≡ before (c ∷ []) (quote_from (Number (next_place p c)) rest)
unfolding quote_from next_mode mark
number_goes_on p c rest h = rw h refl

number_ends : (p : Place) (rest : List ℕ) → is_whole p ≡ true → Stops rest → quote_from (Number p) rest ≡ before (34 ∷ []) (quote_from Between rest)
unfolding quote_from next_mode mark ending
number_ends p [] w s = rw w refl
number_ends p (r ∷ rs) w s =
    let out = outside_by r (r == 34) refl (not_begun r s) in
    rw (s, w, out) (sym (before-before (34 ∷ []) (r ∷ []) (quote_from (outside r) rs)))

pub number_run : (p : Place) (cs rest : List ℕ) → list_all is_number_char cs ≡ true → quote_from (Number p) (cs ++ rest) ≡ before cs (quote_from (Number (place_after p cs)) rest)
number_run p [] rest h = sym (before-nil (quote_from (Number p) rest))
number_run p (c ∷ cs) rest h =
    let both = and_parts (is_number_char c) (list_all is_number_char cs) h in
    number_goes_on p c (cs ++ rest) both.0 ∙ ap (before (c ∷ [])) (number_run (next_place p c) cs rest both.1) ∙ before-before (c ∷ []) cs (quote_from (Number (place_after (next_place p c) cs)) rest)

-- a number's characters need no escape
escape_same : (c : ℕ) → is_number_char c ≡ true → escape_byte c ≡ c ∷ []
unfolding escape_byte
escape_same c h =
    let a : nat_lt 0 (escape_letter c) ≡ false = grind (arith, nat_tests) in
    let b : nat_lt c 32 ≡ false = grind (arith, nat_tests) in
    rw (a, b) refl

escape_number : (cs : List ℕ) → list_all is_number_char cs ≡ true → escape cs ≡ cs
escape_number [] h = refl
escape_number (c ∷ cs) h =
    let both = and_parts (is_number_char c) (list_all is_number_char cs) h in
    rw (escape_same c both.0, escape_number cs both.1) refl

first_char : (c : ℕ) → (is_digit c || (c == 45)) ≡ true → is_number_char c ≡ true
first_char c h = grind (arith, nat_tests)

tag_bytes : escape_byte 1 ≡ 92 ∷ 117 ∷ 48 ∷ 48 ∷ 48 ∷ 49 ∷ []
unfolding escape_byte
tag_bytes = refl

pub quotes_token : (c : ℕ) (cs rest : List ℕ) → IsNumber c cs → Stops rest → quote_from Between ((c ∷ cs) ++ rest) ≡ before (34 ∷ 92 ∷ 117 ∷ 48 ∷ 48 ∷ 48 ∷ 49 ∷ ((c ∷ cs) ++ 34 ∷ [])) (quote_from Between rest)
quotes_token c cs rest n s =
    number_begins c (cs ++ rest) n.begins
    ∙ ap (before (34 ∷ 92 ∷ 117 ∷ 48 ∷ 48 ∷ 48 ∷ 49 ∷ c ∷ [])) (number_run (first_place c) cs rest n.goes_on ∙ ap (before cs) (number_ends _ rest n.ends s) ∙ before-before cs (34 ∷ []) (quote_from Between rest))
    ∙ before-before (34 ∷ 92 ∷ 117 ∷ 48 ∷ 48 ∷ 48 ∷ 49 ∷ c ∷ []) (cs ++ 34 ∷ []) (quote_from Between rest)

-- the text of a number behind its tag
pub quoted_number : (c : ℕ) (cs : List ℕ) → IsNumber c cs → quoted (1 ∷ c ∷ cs) ≡ 34 ∷ 92 ∷ 117 ∷ 48 ∷ 48 ∷ 48 ∷ 49 ∷ ((c ∷ cs) ++ 34 ∷ [])
quoted_number c cs n = rw (tag_bytes, escape_same c (first_char c n.begins), escape_number cs n.goes_on) refl

pub between : (c : ℕ) → outside c ≡ Between → next_mode Between c ≡ Ok Between
unfolding next_mode
between c e = rw e refl

pub copies_char : (c : ℕ) → outside c ≡ Between → Copies Between Between (c ∷ [])
copies_char c e = copies_one Between Between c (between c e) refl refl

pub copies_more : (c : ℕ) (text : List ℕ) → outside c ≡ Between → Copies Between Between text → Copies Between Between (c ∷ text)
copies_more c text e h = copies_then Between Between Between (c ∷ []) text (copies_char c e) h
