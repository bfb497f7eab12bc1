-- Quoting goes piece by piece.
use Rattle.std.proofs.Common.{◌≡◌, ◌≢◌, suc, ℕ, Bool, true, false, List, [], ◌∷◌, ◌++◌, Ok, Err, refl, sym, ap, subst}
use Rattle.std.proofs.Common.{◌∙◌, append_assoc, codes, nat_le, ◌==◌}
use Rattle.json_text.specs.declared.fault.JsonFault.TheVariants.{BadNumberToken, TaggedText}
use Rattle.json_text.specs.declared.quote.Mode.{Mode}
use Rattle.json_text.specs.declared.quote.Mode.TheVariants.{Between, Number, Opening, Inside, Escaped}
use Rattle.json_text.specs.declared.quote.Place.{Place}
use Rattle.json_text.specs.Fault.{Read}
use Rattle.json_text.specs.Numbers.{IsJsonNumber}
use Rattle.json_text.specs.Pieces.{Character, plain, escaped, Ending, closed, unended, at_backslash, Piece, number, string, other, characters_text, ending_text, piece_text, quoted_piece, text_of, quoted_of, begins_number, Stops, AreCharacters, EndsBefore, IsPiece, ArePieces, IsToken, Last, whole, bad_number, tagged_text, Quotes}
use Rattle.json_text.specs.Quote.{quote_from, quote, next_mode, mark, ending, before, outside, tag_char, first_place, place_after, is_whole}
use Rattle.json_text.proofs.Cutting.{Cut, cut}
use Rattle.json_text.proofs.JsonNumbers.{no_empty_number, number_from_json, json_from_places}
use Rattle.json_text.proofs.Steps.{before-before, before-nil, test_is, is_not_test}
use Rattle.json_text.proofs.PlainQuoting.{Copies, escaped_next, copies_then, copies_one, inside_one, inside_two, open_plain, open_two, open_0, open_1, quote_opens, number_begins, number_run, between, quotes_token}

-- ---- strings

-- what is left of a string is copied, and what follows it is quoted
abbrev Copied : Mode → List ℕ → Type 0
Copied m text = (e : Ending) (after : List ℕ) → EndsBefore e after → quote_from m ((text ++ ending_text e) ++ after) ≡ before (text ++ ending_text e) (quote_from Between after)

copied_then : (m n : Mode) (xs ys : List ℕ) → Copies m n xs → Copied n ys → Copied m (xs ++ ys)
copied_then m n xs ys p q e after h =
    ap (quote_from m) (ap (λ (t : List ℕ). t ++ after) (append_assoc xs ys (ending_text e)) ∙ append_assoc xs (ys ++ ending_text e) after)
    ∙ p ((ys ++ ending_text e) ++ after) ∙ ap (before xs) (q e after h) ∙ before-before xs (ys ++ ending_text e) (quote_from Between after)
    ∙ ap (λ (t : List ℕ). before t (quote_from Between after)) (sym (append_assoc xs ys (ending_text e)))

inside_ends : Copied Inside []
unfolding quote_from next_mode mark ending
inside_ends closed after h = refl
inside_ends unended after h = rw h refl
inside_ends at_backslash after h = rw h refl

inside_copied : (cs : List Character) → AreCharacters cs → Copied Inside (characters_text cs)
inside_copied [] h = inside_ends
inside_copied (plain c ∷ cs) h = copied_then Inside Inside (c ∷ []) (characters_text cs) (inside_one c (is_not_test c 34 h.0.0) (is_not_test c 92 h.0.1)) (inside_copied cs h.1)
inside_copied (escaped c ∷ cs) h = copied_then Inside Inside (92 ∷ c ∷ []) (characters_text cs) (inside_two c) (inside_copied cs h.1)

-- a place in the tag behind its u
record IsLater (k : ℕ) : Type 0 where
  quote : (34 == tag_char k) ≡ false
  backslash : (92 == tag_char k) ≡ false
  later : (k == 1) ≡ false

later_ends : (k : ℕ) → IsLater k → Copied (Opening k) []
unfolding quote_from next_mode mark ending
later_ends k l closed after h = rw (l.quote, l.later) refl
later_ends k l unended after h = rw h refl
later_ends k l at_backslash after h = rw (h, l.backslash, l.later) refl

later_other : (k c : ℕ) → IsLater k → (c == tag_char k) ≡ false → c ≢ 34 → c ≢ 92 → next_mode (Opening k) c ≡ Ok Inside
unfolding next_mode
later_other k c l o q s = rw (o, l.later, is_not_test c 34 q, is_not_test c 92 s) refl

later_escape : (k : ℕ) → IsLater k → next_mode (Opening k) 92 ≡ Ok Escaped
unfolding next_mode
later_escape k l = rw (l.backslash, l.later) refl

later_two : (k c : ℕ) → IsLater k → Copies (Opening k) Inside (92 ∷ c ∷ [])
later_two k c l = copies_then (Opening k) Escaped Inside (92 ∷ []) (c ∷ []) (copies_one (Opening k) Escaped 92 (later_escape k l) refl refl) (copies_one Escaped Inside c (escaped_next c) refl refl)

-- a text that does not begin so
abbrev Lacks : List ℕ → List ℕ → Type 0
Lacks front text = (more : List ℕ) → text ≡ front ++ more → ⊥

-- at k characters of the tag, of which d follow the next
abbrev Level : ℕ → List ℕ → Type 0
Level k d = (cs : List Character) → AreCharacters cs → Lacks (tag_char k ∷ d) (characters_text cs) → Copied (Opening k) (characters_text cs)

abbrev NextLevel : ℕ → List ℕ → Type 0
NextLevel k d = (cs : List Character) → AreCharacters cs → Lacks d (characters_text cs) → Copied (Opening k) (tag_char k ∷ characters_text cs)

level_by : (k : ℕ) (d : List ℕ) (c : ℕ) (cs : List Character) (b : Bool) → (c == tag_char k) ≡ b → IsLater k → NextLevel k d → AreCharacters (plain c ∷ cs) → Lacks (tag_char k ∷ d) (c ∷ characters_text cs) → Copied (Opening k) (c ∷ characters_text cs)
level_by k d c cs true e l next h n =
    let same : c ≡ tag_char k = test_is c (tag_char k) e in
    let fewer : Lacks d (characters_text cs) = λ more is. n more (rw (same, is) refl) in
    subst (λ (x : ℕ). Copied (Opening k) (x ∷ characters_text cs)) (sym same) (next cs h.1 fewer)
level_by k d c cs false e l next h n = copied_then (Opening k) Inside (c ∷ []) (characters_text cs) (copies_one (Opening k) Inside c (later_other k c l e h.0.0 h.0.1) refl refl) (inside_copied cs h.1)

level : (k : ℕ) (d : List ℕ) → IsLater k → NextLevel k d → Level k d
level k d l next [] h n = later_ends k l
level k d l next (plain c ∷ cs) h n = level_by k d c cs (c == tag_char k) refl l next h n
level k d l next (escaped c ∷ cs) h n = copied_then (Opening k) Inside (92 ∷ c ∷ []) (characters_text cs) (later_two k c l) (inside_copied cs h.1)

tag_goes_on : (k : ℕ) → nat_le 5 k ≡ false → (tag_char k == tag_char k) ≡ true → next_mode (Opening k) (tag_char k) ≡ Ok (Opening (suc k))
unfolding next_mode
tag_goes_on k h e = rw (e, h) refl

next_level : (k : ℕ) (d : List ℕ) → next_mode (Opening k) (tag_char k) ≡ Ok (Opening (suc k)) → Level (suc k) d → NextLevel k (tag_char (suc k) ∷ d)
next_level k d e up cs h n = copied_then (Opening k) (Opening (suc k)) (tag_char k ∷ []) (characters_text cs) (copies_one (Opening k) (Opening (suc k)) (tag_char k) e refl refl) (up cs h n)

level_5 : Level 5 []
level_5 = level 5 [] (record { quote = refl; backslash = refl; later = refl }) (λ cs h n. absurd (n (characters_text cs) refl))

level_4 : Level 4 (49 ∷ [])
level_4 = level 4 (49 ∷ []) (record { quote = refl; backslash = refl; later = refl }) (next_level 4 [] (tag_goes_on 4 refl refl) level_5)

level_3 : Level 3 (48 ∷ 49 ∷ [])
level_3 = level 3 (48 ∷ 49 ∷ []) (record { quote = refl; backslash = refl; later = refl }) (next_level 3 (49 ∷ []) (tag_goes_on 3 refl refl) level_4)

level_2 : Level 2 (48 ∷ 48 ∷ 49 ∷ [])
level_2 = level 2 (48 ∷ 48 ∷ 49 ∷ []) (record { quote = refl; backslash = refl; later = refl }) (next_level 2 (48 ∷ 49 ∷ []) (tag_goes_on 2 refl refl) level_3)

open_ends : Copied (Opening 0) []
unfolding quote_from next_mode mark ending
open_ends closed after h = refl
open_ends unended after h = rw h refl
open_ends at_backslash after h = rw h refl

open_u : Copies (Opening 0) (Opening 2) (92 ∷ 117 ∷ [])
open_u = copies_then (Opening 0) (Opening 1) (Opening 2) (92 ∷ []) (117 ∷ []) (copies_one (Opening 0) (Opening 1) 92 open_0 refl refl) (copies_one (Opening 1) (Opening 2) 117 open_1 refl refl)

open_escape_by : (c : ℕ) (cs : List Character) (b : Bool) → (c == 117) ≡ b → AreCharacters cs → Lacks (codes "\\u0001") (92 ∷ c ∷ characters_text cs) → Copied (Opening 0) (92 ∷ c ∷ characters_text cs)
open_escape_by c cs true e h n =
    let same : c ≡ 117 = test_is c 117 e in
    let fewer : Lacks (48 ∷ 48 ∷ 48 ∷ 49 ∷ []) (characters_text cs) = λ more is. n more (rw (same, is) refl) in
    subst (λ (x : ℕ). Copied (Opening 0) (92 ∷ x ∷ characters_text cs)) (sym same) (copied_then (Opening 0) (Opening 2) (92 ∷ 117 ∷ []) (characters_text cs) open_u (level_2 cs h fewer))
open_escape_by c cs false e h n = copied_then (Opening 0) Inside (92 ∷ c ∷ []) (characters_text cs) (open_two c e) (inside_copied cs h)

open_copied : (cs : List Character) → AreCharacters cs → Lacks (codes "\\u0001") (characters_text cs) → Copied (Opening 0) (characters_text cs)
open_copied [] h n = open_ends
open_copied (plain c ∷ cs) h n = copied_then (Opening 0) Inside (c ∷ []) (characters_text cs) (copies_one (Opening 0) Inside c (open_plain c (is_not_test c 34 h.0.0) (is_not_test c 92 h.0.1)) refl refl) (inside_copied cs h.1)
open_copied (escaped c ∷ cs) h n = open_escape_by c cs (c == 117) refl h.1 n

string_copied : (cs : List Character) → AreCharacters cs → Lacks (codes "\\u0001") (characters_text cs) → Copied Between (34 ∷ characters_text cs)
string_copied cs h n = copied_then Between (Opening 0) (34 ∷ []) (characters_text cs) (copies_one Between (Opening 0) 34 quote_opens refl refl) (open_copied cs h n)

-- ---- pieces

other_outside : (c : ℕ) → c ≢ 34 → begins_number c ≡ false → outside c ≡ Between
other_outside c q h = rw (is_not_test c 34 q, h) refl

pub piece_quotes : (p : Piece) (after : List ℕ) → IsPiece p after → quote_from Between (piece_text p ++ after) ≡ before (quoted_piece p) (quote_from Between after)
piece_quotes (number []) after h = absurd (no_empty_number h.0)
piece_quotes (number (c ∷ s)) after h = quotes_token c s after (number_from_json c s h.0) h.1
piece_quotes (string cs e) after h = string_copied cs h.0 (λ more is. h.2 (more, is)) e after h.1
piece_quotes (other c) after h = copies_one Between Between c (between c (other_outside c h.0 h.1)) refl refl after

pieces_quote : (ps : List Piece) (rest : List ℕ) → ArePieces ps rest → quote_from Between (text_of ps ++ rest) ≡ before (quoted_of ps) (quote_from Between rest)
pieces_quote [] rest h = sym (before-nil (quote_from Between rest))
pieces_quote (p ∷ ps) rest h =
    ap (quote_from Between) (append_assoc (piece_text p) (text_of ps) rest)
    ∙ piece_quotes p (text_of ps ++ rest) h.0 ∙ ap (before (quoted_piece p)) (pieces_quote ps rest h.1)
    ∙ before-before (quoted_piece p) (quoted_of ps) (quote_from Between rest)

-- ---- the rest

number_fails : (p : Place) (rest : List ℕ) → is_whole p ≡ false → Stops rest → quote_from (Number p) rest ≡ Err BadNumberToken
unfolding quote_from next_mode ending
number_fails p [] w s = rw w refl
number_fails p (r ∷ rs) w s = rw (s, w) refl

not_whole : (c : ℕ) (s : List ℕ) (b : Bool) → begins_number c ≡ true → is_whole (place_after (first_place c) s) ≡ b → ¬ (IsJsonNumber (c ∷ s)) → b ≡ false
not_whole c s true h e n = absurd (n (json_from_places c s h e))
not_whole c s false h e n = refl

pub token_fails : (token after : List ℕ) → IsToken token after → ¬ (IsJsonNumber token) → quote_from Between (token ++ after) ≡ Err BadNumberToken
token_fails token after t n =
    let bad : is_whole (place_after (first_place t.first) t.more) ≡ false = not_whole t.first t.more _ t.begins refl (λ j. n (subst IsJsonNumber (sym t.is) j)) in
    ap (λ (x : List ℕ). quote_from Between (x ++ after)) t.is
    ∙ number_begins t.first (t.more ++ after) t.begins
    ∙ ap (before (34 ∷ 92 ∷ 117 ∷ 48 ∷ 48 ∷ 48 ∷ 49 ∷ t.first ∷ [])) (number_run (first_place t.first) t.more after t.goes_on ∙ ap (before t.more) (number_fails _ after bad t.stops))

pub tag_fails : (after : List ℕ) → quote_from Between (codes "\"\\u0001" ++ after) ≡ Err TaggedText
unfolding quote_from next_mode
tag_fails after = refl

last_quotes : (rest : List ℕ) (read : Read (List ℕ)) → Last rest read → quote_from Between rest ≡ read
unfolding quote_from ending
last_quotes rest read (whole e r) = ap (quote_from Between) e ∙ sym r
last_quotes rest read (bad_number token after e t n r) = ap (quote_from Between) e ∙ token_fails token after t n ∙ sym r
last_quotes rest read (tagged_text after e r) = ap (quote_from Between) e ∙ tag_fails after ∙ sym r

cut_quotes : (pieces : List Piece) (text rest : List ℕ) (last : Read (List ℕ)) → ArePieces pieces rest → text ≡ text_of pieces ++ rest → Last rest last → quote text ≡ before (quoted_of pieces) last
cut_quotes pieces text rest last are parts ends = ap (quote_from Between) parts ∙ pieces_quote pieces rest are ∙ ap (before (quoted_of pieces)) (last_quotes rest last ends)

pub quoted_by_pieces : (text : List ℕ) (read : Read (List ℕ)) → Quotes text read → quote text ≡ read
quoted_by_pieces text read q = cut_quotes q.pieces text q.rest q.last q.are q.parts q.ends ∙ sym q.gives

pub pieces_by_quoting : (text : List ℕ) (read : Read (List ℕ)) → quote text ≡ read → Quotes text read
pieces_by_quoting text read e =
    let k : Cut text = cut text in
    record { pieces = k.pieces; rest = k.rest; last = k.last; are = k.are; parts = k.parts; ends = k.ends; gives = sym e ∙ cut_quotes k.pieces text k.rest k.last k.are k.parts k.ends }
