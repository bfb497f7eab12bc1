-- What was quoted is unquoted.
use Rattle.std.proofs.Common.{zero, suc, ◌≡◌, ℕ, ◌<◌, Bool, true, false, cond, List, [], ◌∷◌, ◌++◌, Ok, Err, refl, sym}
use Rattle.std.proofs.Common.{ap, subst, ◌∙◌, append_assoc, arith, nat_le, ◌==◌, ◌||◌}
use Rattle.std.proofs.lemmas.Bool.Decides.{nat_tests}
use Rattle.std.proofs.lemmas.List.{append-nil}
use Rattle.json_text.specs.declared.fault.JsonFault.TheVariants.{BadNumberToken, TaggedText}
use Rattle.json_text.specs.declared.quote.Mode.{Mode}
use Rattle.json_text.specs.declared.quote.Mode.TheVariants.{Between, Number, Opening, Inside, Escaped}
use Rattle.json_text.specs.declared.quote.Place.{Place}
use Rattle.json_text.specs.declared.unquote.Way.{Way}
use Rattle.json_text.specs.declared.unquote.Way.TheVariants.{Outside, Opened, Within, Skipped, Token}
use Rattle.json_text.specs.Quote.{quote_from, quote, next_mode, mark, mark_by, ending, before, in_number, outside, in_string, tag_char, is_digit, is_number_char, first_place, next_place, is_whole}
use Rattle.json_text.specs.Unquote.{held, next_way, emits, last_of, unquote_from, unquote}
use Rattle.json_text.proofs.Steps.{bind_ok, ok_is, done, test_is, not_begun}

-- where the unquoted text stands
abbrev way : Mode → Way
way Between = Outside
way (Number p) = Token
way (Opening k) = Opened k
way Inside = Within
way Escaped = Skipped

-- what is held back there
abbrev back : Mode → List ℕ
back Between = []
back (Number p) = []
back (Opening k) = held k
back Inside = []
back Escaped = []

-- one character from m to n: what was quoted for it gives it back
abbrev Gives_back : Mode → Mode → ℕ → Type 0
Gives_back m n c = (q cs : List ℕ) → unquote_from (way n) q ≡ back n ++ cs → unquote_from (way m) (mark m n ++ (c ∷ q)) ≡ back m ++ (c ∷ cs)

quote_char : (c : ℕ) → (c == 34) ≡ true → Gives_back Between (Opening 0) c
unfolding unquote_from next_way emits mark
quote_char c h q cs e = rw (h, e, test_is c 34 h) refl

other_char : (c : ℕ) → (c == 34) ≡ false → Gives_back Between Between c
unfolding unquote_from next_way emits mark
other_char c h q cs e = rw (h, e) refl

first_digit : (c : ℕ) (p : Place) → (c == 34) ≡ false → Gives_back Between (Number p) c
unfolding unquote_from next_way emits mark
first_digit c p h q cs e = rw (h, e) refl

next_digit : (c : ℕ) (p r : Place) → (c == 34) ≡ false → Gives_back (Number p) (Number r) c
unfolding unquote_from next_way emits mark
next_digit c p r h q cs e = rw (h, e) refl

ends_at_quote : (c : ℕ) (p : Place) → (c == 34) ≡ true → Gives_back (Number p) (Opening 0) c
unfolding unquote_from next_way emits mark
ends_at_quote c p h q cs e = rw (h, e, test_is c 34 h) refl

ends_at_other : (c : ℕ) (p : Place) → (c == 34) ≡ false → Gives_back (Number p) Between c
unfolding unquote_from next_way emits mark
ends_at_other c p h q cs e = rw (h, e) refl

string_by : (a b : Bool) (q cs : List ℕ) → unquote_from (way (cond a Between (cond b Escaped Inside))) q ≡ back (cond a Between (cond b Escaped Inside)) ++ cs → unquote_from (cond a Outside (cond b Skipped Within)) q ≡ cs
string_by true b q cs e = e
string_by false true q cs e = e
string_by false false q cs e = e

no_mark_by : (a b : Bool) → mark_by false (in_number (cond a Between (cond b Escaped Inside))) ≡ []
no_mark_by true b = refl
no_mark_by false true = refl
no_mark_by false false = refl

in_text : (c : ℕ) → Gives_back Inside (in_string c) c
unfolding unquote_from next_way emits mark
in_text c q cs e = rw (no_mark_by (c == 34) (c == 92), string_by (c == 34) (c == 92) q cs e) refl

after_escape : (c : ℕ) → Gives_back Escaped Inside c
unfolding unquote_from next_way emits mark
after_escape c q cs e = rw e refl

-- the tag, one character longer
held_more : (k : ℕ) → k < 5 → held k ++ tag_char k ∷ [] ≡ held (suc k)
held_more zero h = refl
held_more (suc zero) h = refl
held_more (suc (suc zero)) h = refl
held_more (suc (suc (suc zero))) h = refl
held_more (suc (suc (suc (suc zero)))) h = refl
held_more (suc (suc (suc (suc (suc k))))) h = absurd (omega arith)

tag_goes_on : (k c : ℕ) → (c == tag_char k) ≡ true → nat_le 5 k ≡ false → Gives_back (Opening k) (Opening (suc k)) c
unfolding unquote_from next_way emits mark
tag_goes_on k c h g q cs e =
    let is : c ≡ tag_char k = grind (arith, nat_tests) in
    let lt : k < 5 = grind (arith, nat_tests) in
    let longer : held (suc k) ++ cs ≡ held k ++ (c ∷ cs) = ap (λ (t : List ℕ). t ++ cs) (sym (held_more k lt)) ∙ append_assoc (held k) (tag_char k ∷ []) cs ∙ ap (λ (x : ℕ). held k ++ (x ∷ cs)) (sym is) in
    rw (h, g) (e ∙ longer)

tag_breaks_escape : (k c : ℕ) → (c == tag_char k) ≡ false → (k == 1) ≡ true → Gives_back (Opening k) Inside c
unfolding unquote_from next_way emits mark
tag_breaks_escape k c h g q cs e = rw (h, g, e) (append_assoc (held k) (c ∷ []) cs)

tag_breaks : (k c : ℕ) → (c == tag_char k) ≡ false → (k == 1) ≡ false → Gives_back (Opening k) (in_string c) c
unfolding unquote_from next_way emits mark
tag_breaks k c h g q cs e = rw (no_mark_by (c == 34) (c == 92), h, g, string_by (c == 34) (c == 92) q cs e) (append_assoc (held k) (c ∷ []) cs)

-- ---- each step

number_char_is_no_quote : (c : ℕ) → is_number_char c ≡ true → (c == 34) ≡ false
number_char_is_no_quote c h = grind (arith, nat_tests)

from_between : (c : ℕ) (a b : Bool) → (c == 34) ≡ a → (is_digit c || (c == 45)) ≡ b → Gives_back Between (cond a (Opening 0) (cond b (Number (first_place c)) Between)) c
from_between c true b h g = quote_char c h
from_between c false true h g = first_digit c (first_place c) h
from_between c false false h g = other_char c h

from_end : (c : ℕ) (p : Place) (a b : Bool) → (c == 34) ≡ a → (is_digit c || (c == 45)) ≡ b → b ≡ false → Gives_back (Number p) (cond a (Opening 0) (cond b (Number (first_place c)) Between)) c
from_end c p true b h g w = ends_at_quote c p h
from_end c p false true h g w = absurd cc
from_end c p false false h g w = ends_at_other c p h

mode_ok : (x y : Mode) (m : Mode) (c : ℕ) → done x ≡ done y → Gives_back m x c → Gives_back m y c
mode_ok x y m c e h = subst (λ (n : Mode). Gives_back m n c) (ok_is x y e) h

from_number : (p : Place) (n : Mode) (c : ℕ) (a b : Bool) → is_number_char c ≡ a → is_whole p ≡ b → cond a (done (Number (next_place p c))) (cond b (done (outside c)) (Err BadNumberToken)) ≡ Ok n → Gives_back (Number p) n c
from_number p n c true b h g e = mode_ok (Number (next_place p c)) n (Number p) c e (next_digit c p (next_place p c) (number_char_is_no_quote c h))
from_number p n c false true h g e = mode_ok (outside c) n (Number p) c e (from_end c p (c == 34) (is_digit c || (c == 45)) refl refl (not_begun c h))
from_number p n c false false h g e = absurd cc

from_opening : (k : ℕ) (n : Mode) (c : ℕ) (a b d : Bool) → (c == tag_char k) ≡ a → nat_le 5 k ≡ b → (k == 1) ≡ d
    → cond a (cond b (Err TaggedText) (done (Opening (suc k)))) (cond d (done Inside) (done (in_string c))) ≡ Ok n → Gives_back (Opening k) n c
from_opening k n c true true d h g w e = absurd cc
from_opening k n c true false d h g w e = mode_ok (Opening (suc k)) n (Opening k) c e (tag_goes_on k c h g)
from_opening k n c false b true h g w e = mode_ok Inside n (Opening k) c e (tag_breaks_escape k c h w)
from_opening k n c false b false h g w e = mode_ok (in_string c) n (Opening k) c e (tag_breaks k c h w)

step : (m n : Mode) (c : ℕ) → next_mode m c ≡ Ok n → Gives_back m n c
unfolding next_mode
step Between n c e = mode_ok (outside c) n Between c e (from_between c (c == 34) (is_digit c || (c == 45)) refl refl)
step (Number p) n c e = from_number p n c (is_number_char c) (is_whole p) refl refl e
step (Opening k) n c e = from_opening k n c (c == tag_char k) (nat_le 5 k) (k == 1) refl refl refl e
step Inside n c e = mode_ok (in_string c) n Inside c e (in_text c)
step Escaped n c e = mode_ok Inside n Escaped c e (after_escape c)

number_last : (p : Place) (q : List ℕ) (b : Bool) → cond b (done (34 ∷ [])) (Err BadNumberToken) ≡ Ok q → unquote_from Token q ≡ []
unfolding unquote_from next_way emits last_of
number_last p q true e = rw (← ok_is (34 ∷ []) q e) refl
number_last p q false e = absurd cc

last : (m : Mode) (q : List ℕ) → ending m ≡ Ok q → unquote_from (way m) q ≡ back m ++ []
unfolding ending unquote_from last_of
last Between q e = rw (← ok_is [] q e) refl
last (Number p) q e = number_last p q (is_whole p) e
last (Opening k) q e = rw (← ok_is [] q e) (sym (append-nil (held k)))
last Inside q e = rw (← ok_is [] q e) refl
last Escaped q e = rw (← ok_is [] q e) refl

pub gives_back : (m : Mode) (t q : List ℕ) → quote_from m t ≡ Ok q → unquote_from (way m) q ≡ back m ++ t
unfolding quote_from
gives_back m [] q e = last m q e
gives_back m (c ∷ cs) q e =
    let a = bind_ok (next_mode m c) (λ n. before (mark m n ++ c ∷ []) (quote_from n cs)) q e in
    let b = bind_ok (quote_from a.0 cs) (λ rest. done ((mark m a.0 ++ c ∷ []) ++ rest)) q a.2 in
    let whole : (mark m a.0 ++ c ∷ []) ++ b.0 ≡ q = ok_is _ q b.2 in
    rw (← whole, append_assoc (mark m a.0) (c ∷ []) b.0) (step m a.0 c a.1 b.0 cs (gives_back a.0 cs b.0 b.1))

-- what was quoted is given back
pub unquote_quote : (t q : List ℕ) → quote t ≡ Ok q → unquote q ≡ t
unquote_quote t q e = gives_back Between t q e
