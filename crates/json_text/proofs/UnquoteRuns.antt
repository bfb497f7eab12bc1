-- Unquoting, as far as it has come: what is written, and what of the text is not copied yet.
use Rattle.std.proofs.Common.{◌≡◌, ℕ, zero, suc, ◌+◌, ◌<◌, ◌≤◌, Bool, true, false, cond, List, [], ◌∷◌, ◌++◌, length}
use Rattle.std.proofs.Common.{get_or, take, drop, refl, sym, ap, subst, ◌∙◌, append_assoc, add-one, arith, ◌==◌, nat_le}
use Rattle.std.specs.List.{prefix_len}
use Rattle.std.specs.Str.{IsUtf8, IsCharBoundary}
use Rattle.std.proofs.Math.Seq.{drop-cons}
use Rattle.std.proofs.lemmas.Bool.Decides.{nat_tests}
use Rattle.std.proofs.lemmas.List.{drop_all, drop-drop, length-drop, append-nil}
use Rattle.std.proofs.lemmas.Str.{IsCharBoundary-start, IsCharBoundary-after_ascii, IsCharBoundary-before_ascii}
use Rattle.json_text.specs.declared.unquote.Way.{Way}
use Rattle.json_text.specs.declared.unquote.Way.TheVariants.{Outside, Opened, Within, Skipped, Token}
use Rattle.json_text.specs.Quote.{tag_char, is_plain}
use Rattle.json_text.specs.Unquote.{held, way_in, next_way, emits, opening_at, end_at, skipped, in_token, last_of, unquote_from, unquote}
use Rattle.json_text.proofs.Copying.{between, between-one_more, between-more, between-none, between-all, plain_tests, one_up}
use Rattle.json_text.proofs.Steps.{test_is}

-- a string that began at opening, with k characters of the tag behind its quote
pub record IsOpen (text : List ℕ) (start opening i k : ℕ) : Type 0 where
  pub before : start ≤ opening
  pub inside : opening ≤ i
  pub cut : IsCharBoundary text opening
  pub parts : between text start i ≡ between text start opening ++ held k

abbrev pub AtOpening : List ℕ → ℕ → ℕ → ℕ → Way → Type 0
AtOpening text start opening i Outside = Unit {0}
AtOpening text start opening i (Opened k) = IsOpen text start opening i k
AtOpening text start opening i Within = Unit {0}
AtOpening text start opening i Skipped = Unit {0}
AtOpening text start opening i Token = Unit {0}

-- all before start is in out; what is from there on was read, and is copied unless it begins a number
pub record Unquoted (text out : List ℕ) (start opening i : ℕ) (w : Way) : Type 0 where
  pub ordered : start ≤ i
  pub within : i ≤ length text
  pub cut : IsCharBoundary text start
  pub open_there : AtOpening text start opening i w
  pub total : (out ++ between text start (end_at w i opening)) ++ unquote_from w (drop i text) ≡ unquote text

pub begins : (text : List ℕ) → IsUtf8 text → Unquoted text [] 0 0 0 Outside
begins text u = record {
  ordered = omega arith;
  within = omega arith;
  cut = IsCharBoundary-start text u;
  open_there = tt;
  total = ap (λ (t : List ℕ). ([] ++ t) ++ unquote_from Outside text) (between-none text 0);
}

one_more : (text : List ℕ) (i : ℕ) (w : Way) → i < length text
    → unquote_from w (drop i text) ≡ emits w (get_or text i 0) ++ unquote_from (next_way w (get_or text i 0)) (drop (i + 1) text)
unfolding unquote_from
one_more text i w lt = rw (add-one, drop-cons text i 0) refl

-- what one more byte does to what is pending and what is written
record Step (text : List ℕ) (start opening i : ℕ) (w n : Way) : Type 0 where
  open_next : AtOpening text start (opening_at w i opening) (i + 1) n
  same : between text start (end_at n (i + 1) (opening_at w i opening)) ≡ between text start (end_at w i opening) ++ emits w (get_or text i 0)

kept_total : (text out : List ℕ) (start opening i : ℕ) (w n : Way) → i < length text → next_way w (get_or text i 0) ≡ n → Step text start opening i w n
    → Unquoted text out start opening i w → Unquoted text out start (opening_at w i opening) (i + 1) n
kept_total text out start opening i w n lt is s q = record {
  ordered = omega (arith, q.ordered);
  within = omega arith;
  cut = q.cut;
  open_there = s.open_next;
  total =
      let c = get_or text i 0 in
      let rest = unquote_from n (drop (i + 1) text) in
      ap (λ (t : List ℕ). (out ++ t) ++ rest) s.same
      ∙ ap (λ (t : List ℕ). t ++ rest) (sym (append_assoc out (between text start (end_at w i opening)) (emits w c)))
      ∙ append_assoc (out ++ between text start (end_at w i opening)) (emits w c) rest
      ∙ ap (λ (m : Way). (out ++ between text start (end_at w i opening)) ++ (emits w c ++ unquote_from m (drop (i + 1) text))) (sym is)
      ∙ ap (λ (t : List ℕ). (out ++ between text start (end_at w i opening)) ++ t) (sym (one_more text i w lt))
      ∙ q.total;
}

-- ---- each way

plain_step : (text : List ℕ) (start i : ℕ) → start ≤ i → i < length text → between text start (i + 1) ≡ between text start i ++ get_or text i 0 ∷ []
plain_step text start i le lt = between-one_more text start i le lt

outside_step : (text : List ℕ) (start opening i : ℕ) (b : Bool) → (get_or text i 0 == 34) ≡ b → start ≤ i → i < length text → Step text start opening i Outside (cond b (Opened 0) Outside)
unfolding emits
outside_step text start opening i true e le lt =
    let c : get_or text i 0 ≡ 34 = test_is _ 34 e in
    record {
      open_next = record {
        before = le;
        inside = omega arith;
        cut = IsCharBoundary-before_ascii text i lt (omega arith);
        parts = plain_step text start i le lt ∙ ap (λ (x : ℕ). between text start i ++ x ∷ []) c;
      };
      same = rw e (sym (append-nil (between text start i)));
    }
outside_step text start opening i false e le lt = record { open_next = tt; same = plain_step text start i le lt ∙ rw e refl }

grown : (k : ℕ) → k < 5 → held k ++ tag_char k ∷ [] ≡ held (suc k)
grown zero h = refl
grown (suc zero) h = refl
grown (suc (suc zero)) h = refl
grown (suc (suc (suc zero))) h = refl
grown (suc (suc (suc (suc zero)))) h = refl
grown (suc (suc (suc (suc (suc k))))) h = absurd (omega arith)

-- a way that no number begins at
abbrev IsShut : Way → Type 0
IsShut Outside = Unit {0}
IsShut (Opened k) = ⊥
IsShut Within = Unit {0}
IsShut Skipped = Unit {0}
IsShut Token = Unit {0}

shut_opening : (text : List ℕ) (start opening i : ℕ) (n : Way) → IsShut n → AtOpening text start opening i n
shut_opening text start opening i Outside h = tt
shut_opening text start opening i (Opened k) h = absurd h
shut_opening text start opening i Within h = tt
shut_opening text start opening i Skipped h = tt
shut_opening text start opening i Token h = tt

shut_end : (n : Way) (i opening : ℕ) → IsShut n → end_at n i opening ≡ i
shut_end Outside i opening h = refl
shut_end (Opened k) i opening h = absurd h
shut_end Within i opening h = refl
shut_end Skipped i opening h = refl
shut_end Token i opening h = refl

shut_in : (b d : Bool) → IsShut (cond b Outside (cond d Skipped Within))
shut_in true d = tt
shut_in false true = tt
shut_in false false = tt

shut_or : (b : Bool) (c : ℕ) → IsShut (cond b Within (way_in c))
shut_or true c = tt
shut_or false c = shut_in (c == 34) (c == 92)

-- a byte that stays, at a way that holds nothing back
plain : (text : List ℕ) (start opening i : ℕ) (w n : Way) → end_at w i opening ≡ i → emits w (get_or text i 0) ≡ get_or text i 0 ∷ [] → IsShut n → start ≤ i → i < length text → Step text start opening i w n
plain text start opening i w n ends stays shut le lt = record {
  open_next = shut_opening text start (opening_at w i opening) (i + 1) n shut;
  same =
      ap (between text start) (shut_end n (i + 1) (opening_at w i opening) shut) ∙ plain_step text start i le lt
      ∙ ap (λ (t : List ℕ). between text start i ++ t) (sym stays)
      ∙ ap (λ (k : ℕ). between text start k ++ emits w (get_or text i 0)) (sym ends);
}

opened_kept : (text : List ℕ) (start opening i k : ℕ) → (get_or text i 0 == tag_char k) ≡ true → k < 5 → start ≤ i → i < length text → IsOpen text start opening i k → Step text start opening i (Opened k) (Opened (suc k))
unfolding emits
opened_kept text start opening i k e small le lt h = record {
  open_next = record {
    before = h.before;
    inside = omega (arith, h.inside);
    cut = h.cut;
    parts =
        plain_step text start i le lt
        ∙ ap (λ (t : List ℕ). t ++ get_or text i 0 ∷ []) h.parts
        ∙ ap (λ (x : ℕ). (between text start opening ++ held k) ++ x ∷ []) (test_is _ (tag_char k) e)
        ∙ append_assoc (between text start opening) (held k) (tag_char k ∷ [])
        ∙ ap (λ (t : List ℕ). between text start opening ++ t) (grown k small);
  };
  same = rw e (sym (append-nil (between text start opening)));
}

opened_shut : (text : List ℕ) (start opening i k : ℕ) (n : Way) → (get_or text i 0 == tag_char k) ≡ false → IsShut n → start ≤ i → i < length text → IsOpen text start opening i k → Step text start opening i (Opened k) n
unfolding emits
opened_shut text start opening i k n e shut le lt h = record {
  open_next = shut_opening text start opening (i + 1) n shut;
  same =
      ap (between text start) (shut_end n (i + 1) opening shut) ∙ plain_step text start i le lt
      ∙ ap (λ (t : List ℕ). t ++ get_or text i 0 ∷ []) h.parts
      ∙ append_assoc (between text start opening) (held k) (get_or text i 0 ∷ [])
      ∙ rw e refl;
}

opened_step : (text : List ℕ) (start opening i k : ℕ) (b d : Bool) → (get_or text i 0 == tag_char k) ≡ b → nat_le 5 k ≡ d → in_token (cond b (cond d Token (Opened (suc k))) (cond (k == 1) Within (way_in (get_or text i 0)))) ≡ false → start ≤ i → i < length text → IsOpen text start opening i k
    → Step text start opening i (Opened k) (cond b (cond d Token (Opened (suc k))) (cond (k == 1) Within (way_in (get_or text i 0))))
opened_step text start opening i k true true e f alike le lt h = absurd cc
opened_step text start opening i k true false e f alike le lt h = let small : k < 5 = grind (arith, nat_tests) in opened_kept text start opening i k e small le lt h
opened_step text start opening i k false d e f alike le lt h = opened_shut text start opening i k (cond (k == 1) Within (way_in (get_or text i 0))) e (shut_or (k == 1) (get_or text i 0)) le lt h

token_step : (text : List ℕ) (start opening i : ℕ) (b : Bool) → (get_or text i 0 == 34) ≡ b → in_token (cond b Outside Token) ≡ true → start ≤ i → i < length text → Step text start opening i Token (cond b Outside Token)
unfolding emits
token_step text start opening i true e alike le lt = absurd cc
token_step text start opening i false e alike le lt = plain text start opening i Token Token refl (rw e refl) tt le lt

step : (text : List ℕ) (start opening i : ℕ) (w : Way) → in_token w ≡ in_token (next_way w (get_or text i 0)) → start ≤ i → i < length text → AtOpening text start opening i w → Step text start opening i w (next_way w (get_or text i 0))
unfolding next_way emits
step text start opening i Outside alike le lt h = outside_step text start opening i (get_or text i 0 == 34) refl le lt
step text start opening i (Opened k) alike le lt h = opened_step text start opening i k (get_or text i 0 == tag_char k) (nat_le 5 k) refl refl (sym alike) le lt h
step text start opening i Within alike le lt h = plain text start opening i Within (way_in (get_or text i 0)) refl refl (shut_in (get_or text i 0 == 34) (get_or text i 0 == 92)) le lt
step text start opening i Skipped alike le lt h = plain text start opening i Skipped Within refl refl tt le lt
step text start opening i Token alike le lt h = token_step text start opening i (get_or text i 0 == 34) refl (sym alike) le lt

pub kept : (text items out : List ℕ) (start opening next i : ℕ) (w n : Way) → items ≡ text → i < length items → n ≡ next_way w (get_or items i 0) → next ≡ opening_at w i opening → in_token w ≡ in_token n
    → Unquoted text out start opening i w → Unquoted text out start next (i + 1) n
kept text items out start opening next i w n same lt is at alike q =
    let on : i < length text = omega (arith, ap length same) in
    let goes : next_way w (get_or text i 0) ≡ n = ap (λ (s : List ℕ). next_way w (get_or s i 0)) (sym same) ∙ sym is in
    let s : Step text start opening i w n = subst (Step text start opening i w) goes (step text start opening i w (alike ∙ ap in_token (sym goes)) q.ordered on q.open_there) in
    subst (λ (o : ℕ). Unquoted text out start o (i + 1) n) (sym at) (kept_total text out start opening i w n on goes s q)

-- ---- where a number begins or ends

-- the byte is no part of what is written, is ASCII, and no string is held back behind it
record Turns (text : List ℕ) (i : ℕ) (w n : Way) : Type 0 where
  gone : emits w (get_or text i 0) ≡ []
  low : get_or text i 0 < 128
  shut : IsShut n

no_token : (b d f : Bool) → in_token (cond b Within (cond d Outside (cond f Skipped Within))) ≡ false
no_token true d f = refl
no_token false true f = refl
no_token false false true = refl
no_token false false false = refl

tag_low : (k : ℕ) → tag_char k < 128
tag_low k = grind (arith, nat_tests)

outside_turns : (text : List ℕ) (i : ℕ) (b : Bool) → (false ≡ in_token (cond b (Opened 0) Outside) → ⊥) → Turns text i Outside (cond b (Opened 0) Outside)
outside_turns text i true ne = absurd (ne refl)
outside_turns text i false ne = absurd (ne refl)

opened_turns : (text : List ℕ) (i k : ℕ) (b d : Bool) → (get_or text i 0 == tag_char k) ≡ b → (false ≡ in_token (cond b (cond d Token (Opened (suc k))) (cond (k == 1) Within (way_in (get_or text i 0)))) → ⊥)
    → Turns text i (Opened k) (cond b (cond d Token (Opened (suc k))) (cond (k == 1) Within (way_in (get_or text i 0))))
unfolding emits
opened_turns text i k true true e ne = record { gone = rw e refl; low = omega (arith, test_is _ (tag_char k) e, tag_low k); shut = tt }
opened_turns text i k true false e ne = absurd (ne refl)
opened_turns text i k false d e ne = absurd (ne (sym (no_token (k == 1) (get_or text i 0 == 34) (get_or text i 0 == 92))))

token_turns : (text : List ℕ) (i : ℕ) (b : Bool) → (get_or text i 0 == 34) ≡ b → (true ≡ in_token (cond b Outside Token) → ⊥) → Turns text i Token (cond b Outside Token)
unfolding emits
token_turns text i true e ne = record { gone = rw e refl; low = omega (arith, test_is _ 34 e); shut = tt }
token_turns text i false e ne = absurd (ne refl)

turns : (text : List ℕ) (i : ℕ) (w : Way) → (in_token w ≡ in_token (next_way w (get_or text i 0)) → ⊥) → Turns text i w (next_way w (get_or text i 0))
unfolding next_way
turns text i Outside ne = outside_turns text i (get_or text i 0 == 34) ne
turns text i (Opened k) ne = opened_turns text i k (get_or text i 0 == tag_char k) (nat_le 5 k) refl ne
turns text i Within ne = absurd (ne (sym (no_token false (get_or text i 0 == 34) (get_or text i 0 == 92))))
turns text i Skipped ne = absurd (ne refl)
turns text i Token ne = token_turns text i (get_or text i 0 == 34) refl ne

pub record Cut (text : List ℕ) (start end : ℕ) : Type 0 where
  pub ordered : start ≤ end
  pub boundary : IsCharBoundary text end

cut_at : (text : List ℕ) (start opening i : ℕ) (w : Way) → start ≤ i → IsCharBoundary text i → AtOpening text start opening i w → Cut text start (end_at w i (opening_at w i opening))
cut_at text start opening i Outside le b h = record { ordered = le; boundary = b }
cut_at text start opening i (Opened k) le b h = record { ordered = h.before; boundary = h.cut }
cut_at text start opening i Within le b h = record { ordered = le; boundary = b }
cut_at text start opening i Skipped le b h = record { ordered = le; boundary = b }
cut_at text start opening i Token le b h = record { ordered = le; boundary = b }

turns_at : (text items : List ℕ) (i : ℕ) (w n : Way) → items ≡ text → n ≡ next_way w (get_or items i 0) → (in_token w ≡ in_token n → ⊥) → Turns text i w n
turns_at text items i w n same is ne =
    let goes : next_way w (get_or text i 0) ≡ n = ap (λ (s : List ℕ). next_way w (get_or s i 0)) (sym same) ∙ sym is in
    subst (Turns text i w) goes (turns text i w (λ e. ne (e ∙ ap in_token goes)))

-- where the part that is copied ends
pub cut : (text items out : List ℕ) (start opening next end i : ℕ) (w n : Way) → items ≡ text → i < length items → n ≡ next_way w (get_or items i 0) → next ≡ opening_at w i opening → end ≡ end_at w i next → (in_token w ≡ in_token n → ⊥)
    → Unquoted text out start opening i w → Cut text start end
cut text items out start opening next end i w n same lt is at ends ne q =
    let on : i < length text = omega (arith, ap length same) in
    let t = turns_at text items i w n same is ne in
    subst (Cut text start) (sym (ends ∙ ap (end_at w i) at)) (cut_at text start opening i w q.ordered (IsCharBoundary-before_ascii text i on t.low) q.open_there)

end_same : (w : Way) (i opening : ℕ) → end_at w i (opening_at w i opening) ≡ end_at w i opening
end_same Outside i opening = refl
end_same (Opened k) i opening = refl
end_same Within i opening = refl
end_same Skipped i opening = refl
end_same Token i opening = refl

pub turned : (text items out new : List ℕ) (start opening next end i : ℕ) (w n : Way) → IsUtf8 text → items ≡ text → i < length items → n ≡ next_way w (get_or items i 0) → next ≡ opening_at w i opening → end ≡ end_at w i next → (in_token w ≡ in_token n → ⊥)
    → new ≡ out ++ between text start end → Unquoted text out start opening i w → Unquoted text new (i + 1) next (i + 1) n
turned text items out new start opening next end i w n u same lt is at ends ne made q =
    let on : i < length text = omega (arith, ap length same) in
    let t = turns_at text items i w n same is ne in
    let goes : next_way w (get_or text i 0) ≡ n = ap (λ (s : List ℕ). next_way w (get_or s i 0)) (sym same) ∙ sym is in
    let rest = unquote_from n (drop (i + 1) text) in
    record {
      ordered = omega arith;
      within = omega arith;
      cut = IsCharBoundary-after_ascii text i u on t.low;
      open_there = shut_opening text (i + 1) next (i + 1) n t.shut;
      total =
          ap (λ (k : ℕ). (new ++ between text (i + 1) k) ++ rest) (shut_end n (i + 1) next t.shut)
          ∙ ap (λ (s : List ℕ). (new ++ s) ++ rest) (between-none text (i + 1))
          ∙ ap (λ (s : List ℕ). s ++ rest) (append-nil new ∙ made)
          ∙ ap (λ (k : ℕ). (out ++ between text start k) ++ rest) (ends ∙ ap (end_at w i) at ∙ end_same w i opening)
          ∙ ap (λ (s : List ℕ). (out ++ between text start (end_at w i opening)) ++ (s ++ rest)) (sym t.gone)
          ∙ ap (λ (m : Way). (out ++ between text start (end_at w i opening)) ++ (emits w (get_or text i 0) ++ unquote_from m (drop (i + 1) text))) (sym goes)
          ∙ ap (λ (s : List ℕ). (out ++ between text start (end_at w i opening)) ++ s) (sym (one_more text i w on))
          ∙ q.total;
    }

-- ---- bytes that are passed over

-- a way at which a plain byte is copied, and nothing changes
record Copies (w : Way) : Type 0 where
  emitted : (x : ℕ) → is_plain x ≡ true → emits w x ≡ x ∷ []
  kept_way : (x : ℕ) → is_plain x ≡ true → next_way w x ≡ w

outside_copies : Copies Outside
unfolding emits next_way
outside_copies = record { emitted = λ x e. rw ((plain_tests x e).0) refl; kept_way = λ x e. rw ((plain_tests x e).0) refl }

within_copies : Copies Within
unfolding emits next_way
within_copies = record { emitted = λ x e. refl; kept_way = λ x e. let t = plain_tests x e in rw (t.0, t.1) refl }

token_copies : Copies Token
unfolding emits next_way
token_copies = record { emitted = λ x e. rw ((plain_tests x e).0) refl; kept_way = λ x e. rw ((plain_tests x e).0) refl }

plain_by : (w : Way) → Copies w → (x : ℕ) (xs : List ℕ) (n : ℕ) (b : Bool) → is_plain x ≡ b → unquote_from w xs ≡ take n xs ++ unquote_from w (drop n xs)
    → unquote_from w (x ∷ xs) ≡ take (cond b (1 + n) 0) (x ∷ xs) ++ unquote_from w (drop (cond b (1 + n) 0) (x ∷ xs))
unfolding unquote_from
plain_by w copies x xs n true e within =
    ap (λ (t : List ℕ). t ++ unquote_from (next_way w x) xs) (copies.emitted x e)
    ∙ ap (λ (m : Way). (x ∷ []) ++ unquote_from m xs) (copies.kept_way x e)
    ∙ ap (λ (t : List ℕ). x ∷ t) within
    ∙ ap (λ (k : ℕ). take k (x ∷ xs) ++ unquote_from w (drop k (x ∷ xs))) (sym (one_up n))
plain_by w copies x xs n false e within = refl

unquote_plain : (w : Way) → Copies w → (s : List ℕ) → unquote_from w s ≡ take (prefix_len is_plain s) s ++ unquote_from w (drop (prefix_len is_plain s) s)
unquote_plain w copies [] = refl
unquote_plain w copies (x ∷ xs) = plain_by w copies x xs (prefix_len is_plain xs) (is_plain x) refl (unquote_plain w copies xs)

stays : (text out : List ℕ) (start opening i : ℕ) (w : Way) → Unquoted text out start opening i w → Unquoted text out start opening (i + 0) w
stays text out start opening i w q = let same : i ≡ i + 0 = omega arith in subst (λ (k : ℕ). Unquoted text out start opening k w) same q

copied : (text out : List ℕ) (start opening i : ℕ) (w : Way) → Copies w → IsShut w → prefix_len is_plain (drop i text) ≤ length (drop i text) → Unquoted text out start opening i w → Unquoted text out start opening (i + prefix_len is_plain (drop i text)) w
copied text out start opening i w copies shut le q =
    let n = prefix_len is_plain (drop i text) in
    let rest = unquote_from w (drop n (drop i text)) in
    record {
      ordered = omega (arith, q.ordered);
      within = omega (arith, q.within, length-drop i text);
      cut = q.cut;
      open_there = shut_opening text start opening (i + n) w shut;
      total =
          ap (λ (k : ℕ). (out ++ between text start k) ++ unquote_from w (drop (i + n) text)) (shut_end w (i + n) opening shut)
          ∙ ap (λ (t : List ℕ). (out ++ t) ++ unquote_from w (drop (i + n) text)) (between-more text start i n q.ordered)
          ∙ ap (λ (t : List ℕ). (out ++ (between text start i ++ take n (drop i text))) ++ unquote_from w t) (sym (drop-drop n i text))
          ∙ ap (λ (t : List ℕ). t ++ rest) (sym (append_assoc out (between text start i) (take n (drop i text))))
          ∙ append_assoc (out ++ between text start i) (take n (drop i text)) rest
          ∙ ap (λ (t : List ℕ). (out ++ between text start i) ++ t) (sym (unquote_plain w copies (drop i text)))
          ∙ ap (λ (k : ℕ). (out ++ between text start k) ++ unquote_from w (drop i text)) (sym (shut_end w i opening shut))
          ∙ q.total;
    }

skips : (text out : List ℕ) (start opening i : ℕ) (w : Way) → skipped w (drop i text) ≤ length (drop i text) → Unquoted text out start opening i w → Unquoted text out start opening (i + skipped w (drop i text)) w
skips text out start opening i Outside le q = copied text out start opening i Outside outside_copies tt le q
skips text out start opening i (Opened k) le q = stays text out start opening i (Opened k) q
skips text out start opening i Within le q = copied text out start opening i Within within_copies tt le q
skips text out start opening i Skipped le q = stays text out start opening i Skipped q
skips text out start opening i Token le q = copied text out start opening i Token token_copies tt le q

pub passes : (text items out rest : List ℕ) (start opening i more : ℕ) (w : Way) → items ≡ text → rest ≡ drop (i + 1) items → more ≡ skipped w rest → more ≤ length rest → Unquoted text out start opening (i + 1) w → Unquoted text out start opening ((i + 1) + more) w
passes text items out rest start opening i more w same is count le q =
    let there : more ≡ skipped w (drop (i + 1) text) = count ∙ ap (skipped w) (is ∙ ap (drop (i + 1)) same) in
    let within : skipped w (drop (i + 1) text) ≤ length (drop (i + 1) text) = omega (arith, ap length (is ∙ ap (drop (i + 1)) same)) in
    subst (λ (k : ℕ). Unquoted text out start opening ((i + 1) + k) w) (sym there) (skips text out start opening (i + 1) w within q)

-- ---- the end

pending : (text : List ℕ) (start opening i : ℕ) (w : Way) → AtOpening text start opening i w → between text start i ≡ between text start (end_at w i opening) ++ last_of w
unfolding last_of
pending text start opening i Outside h = sym (append-nil (between text start i))
pending text start opening i (Opened k) h = h.parts
pending text start opening i Within h = sym (append-nil (between text start i))
pending text start opening i Skipped h = sym (append-nil (between text start i))
pending text start opening i Token h = sym (append-nil (between text start i))

pub ended : (text items out : List ℕ) (start opening i : ℕ) (w : Way) → items ≡ text → length items ≤ i → Unquoted text out start opening i w → out ++ drop start text ≡ unquote text
unfolding unquote_from
ended text items out start opening i w same low q =
    let size : length items ≡ length text = ap length same in
    let all : i ≡ length text = omega (arith, q.within) in
    let none : drop i text ≡ [] = drop_all i text (omega arith) in
    ap (λ (t : List ℕ). out ++ t) (sym (between-all text start) ∙ ap (between text start) (sym all) ∙ pending text start opening i w q.open_there)
    ∙ sym (append_assoc out (between text start (end_at w i opening)) (last_of w))
    ∙ ap (λ (t : List ℕ). (out ++ between text start (end_at w i opening)) ++ unquote_from w t) (sym none)
    ∙ q.total
