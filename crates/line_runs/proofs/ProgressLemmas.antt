-- How far the lines of a text are read.
use Rattle.std.proofs.Common.{◌≡◌, ◌≢◌, ℕ, ◌+◌, ◌-◌, ◌<◌, ◌≤◌, ◌⊎◌, inl, inr, List, [], ◌∷◌, ◌++◌, All, length, get_or, refl, sym, ap, subst, ◌∙◌, arith, append_assoc, length-append}
use Rattle.std.proofs.Math.Seq.{get_or-append_seam}
use Rattle.std.proofs.lemmas.List.{append-nil}
use Rattle.std.proofs.BufReadLemmas.{drop_through-append}
use Rattle.std.specs.Io.{IsEmptyOrEndsWith}
use Rattle.std.specs.Io.BufRead.{drop_through, first_line}
use Rattle.std.specs.Str.Lines.{lines, strip_carriage_return}
use Rattle.line_runs.proofs.LineLemmas.{Feeds, feeds_or_plain, first_line-feeds, first_line-plain, drop_through_plain, lines-feeds, lines-plain}

-- `front` is read: the lines `done`, each with its line feed or ended by the end of the text
pub record ReadSoFar (text left : List ℕ) (reads : ℕ) (done : List (List ℕ)) : Type 0 where
  pub front : List ℕ
  pub cut : text ≡ front ++ left
  pub ended : (left ≡ []) ⊎ IsEmptyOrEndsWith front 10
  pub lines_on : (part rest : List ℕ) → left ≡ part ++ rest → lines (front ++ part) ≡ done ++ lines part
  pub count : length done ≡ reads

pub none_read : (text : List ℕ) → ReadSoFar text text 0 []
none_read text = record { front = []; cut = refl; ended = inr (λ some. absurd (omega arith)); lines_on = λ part rest e. refl; count = refl }

ends_with_feed : (a b : List ℕ) → IsEmptyOrEndsWith (a ++ (b ++ 10 ∷ [])) 10
ends_with_feed a b =
    let long : length ((a ++ b) ++ 10 ∷ []) - 1 ≡ length (a ++ b) = omega (arith, length-append (a ++ b) (10 ∷ [])) in
    subst (λ l. IsEmptyOrEndsWith l 10) (append_assoc a b (10 ∷ [])) (λ _. ap (λ k. get_or ((a ++ b) ++ 10 ∷ []) k 0) long ∙ get_or-append_seam (a ++ b) 10 [] 0)

pub nil_front : (p q : List ℕ) → [] ≡ p ++ q → p ≡ []
nil_front [] q e = refl
nil_front (x ∷ p) q e = absurd (omega (arith, ap length e))

-- one more line, with a line feed
more_feeds : (text left : List ℕ) (reads : ℕ) (done : List (List ℕ)) → ReadSoFar text left reads done → (f : Feeds left) → ReadSoFar text f.rest (reads + 1) (done ++ strip_carriage_return f.front ∷ [])
more_feeds text left reads done h f =
    let piece = f.front ++ 10 ∷ [] in
    let line = strip_carriage_return f.front in
    let whole : left ≡ piece ++ f.rest = f.is ∙ sym (append_assoc f.front (10 ∷ []) f.rest) in
    record {
      front = h.front ++ piece;
      cut = h.cut ∙ ap (λ l. h.front ++ l) whole ∙ sym (append_assoc h.front piece f.rest);
      ended = inr (ends_with_feed h.front f.front);
      lines_on = λ part rest e.
          let on : left ≡ (piece ++ part) ++ rest = whole ∙ ap (λ l. piece ++ l) e ∙ sym (append_assoc piece part rest) in
          ap lines (append_assoc h.front piece part) ∙ h.lines_on (piece ++ part) rest on
          ∙ ap (λ ls. done ++ ls) (ap lines (append_assoc f.front (10 ∷ []) part) ∙ lines-feeds f.front part f.plain) ∙ sym (append_assoc done (line ∷ []) (lines part));
      count = omega (arith, length-append done (line ∷ []), h.count);
    }

-- the last line, without one
more_plain : (text left : List ℕ) (reads : ℕ) (done : List (List ℕ)) → ReadSoFar text left reads done → All (λ x. x ≢ 10) left → 0 < length left → ReadSoFar text [] (reads + 1) (done ++ left ∷ [])
more_plain text left reads done h plain some = record {
  front = h.front ++ left;
  cut = h.cut ∙ sym (append-nil (h.front ++ left));
  ended = inl refl;
  lines_on = λ part rest e. subst (λ p. lines ((h.front ++ left) ++ p) ≡ (done ++ left ∷ []) ++ lines p) (sym (nil_front part rest e))
      (ap lines (append-nil (h.front ++ left)) ∙ h.lines_on left [] (sym (append-nil left)) ∙ ap (λ ls. done ++ ls) (lines-plain left plain some) ∙ sym (append-nil (done ++ left ∷ [])));
  count = omega (arith, length-append done (left ∷ []), h.count);
}

pub one_more : (text left rest : List ℕ) (reads : ℕ) (done : List (List ℕ)) → ReadSoFar text left reads done → 0 < length left → rest ≡ drop_through 10 left
    → ReadSoFar text rest (reads + 1) (done ++ first_line left ∷ [])
one_more text left rest reads done h some is = at (feeds_or_plain left)
  where
    at : Feeds left ⊎ All (λ x. x ≢ 10) left → ReadSoFar text rest (reads + 1) (done ++ first_line left ∷ [])
    at (inl f) =
        let after : rest ≡ f.rest = is ∙ ap (drop_through 10) f.is ∙ drop_through-append 10 f.front (10 ∷ f.rest) f.plain in
        let line : first_line left ≡ strip_carriage_return f.front = ap first_line f.is ∙ first_line-feeds f.front f.rest f.plain in
        subst (λ r. ReadSoFar text r (reads + 1) (done ++ first_line left ∷ [])) (sym after)
        (subst (λ l. ReadSoFar text f.rest (reads + 1) (done ++ l ∷ [])) (sym line) (more_feeds text left reads done h f))
    at (inr plain) =
        subst (λ r. ReadSoFar text r (reads + 1) (done ++ first_line left ∷ [])) (sym (is ∙ drop_through_plain left plain))
        (subst (λ l. ReadSoFar text [] (reads + 1) (done ++ l ∷ [])) (sym (first_line-plain left plain)) (more_plain text left reads done h plain some))

-- all lines are those that are read and those that are left
pub all_lines : (text left : List ℕ) (reads : ℕ) (done : List (List ℕ)) → ReadSoFar text left reads done → lines text ≡ done ++ lines left
all_lines text left reads done h = ap lines h.cut ∙ h.lines_on left [] (sym (append-nil left))

-- the lines of what is read
pub front_lines : (text left : List ℕ) (reads : ℕ) (done : List (List ℕ)) → (h : ReadSoFar text left reads done) → lines h.front ≡ done
front_lines text left reads done h = ap lines (sym (append-nil h.front)) ∙ h.lines_on [] left refl ∙ append-nil done

lines_short : (part : List ℕ) → All (λ x. x ≢ 10) part → length (lines part) ≤ 1
lines_short [] plain = omega arith
lines_short (x ∷ xs) plain = omega (arith, ap length (lines-plain (x ∷ xs) plain (omega arith)))

-- with a part of the next line
pub front_and_part : (text left : List ℕ) (reads : ℕ) (done : List (List ℕ)) → (h : ReadSoFar text left reads done) → (part rest : List ℕ) → left ≡ part ++ rest → All (λ x. x ≢ 10) part
    → length (lines (h.front ++ part)) ≤ reads + 1
front_and_part text left reads done h part rest e plain =
    omega (arith, ap length (h.lines_on part rest e), length-append done (lines part), h.count, lines_short part plain)
