-- The lines of a text, and what was read of one.
use Rattle.std.proofs.Common.{◌≡◌, ◌≢◌, ℕ, ◌+◌, ◌-◌, ◌<◌, ◌≤◌, min, ◌⊎◌, inl, inr, ⊎_elim, Bool, true, false, ◌&&◌, Option, None, Some, IfSome, cond, eqb, lt-ltb, List, [], ◌∷◌, ◌++◌, All, length, get_or, take, refl, sym, ap, subst, ◌∙◌, arith, eq-eqb, ne_eqb, length-append, take-take, take_all}
use Rattle.std.proofs.Math.Seq.{get_or-append_seam, take-append_seam, take-append-add}
use Rattle.std.proofs.lemmas.Bool.{cases_eq, cases_lt}
use Rattle.std.proofs.lemmas.List.{append-nil, length-take, take-append-le}
use Rattle.std.proofs.lemmas.List.Elements.{All-nil, All-cons, All-head, All-tail, All-take, All-get_or}
use Rattle.std.proofs.lemmas.List.Splits.{slice_split_none, slice_split_at, length-slice_split}
use Rattle.std.proofs.BufReadLemmas.{take_through-nil, take_through_nonempty, take_through-append, drop_through-append}
use Rattle.std.specs.List.{slice_split}
use Rattle.std.specs.Str.Lines.{lines, lines_of_parts, strip_carriage_return}
use Rattle.std.specs.Io.BufRead.{DropsThrough, take_through, drop_through, ends_with_byte, strip_last, first_line}
use Rattle.line_runs.specs.Lines.{ReadsLineOf}

-- a text with a line feed, cut at the first
pub record Feeds (text : List ℕ) : Type 0 where
  pub front : List ℕ
  pub rest : List ℕ
  pub plain : All (λ x. x ≢ 10) front
  pub is : text ≡ front ++ 10 ∷ rest

pub feeds_or_plain : (text : List ℕ) → Feeds text ⊎ All (λ x. x ≢ 10) text
feeds_or_plain [] = inr (All-nil (λ x. x ≢ 10))
feeds_or_plain (x ∷ xs) = at (cases_eq x 10) (feeds_or_plain xs)
  where
    at : (x ≡ 10) ⊎ (x ≡ 10 → ⊥) → Feeds xs ⊎ All (λ y. y ≢ 10) xs → Feeds (x ∷ xs) ⊎ All (λ y. y ≢ 10) (x ∷ xs)
    at (inl e) later = inl (record { front = []; rest = xs; plain = All-nil (λ y. y ≢ 10); is = ap (λ y. y ∷ xs) e })
    at (inr n) (inl f) = inl (record { front = x ∷ f.front; rest = f.rest; plain = All-cons (λ y. y ≢ 10) x f.front n f.plain; is = ap (λ l. x ∷ l) f.is })
    at (inr n) (inr h) = inr (All-cons (λ y. y ≢ 10) x xs n h)

-- what holds of each element by a law
All-by_law : {X : Type 0} (P Q : X → Type 0) → ((x : X) → P x → Q x) → (xs : List X) → All P xs → All Q xs
All-by_law P Q law [] h = All-nil Q
All-by_law P Q law (x ∷ xs) h = All-cons Q x xs (law x (All-head P x xs h)) (All-by_law P Q law xs (All-tail P x xs h))

-- a list without its last
pub take_last_off : (xs : List ℕ) (x : ℕ) → take (length (xs ++ x ∷ []) - 1) (xs ++ x ∷ []) ≡ xs
take_last_off xs x =
    let at : length (xs ++ x ∷ []) - 1 ≡ length xs = omega (arith, length-append xs (x ∷ [])) in
    ap (λ n. take n (xs ++ x ∷ [])) at ∙ take-append_seam xs (x ∷ [])

take_through_plain : (text : List ℕ) → All (λ x. x ≢ 10) text → take_through 10 text ≡ text
take_through_plain text plain = ap (take_through 10) (sym (append-nil text)) ∙ take_through-append 10 text [] plain ∙ append-nil text

pub drop_through_plain : (text : List ℕ) → All (λ x. x ≢ 10) text → drop_through 10 text ≡ []
drop_through_plain text plain = ap (drop_through 10) (sym (append-nil text)) ∙ drop_through-append 10 text [] plain

-- the test on the last byte, where there is one
pub by_last : (byte : ℕ) (xs : List ℕ) → 0 < length xs → ends_with_byte byte xs ≡ eqb (get_or xs (length xs - 1) 0) byte
by_last byte xs some = ap (λ b. b && eqb (get_or xs (length xs - 1) 0) byte) (lt-ltb 0 (length xs) some)

pub last_is : (byte : ℕ) (front : List ℕ) → ends_with_byte byte (front ++ byte ∷ []) ≡ true
last_is byte front =
    let long : length (front ++ byte ∷ []) ≡ length front + 1 = length-append front (byte ∷ []) in
    let at : length (front ++ byte ∷ []) - 1 ≡ length front = omega arith in
    by_last byte (front ++ byte ∷ []) (omega arith) ∙ eq-eqb _ byte (ap (λ k. get_or (front ++ byte ∷ []) k 0) at ∙ get_or-append_seam front byte [] 0)

pub strip_last-append : (byte : ℕ) (front : List ℕ) → strip_last byte (front ++ byte ∷ []) ≡ front
strip_last-append byte front =
    let whole = front ++ byte ∷ [] in
    ap (λ b. cond b (take (length whole - 1) whole) whole) (last_is byte front) ∙ take_last_off front byte

-- a list that lacks a byte does not end with it
pub ends_not : (byte : ℕ) (xs : List ℕ) → All (λ x. x ≢ byte) xs → ends_with_byte byte xs ≡ false
ends_not byte [] h = refl
ends_not byte (x ∷ xs) h = by_last byte (x ∷ xs) (omega arith) ∙ ne_eqb _ byte (All-get_or (λ y. y ≢ byte) (x ∷ xs) (length (x ∷ xs) - 1) 0 (omega arith) h)

pub strip_last-other : (byte : ℕ) (xs : List ℕ) → ends_with_byte byte xs ≡ false → strip_last byte xs ≡ xs
strip_last-other byte xs e = ap (λ b. cond b (take (length xs - 1) xs) xs) e

-- std's two words for a text without the carriage return at its end
pub strip_return : (xs : List ℕ) → strip_last 13 xs ≡ strip_carriage_return xs
strip_return [] = refl
strip_return (x ∷ xs) = ap (λ b. cond b (take (length (x ∷ xs) - 1) (x ∷ xs)) (x ∷ xs)) (by_last 13 (x ∷ xs) (omega arith))

-- the first line of a text with a line feed
pub first_line-feeds : (front rest : List ℕ) → All (λ x. x ≢ 10) front → first_line (front ++ 10 ∷ rest) ≡ strip_carriage_return front
first_line-feeds front rest plain =
    let read : take_through 10 (front ++ 10 ∷ rest) ≡ front ++ 10 ∷ [] = take_through-append 10 front (10 ∷ rest) plain in
    let without = λ (l : List ℕ). cond (ends_with_byte 10 l) (strip_last 13 (strip_last 10 l)) (strip_last 10 l) in
    let line = λ (b : Bool) (l : List ℕ). cond b (strip_last 13 l) l in
    ap without read ∙ ap (λ b. line b (strip_last 10 (front ++ 10 ∷ []))) (last_is 10 front) ∙ ap (strip_last 13) (strip_last-append 10 front) ∙ strip_return front

-- a text without one is its own first line
pub first_line-plain : (text : List ℕ) → All (λ x. x ≢ 10) text → first_line text ≡ text
first_line-plain text plain =
    let read : take_through 10 text ≡ text = take_through_plain text plain in
    let none = ends_not 10 text plain in
    let without = λ (l : List ℕ). cond (ends_with_byte 10 l) (strip_last 13 (strip_last 10 l)) (strip_last 10 l) in
    let line = λ (b : Bool) (l : List ℕ). cond b (strip_last 13 l) l in
    ap without read ∙ ap (λ b. line b (strip_last 10 text)) none ∙ strip_last-other 10 text none

lines_of_parts-more : (x : List ℕ) (parts : List (List ℕ)) → 0 < length parts → lines_of_parts (x ∷ parts) ≡ strip_carriage_return x ∷ lines_of_parts parts
lines_of_parts-more x [] some = absurd (omega arith)
lines_of_parts-more x (y ∷ more) some = refl

-- the lines of a text with a line feed
pub lines-feeds : (front rest : List ℕ) → All (λ x. x ≢ 10) front → lines (front ++ 10 ∷ rest) ≡ strip_carriage_return front ∷ lines rest
lines-feeds front rest plain =
    let is_feed = λ (b : ℕ). eqb b 10 in
    let cut = slice_split_at is_feed front 10 rest (All-by_law (λ x. x ≢ 10) (λ x. is_feed x ≡ false) (λ x. ne_eqb x 10) front plain) refl in
    ap lines_of_parts cut ∙ lines_of_parts-more front (slice_split is_feed rest) (omega (arith, length-slice_split is_feed rest))

-- a text without one is one line
pub lines-plain : (text : List ℕ) → All (λ x. x ≢ 10) text → 0 < length text → lines text ≡ text ∷ []
lines-plain text plain some =
    let is_feed = λ (b : ℕ). eqb b 10 in
    let one = slice_split_none is_feed text (All-by_law (λ x. x ≢ 10) (λ x. is_feed x ≡ false) (λ x. ne_eqb x 10) text plain) in
    let held : eqb (length text) 0 ≡ false = ne_eqb (length text) 0 (λ e. omega arith) in
    ap lines_of_parts one ∙ ap (λ b. cond b [] (text ∷ [])) held

-- a front of a front
pub take_within : (xs : List ℕ) (end room kept : ℕ) → kept ≡ min end room → take kept xs ≡ take room (take end xs)
take_within xs end room kept e = at (cases_lt end room)
  where
    at : (end < room) ⊎ (room ≤ end) → take kept xs ≡ take room (take end xs)
    at (inr h) = let k : kept ≡ room = omega arith in ap (λ n. take n xs) k ∙ sym (take-take room end xs h)
    at (inl h) =
        let k : kept ≡ end = omega arith in
        let short : length (take end xs) ≤ room = omega (arith, length-take end xs) in
        ap (λ n. take n xs) k ∙ sym (take_all room (take end xs) short)

pub nothing_more : (xs : List ℕ) (n : ℕ) → xs ≡ xs ++ take n []
nothing_more xs n = sym (ap (λ l. xs ++ l) (take_all n [] (omega arith)) ∙ append-nil xs)

-- a front grows by what is read after it, up to the room there is
pub take_more_of : (room : ℕ) (done part : List ℕ) → take room done ++ take (room - length (take room done)) part ≡ take room (done ++ part)
take_more_of room done part = at (cases_lt (length done) room)
  where
    at : (length done < room) ⊎ (room ≤ length done) → take room done ++ take (room - length (take room done)) part ≡ take room (done ++ part)
    at (inl h) =
        let whole : take room done ≡ done = take_all room done (omega arith) in
        let split : room ≡ length done + (room - length done) = omega arith in
        ap (λ l. l ++ take (room - length l) part) whole ∙ sym (ap (λ n. take n (done ++ part)) split ∙ take-append-add done part (room - length done))
    at (inr h) =
        let full : room - length (take room done) ≡ 0 = omega (arith, length-take room done) in
        ap (λ n. take room done ++ take n part) full ∙ append-nil (take room done) ∙ sym (take-append-le room done part h)

-- a line without what ends it
abbrev pub without_end : List ℕ → List ℕ
without_end line = cond (ends_with_byte 10 line) (strip_last 13 (strip_last 10 line)) (strip_last 10 line)

-- a front of a line, and one more byte of it, tell a front of the line without what ends it
pub kept_line : (most : ℕ) (text : List ℕ) → take most (without_end (take (most + 1) (take_through 10 text))) ≡ take most (first_line text)
kept_line most text = at (feeds_or_plain text)
  where
    -- a front that lacks the line feed
    cut : (line : List ℕ) → All (λ x. x ≢ 10) line → take most (without_end (take (most + 1) line)) ≡ take most line
    cut line plain =
        let lacks = All-take (λ x. x ≢ 10) (most + 1) line plain in
        let front = take (most + 1) line in
        ap (λ b. take most (cond b (strip_last 13 (strip_last 10 front)) (strip_last 10 front))) (ends_not 10 front lacks)
        ∙ ap (take most) (strip_last-other 10 front (ends_not 10 front lacks)) ∙ take-take most (most + 1) line (omega arith)

    stripped : (line : List ℕ) → most < length line → take most (strip_carriage_return line) ≡ take most line
    stripped line long = by (eqb (get_or line (length line - 1) 0) 13)
      where
        by : (b : Bool) → take most (cond b (take (length line - 1) line) line) ≡ take most line
        by true = take-take most (length line - 1) line (omega arith)
        by false = refl

    feeds : (front rest : List ℕ) → All (λ x. x ≢ 10) front → take most (without_end (take (most + 1) (take_through 10 (front ++ 10 ∷ rest)))) ≡ take most (first_line (front ++ 10 ∷ rest))
    feeds front rest plain =
        let read : take_through 10 (front ++ 10 ∷ rest) ≡ front ++ 10 ∷ [] = take_through-append 10 front (10 ∷ rest) plain in
        ⊎_elim
        (λ long.
        let in_front : take (most + 1) (front ++ 10 ∷ []) ≡ take (most + 1) front = take-append-le (most + 1) front (10 ∷ []) (omega arith) in
        ap (λ l. take most (without_end (take (most + 1) l))) read ∙ ap (λ l. take most (without_end l)) in_front ∙ cut front plain
        ∙ sym (ap (take most) (first_line-feeds front rest plain) ∙ stripped front long))
        (λ short.
        let whole : take (most + 1) (front ++ 10 ∷ []) ≡ front ++ 10 ∷ [] = take_all (most + 1) (front ++ 10 ∷ []) (omega (arith, length-append front (10 ∷ []))) in
        ap (λ l. take most (without_end (take (most + 1) l))) read ∙ ap (λ l. take most (without_end l)) (whole ∙ sym read))
        (cases_lt most (length front))

    at : Feeds text ⊎ All (λ x. x ≢ 10) text → take most (without_end (take (most + 1) (take_through 10 text))) ≡ take most (first_line text)
    at (inl f) = subst (λ t. take most (without_end (take (most + 1) (take_through 10 t))) ≡ take most (first_line t)) (sym f.is) (feeds f.front f.rest f.plain)
    at (inr plain) =
        ap (λ l. take most (without_end (take (most + 1) l))) (take_through_plain text plain) ∙ cut text plain ∙ ap (take most) (sym (first_line-plain text plain))

module _ (most : ℕ) where
  -- nothing was read at the end of the input
  pub none_left : (old new : Option (List ℕ)) (read : List ℕ) → IfSome old (λ text. read ≡ take (most + 1) (take_through 10 text)) → DropsThrough old new 10 → length read ≡ 0 → ReadsLineOf most old false read new
  none_left None new read kept rest none = tt
  none_left (Some text) new read kept rest none =
      let all : length (take (most + 1) (take_through 10 text)) ≡ 0 = sym (ap length kept) ∙ none in
      let nil : text ≡ [] = take_through-nil 10 text (omega (arith, all, length-take (most + 1) (take_through 10 text))) in
      subst (λ o. ReadsLineOf most (Some text) false read o) (sym rest) (nil, ap (drop_through 10) nil)

  -- the first line was read
  pub one_read : (old new : Option (List ℕ)) (read line : List ℕ) → IfSome old (λ text. read ≡ take (most + 1) (take_through 10 text)) → DropsThrough old new 10 → 0 < length read
      → line ≡ take most (without_end read) → ReadsLineOf most old true line new
  one_read None new read line kept rest some is = tt
  one_read (Some text) new read line kept rest some is =
      let held : 0 < length (take_through 10 text) = omega (arith, ap length kept, length-take (most + 1) (take_through 10 text)) in
      subst (λ o. ReadsLineOf most (Some text) true line o) (sym rest)
      (take_through_nonempty 10 text held, is ∙ ap (λ l. take most (without_end l)) kept ∙ kept_line most text, refl)
