-- How a node that runs goes on, line by line.
use Rattle.std.proofs.Common.{◌≡◌, ◌≢◌, ◌↔◌, ◌<◌, ℕ, zero, suc, List, [], ◌∷◌, ◌++◌, All, length, refl, sym, ap, subst, ◌∙◌, append-nil, append_assoc, zero-lt-suc, not-suc-le-zero, arith}
use Rattle.std.proofs.lemmas.List.Elements.{All-cons, All-nil}
use Rattle.stored_nodes.specs.Transactions.{changes_of_each}
use Rattle.world_steps.specs.Steps.{NodeEvent as Deed}
use Rattle.replays.proofs.Lists.{IsPlain, behind_front, joined_is_none, plain_has_feed, same_line, some_is_none}
use Rattle.replays.specs.Happenings.{Happening, Placed, came_by}
use Rattle.replays.specs.LineTurns.{Held, IsLeftBy, IsLine, LineGives, Running, echo_of}
use Rattle.replays.specs.Printed.{Cut, GoesOn, Stopped, TookHold, Whole}
use Rattle.replays.specs.Walks.{Walks, no_line, one_line}

-- what a line gives ends with its line feed
abbrev pub IsClosed : List ℕ → Type 0
IsClosed text = (front : List ℕ) × (text ≡ front ++ 10 ∷ [])

-- what is known of a line that is carried out
pub record OneGift (out also : List ℕ) (did done : List Deed) (next last : Running) : Type 0 where
  pub outs : out ≡ also
  pub nexts : next ≡ last
  pub effect : (changes_of_each did ≢ []) ↔ (changes_of_each done ≢ [])

-- of a line of which nothing but its echo stands there
pub data LastLine (now : Running) (line : List ℕ) (left : Held) : Type 0 where
  Left : IsLeftBy now left → LastLine now line left
  Took : IsLine line → (out : List ℕ) (entered : List Placed) (did : List Deed) (next : Running) → LineGives now line out entered did next → changes_of_each did ≢ []
      → IsLeftBy next left → LastLine now line left

-- what follows behind a line that is followed by something
pub data Follows (next : Running) (out more : List ℕ) (left : Held) : Type 0 where
  Ends : (rest : List ℕ) → out ≡ more ++ rest → IsLeftBy next left → Follows next out more left
  Goes : (text : List ℕ) (told : List Happening) → more ≡ out ++ text → GoesOn next text told left → Follows next out more left

none_short : {X : Type 0} (text : List ℕ) → 0 < length text → text ≡ [] → X
none_short text some none = absurd (not-suc-le-zero (subst (λ l. 0 < length l) none some))

-- behind the last line feed nothing was carried out
pub at_end : (now : Running) (rest : List ℕ) (told : List Happening) (left : Held) → IsPlain rest → GoesOn now rest told left → IsLeftBy now left
at_end now rest told left plain (Stopped line is front more cut kept_by kept) = kept
at_end now rest told left plain (TookHold line is out entered did next gives changed kept_by kept) = plain_has_feed line [] plain
at_end now rest told left plain (Cut line is out entered did next gives front more cut some kept_by kept) =
    plain_has_feed line front (subst IsPlain (append_assoc line (10 ∷ []) front) plain)
at_end now rest told left plain (Whole line is out entered did next gives behind said kept_by on) =
    plain_has_feed line (out ++ behind) (subst IsPlain (append_assoc line (10 ∷ []) (out ++ behind)) plain)

-- ---- a walk

-- what a walk leads to can be walked on
pub on_from : (first now : Running) (text : List ℕ) (told : List Happening) → Walks first text told now
    → (rest : List ℕ) (later : List Happening) (left : Held) → GoesOn now rest later left → GoesOn first (text ++ rest) (told ++ later) left
on_from first now text told no_line rest later left on = on
on_from first now text told (one_line {text = before} {told = said} {now = there} walks line is out entered did next gives) rest later left on =
    let whole = on_from first there before said walks (echo_of line ++ (out ++ rest)) (came_by line entered ++ later) left (Whole line is out entered did next gives rest later left on) in
    subst (λ l. GoesOn first l ((said ++ came_by line entered) ++ later) left) (both before (echo_of line) out rest)
    (subst (λ l. GoesOn first (before ++ (echo_of line ++ (out ++ rest))) l left) (sym (append_assoc said (came_by line entered) later)) whole)
  where
    both : (a b c d : List ℕ) → a ++ (b ++ (c ++ d)) ≡ (a ++ (b ++ c)) ++ d
    both a b c d = ap (λ l. a ++ l) (sym (append_assoc b c d)) ∙ sym (append_assoc a (b ++ c) d)

module _ (Good : Running → Type 0)
    (stays : (now : Running) (line out : List ℕ) (entered : List Placed) (did : List Deed) (next : Running) → Good now → LineGives now line out entered did next → Good next) where
  pub stays_good : (first now : Running) (text : List ℕ) (told : List Happening) → Good first → Walks first text told now → Good now
  stays_good first now text told good no_line = good
  stays_good first now text told good (one_line {text = before} {told = said} {now = there} walks line is out entered did next gives) =
      stays there line out entered did next (stays_good first there before said good walks) gives

module _ (fed : (now : Running) (line out : List ℕ) (entered : List Placed) (did : List Deed) (next : Running) → LineGives now line out entered did next → IsClosed out) where
  pub at_echo : (now : Running) (line text : List ℕ) (told : List Happening) (left : Held) → IsPlain line → text ≡ line ++ 10 ∷ [] → GoesOn now text told left → LastLine now line left
  at_echo now line text told left plain same (Stopped other is front more cut kept_by kept) = Left kept
  at_echo now line text told left plain same (TookHold other is out entered did next gives changed kept_by kept) =
      let lines = same_line other line [] [] is.plain plain same in
      Took (subst IsLine lines.0 is) out entered did next (subst (λ l. LineGives now l out entered did next) lines.0 gives) changed kept
  at_echo now line text told left plain same (Cut other is out entered did next gives front more cut some kept_by kept) =
      let lines = same_line other line front [] is.plain plain (sym (append_assoc other (10 ∷ []) front) ∙ same) in
      none_short front some lines.1
  at_echo now line text told left plain same (Whole other is out entered did next gives behind said kept_by on) =
      let lines = same_line other line (out ++ behind) [] is.plain plain (sym (append_assoc other (10 ∷ []) (out ++ behind)) ∙ same) in
      let closed = fed now other out entered did next gives in
      joined_is_none closed.0 10 behind (sym (append_assoc closed.0 (10 ∷ []) behind) ∙ ap (λ l. l ++ behind) (sym closed.1) ∙ lines.1)

module _ (Good : Running → Type 0)
    (one : (now : Running) (line out also : List ℕ) (entered came : List Placed) (did done : List Deed) (next last : Running) → Good now
    → LineGives now line out entered did next → LineGives now line also came done last → OneGift out also did done next last) where
  pub at_line : (now : Running) (line more text : List ℕ) (told : List Happening) (left : Held) → Good now → IsPlain line → more ≢ [] → text ≡ line ++ 10 ∷ more
      → (out : List ℕ) (entered : List Placed) (did : List Deed) (next : Running) → LineGives now line out entered did next
      → GoesOn now text told left → Follows next out more left
  at_line now line more text told left good plain some same out entered did next gives (Stopped other is front rest cut kept_by kept) =
      absurd (some (last_none other line more rest is.plain plain (cut ∙ ap (λ l. l ++ rest) same)))
    where
      last_none : (other line more rest : List ℕ) → IsPlain other → IsPlain line → other ++ 10 ∷ [] ≡ (line ++ 10 ∷ more) ++ rest → more ≡ []
      last_none other line more rest p q is =
          empty_front more rest (sym (same_line other line [] (more ++ rest) p q (is ∙ append_assoc line (10 ∷ more) rest)).1)
        where
          empty_front : (more rest : List ℕ) → more ++ rest ≡ [] → more ≡ []
          empty_front [] rest is = refl
          empty_front (c ∷ more) rest is = some_is_none c (more ++ rest) is
  at_line now line more text told left good plain some same out entered did next gives (TookHold other is also came done last took changed kept_by kept) =
      absurd (some (sym (same_line other line [] more is.plain plain same).1))
  at_line now line more text told left good plain some same out entered did next gives (Cut other is also came done last took front rest cut has kept_by kept) =
      let lines = same_line other line front more is.plain plain (sym (append_assoc other (10 ∷ []) front) ∙ same) in
      let gift = one now line out also entered came did done next last good gives (subst (λ l. LineGives now l also came done last) lines.0 took) in
      Ends rest (gift.outs ∙ cut ∙ ap (λ l. l ++ rest) lines.1) (subst (λ n. IsLeftBy n left) (sym gift.nexts) kept)
  at_line now line more text told left good plain some same out entered did next gives (Whole other is also came done last took behind said kept_by on) =
      let lines = same_line other line (also ++ behind) more is.plain plain (sym (append_assoc other (10 ∷ []) (also ++ behind)) ∙ same) in
      let gift = one now line out also entered came did done next last good gives (subst (λ l. LineGives now l also came done last) lines.0 took) in
      Goes behind said (sym lines.1 ∙ ap (λ l. l ++ behind) (sym gift.outs)) (subst (λ n. GoesOn n behind said kept_by) (sym gift.nexts) on)

  module _ (fed : (now : Running) (line out : List ℕ) (entered : List Placed) (did : List Deed) (next : Running) → LineGives now line out entered did next → IsClosed out)
      (stays : (now : Running) (line out : List ℕ) (entered : List Placed) (did : List Deed) (next : Running) → Good now → LineGives now line out entered did next → Good next) where
    -- whatever goes on over the whole text goes on behind the walk
    pub behind_walk : (first now : Running) (text : List ℕ) (told : List Happening) → Good first → Walks first text told now
        → (rest : List ℕ) (all : List Happening) (left : Held) → GoesOn first (text ++ rest) all left → (later : List Happening) × GoesOn now rest later left
    behind_walk first now text told good no_line rest all left on = (all, on)
    behind_walk first now text told good (one_line {text = before} {told = said} {now = there} walks line is out entered did next gives) rest all left on =
        let here = behind_walk first there before said good walks (echo_of line ++ (out ++ rest)) all left
        (subst (λ l. GoesOn first l all left) (sym (both before (echo_of line) out rest)) on) in
        let closed = fed there line out entered did next gives in
        follows (at_line there line (out ++ rest) (echo_of line ++ (out ++ rest)) here.0 left (stays_good Good stays first there before said good walks) is.plain
        (λ none. joined_is_none closed.0 10 rest (sym (append_assoc closed.0 (10 ∷ []) rest) ∙ ap (λ l. l ++ rest) (sym closed.1) ∙ none))
        (append_assoc line (10 ∷ []) (out ++ rest)) out entered did next gives here.1)
      where
        both : (a b c d : List ℕ) → a ++ (b ++ (c ++ d)) ≡ (a ++ (b ++ c)) ++ d
        both a b c d = ap (λ l. a ++ l) (sym (append_assoc b c d)) ∙ sym (append_assoc a (b ++ c) d)

        front_none : (xs ys : List ℕ) → xs ++ ys ≡ [] → xs ≡ []
        front_none [] ys none = refl
        front_none (x ∷ xs) ys none = some_is_none x (xs ++ ys) none

        whole_end : (m : List ℕ) → out ≡ (out ++ rest) ++ m → rest ≡ []
        whole_end m is = front_none rest m (sym (behind_front out [] (rest ++ m) (append-nil out ∙ is ∙ append_assoc out rest m)))

        follows : Follows next out (out ++ rest) left → (later : List Happening) × GoesOn next rest later left
        follows (Ends m is kept) = ([], subst (λ l. GoesOn next l [] left) (sym (whole_end m is)) (Stopped (65 ∷ []) one_letter [] (65 ∷ 10 ∷ []) refl left kept))
          where
            one_letter : IsLine (65 ∷ [])
            one_letter = record { some = zero-lt-suc zero; plain = All-cons (λ b. b ≢ 10) 65 [] (omega arith) (All-nil (λ b. b ≢ 10)) }
        follows (Goes text later is on) = (later, subst (λ l. GoesOn next l later left) (sym (behind_front out rest text is)) on)
