-- Each line that is fed by its number takes hold once, and in order.
use Rattle.std.proofs.Common.{◌≡◌, ◌≢◌, ◌⊎◌, ◌++◌, ◌∙◌, ◌+◌, ◌<◌, ◌≤◌, ℕ, zero, suc, List, [], ◌∷◌, Option, None, Some, refl, sym, ap, subst, inl, inr, arith, length, length-append, append_assoc, append-nil}
use Rattle.std.specs.Prelude.{Contains, slice_get}
use Rattle.line_runs.specs.declared.run.Turn.{Turn}
use Rattle.node_rows.specs.Laws.{AreClasses, RestartsAreHeld}
use Rattle.node_runs.specs.LineAnswers.{Answers}
use Rattle.node_runs.specs.NumberedRuns.{Carries, Changed, IsKnown, IsRead, Numbered, Takes, none_carried, none_changed, one_carried, one_changed, one_quiet}
use Rattle.node_runs.proofs.HistoryLemmas.{line_run}
use Rattle.ocpi_types.specs.Setups.{party_of}
use Rattle.ocpi_types.specs.declared.rows.Row.{Row}
use Rattle.ocpi_types.specs.declared.setup.Node.{Node}
use Rattle.stored_laws.specs.Nodes.{AreNodeRows, restarted}
use Rattle.stored_nodes.proofs.Together.{alike_by_events}
use Rattle.stored_nodes.specs.Transactions.{changes_of_each}
use Rattle.world_steps.specs.Steps.{NodeEvent as Deed}
use Rattle.world_steps.specs.World.{NodeState, Operates, Provides}
use Rattle.feeding_laws.specs.Feeding.{AreBehind, AreRuns, Began, Behind, CameOnce, FeedingIsExact, Held, Leaves, NotBegun, One_more, Ran, Rise, StartsAgain, next_came, none_came, none_ran, none_rises, one_ran, one_rises, starts}

-- ---- numbers and lists

le_split : (a b : ℕ) → a ≤ suc b → (a ≤ b) ⊎ (a ≡ suc b)
le_split zero b low = inl (omega arith)
le_split (suc a) zero low = inr (omega (arith, low))
le_split (suc a) (suc b) low =
    elim (le_split a b (omega (arith, low))) [
      | inl under ↦ inl (omega (arith, under))
      | inr same ↦ inr (ap suc same)
    ]

le_total : (a b : ℕ) → (a ≤ b) ⊎ (b ≤ a)
le_total zero b = inl (omega arith)
le_total (suc a) zero = inr (omega arith)
le_total (suc a) (suc b) =
    elim (le_total a b) [
      | inl low ↦ inl (omega (arith, low))
      | inr high ↦ inr (omega (arith, high))
    ]

le_same : (a b : ℕ) → a ≤ b → b ≤ a → a ≡ b
le_same a b low high = omega (arith, low, high)

-- two lists that end alike are alike in front
pub ends_alike : {X : Type 0} (ys xs : List X) (y x : X) → ys ++ y ∷ [] ≡ xs ++ x ∷ [] → (ys ≡ xs) × (y ≡ x)
ends_alike [] [] y x same = (refl, cc same)
ends_alike [] (a ∷ []) y x same = absurd (cc same)
ends_alike [] (a ∷ b ∷ xs) y x same = absurd (cc same)
ends_alike (a ∷ []) [] y x same = absurd (cc same)
ends_alike (a ∷ b ∷ ys) [] y x same = absurd (cc same)
ends_alike (a ∷ ys) (b ∷ xs) y x same =
    let r = ends_alike ys xs y x (cc same) in
    (cc (same, r.0), r.1)

pub no_end : {X : Type 0} (xs : List X) (x : X) → xs ++ x ∷ [] ≡ [] → ⊥
no_end [] x is = cc is
no_end (y ∷ ys) x is = cc is

pub in_front : {X : Type 0} (xs ys : List X) (i : ℕ) (x : X) → slice_get xs i ≡ Some x → slice_get (xs ++ ys) i ≡ Some x
in_front [] ys i x is = absurd (cc is)
in_front (a ∷ xs) ys zero x is = is
in_front (a ∷ xs) ys (suc i) x is = in_front xs ys i x is

pub at_end : {X : Type 0} (xs : List X) (x : X) → slice_get (xs ++ x ∷ []) (length xs) ≡ Some x
at_end [] x = refl
at_end (a ∷ xs) x = at_end xs x

rise_le : {low high : ℕ} {numbers : List ℕ} → Rise low numbers high → low ≤ high
rise_le none_rises = omega arith
rise_le (one_rises before under) = omega (arith, rise_le before, under)

rise_join : {low middle high : ℕ} {xs ys : List ℕ} → Rise low xs middle → Rise middle ys high → Rise low (xs ++ ys) high
rise_join {low = low} {middle = middle} {xs = xs} one none_rises = subst (λ (l : List ℕ). Rise low l middle) (sym (append-nil xs)) one
rise_join {low = low} {xs = xs} one (one_rises {numbers = ys} {number = number} before under) =
    subst (λ (l : List ℕ). Rise low l number) (append_assoc xs ys (number ∷ [])) (one_rises (rise_join one before) under)

-- a node has the rows that it has as it starts again
rows_again : (rows : List Row) (n : NodeState) → AreNodeRows rows n → AreNodeRows rows (restarted n)
rows_again rows (Operates s) are = are
rows_again rows (Provides s) are = are

rows_before : (rows : List Row) (n : NodeState) → AreNodeRows rows (restarted n) → AreNodeRows rows n
rows_before rows (Operates s) are = are
rows_before rows (Provides s) are = are

pub alike_rows : (rows : List Row) (n m : NodeState) → restarted n ≡ restarted m → AreNodeRows rows n → AreNodeRows rows m
alike_rows rows n m same are = rows_before rows m (subst (AreNodeRows rows) same (rows_again rows n are))

module _ (alike : RestartsAreHeld) (classes : AreClasses) where
  quiet_line : {party : List ℕ} {now : NodeState} {number : ℕ} {line : List ℕ} {turn : Turn} {out : List ℕ} {did : List Deed} {next : NodeState}
      → Answers party now number line turn out did next → changes_of_each did ≡ [] → restarted now ≡ restarted next
  quiet_line {now = now} {did = did} {next = next} is none = alike_by_events alike classes now next did (line_run is) none

  module _ (setups : List (List Node × Node)) (lines : ℕ → List ℕ) (first : NodeState) where
    -- to some node with these rows each line came once, up to that number
    abbrev Came : ℕ → NodeState → Type 0
    Came number state = (member : Option Node) × (now : NodeState) × CameOnce setups lines first member number now × (restarted now ≡ restarted state)

    -- up to each number from that of the last line that took hold to that of the last which was answered
    abbrev CameTo : ℕ → ℕ → NodeState → Type 0
    CameTo held seen state = (number : ℕ) → held ≤ number → (number ≤ seen) ⊎ (number ≤ held) → Came number state

    alike_came : (number : ℕ) (s t : NodeState) → restarted s ≡ restarted t → Came number s → Came number t
    alike_came number s t same (member, now, came, is) = (member, now, came, is ∙ same)

    -- ---- one run

    module _ (setup : List Node) (member : Node) (of_them : Contains setups (setup, member)) (found : Held) (start : NodeState) (opens : StartsAgain setup member found.state start) (base seen : ℕ) (within : base ≤ seen)
        (so_far : CameTo found.line seen found.state) where
      opens_so : (now : NodeState) → restarted now ≡ restarted found.state → StartsAgain setup member now start
      opens_so now is = record { rows = opens.rows; are = alike_rows opens.rows found.state now (sym is) opens.are; made = opens.made; again = opens.again }

      begins : (number : ℕ) → found.line ≤ number → (number ≤ seen) ⊎ (number ≤ found.line) → CameOnce setups lines first (Some member) number start
      begins number above below =
          let (was, now, came, is) = so_far number above below in
          starts setup member of_them came (opens_so now is)

      -- what is so behind the lines that were answered so far
      record SoFar (read : List (List ℕ)) (did : List Numbered) (now : NodeState) : Type 0 where
        below : base + length read ≤ found.line → now ≡ start
        above : found.line ≤ base + length read → CameOnce setups lines first (Some member) (base + length read) now
        rows : (changed : List ℕ) (last : ℕ) → Changed found.line did changed last → CameTo last (base + length read) now
        rise : (changed : List ℕ) (last : ℕ) → Changed found.line did changed last → Rise found.line changed last × ((last ≤ base + length read) ⊎ (last ≤ found.line))

      -- the changes of none, and of one more
      none_are : (changed : List ℕ) (last : ℕ) → Changed found.line [] changed last → (changed ≡ []) × (last ≡ found.line)
      none_are changed last is = inverted [] changed last refl is
        where
          inverted : (xs : List Numbered) (changed : List ℕ) (last : ℕ) → xs ≡ [] → Changed found.line xs changed last → (changed ≡ []) × (last ≡ found.line)
          inverted xs changed last none none_changed = (refl, refl)
          inverted xs changed last none (one_quiet {xs = ys} number did before quiet) = absurd (no_end ys (number, did) none)
          inverted xs changed last none (one_changed {xs = ys} number did before some) = absurd (no_end ys (number, did) none)

      record OneMore (xs : List Numbered) (number : ℕ) (did : List Deed) (changed : List ℕ) (last : ℕ) : Type 0 where
        earlier : List ℕ
        before : ℕ
        are : Changed found.line xs earlier before
        is : ((changes_of_each did ≡ []) × (changed ≡ earlier) × (last ≡ before)) ⊎ ((changes_of_each did ≢ []) × (changed ≡ earlier ++ number ∷ []) × (last ≡ number))

      one_more : (xs : List Numbered) (number : ℕ) (did : List Deed) (changed : List ℕ) (last : ℕ) → Changed found.line (xs ++ (number, did) ∷ []) changed last → OneMore xs number did changed last
      one_more xs number did changed last is = inverted (xs ++ (number, did) ∷ []) changed last refl is
        where
          inverted : (zs : List Numbered) (changed : List ℕ) (last : ℕ) → zs ≡ xs ++ (number, did) ∷ [] → Changed found.line zs changed last → OneMore xs number did changed last
          inverted zs changed last same none_changed = absurd (no_end xs (number, did) (sym same))
          inverted zs changed last same (one_quiet {xs = ys} n d before quiet) =
              let e = ends_alike ys xs (n, d) (number, did) same in
              record {
                earlier = changed;
                before = last;
                are = subst (λ (l : List Numbered). Changed found.line l changed last) e.0 before;
                is = inl (sym (ap (λ (x : Numbered). changes_of_each x.1) e.1) ∙ quiet, refl, refl);
              }
          inverted zs changed last same (one_changed {xs = ys} {changed = earlier} {last = b} n d before some) =
              let e = ends_alike ys xs (n, d) (number, did) same in
              record {
                earlier = earlier;
                before = b;
                are = subst (λ (l : List Numbered). Changed found.line l earlier b) e.0 before;
                is = inr (λ none. some (ap (λ (x : Numbered). changes_of_each x.1) e.1 ∙ none), ap (λ (x : Numbered). earlier ++ x.0 ∷ []) e.1, ap (λ (x : Numbered). x.0) e.1);
              }

      none_so_far : SoFar [] [] start
      none_so_far = record {
        below = λ low. refl;
        above = λ high. begins (base + length {A = List ℕ} []) high (inl (omega (within, arith)));
        rows = λ changed last is number above below.
            let e = none_are changed last is in
            (Some member, start, begins number (omega (arith, e.1, above)) (under last number e.1 below), refl);
        rise = λ changed last is.
            let e = none_are changed last is in
            (subst (λ (l : List ℕ). Rise found.line l last) (sym e.0) (subst (Rise found.line []) (sym e.1) none_rises), inr (omega (arith, e.1)));
      }
        where
          under : (last number : ℕ) → last ≡ found.line → (number ≤ base + length {A = List ℕ} []) ⊎ (number ≤ last) → (number ≤ seen) ⊎ (number ≤ found.line)
          under last number same (inl low) = inl (omega (arith, low, within))
          under last number same (inr low) = inr (omega (arith, low, same))

      -- a line more
      module _ (before : List (List ℕ)) (xs : List Numbered) (now next : NodeState) (line out : List ℕ) (did : List Deed) (h : SoFar before xs now)
          (is : line ≡ lines (suc (base + length before))) (takes : Takes (party_of member) found.line (suc (base + length before)) line now out did next) where
        abbrev at : ℕ
        at = base + length before

        long : base + length (before ++ line ∷ []) ≡ suc at
        long = ap (λ (n : ℕ). base + n) (length-append before (line ∷ [])) ∙ omega arith

        low_so : Takes (party_of member) found.line (suc at) line now out did next → suc at ≤ found.line → next ≡ start
        low_so (IsKnown known written none same) low = same ∙ h.below (omega (arith, low))
        low_so (IsRead new turn answers) low = absurd (omega (arith, new, low))

        high_so : Takes (party_of member) found.line (suc at) line now out did next → found.line ≤ suc at → CameOnce setups lines first (Some member) (suc at) next
        high_so (IsKnown known written none same) high =
            subst (CameOnce setups lines first (Some member) (suc at)) (sym (same ∙ h.below (omega (arith, known)))) (begins (suc at) high (inr known))
        high_so (IsRead new turn answers) high =
            next_came (h.above (omega (arith, new))) (subst (λ (l : List ℕ). Answers (party_of member) now (suc at) l turn out did next) is answers)

        -- a line that changed rows was read
        new_of : Takes (party_of member) found.line (suc at) line now out did next → changes_of_each did ≢ [] → suc found.line ≤ suc at
        new_of (IsKnown known written none same) some = absurd (some (ap changes_of_each none))
        new_of (IsRead new turn answers) some = new

        alike_of : Takes (party_of member) found.line (suc at) line now out did next → changes_of_each did ≡ [] → restarted now ≡ restarted next
        alike_of (IsKnown known written none same) quiet = ap restarted (sym same)
        alike_of (IsRead new turn answers) quiet = quiet_line answers quiet

        quietly : (earlier : List ℕ) (last : ℕ) → Changed found.line xs earlier last → changes_of_each did ≡ [] → (number : ℕ) → last ≤ number → (number ≤ suc at) ⊎ (number ≤ last) → Came number next
        quietly earlier last c quiet number above (inl low) =
            elim (le_split number at low) [
              | inl earlier_one ↦ alike_came number now next (alike_of takes quiet) (h.rows earlier last c number above (inl earlier_one))
              | inr this ↦ subst (λ (n : ℕ). Came n next) (sym this) (Some member, next, high_so takes (omega (arith, above, this, rise_le (h.rise earlier last c).0)), refl)
            ]
        quietly earlier last c quiet number above (inr low) = alike_came number now next (alike_of takes quiet) (h.rows earlier last c number above (inr low))

        newly : changes_of_each did ≢ [] → (number : ℕ) → suc at ≤ number → number ≤ suc at → Came number next
        newly some number above below =
            subst (λ (n : ℕ). Came n next) (le_same (suc at) number above below) (Some member, next, high_so takes (omega (arith, new_of takes some)), refl)

        lower : (number last before_last : ℕ) → last ≡ before_last → (number ≤ base + length (before ++ line ∷ [])) ⊎ (number ≤ last) → (number ≤ suc at) ⊎ (number ≤ before_last)
        lower number last before_last same (inl low) = inl (omega (arith, low, long))
        lower number last before_last same (inr low) = inr (omega (arith, low, same))

        omega_le : (number last : ℕ) → last ≡ suc at → (number ≤ base + length (before ++ line ∷ [])) ⊎ (number ≤ last) → number ≤ suc at
        omega_le number last same (inl low) = omega (arith, low, long)
        omega_le number last same (inr low) = omega (arith, low, same)

        kept_under : (last before_last : ℕ) → last ≡ before_last → (before_last ≤ at) ⊎ (before_last ≤ found.line) → (last ≤ base + length (before ++ line ∷ [])) ⊎ (last ≤ found.line)
        kept_under last before_last same (inl low) = inl (omega (arith, low, same, long))
        kept_under last before_last same (inr low) = inr (omega (arith, low, same))

        under_next : suc found.line ≤ suc at → (last : ℕ) → (last ≤ at) ⊎ (last ≤ found.line) → last < suc at
        under_next new last (inl low) = omega (arith, low)
        under_next new last (inr low) = omega (arith, low, new)

        one_so_far : SoFar (before ++ line ∷ []) (xs ++ (suc (base + length before), did) ∷ []) next
        one_so_far = record {
          below = λ low. low_so takes (omega (arith, low, long));
          above = λ high. subst (λ (n : ℕ). CameOnce setups lines first (Some member) n next) (omega (arith, long)) (high_so takes (omega (arith, high, long)));
          rows = λ changed last c number above below.
              let m = one_more xs (suc at) did changed last c in
              elim m.is [
                | inl quiet ↦ quietly m.earlier m.before m.are quiet.0 number (omega (arith, above, quiet.2)) (lower number last m.before quiet.2 below)
                | inr some ↦ newly some.0 number (omega (arith, above, some.2)) (omega_le number last some.2 below)
              ];
          rise = λ changed last c.
              let m = one_more xs (suc at) did changed last c in
              elim m.is [
                | inl quiet ↦
                    let r = h.rise m.earlier m.before m.are in
                    (subst (λ (l : List ℕ). Rise found.line l last) (sym quiet.1) (subst (Rise found.line m.earlier) (sym quiet.2) r.0), kept_under last m.before quiet.2 r.1)
                | inr some ↦
                    let r = h.rise m.earlier m.before m.are in (
                      subst (λ (l : List ℕ). Rise found.line l last) (sym some.1)
                          (subst (Rise found.line (m.earlier ++ suc at ∷ [])) (sym some.2) (one_rises r.0 (under_next (new_of takes some.0) m.before r.1))),
                      inl (omega (arith, some.2, long)),
                    )
              ];
        }

      all_so_far : (read : List (List ℕ)) (did : List Numbered) (now : NodeState) → Carries (party_of member) found.line base start read did now → AreBehind lines base read → SoFar read did now
      all_so_far read did now none_carried are = none_so_far
      all_so_far read did now (one_carried {before = before} {xs = xs} {now = earlier} {next = next} {line = line} {out = out} {did = more} carried takes) are =
          one_so_far before xs earlier next line out more (all_so_far before xs earlier carried (λ i l is. are i l (in_front before (line ∷ []) i l is)))
          (are (length before) line (at_end before line)) takes

      -- ---- what it leaves

      record Ends (seen_now : ℕ) (changed : List ℕ) (left : Held) : Type 0 where
        came : CameTo left.line seen_now left.state
        rise : Rise found.line changed left.line

      left_by : (read : List (List ℕ)) (did : List Numbered) (now : NodeState) (changed : List ℕ) (left : Held) → SoFar read did now
          → Leaves (party_of member) lines found.line (base + length read) did now left changed → Ends (base + length read) changed left
      left_by read did now changed left h (Behind c_list c same) = record {
        came = λ number above below. alike_came number now left.state (sym same) (h.rows c_list left.line c number above below);
        rise = (h.rise c_list left.line c).0;
      }
      left_by read did now changed left h (One_more earlier before c new turn out more after answers some same line_is) =
          let at = base + length read in
          let came : CameOnce setups lines first (Some member) (suc at) after = next_came (h.above (omega (arith, new))) answers in
          let r = h.rise earlier before c in
          record {
            came = λ number above below. subst (λ (n : ℕ). Came n left.state) (le_same (suc at) number (omega (arith, above, line_is)) (only_next at number left.line line_is above below)) (Some member, after, came, sym same);
            rise = subst (Rise found.line (earlier ++ suc at ∷ [])) (sym line_is) (one_rises r.0 (before_next at before r.1 new));
          }
        where
          only_next : (at number line : ℕ) → line ≡ suc at → line ≤ number → (number ≤ at) ⊎ (number ≤ line) → number ≤ suc at
          only_next at number line is above (inl low) = omega (arith, low)
          only_next at number line is above (inr low) = omega (arith, low, is)

          before_next : (at last : ℕ) → (last ≤ at) ⊎ (last ≤ found.line) → suc found.line ≤ suc at → last < suc at
          before_next at last (inl low) new = omega (arith, low)
          before_next at last (inr low) new = omega (arith, low, new)

  -- ---- all runs

  record AllEnd (setups : List (List Node × Node)) (lines : ℕ → List ℕ) (first : Held) (seen : ℕ) (changed : List ℕ) (left : Held) : Type 0 where
    came : CameTo setups lines first.state left.line seen left.state
    rise : Rise 1 changed left.line

  -- behind a run more
  ran_end : {setup : List Node} {member : Node} {setups : List (List Node × Node)} {lines : ℕ → List ℕ} {first found left : Held} {seen base : ℕ} {before changed : List ℕ} {read : List (List ℕ)}
      → Contains setups (setup, member) → base ≤ seen → AllEnd setups lines first seen before found → Ran setup member lines found base read changed left
      → AllEnd setups lines first (base + length read) (before ++ changed) left
  ran_end {found = found} {seen = seen} {base = base} {before = before} of_them within h NotBegun = record {
    came = λ number above below. h.came number above (lower number below);
    rise = subst (λ (l : List ℕ). Rise 1 l found.line) (sym (append-nil before)) h.rise;
  }
    where
      lower : (number : ℕ) → (number ≤ base + length {A = List ℕ} []) ⊎ (number ≤ found.line) → (number ≤ seen) ⊎ (number ≤ found.line)
      lower number (inl low) = inl (omega (arith, low, within))
      lower number (inr low) = inr low
  ran_end {setup = setup} {member = member} {setups = setups} {lines = lines} {first = first} {found = found} {left = left} {seen = seen} {base = base} {changed = changed} {read = read} of_them within h
      (Began start opens are did now carries leaves) =
      let so_far = all_so_far setups lines first.state setup member of_them found start opens base seen within h.came read did now carries are in
      let e = left_by setups lines first.state setup member of_them found start opens base seen within h.came read did now changed left so_far leaves in
      record { came = e.came; rise = rise_join h.rise e.rise }

  all_end : {setups : List (List Node × Node)} {lines : ℕ → List ℕ} {first left : Held} {seen : ℕ} {changed : List ℕ} → first.line ≡ 1 → AreRuns setups lines first seen changed left → AllEnd setups lines first seen changed left
  all_end {setups = setups} {lines = lines} {first = first} new none_ran = record {
    came = λ number above below. subst (λ (n : ℕ). Came setups lines first.state n first.state) (le_same 1 number (omega (arith, above, new)) (under_one number below)) (None, first.state, none_came, refl);
    rise = subst (Rise 1 []) (sym new) none_rises;
  }
    where
      under_one : (number : ℕ) → (number ≤ 1) ⊎ (number ≤ first.line) → number ≤ 1
      under_one number (inl low) = low
      under_one number (inr low) = omega (arith, low, new)
  all_end new (one_ran setup member of_them runs some within ran) = ran_end of_them within (all_end new runs) ran

  pub feeding_is_exact : FeedingIsExact
  feeding_is_exact setups lines first left seen changed new runs =
      let h = all_end new runs in
      elim (le_total seen left.line) [
        | inl low ↦ let c = h.came left.line (omega arith) (inr (omega arith)) in
            record { last = left.line; member = c.0; now = c.1; came = c.2; kept = sym c.3; answered = low; held = omega arith; once = h.rise }
        | inr high ↦ let c = h.came seen high (inl (omega arith)) in
            record { last = seen; member = c.0; now = c.1; came = c.2; kept = sym c.3; answered = omega arith; held = high; once = h.rise }
      ]
