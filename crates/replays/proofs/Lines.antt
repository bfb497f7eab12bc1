-- What the lines of a run print, by how they were read.
use Rattle.std.proofs.Common.{◌≡◌, ◌≢◌, ◌⊎◌, ◌↔◌, ◌<◌, ℕ, zero, suc, List, [], ◌∷◌, ◌++◌, All, Bool, true, false, IsTrue, Option, None, Some, IfSome, length, inl, inr, refl, sym, ap, subst, ◌∙◌, append-nil, append_assoc, not-suc-le-zero, zero-lt-suc, arith}
use Rattle.std.proofs.lemmas.List.Elements.{All-cons, All-nil}
use Rattle.stored_nodes.specs.Transactions.{changes_of_each}
use Rattle.world_steps.specs.Steps.{NodeEvent as Deed}
use Rattle.replays.proofs.Going.{Ends, Follows, Goes, IsClosed, LastLine, Left, OneGift, Took, at_echo, at_end, at_line, behind_walk, on_from, stays_good}
use Rattle.replays.proofs.Lists.{Cuts, First, Second, IsPlain, behind_front, cuts, joined_is_none, some_is_none, tails}
use Rattle.replays.proofs.Told.{no_openings, openings_join}
use Rattle.replays.specs.Happenings.{Happening, Placed, came_by, entries_behind, openings_in}
use Rattle.replays.specs.LineTurns.{Held, IsLeftBy, IsLine, LineGives, OfNode, Running, echo_of}
use Rattle.replays.specs.Printed.{Cut, GoesOn, Stopped, TookHold}
use Rattle.replays.specs.Reading as read
use Rattle.replays.specs.Reading.{Adds, Doubt, Doubts, LinesDiffer, LinesTaken, Story, Tail}
use Rattle.replays.specs.Telling.{AreSourcesOf}
use Rattle.replays.specs.Walks.{Walks, no_line, one_line}

-- what is known of the lines of a node that runs
pub record Counting (Counted : Running → Type 0) : Type 0 where
  pub fed : (now : Running) (line out : List ℕ) (entered : List Placed) (did : List Deed) (next : Running) → LineGives now line out entered did next → IsClosed out
  pub stays : (now : Running) (line out : List ℕ) (entered : List Placed) (did : List Deed) (next : Running) → Counted now → LineGives now line out entered did next → Counted next
  pub effect : (now : Running) (line out : List ℕ) (entered : List Placed) (did : List Deed) (next : Running) → Counted now → LineGives now line out entered did next
      → (changes_of_each did ≢ []) ↔ (next.last ≢ now.last)

-- and of one that has one answer
pub record Gifts (Good : Running → Type 0) : Type 0 where
  pub counting : Counting Good
  pub one : (now : Running) (line out also : List ℕ) (entered came : List Placed) (did done : List Deed) (next last : Running) → Good now
      → LineGives now line out entered did next → LineGives now line also came done last → OneGift out also did done next last

-- a line that was fed
pub one_letter : IsLine (65 ∷ [])
one_letter = record { some = zero-lt-suc zero; plain = All-cons (λ b. b ≢ 10) 65 [] (omega arith) (All-nil (λ b. b ≢ 10)) }

-- two stores have the rows of one node, and one number
pub data Alike (held left : Held) : Type 0 where
  Same : left ≡ held → Alike held left
  Both : (now : Running) → IsLeftBy now held → IsLeftBy now left → Alike held left

pub quiet_walk : (first now : Running) (text : List ℕ) (told : List Happening) → Walks first text told now → openings_in told ≡ []
quiet_walk first now text told no_line = refl
quiet_walk first now text told (one_line {text = before} {told = said} {now = there} walks line is out entered did next gives) =
    openings_join said (came_by line entered) ∙ ap (λ l. l ++ openings_in (came_by line entered)) (quiet_walk first there before said walks) ∙ no_openings line entered

-- what a doubt tells
pub record Doubted (first : Running) (rest : List ℕ) (ended : Bool) (told : List Happening) (place : ℕ) (held : Held) (d : Doubt) : Type 0 where
  pub more : List Happening
  pub ends : IsTrue ended
  pub quiet : openings_in more ≡ []
  pub entries : d.entries ≡ entries_behind more
  pub from : AreSourcesOf place more d.sources
  pub goes : GoesOn first (rest ++ 10 ∷ []) (told ++ more) d.held
  pub apart : d.held.line ≢ held.line

-- what was read of the lines is what they print
pub record AreSound (first : Running) (rest : List ℕ) (ended : Bool) (s t : Story) : Type 0 where
  pub told : List Happening
  pub adds : Adds told s t
  pub quiet : openings_in told ≡ []
  pub goes : GoesOn first rest told t.held
  pub doubt : IfSome t.doubt (Doubted first rest ended told (length s.openings) t.held)

abbrev pub IsOption : Story → Held → Type 0
IsOption t left = Alike t.held left ⊎ ((d : Doubt) × (t.doubt ≡ Some d) × Alike d.held left)

none_is_some : {X A : Type 0} (x : A) (o : Option A) → o ≡ None → o ≡ Some x → X
none_is_some x o a b = absurd (let e : None ≡ Some x = sym a ∙ b in cc)

module _ (Counted : Running → Type 0) (counting : Counting Counted) where
  module _ (first : Running) (rest : List ℕ) (ended : Bool) (s t : Story) (counted : Counted first) where
    private_none : (told : List Happening) → t.doubt ≡ None → IfSome t.doubt (Doubted first rest ended told (length s.openings) t.held)
    private_none told none = subst (λ o. IfSome o (Doubted first rest ended told (length s.openings) t.held)) (sym none) tt

    stops_there : (now : Running) (tail : List ℕ) → IsPlain tail → IsLeftBy now t.held → GoesOn now tail [] t.held
    stops_there now [] plain kept = Stopped (65 ∷ []) one_letter [] (65 ∷ 10 ∷ []) refl t.held kept
    stops_there now (c ∷ tail) plain kept =
        Stopped (c ∷ tail) (record { some = zero-lt-suc (length tail); plain = plain }) (c ∷ tail) (10 ∷ []) refl t.held kept

    pub lines_sound : LinesTaken first rest ended s t → AreSound first rest ended s t
    lines_sound (read.AtTail text tail told now is walks plain adds kept there) =
        record { told = told; adds = adds; quiet = quiet_walk first now text told walks; goes = whole; doubt = doubted t.doubt refl there }
      where
        whole : GoesOn first rest told t.held
        whole = subst (λ l. GoesOn first l told t.held) (sym is)
            (subst (λ l. GoesOn first (text ++ tail) l t.held) (append-nil told) (on_from first now text told walks tail [] t.held (stops_there now tail plain kept)))

        doubted : (o : Option Doubt) → t.doubt ≡ o → Tail now tail ended (length s.openings) t.doubt → IfSome o (Doubted first rest ended told (length s.openings) t.held)
        doubted None e there = tt
        doubted (Some d) e (read.Nothing none no_doubt) = none_is_some d t.doubt no_doubt e
        doubted (Some d) e (read.Cut cut no_doubt) = none_is_some d t.doubt no_doubt e
        doubted (Some d) e (read.Echo ends line doubts) = of (subst (Doubts now tail (length s.openings)) e doubts)
          where
            of : Doubts now tail (length s.openings) (Some d) → Doubted first rest ended told (length s.openings) t.held d
            of (read.Doubtful out entered did next gives moved d left entries from) = record {
              more = came_by tail entered;
              ends = ends;
              quiet = no_openings tail entered;
              entries = entries;
              from = from;
              goes = subst (λ l. GoesOn first l (told ++ came_by tail entered) d.held) (sym (append_assoc text tail (10 ∷ [])) ∙ ap (λ l. l ++ 10 ∷ []) (sym is))
                  (on_from first now text told walks (tail ++ 10 ∷ []) (came_by tail entered) d.held
                  (TookHold tail line out entered did next gives ((counting.effect now tail out entered did next (stays_good Counted counting.stays first now text told counted walks) gives).1 moved) d.held left));
              apart = λ same. moved (sym left.line ∙ same ∙ kept.line);
            }
    lines_sound (read.AtGift text line more told now is walks fed some out entered did next gives missing cut adds kept none) = record {
      told = told ++ came_by line entered;
      adds = adds;
      quiet = openings_join told (came_by line entered) ∙ ap (λ l. l ++ openings_in (came_by line entered)) (quiet_walk first now text told walks) ∙ no_openings line entered;
      goes = subst (λ l. GoesOn first l (told ++ came_by line entered) t.held) (sym is)
          (on_from first now text told walks (echo_of line ++ more) (came_by line entered) t.held
          (Cut line fed out entered did next gives more missing cut (long more some) t.held kept));
      doubt = private_none (told ++ came_by line entered) none;
    }
      where
        long : (l : List ℕ) → l ≢ [] → 0 < length l
        long [] some = absurd (some refl)
        long (c ∷ l) some = zero-lt-suc (length l)

-- ---- and nothing else is

module _ (Good : Running → Type 0) (gifts : Gifts Good) where
  module _ (first : Running) (rest : List ℕ) (ended : Bool) (s t : Story) (good : Good first) where
    -- the text of the lines has no more than it has
    nothing_more : (xs ys : List ℕ) → xs ++ ys ≡ [] → xs ≡ []
    nothing_more [] ys none = refl
    nothing_more (x ∷ xs) ys none = some_is_none x (xs ++ ys) none

    no_line_there : {X : Type 0} → IsLine [] → X
    no_line_there line = absurd (not-suc-le-zero line.some)

    pub lines_whole : LinesTaken first rest ended s t → (told : List Happening) (left : Held) → GoesOn first rest told left → Alike t.held left
    lines_whole (read.AtTail text tail said now is walks plain adds kept there) told left on =
        let here = behind_walk Good gifts.one gifts.counting.fed gifts.counting.stays first now text said good walks tail told left (subst (λ l. GoesOn first l told left) is on) in
        Both now kept (at_end now tail here.0 left plain here.1)
    lines_whole (read.AtGift text line more said now is walks fed some out entered did next gives missing cut adds kept none) told left on =
        let here = behind_walk Good gifts.one gifts.counting.fed gifts.counting.stays first now text said good walks (echo_of line ++ more) told left (subst (λ l. GoesOn first l told left) is on) in
        let fine = stays_good Good gifts.counting.stays first now text said good walks in
        of (at_line Good gifts.one now line more (echo_of line ++ more) here.0 left fine fed.plain some (append_assoc line (10 ∷ []) more) out entered did next gives here.1)
      where
        of : Follows next out more left → Alike t.held left
        of (Ends m is kept_too) = Both next kept kept_too
        of (Goes behind later whole on) =
            let none = nothing_more behind missing (sym (behind_front out [] (behind ++ missing) (append-nil out ∙ cut ∙ ap (λ l. l ++ missing) whole ∙ append_assoc out behind missing))) in
            Both next kept (at_end next behind later left (subst IsPlain (sym none) (All-nil (λ b. b ≢ 10))) on)

    pub lines_ended : LinesTaken first rest ended s t → IsTrue ended → (told : List Happening) (left : Held) → GoesOn first (rest ++ 10 ∷ []) told left → IsOption t left
    lines_ended (read.AtTail text tail said now is walks plain adds kept there) ends told left on =
        let here = behind_walk Good gifts.one gifts.counting.fed gifts.counting.stays first now text said good walks (tail ++ 10 ∷ []) told left
        (subst (λ l. GoesOn first l told left) (ap (λ l. l ++ 10 ∷ []) is ∙ append_assoc text tail (10 ∷ [])) on) in
        of (at_echo gifts.counting.fed now tail (tail ++ 10 ∷ []) here.0 left plain refl here.1) there
      where
        fine : Good now
        fine = stays_good Good gifts.counting.stays first now text said good walks

        took : (o : Option Doubt) → t.doubt ≡ o → Doubts now tail (length s.openings) o → (out : List ℕ) (entered : List Placed) (did : List Deed) (next : Running) → LineGives now tail out entered did next
            → changes_of_each did ≢ [] → IsLeftBy next left → IsOption t left
        took None e (read.Idle also came done last held_to same) out entered did next gives changed left_so =
            let gift = gifts.one now tail also out came entered done did last next fine held_to gives in
            absurd ((gifts.counting.effect now tail out entered did next fine gives).0 changed (ap (λ (n : Running). n.last) (sym gift.nexts) ∙ same))
        took (Some d) e (read.Doubtful also came done last held_to moved x kept_so entries from) out entered did next gives changed left_so =
            let gift = gifts.one now tail also out came entered done did last next fine held_to gives in
            inr (d, e, Both next (subst (λ n. IsLeftBy n d.held) gift.nexts kept_so) left_so)

        of : LastLine now tail left → Tail now tail ended (length s.openings) t.doubt → IsOption t left
        of (Left left_so) there = inl (Both now kept left_so)
        of (Took line out entered did next gives changed left_so) (read.Nothing none no_doubt) = no_line_there (subst IsLine none line)
        of (Took line out entered did next gives changed left_so) (read.Cut cut no_doubt) = absurd (let no_truth : false ≡ true = sym cut ∙ ends in cc)
        of (Took line out entered did next gives changed left_so) (read.Echo ends fed doubts) = took t.doubt refl doubts out entered did next gives changed left_so
    lines_ended (read.AtGift text line more said now is walks fed some out entered did next gives missing cut adds kept none) ends told left on =
        let here = behind_walk Good gifts.one gifts.counting.fed gifts.counting.stays first now text said good walks (echo_of line ++ (more ++ 10 ∷ [])) told left
        (subst (λ l. GoesOn first l told left) (ap (λ l. l ++ 10 ∷ []) is ∙ append_assoc text (echo_of line ++ more) (10 ∷ []) ∙ ap (λ l. text ++ l) (append_assoc (echo_of line) more (10 ∷ []))) on) in
        inl (of (at_line Good gifts.one now line (more ++ 10 ∷ []) (echo_of line ++ (more ++ 10 ∷ [])) here.0 left fine fed.plain (λ none. joined_is_none more 10 [] none)
        (append_assoc line (10 ∷ []) (more ++ 10 ∷ [])) out entered did next gives here.1))
      where
        fine : Good now
        fine = stays_good Good gifts.counting.stays first now text said good walks

        one_feed : (behind : List ℕ) (later : List Happening) → missing ++ behind ≡ 10 ∷ [] → GoesOn next behind later left → IsLeftBy next left
        one_feed behind later whole on = by missing behind whole on
          where
            last_line : (behind : List ℕ) → behind ≡ 10 ∷ [] → GoesOn next behind later left → LastLine next [] left
            last_line behind is on = at_echo gifts.counting.fed next [] behind later left (All-nil (λ b. b ≢ 10)) is on

            left_there : LastLine next [] left → IsLeftBy next left
            left_there (Left left_so) = left_so
            left_there (Took line out entered did last gives changed left_so) = no_line_there line

            by : (m behind : List ℕ) → m ++ behind ≡ 10 ∷ [] → GoesOn next behind later left → IsLeftBy next left
            by [] behind is on = left_there (last_line behind is on)
            by (c ∷ m) behind is on = nothing_behind m behind (tails c 10 (m ++ behind) [] is) on
              where
                nothing_behind : (m behind : List ℕ) → m ++ behind ≡ [] → GoesOn next behind later left → IsLeftBy next left
                nothing_behind [] behind none on = at_end next behind later left (subst IsPlain (sym none) (All-nil (λ b. b ≢ 10))) on
                nothing_behind (d ∷ m) behind none on = some_is_none d (m ++ behind) none

        of : Follows next out (more ++ 10 ∷ []) left → Alike t.held left
        of (Ends m is kept_too) = Both next kept kept_too
        of (Goes behind later whole on) =
            let feed = behind_front more (10 ∷ []) (missing ++ behind) (whole ∙ ap (λ l. l ++ behind) cut ∙ append_assoc more missing behind) in
            Both next kept (one_feed behind later (sym feed) on)

  -- what differs was not printed
  module _ (first : Running) (rest : List ℕ) (good : Good first) (d : LinesDiffer first rest) where
    apart : (told : List Happening) (left : Held) → GoesOn d.now (echo_of d.line ++ d.more) told left → ⊥
    apart told left on =
        of (at_line Good gifts.one d.now d.line d.more (echo_of d.line ++ d.more) told left (stays_good Good gifts.counting.stays first d.now d.text d.told good d.walks) d.fed.plain
        (λ none. d.not_cut d.out (ap (λ l. l ++ d.out) (sym none))) (append_assoc d.line (10 ∷ []) d.more) d.out d.entered d.did d.next d.gives on)
      where
        of : Follows d.next d.out d.more left → ⊥
        of (Ends m is kept) = d.not_cut m is
        of (Goes behind later is on) = d.not_whole behind is

    pub not_printed : (told : List Happening) (left : Held) → GoesOn first rest told left → ⊥
    not_printed told left on =
        let here = behind_walk Good gifts.one gifts.counting.fed gifts.counting.stays first d.now d.text d.told good d.walks (echo_of d.line ++ d.more) told left (subst (λ l. GoesOn first l told left) d.is on) in
        apart here.0 left here.1

    pub not_with_feed : (told : List Happening) (left : Held) → GoesOn first (rest ++ 10 ∷ []) told left → ⊥
    not_with_feed told left on =
        let here = behind_walk Good gifts.one gifts.counting.fed gifts.counting.stays first d.now d.text d.told good d.walks (echo_of d.line ++ (d.more ++ 10 ∷ [])) told left
        (subst (λ l. GoesOn first l told left) (ap (λ l. l ++ 10 ∷ []) d.is ∙ append_assoc d.text (echo_of d.line ++ d.more) (10 ∷ []) ∙ ap (λ l. d.text ++ l) (append_assoc (echo_of d.line) d.more (10 ∷ []))) on) in
        of (at_line Good gifts.one d.now d.line (d.more ++ 10 ∷ []) (echo_of d.line ++ (d.more ++ 10 ∷ [])) here.0 left (stays_good Good gifts.counting.stays first d.now d.text d.told good d.walks)
        d.fed.plain (λ none. joined_is_none d.more 10 [] none) (append_assoc d.line (10 ∷ []) (d.more ++ 10 ∷ [])) d.out d.entered d.did d.next d.gives here.1)
      where
        fits : (behind : List ℕ) → Cuts d.more (10 ∷ []) d.out behind → ⊥
        fits behind (First m is also) = d.not_cut m is
        fits behind (Second m is also) = d.not_whole m is

        of : Follows d.next d.out (d.more ++ 10 ∷ []) left → ⊥
        of (Ends m is kept) = d.not_cut (10 ∷ m) (is ∙ append_assoc d.more (10 ∷ []) m)
        of (Goes behind later is on) = fits behind (cuts d.more (10 ∷ []) d.out behind is)

-- and what stands in front of it was
abbrev pub left_by : Running → Held
left_by now = record { kept = OfNode now.state; line = now.last }

pub printed_before : (first : Running) (rest : List ℕ) (d : LinesDiffer first rest) → GoesOn first d.text d.told (left_by d.now)
printed_before first rest d = subst (λ l. GoesOn first l d.told left) (append-nil d.text)
    (subst (λ l. GoesOn first (d.text ++ []) l left) (append-nil d.told)
    (on_from first d.now d.text d.told d.walks [] [] left (Stopped (65 ∷ []) one_letter [] (65 ∷ 10 ∷ []) refl left (record { rows = refl; line = refl }))))
  where
    left : Held
    left = left_by d.now
