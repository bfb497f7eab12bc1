-- How a whole file is read, run by run.
use Rattle.std.proofs.Common.{◌≡◌, ◌≢◌, ◌⊎◌, ◌≤◌, ℕ, zero, suc, ◌+◌, List, [], ◌∷◌, ◌++◌, Bool, Option, None, Some, Contains, inl, inr, refl, sym, ap, subst, ◌∙◌, append-nil, append_assoc, arith, ◌==◌, eqb-true, true≢false, true, false}
use Rattle.std.proofs.lemmas.List.Elements.{Contains-append_left, Contains-push}
use Rattle.json_text.specs.declared.fault.JsonFault.{JsonFault}
use Rattle.node_runs.specs.DoneLines.{malformed_line}
use Rattle.ocpi_types.specs.declared.setup.Node.{Node}
use Rattle.world_steps.specs.World.{NodeState}
use Rattle.replays.proofs.Before.{blamed}
use Rattle.replays.proofs.Blame.{decide, feeds_join}
use Rattle.replays.proofs.Comes.{AreOwn, Comes, On, begins, comes_on, no_run, own_on, silent, unopened}
use Rattle.replays.proofs.Cut.{drop_feeds}
use Rattle.replays.proofs.Known.{IsKnown, known_by}
use Rattle.replays.proofs.Led.{Reached, all_printed, at_first}
use Rattle.replays.proofs.Lines.{Counting, Gifts, Same}
use Rattle.replays.proofs.LinesRead.{no_feeds}
use Rattle.replays.proofs.Lists.{heads, some_is_none, tails}
use Rattle.replays.proofs.Only.{Openings}
use Rattle.replays.proofs.OnlyRuns.{IsSingle, none_within}
use Rattle.replays.proofs.Sound.{IsText}
use Rattle.replays.proofs.Told.{nothing_told}
use Rattle.replays.specs.CutRuns.{IsNextRun}
use Rattle.replays.specs.Cutting.{ArePrintedBy, AtEmptyLine, AtEnd, AtFeed, BeginsAnew, Empty, EndsRun, Other, feeds}
use Rattle.replays.specs.Fronts.{feeds_of, lines_front}
use Rattle.replays.specs.Happenings.{Happening, openings_in}
use Rattle.replays.specs.LineTurns.{Held, Running}
use Rattle.replays.specs.Printed.{Prints}
use Rattle.replays.specs.Reading as read
use Rattle.replays.specs.Reading.{Doubt, IsOther, MayBe, Reader, RunRefused, RunTaken, begun_over}
use Rattle.replays.specs.declared.cutting.RunText.{RunText}
use Rattle.replays.specs.declared.cutting.Runs.{Runs}

-- ---- line feeds in front

-- a text has so many in front
abbrev Fronted : List ℕ → Type 0
Fronted text = (count : ℕ) × ((more : List ℕ) × (text ≡ feeds count ++ more) × BeginsAnew more)

feed_more : (c : ℕ) (text : List ℕ) → c ≡ 10 → Fronted text → Fronted (c ∷ text)
feed_more c text feed (count, (more, is, anew)) = (suc count, (more, ap (λ (d : ℕ). d ∷ text) feed ∙ ap (λ l. 10 ∷ l) is, anew))

front_feeds : (text : List ℕ) → Fronted text
front_feeds [] = (0, ([], refl, Empty))
front_feeds (c ∷ text) = of (front_feeds text) (decide (c == 10))
  where
    of : Fronted text → ((c == 10) ≡ true) ⊎ ((c == 10) ≡ false) → Fronted (c ∷ text)
    of f (inl is) = feed_more c text (eqb-true c 10 is) f
    of f (inr is) = (0, (c ∷ text, refl, Other c text (λ same. true≢false (sym (ap (λ x. x == 10) same) ∙ is))))

not_anew : {X : Type 0} (c : ℕ) (text l : List ℕ) → BeginsAnew l → l ≡ c ∷ text → c ≡ 10 → X
not_anew c text l Empty is feed = some_is_none c text (sym is)
not_anew c text l (Other d more other) is feed = absurd (other (heads d c more text is ∙ feed))

-- and no others
one_front : (a b : ℕ) (xs ys : List ℕ) → BeginsAnew xs → BeginsAnew ys → feeds a ++ xs ≡ feeds b ++ ys → (a ≡ b) × (xs ≡ ys)
one_front zero zero xs ys one other is = (refl, is)
one_front zero (suc b) xs ys one other is = not_anew 10 (feeds b ++ ys) xs one is refl
one_front (suc a) zero xs ys one other is = not_anew 10 (feeds a ++ xs) ys other (sym is) refl
one_front (suc a) (suc b) xs ys one other is = let r = one_front a b xs ys one other (tails 10 10 (feeds a ++ xs) (feeds b ++ ys) is) in (ap suc r.0, r.1)

feeds_counted : (n : ℕ) → feeds_of (feeds n) ≡ n
unfolding feeds_of
feeds_counted zero = refl
feeds_counted (suc n) = ap suc (feeds_counted n)

-- behind a run stand two, or nothing more
enough_behind : (rest : List ℕ) → EndsRun rest → (n : ℕ) (more : List ℕ) → rest ≡ feeds n ++ more → BeginsAnew more → (more ≡ []) ⊎ (2 ≤ n)
enough_behind rest AtEnd zero more is anew = inl (sym is)
enough_behind rest AtEnd (suc n) more is anew = some_is_none 10 (feeds n ++ more) (sym is)
enough_behind rest AtFeed zero more is anew = not_anew 10 [] more anew (sym is) refl
enough_behind rest AtFeed (suc zero) more is anew = inl (sym (tails 10 10 [] more is))
enough_behind rest AtFeed (suc (suc n)) more is anew = some_is_none 10 (feeds n ++ more) (sym (tails 10 10 [] (10 ∷ (feeds n ++ more)) is))
enough_behind rest (AtEmptyLine behind) zero more is anew = not_anew 10 (10 ∷ behind) more anew (sym is) refl
enough_behind rest (AtEmptyLine behind) (suc zero) more is anew = not_anew 10 behind more anew (sym (tails 10 10 (10 ∷ behind) more is)) refl
enough_behind rest (AtEmptyLine behind) (suc (suc n)) more is anew = inr (omega arith)

three_behind : (n : ℕ) (more m : List ℕ) → BeginsAnew more → feeds n ++ more ≡ 10 ∷ 10 ∷ 10 ∷ m → 3 ≤ n
three_behind zero more m anew is = not_anew 10 (10 ∷ 10 ∷ m) more anew is refl
three_behind (suc zero) more m anew is = not_anew 10 (10 ∷ m) more anew (tails 10 10 more (10 ∷ 10 ∷ m) is) refl
three_behind (suc (suc zero)) more m anew is = not_anew 10 m more anew (tails 10 10 more (10 ∷ m) (tails 10 10 (10 ∷ more) (10 ∷ 10 ∷ m) is)) refl
three_behind (suc (suc (suc n))) more m anew is = omega arith

nothing_left : (a b : ℕ) (more : List ℕ) → BeginsAnew more → feeds a ++ more ≡ feeds b → more ≡ []
nothing_left a b more anew is = (one_front a b more [] anew Empty (is ∙ sym (append-nil (feeds b)))).1

-- ---- what a run keeps

-- the parties of other files
earlier_kept : (r after : Reader) (bytes : List ℕ) (ended : Bool) → RunTaken r after bytes ended → after.earlier ≡ r.earlier
earlier_kept r after bytes ended (read.Unclosed plain same) = ap (λ (a : Reader). a.earlier) same
earlier_kept r after bytes ended (read.NoSetupThere line behind f fault fails real missing is some same) = ap (λ (a : Reader). a.earlier) same
earlier_kept r after bytes ended (read.CutBefore h parties some cut others same) = ap (λ (a : Reader). a.earlier) same
earlier_kept r after bytes ended (read.CutAfter h others d is parties some cut same) = ap (λ (a : Reader). a.earlier) same
earlier_kept r after bytes ended (read.CutEither h parties some cut d is others any cut_too same) = ap (λ (a : Reader). a.earlier) same
earlier_kept r after bytes ended (read.OpenedBefore h way x) = x.earlier
earlier_kept r after bytes ended (read.OpenedAfter h d is way x) = x.earlier

-- ---- a file

-- How far a file was read, whose next line has that number: what is known of it, and that whatever runs printed it led
-- there, where what was asked of the rows is so.
pub record IsSoFar (Own : Held → Type 0) (Asked : Type 0) (earlier : List (List ℕ)) (start : Held) (text : List ℕ) (r : Reader) (rest : List ℕ) (number : ℕ) : Type 0 where
  pub consumed : List ℕ
  pub parts : text ≡ consumed ++ rest
  pub numbered : number ≡ suc (feeds_of consumed)
  pub count : ℕ
  pub more : List ℕ
  pub is : rest ≡ feeds count ++ more
  pub anew : BeginsAnew more
  pub knows : IsKnown start (10 ∷ 10 ∷ text) more r
  pub same : r.earlier ≡ earlier
  pub own : Asked → AreOwn Own r
  pub comes : Asked → (w : List ℕ) → IsOther earlier w → (all : List Happening) → ArePrintedBy (Prints w) start (10 ∷ 10 ∷ text) all → Comes w more r all

module _ (Good : Running → Type 0) (gifts : Gifts Good) (Own : Held → Type 0) (known : Openings Good Own) (Counted : Running → Type 0) (counting : Counting Counted)
    (counted : (held : Held) (member : Node) (state : NodeState) (base : Option ℕ) → Counted (begun_over held member state base))
    (malformed_ends : (fault : JsonFault) → (body : List ℕ) × (malformed_line 1 None fault ≡ body ++ 10 ∷ []) × (feeds_of body ≡ 0))
    (fresh : (parties : List (List ℕ)) → (w : List ℕ) × IsOther parties w)
    (earlier : List (List ℕ)) (start : Held) (text : List ℕ) (Asked : Type 0) (first_own : Asked → Own start) where
  -- whose runs they may be
  someone : (r : Reader) → ((p : List ℕ) → Contains r.parties p → IsOther r.earlier p) → (w : List ℕ) × MayBe r w
  someone r others = of r.parties refl
    where
      of : (parties : List (List ℕ)) → r.parties ≡ parties → (w : List ℕ) × MayBe r w
      of [] none = let f = fresh r.earlier in (f.0, (f.1, inl none))
      of (p ∷ ps) some =
          let within = subst (λ l. Contains l p) (sym some) (Contains-append_left (p ∷ []) ps p (Contains-push [] p)) in
          (p, (others p within, inr (p, within, refl)))

  -- nothing was read yet
  abbrev pub at_start : Reader
  at_start = record { earlier = earlier; parties = []; story = record { held = start; doubt = None; openings = []; entries = []; sources = [] } }

  pub none_so_far : IsSoFar Own Asked earlier start text at_start text 1
  none_so_far = record {
    consumed = [];
    parts = refl;
    numbered = let none = no_feeds in omega (arith, none);
    count = f.0;
    more = f.1.0;
    is = f.1.1;
    anew = f.1.2;
    knows = record {
      told = [];
      tells = nothing_told;
      reached = λ w may. subst (λ l. Reached (Prints w) start l f.1.0 [] start) (sym whole) (at_first (Prints w) start f.0 f.1.0);
      doubted = λ d is. absurd (let bad : None ≡ Some d = is in cc);
      others = λ p within. none_within p within;
      some = λ some. absurd (some refl);
    };
    same = refl;
    own = λ asked. record { own = first_own asked; own_too = λ d is. absurd (let bad : None ≡ Some d = is in cc) };
    comes = λ asked w other all printed. On (other, inl refl) start (inl (Same refl)) [] all refl (λ none. refl)
        (drop_feeds (Prints w) (silent w) (begins w) start (10 ∷ 10 ∷ text) all (suc (suc f.0)) f.1.0 f.1.2 whole printed);
  }
    where
      f : (count : ℕ) × ((more : List ℕ) × (text ≡ feeds count ++ more) × BeginsAnew more)
      f = front_feeds text

      whole : 10 ∷ 10 ∷ text ≡ feeds (suc (suc f.0)) ++ f.1.0
      whole = ap (λ l. 10 ∷ 10 ∷ l) f.1.1

  module _ (r : Reader) (all : Runs) (s : IsSoFar Own Asked earlier start text r all.rest.now all.number) where
    -- ---- the next run

    module _ (run : RunText) (next : Runs) (n : IsNextRun all run next) where
      t : IsText run.bytes.now
      t = record { first = n.first; others = n.others; some = n.some; begins = n.begins; ends = n.ends; plain = n.plain }

      front : (s.count ≡ n.count) × (s.more ≡ run.bytes.now ++ next.rest.now)
      front = one_front s.count n.count s.more (run.bytes.now ++ next.rest.now) s.anew
          (subst BeginsAnew (ap (λ l. l ++ next.rest.now) (sym n.some)) (Other n.first (n.others ++ next.rest.now) n.begins)) (sym s.is ∙ n.is)

      enough : (n.more ≡ []) ⊎ (2 ≤ n.after)
      enough = enough_behind next.rest.now n.behind_is n.after n.more n.rest_is n.anew

      knows : IsKnown start (10 ∷ 10 ∷ text) (run.bytes.now ++ (feeds n.after ++ n.more)) r
      knows = subst (λ l. IsKnown start (10 ∷ 10 ∷ text) l r) (front.1 ∙ ap (λ l. run.bytes.now ++ l) n.rest_is) s.knows

      comes : Asked → (w : List ℕ) → IsOther earlier w → (told : List Happening) → ArePrintedBy (Prints w) start (10 ∷ 10 ∷ text) told → Comes w (run.bytes.now ++ next.rest.now) r told
      comes asked w other told printed = subst (λ l. Comes w l r told) front.1 (s.comes asked w other told printed)

      single : (d : Doubt) → r.story.doubt ≡ Some d → IsSingle r d
      single d is = let x = knows.doubted d is in record { some = x.some; one = x.one; apart = x.apart }

      abbrev before : List ℕ
      before = s.consumed ++ feeds n.count

      cut : text ≡ before ++ (run.bytes.now ++ next.rest.now)
      cut = s.parts ∙ ap (λ l. s.consumed ++ l) n.is ∙ sym (append_assoc s.consumed (feeds n.count) (run.bytes.now ++ next.rest.now))

      number_is : run.number ≡ suc (feeds_of before)
      number_is =
          let joined = feeds_join s.consumed (feeds n.count) in
          let so = feeds_counted n.count in
          let at = s.numbered in
          let is = n.number in
          omega (arith, joined, so, at, is)

      -- it was read
      pub one_so_far : (after : Reader) → RunTaken r after run.bytes.now run.is_ended → IsSoFar Own Asked earlier start text after next.rest.now next.number
      one_so_far after taken = record {
        consumed = before ++ run.bytes.now;
        parts = cut ∙ sym (append_assoc before run.bytes.now next.rest.now);
        numbered = let joined = feeds_join before run.bytes.now in let at = number_is in let is = n.next in omega (arith, joined, at, is);
        count = n.after;
        more = n.more;
        is = n.rest_is;
        anew = n.anew;
        knows = known_by start (10 ∷ 10 ∷ text) run.bytes.now n.more n.after t enough Counted counting counted r after knows run.is_ended n.closed.0 taken;
        same = earlier_kept r after run.bytes.now run.is_ended taken ∙ s.same;
        own = λ asked. own_on Good gifts Own known r after run.bytes.now run.is_ended (s.own asked) taken;
        comes = λ asked w other told printed.
            comes_on Good gifts Own known r run.bytes.now next.rest.now n.more n.after t single (s.own asked) n.behind_is n.rest_is n.anew w told after run.is_ended
            (λ far. n.closed.1 (three_behind n.after n.more far.0 n.anew (sym n.rest_is ∙ far.1))) taken (comes asked w other told printed);
      }

      -- no runs printed it
      pub none_printed : (at : ℕ) → RunRefused r run.bytes.now run.number at → Asked → (w : List ℕ) → IsOther earlier w → (told : List Happening)
          → ArePrintedBy (Prints w) start (10 ∷ 10 ∷ text) told → ⊥
      none_printed at refused asked w other told printed =
          no_run Good gifts Own known r run.bytes.now next.rest.now n.more n.after t single (s.own asked) n.behind_is n.rest_is n.anew w told run.number at refused (comes asked w other told printed)

      -- some printed all in front of the line that is named
      pub some_printed : (at line : ℕ) → RunRefused r run.bytes.now run.number at → at ≡ suc line
          → (w : List ℕ) × IsOther earlier w × ((told : List Happening) × ArePrintedBy (Prints w) start (10 ∷ 10 ∷ lines_front line text) told)
      some_printed at line refused is =
          let x = blamed start text run.bytes.now n.more n.after t enough before (cut ∙ ap (λ l. before ++ (run.bytes.now ++ l)) n.rest_is) Counted counting r knows malformed_ends
          (someone r knows.others) run.number at line number_is refused is in
          (x.w, subst (λ l. IsOther l x.w) s.same x.other, (x.told, x.printed_so))

    -- ---- at its end

    module _ (count : ℕ) (ends : all.rest.now ≡ feeds count) where
      nothing : s.more ≡ []
      nothing = nothing_left s.count count s.more s.anew (sym s.is ∙ ends)

      -- some runs printed it
      pub all_read : (w : List ℕ) × IsOther earlier w × ArePrintedBy (Prints w) start (10 ∷ 10 ∷ text) s.knows.told
      all_read =
          let x = someone r s.knows.others in (
            x.0,
            subst (λ l. IsOther l x.0) s.same x.1.0,
            all_printed (Prints x.0) start (10 ∷ 10 ∷ text) s.knows.told r.story.held (subst (λ l. Reached (Prints x.0) start (10 ∷ 10 ∷ text) l s.knows.told r.story.held) nothing (s.knows.reached x.0 x.1)),
          )

      -- where none was opened, none was by any runs that did
      pub none_opened : r.story.openings ≡ [] → Asked → (w : List ℕ) → IsOther earlier w → (told : List Happening) → ArePrintedBy (Prints w) start (10 ∷ 10 ∷ text) told → openings_in told ≡ []
      none_opened none asked w other told printed = unopened w r told (subst (λ l. Comes w l r told) nothing (s.comes asked w other told printed)) none
