-- Whatever runs printed a file, they led to what is known.
use Rattle.std.proofs.Common.{◌≡◌, ◌≢◌, ◌⊎◌, ℕ, zero, suc, ◌+◌, List, [], ◌∷◌, ◌++◌, Bool, IsTrue, Option, None, Some, length, inl, inr, refl, sym, ap, subst, ◌∙◌, append-nil, append_assoc, not-suc-le-zero, zero-lt-suc}
use Rattle.replays.proofs.Cut.{Feed, Feeds, Form, Next, Nothing, cut, drop_feeds, form}
use Rattle.replays.proofs.Going.{stays_good}
use Rattle.replays.proofs.Lines.{Gifts, IsOption}
use Rattle.replays.proofs.Lists.{heads, joined_is_none, some_is_none, tails}
use Rattle.replays.proofs.Only.{Openings}
use Rattle.replays.proofs.OnlyRuns.{IsSingle, Onward, onward, refused}
use Rattle.replays.proofs.Sound.{IsText, line_first}
use Rattle.replays.proofs.Told.{openings_join}
use Rattle.replays.specs.Cutting.{ArePrintedBy, AtOnce, BeginsAnew, Empty, EndsRun, Other, NoMore, OneMore, feeds}
use Rattle.replays.specs.Happenings.{Happening, openings_in}
use Rattle.replays.specs.LineTurns.{Held, Running}
use Rattle.replays.specs.Openings.{opening_of}
use Rattle.replays.specs.Printed as printed
use Rattle.replays.specs.Printed.{Prints}
use Rattle.replays.specs.Reading as read
use Rattle.replays.specs.Reading.{Doubt, Doubts, LinesTaken, MayBe, Reader, RunRefused, RunTaken, Story, Tail, begun_over}

-- ---- what a run prints

-- a run that printed nothing is not told, and left what it found
pub silent : (w : List ℕ) (held left : Held) (told : List Happening) → Prints w held [] told left → (told ≡ []) × (left ≡ held)
silent w held left told one = of [] told left one refl
  where
    of : (run : List ℕ) (told : List Happening) (left : Held) → Prints w held run told left → run ≡ [] → (told ≡ []) × (left ≡ held)
    of run told left (printed.NotBegun line is front more cut) none = (refl, refl)
    of run told left (printed.NoSetup line is fault fails real front more cut has) none = joined_is_none line 10 front (sym (append_assoc line (10 ∷ []) front) ∙ none)
    of run told left (printed.CutOpening line is o front more cut has long) none = joined_is_none line 10 front (sym (append_assoc line (10 ∷ []) front) ∙ none)
    of run told left (printed.BareOpening line is o front cut kept_by kept) none = joined_is_none line 10 front (sym (append_assoc line (10 ∷ []) front) ∙ none)
    of run told left (printed.Begun line is o text said kept_by goes) none = joined_is_none line 10 (opening_of o ++ text) (sym (append_assoc line (10 ∷ []) (opening_of o ++ text)) ∙ none)

-- one that printed something begins with a line
pub begins : (w : List ℕ) (held left : Held) (c : ℕ) (text : List ℕ) (told : List Happening) → Prints w held (c ∷ text) told left → c ≢ 10
begins w held left c text told one feed = of (c ∷ text) told left one (ap (λ x. x ∷ text) feed)
  where
    of : (run : List ℕ) (told : List Happening) (left : Held) → Prints w held run told left → run ≡ 10 ∷ text → ⊥
    of run told left (printed.NotBegun line fed [] more cut) is = some_is_none 10 text (sym is)
    of run told left (printed.NotBegun [] fed (d ∷ front) more cut) is = not-suc-le-zero fed.some
    of run told left (printed.NotBegun (e ∷ line) fed (d ∷ front) more cut) is =
        fed.plain 0 0 (zero-lt-suc (length line)) (heads e d (line ++ 10 ∷ []) (front ++ more) cut ∙ heads d 10 front text is)
    of run told left (printed.NoSetup line fed fault fails real front more cut has) is = line_first line front text fed (sym (append_assoc line (10 ∷ []) front) ∙ is)
    of run told left (printed.CutOpening line fed o front more cut has long) is = line_first line front text fed (sym (append_assoc line (10 ∷ []) front) ∙ is)
    of run told left (printed.BareOpening line fed o front cut kept_by kept) is = line_first line front text fed (sym (append_assoc line (10 ∷ []) front) ∙ is)
    of run told left (printed.Begun line fed o more said kept_by goes) is =
        line_first line (opening_of o ++ more) text fed (sym (append_assoc line (10 ∷ []) (opening_of o ++ more)) ∙ is)

-- of line feeds alone nothing is told
pub feeds_silent : (w : List ℕ) (held : Held) (text : List ℕ) (told : List Happening) (n : ℕ) → ArePrintedBy (Prints w) held text told → text ≡ feeds n → told ≡ []
feeds_silent w held text told n NoMore is = refl
feeds_silent w held text told zero (AtOnce {rest = rest} more) is = some_is_none 10 rest is
feeds_silent w held text told (suc n) (AtOnce {rest = rest} {told = said} more) is = feeds_silent w held rest said n more (tails 10 10 rest (feeds n) is)
feeds_silent w held text told zero (OneMore {run = run} {rest = rest} one plain more) is = some_is_none 10 (10 ∷ (run ++ rest)) is
feeds_silent w held text told (suc zero) (OneMore {run = run} {rest = rest} one plain more) is = some_is_none 10 (run ++ rest) (tails 10 10 (10 ∷ (run ++ rest)) [] is)
feeds_silent w held text told (suc (suc n)) (OneMore {left = left} {run = []} {rest = rest} {told = said} {later = later} one plain more) is =
    let still = silent w held left said one in
    ap (λ l. l ++ later) still.0 ∙ feeds_silent w left rest later n more (tails 10 10 rest (feeds n) (tails 10 10 (10 ∷ rest) (10 ∷ feeds n) is))
feeds_silent w held text told (suc (suc n)) (OneMore {left = left} {run = c ∷ run} {rest = rest} {told = said} {later = later} one plain more) is =
    absurd (begins w held left c run said one (first n (tails 10 10 (c ∷ (run ++ rest)) (feeds n) (tails 10 10 (10 ∷ c ∷ (run ++ rest)) (10 ∷ feeds n) is))))
  where
    first : (n : ℕ) → c ∷ (run ++ rest) ≡ feeds n → c ≡ 10
    first zero is = some_is_none c (run ++ rest) is
    first (suc n) is = heads c 10 (run ++ rest) (feeds n) is

-- ---- whatever printed it

pub data Comes (w more : List ℕ) (r : Reader) (all : List Happening) : Type 0 where
  Ended : more ≡ [] → (r.story.openings ≡ [] → openings_in all ≡ []) → Comes w more r all
  On : MayBe r w → (left : Held) → IsOption r.story left → (before later : List Happening) → all ≡ before ++ later → (r.story.openings ≡ [] → openings_in before ≡ [])
      → ArePrintedBy (Prints w) left (10 ∷ 10 ∷ more) later → Comes w more r all

-- nothing was read that was opened
pub unopened : (w : List ℕ) (r : Reader) (all : List Happening) → Comes w [] r all → r.story.openings ≡ [] → openings_in all ≡ []
unopened w r all (Ended none quiet) empty = quiet empty
unopened w r all (On may left option before later tells quiet printed) empty =
    ap openings_in (tells ∙ ap (λ l. before ++ l) (feeds_silent w left (10 ∷ 10 ∷ []) later 2 printed refl) ∙ append-nil before) ∙ quiet empty

-- what its runs left was of this node
pub record AreOwn (Own : Held → Type 0) (r : Reader) : Type 0 where
  pub own : Own r.story.held
  pub own_too : (d : Doubt) → r.story.doubt ≡ Some d → Own d.held

pub opened_before : (r after : Reader) (bytes : List ℕ) (ended : Bool) → RunTaken r after bytes ended → after.story.openings ≡ [] → r.story.openings ≡ []
opened_before r after bytes ended (read.Unclosed plain same) none = subst (λ (a : Reader). a.story.openings ≡ []) same none
opened_before r after bytes ended (read.NoSetupThere line behind f fault fails real missing is some same) none = subst (λ (a : Reader). a.story.openings ≡ []) same none
opened_before r after bytes ended (read.CutBefore h parties some cut others same) none = subst (λ (a : Reader). a.story.openings ≡ []) same none
opened_before r after bytes ended (read.CutAfter h others d is parties some cut same) none = subst (λ (a : Reader). a.story.openings ≡ []) same none
opened_before r after bytes ended (read.CutEither h parties some cut d is others any cut_too same) none = subst (λ (a : Reader). a.story.openings ≡ []) same none
opened_before r after bytes ended (read.OpenedBefore h way x) none = absurd (has x.lines)
  where
    has : {first : Running} {rest : List ℕ} → LinesTaken first rest ended x.opened after.story → ⊥
    has (read.AtTail text tail told now is walks plain adds kept there) = joined_is_none r.story.openings x.is.opening [] (sym x.is.openings ∙ sym adds.openings ∙ none)
    has (read.AtGift text line more told now is walks fed some out entered did next gives missing cut adds kept no_doubt) =
        joined_is_none r.story.openings x.is.opening [] (sym x.is.openings ∙ sym adds.openings ∙ none)
opened_before r after bytes ended (read.OpenedAfter h d there way x) none = absurd (has x.lines)
  where
    has : {first : Running} {rest : List ℕ} → LinesTaken first rest ended x.opened after.story → ⊥
    has (read.AtTail text tail told now is walks plain adds kept doubt) = joined_is_none r.story.openings x.is.opening [] (sym x.is.openings ∙ sym adds.openings ∙ none)
    has (read.AtGift text line more told now is walks fed some out entered did next gives missing cut adds kept no_doubt) =
        joined_is_none r.story.openings x.is.opening [] (sym x.is.openings ∙ sym adds.openings ∙ none)

module _ (Good : Running → Type 0) (gifts : Gifts Good) (Own : Held → Type 0) (known : Openings Good Own) where
  some_none : {X : Type 0} (d : Doubt) (o : Option Doubt) → o ≡ None → o ≡ Some d → X
  some_none d o none some = absurd (let bad : None ≡ Some d = sym none ∙ some in cc)

  same_doubt : (d e : Doubt) (o : Option Doubt) → o ≡ Some d → o ≡ Some e → d ≡ e
  same_doubt d e o a b = of (sym a ∙ b)
    where
      of : Some d ≡ Some e → d ≡ e
      of is = cc

  own_lines : (first : Running) (rest : List ℕ) (ended : Bool) (s t : Story) → Good first → LinesTaken first rest ended s t → Own t.held × ((d : Doubt) → t.doubt ≡ Some d → Own d.held)
  own_lines first rest ended s t good (read.AtTail text tail told now is walks plain adds kept there) = (known.own now t.held fine kept, (λ d is. of d is there))
    where
      fine : Good now
      fine = stays_good Good gifts.counting.stays first now text told good walks

      of : (d : Doubt) → t.doubt ≡ Some d → Tail now tail ended (length s.openings) t.doubt → Own d.held
      of d is (read.Nothing none no_doubt) = some_none d t.doubt no_doubt is
      of d is (read.Cut cut no_doubt) = some_none d t.doubt no_doubt is
      of d is (read.Echo ends line doubts) = by t.doubt doubts is
        where
          by : (o : Option Doubt) → Doubts now tail (length s.openings) o → o ≡ Some d → Own d.held
          by o (read.Idle out entered did next gives same) is = some_none d None refl is
          by o (read.Doubtful out entered did next gives moved e left entries from) is =
              subst (λ (x : Doubt). Own x.held) (same_doubt e d (Some e) refl is) (known.own next e.held (gifts.counting.stays now tail out entered did next fine gives) left)
  own_lines first rest ended s t good (read.AtGift text line more told now is walks fed some out entered did next gives missing cut adds kept none) =
      (known.own next t.held (gifts.counting.stays now line out entered did next (stays_good Good gifts.counting.stays first now text told good walks) gives) kept, (λ d is. some_none d t.doubt none is))

  pub own_on : (r after : Reader) (bytes : List ℕ) (ended : Bool) → AreOwn Own r → RunTaken r after bytes ended → AreOwn Own after
  own_on r after bytes ended o (read.Unclosed plain same) = subst (AreOwn Own) (sym same) o
  own_on r after bytes ended o (read.NoSetupThere line behind f fault fails real missing is some same) = subst (AreOwn Own) (sym same) o
  own_on r after bytes ended o (read.CutBefore h parties some cut others same) = subst (AreOwn Own) (sym same) (record { own = o.own; own_too = λ d is. some_none d None refl is })
  own_on r after bytes ended o (read.CutAfter h others d is parties some cut same) =
      subst (AreOwn Own) (sym same) (record { own = o.own_too d is; own_too = λ e there. some_none e None refl there })
  own_on r after bytes ended o (read.CutEither h parties some cut d is others any cut_too same) = subst (AreOwn Own) (sym same) (record { own = o.own; own_too = o.own_too })
  own_on r after bytes ended o (read.OpenedBefore {line = line} {rest = rest} {setup = setup} {base = base} h way x) =
      let both = own_lines (begun_over r.story.held way.member way.state base) rest ended x.opened after.story (known.good line setup base h.reads way.member way.within r.story.held o.own way.state way.opens) x.lines in
      record { own = both.0; own_too = both.1 }
  own_on r after bytes ended o (read.OpenedAfter {line = line} {rest = rest} {setup = setup} {base = base} h d is way x) =
      let both = own_lines (begun_over d.held way.member way.state base) rest ended x.opened after.story (known.good line setup base h.reads way.member way.within d.held (o.own_too d is) way.state way.opens) x.lines in
      record { own = both.0; own_too = both.1 }

  -- ---- one run more

  module _ (r : Reader) (bytes behind more : List ℕ) (count : ℕ) (t : IsText bytes) (single : (d : Doubt) → r.story.doubt ≡ Some d → IsSingle r d) (o : AreOwn Own r)
      (ends : EndsRun behind) (is : behind ≡ feeds count ++ more) (anew : BeginsAnew more) (w : List ℕ) (all : List Happening) where
    next_of : (left : Held) (later : List Happening) → ArePrintedBy (Prints w) left (10 ∷ 10 ∷ (bytes ++ behind)) later → Next (Prints w) (silent w) (begins w) left bytes behind later
    next_of left later printed =
        cut (Prints w) (silent w) (begins w) left bytes behind t.ends t.plain ends t.first t.others t.some t.begins (10 ∷ 10 ∷ (bytes ++ behind)) later refl printed

    none_here : {X : Type 0} → bytes ++ behind ≡ [] → X
    none_here none = some_is_none t.first (t.others ++ behind) (ap (λ l. l ++ behind) (sym t.some) ∙ none)

    which : {run rest : List ℕ} → ((run ≡ bytes) × (rest ≡ behind)) ⊎ ((run ≡ bytes ++ 10 ∷ []) × (behind ≡ 10 ∷ rest)) → (run ≡ bytes) ⊎ (run ≡ bytes ++ 10 ∷ [])
    which (inl x) = inl x.0
    which (inr x) = inr x.0

    pub no_run : (number at : ℕ) → RunRefused r bytes number at → Comes w (bytes ++ behind) r all → ⊥
    no_run number at x (Ended none quiet) = none_here none
    no_run number at x (On may left option before later tells quiet printed) =
        let n = next_of left later printed in
        refused Good gifts Own known r bytes t single o.own o.own_too w may left option n.run n.said n.left n.one (which n.is) number at x

    module _ (after : Reader) (ended : Bool) (far : ((m : List ℕ) × (behind ≡ 10 ∷ 10 ∷ 10 ∷ m)) → IsTrue ended) (taken : RunTaken r after bytes ended) where
      pub comes_on : Comes w (bytes ++ behind) r all → Comes w more after all
      comes_on (Ended none quiet) = none_here none
      comes_on (On may left option before later tells quiet printed) = of more anew refl
        where
          n : Next (Prints w) (silent w) (begins w) left bytes behind later
          n = next_of left later printed

          x : Onward r after bytes n.run ended w n.said n.left
          x = onward Good gifts Own known r bytes t single o.own o.own_too w may left option n.run n.said n.left n.one (which n.is) after ended taken

          -- nothing was opened so far
          quiet_so : after.story.openings ≡ [] → openings_in (before ++ n.said) ≡ []
          quiet_so none =
              openings_join before n.said ∙ ap (λ l. l ++ openings_in n.said) (quiet (opened_before r after bytes ended taken none)) ∙ x.quiet none

          tells_so : all ≡ (before ++ n.said) ++ n.later
          tells_so = tells ∙ ap (λ l. before ++ l) n.tells ∙ sym (append_assoc before n.said n.later)

          -- at the end of the file
          at_end : (m : ℕ) → n.rest ≡ feeds m → more ≡ [] → Comes w more after all
          at_end m rest_is none = Ended none
              (λ empty. ap openings_in (tells_so ∙ ap (λ l. (before ++ n.said) ++ l) (feeds_silent w n.left n.rest n.later m n.more rest_is) ∙ append-nil (before ++ n.said)) ∙ quiet_so empty)

          one_less : (m : ℕ) (rest tail : List ℕ) → feeds m ++ tail ≡ 10 ∷ rest → ((k : ℕ) × (rest ≡ feeds k ++ tail)) ⊎ (tail ≡ 10 ∷ rest)
          one_less zero rest tail e = inr e
          one_less (suc m) rest tail e = inl (m, sym (tails 10 10 (feeds m ++ tail) rest e))

          further : MayBe after w × IsOption after.story n.left → (m : ℕ) → n.rest ≡ feeds m ++ more → Comes w more after all
          further g m rest_is =
              On g.0 n.left g.1 (before ++ n.said) n.later tells_so quiet_so (drop_feeds (Prints w) (silent w) (begins w) n.left n.rest n.later m more anew rest_is n.more)

          -- more than two line feeds stand behind it
          three : (c : ℕ) (tail : List ℕ) → c ≢ 10 → (k : ℕ) → n.rest ≡ feeds k ++ c ∷ tail → behind ≡ 10 ∷ n.rest → Form n.rest → IsTrue ended
          three c tail other k rest_is feed (Nothing none) = joined_is_none (feeds k) c tail (sym rest_is ∙ none)
          three c tail other zero rest_is feed (Feed one) = absurd (other (heads c 10 tail [] (sym rest_is ∙ one)))
          three c tail other (suc k) rest_is feed (Feed one) = joined_is_none (feeds k) c tail (tails 10 10 (feeds k ++ c ∷ tail) [] (sym rest_is ∙ one))
          three c tail other k rest_is feed (Feeds m two) = far (m, feed ∙ ap (λ l. 10 ∷ l) two)

          of : (tail : List ℕ) → BeginsAnew tail → more ≡ tail → Comes w more after all
          of tail Empty e = by_end n.is
            where
              only_feeds : behind ≡ feeds count
              only_feeds = is ∙ ap (λ l. feeds count ++ l) e ∙ append-nil (feeds count)

              fewer : (m : ℕ) → feeds m ≡ 10 ∷ n.rest → (k : ℕ) × (n.rest ≡ feeds k)
              fewer zero z = some_is_none 10 n.rest (sym z)
              fewer (suc m) z = (m, sym (tails 10 10 (feeds m) n.rest z))

              by_end : ((n.run ≡ bytes) × (n.rest ≡ behind)) ⊎ ((n.run ≡ bytes ++ 10 ∷ []) × (behind ≡ 10 ∷ n.rest)) → Comes w more after all
              by_end (inl y) = at_end count (y.1 ∙ only_feeds) e
              by_end (inr y) = let f = fewer count (sym only_feeds ∙ y.1) in at_end f.0 f.1 e
          of tail (Other c others other) e = by n.is
            where
              by : ((n.run ≡ bytes) × (n.rest ≡ behind)) ⊎ ((n.run ≡ bytes ++ 10 ∷ []) × (behind ≡ 10 ∷ n.rest)) → Comes w more after all
              by (inl y) = further (x.goes (inl y.0)) count (y.1 ∙ is)
              by (inr y) = with (one_less count n.rest more (sym is ∙ y.1))
                where
                  with : ((k : ℕ) × (n.rest ≡ feeds k ++ more)) ⊎ (more ≡ 10 ∷ n.rest) → Comes w more after all
                  with (inl k) =
                      further (x.goes (inr (three c others other k.0 (k.1 ∙ ap (λ l. feeds k.0 ++ l) e) y.1 (form (Prints w) n.left n.rest n.later n.more)))) k.0 k.1
                  with (inr bad) = absurd (other (heads c 10 others n.rest (sym e ∙ bad)))
