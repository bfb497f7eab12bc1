-- What is known of the runs of a file so far is what they printed, and what follows from one more.
use Rattle.std.proofs.Common.{◌≡◌, ◌≢◌, ◌⊎◌, ◌≤◌, ℕ, zero, suc, ◌+◌, List, [], ◌∷◌, ◌++◌, All, Bool, IsTrue, Option, None, Some, IfSome, Contains, length, inl, inr, refl, sym, ap, subst, ◌∙◌, append-nil, append_assoc, not-suc-le-zero, arith}
use Rattle.std.proofs.lemmas.List.Elements.{All-contains, All-nil, Contains-append_left, Contains-push, Contains-push_cases}
use Rattle.node_replay.specs.Replayed.{restart_entry}
use Rattle.ocpi_text.specs.Text.{key}
use Rattle.ocpi_types.specs.Setups.{party_of}
use Rattle.ocpi_types.specs.declared.setup.Node.{Node}
use Rattle.world_steps.specs.World.{NodeState}
use Rattle.replays.proofs.Led.{Before, Reached, before_next, one_more}
use Rattle.replays.proofs.Lines.{AreSound, Counting, Doubted, lines_sound}
use Rattle.replays.proofs.Lists.{joined_is_none, some_is_none}
use Rattle.replays.proofs.Sound.{IsText, cut_prints, fault_prints, opened_prints, opened_with_feed, plain_with_feed, unclosed_prints}
use Rattle.replays.proofs.Told.{came_told, first_told, next_told}
use Rattle.replays.specs.Cutting.{feeds}
use Rattle.replays.specs.Happenings.{Happening, Opened, OpenedRun, entries_behind, openings_in}
use Rattle.replays.specs.LineTurns.{Held, Running}
use Rattle.replays.specs.Printed.{Prints}
use Rattle.replays.specs.Reading as read
use Rattle.replays.specs.Reading.{AreCut, Doubt, HasSetup, IsAmong, IsOpenedIn, IsOther, IsRun, MayBe, Reader, RunTaken, Story, WasOpened, begun_over, left_out, run_over, taken_in, with_parties}
use Rattle.replays.specs.Telling.{AreSourcesOf, Tells}
use Rattle.replays.specs.declared.transcript.Opening.{Opening}

-- ---- whose runs they are

-- whoever is among some of those that it may be may be it
pub still_may : (r : Reader) (parties : List (List ℕ)) (story : Story) → parties ≢ [] → ((p : List ℕ) → Contains parties p → MayBe r p) → (w : List ℕ)
    → MayBe (with_parties r parties story) w → MayBe r w
still_may r parties story some each w (other, inl none) = absurd (some none)
still_may r parties story some each w (other, inr (p, within, same)) = (other, of (each p within).1)
  where
    of : (r.parties ≡ []) ⊎ IsAmong r.parties p → (r.parties ≡ []) ⊎ IsAmong r.parties w
    of (inl none) = inl none
    of (inr (q, there, also)) = inr (q, there, also ∙ same)

-- one of the parties, where there is but one, is each
abbrev pub AreOne : List (List ℕ) → Type 0
AreOne parties = (p q : List ℕ) → Contains parties p → Contains parties q → key p ≡ key q

pub one_party : (r : Reader) → r.parties ≢ [] → AreOne r.parties → (p w : List ℕ) → MayBe r p → MayBe r w → key p ≡ key w
one_party r some one p w (other, inl none) may = absurd (some none)
one_party r some one p w (other, inr (q, within, same)) (also, inl none) = absurd (some none)
one_party r some one p w (other, inr (q, within, same)) (also, inr (x, there, is)) = sym same ∙ one q x within there ∙ is

-- ---- what is known

module _ (start : Held) where
  -- of a line in doubt
  pub record IsDoubted (whole more : List ℕ) (r : Reader) (told : List Happening) (d : Doubt) : Type 0 where
    pub later : List Happening
    pub quiet : openings_in later ≡ []
    pub entries : d.entries ≡ entries_behind later
    pub from : AreSourcesOf (length r.story.openings) later d.sources
    pub reached : (w : List ℕ) → MayBe r w → Reached (Prints w) start whole more (told ++ later) d.held
    pub some : r.parties ≢ []
    pub one : AreOne r.parties
    pub begun : r.story.openings ≢ []
    pub apart : d.held.line ≢ r.story.held.line

  -- of all in front of the rest
  pub record IsKnown (whole more : List ℕ) (r : Reader) : Type 0 where
    pub told : List Happening
    pub tells : Tells told r.story.openings r.story.entries r.story.sources
    pub reached : (w : List ℕ) → MayBe r w → Reached (Prints w) start whole more told r.story.held
    pub doubted : (d : Doubt) → r.story.doubt ≡ Some d → IsDoubted whole more r told d
    pub others : (p : List ℕ) → Contains r.parties p → IsOther r.earlier p
    pub some : r.story.openings ≢ [] → r.parties ≢ []

  -- the line in doubt did not take hold
  pub known_before : (whole more : List ℕ) (r : Reader) → IsKnown whole more r → IsKnown whole more (with_parties r r.parties (left_out r.story))
  known_before whole more r k = record {
    told = k.told;
    tells = k.tells;
    reached = k.reached;
    doubted = λ d is. absurd (let bad : None ≡ Some d = is in cc);
    others = k.others;
    some = k.some;
  }

  -- it did
  pub known_after : (whole more : List ℕ) (r : Reader) (d : Doubt) → r.story.doubt ≡ Some d → IsKnown whole more r → IsKnown whole more (with_parties r r.parties (taken_in r.story d))
  known_after whole more r d is k =
      let x = k.doubted d is in
      record {
        told = k.told ++ x.later;
        tells = subst (λ l. Tells (k.told ++ x.later) r.story.openings (r.story.entries ++ l) (r.story.sources ++ d.sources)) (sym x.entries)
            (came_told k.told x.later r.story.openings r.story.entries r.story.sources d.sources k.tells x.begun x.quiet x.from);
        reached = x.reached;
        doubted = λ d is. absurd (let bad : None ≡ Some d = is in cc);
        others = k.others;
        some = k.some;
      }

  -- ---- one run more

  module _ (whole bytes more : List ℕ) (count : ℕ) (t : IsText bytes) (enough : (more ≡ []) ⊎ (2 ≤ count)) where
    pub front_of : (told : List Happening) (held : Held) (w : List ℕ) → Reached (Prints w) start whole (bytes ++ (feeds count ++ more)) told held
        → Before (Prints w) start whole (bytes ++ (feeds count ++ more)) told held
    front_of told held w r =
        subst (λ l. Before (Prints w) start whole (l ++ (feeds count ++ more)) told held) (sym t.some)
        (before_next (Prints w) start whole t.first (t.others ++ (feeds count ++ more)) told held
        (subst (λ l. Reached (Prints w) start whole (l ++ (feeds count ++ more)) told held) t.some r))

    -- a run of which nothing is told
    still : (told : List Happening) (held : Held) (w : List ℕ) → Reached (Prints w) start whole (bytes ++ (feeds count ++ more)) told held → Prints w held bytes [] held
        → Reached (Prints w) start whole more told held
    still told held w r one =
        subst (λ l. Reached (Prints w) start whole more l held) (append-nil told)
        (one_more (Prints w) start whole bytes more told [] held held count (front_of told held w r) one t.plain enough)

    pub known_still : (r : Reader) → IsKnown whole (bytes ++ (feeds count ++ more)) r → (parties : List (List ℕ)) → ((w : List ℕ) → MayBe (with_parties r parties r.story) w → MayBe r w)
        → ((p : List ℕ) → Contains parties p → IsOther r.earlier p) → (r.story.openings ≢ [] → parties ≢ [])
        → ((d : Doubt) → r.story.doubt ≡ Some d → (parties ≢ []) × AreOne parties)
        → ((w : List ℕ) → MayBe (with_parties r parties r.story) w → Prints w r.story.held bytes [] r.story.held)
        → ((d : Doubt) → r.story.doubt ≡ Some d → (w : List ℕ) → MayBe (with_parties r parties r.story) w → Prints w d.held bytes [] d.held)
        → IsKnown whole more (with_parties r parties r.story)
    known_still r k parties narrows others some one prints prints_too = record {
      told = k.told;
      tells = k.tells;
      reached = λ w may. still k.told r.story.held w (k.reached w (narrows w may)) (prints w may);
      doubted = λ d is.
          let x = k.doubted d is in
          record {
            later = x.later;
            quiet = x.quiet;
            entries = x.entries;
            from = x.from;
            reached = λ w may. still (k.told ++ x.later) d.held w (x.reached w (narrows w may)) (prints_too d is w may);
            some = (one d is).0;
            one = (one d is).1;
            begun = x.begun;
            apart = x.apart;
          };
      others = others;
      some = some;
    }

    -- ---- a run that was opened

    module _ (Counted : Running → Type 0) (counting : Counting Counted)
        (counted : (held : Held) (member : Node) (state : NodeState) (base : Option ℕ) → Counted (begun_over held member state base)) where
      still_tells : (s opened : Story) (run : OpenedRun) (told : List Happening) → Tells told s.openings s.entries s.sources → (i : IsOpenedIn s opened run)
          → Tells (told ++ Opened run ∷ []) opened.openings opened.entries opened.sources
      still_tells s opened run told tells i = of s.openings refl
        where
          of : (os : List Opening) → s.openings ≡ os → Tells (told ++ Opened run ∷ []) opened.openings opened.entries opened.sources
          of [] none =
              let here = i.first none in
              subst (λ l. Tells (told ++ Opened run ∷ []) l opened.entries opened.sources) (sym (i.openings ∙ ap (λ l. l ++ i.opening ∷ []) none))
              (subst (λ l. Tells (told ++ Opened run ∷ []) (i.opening ∷ []) l opened.sources) (sym here.0)
              (subst (λ l. Tells (told ++ Opened run ∷ []) (i.opening ∷ []) s.entries l) (sym here.1)
              (first_told told s.entries s.sources (subst (λ l. Tells told l s.entries s.sources) none tells) run i.opening i.is)))
          of (x ∷ os) some =
              let there : s.openings ≢ [] = (λ none. some_is_none x os (sym some ∙ none)) in
              let here = i.later there in
              subst (λ l. Tells (told ++ Opened run ∷ []) l opened.entries opened.sources) (sym i.openings)
              (subst (λ l. Tells (told ++ Opened run ∷ []) (s.openings ++ i.opening ∷ []) l opened.sources) (sym here.0)
              (subst (λ l. Tells (told ++ Opened run ∷ []) (s.openings ++ i.opening ∷ []) (s.entries ++ restart_entry ∷ []) l) (sym here.1)
              (next_told told s.openings s.entries s.sources tells there run i.opening i.is)))

      has_opening : (s opened : Story) (run : OpenedRun) → IsOpenedIn s opened run → opened.openings ≢ []
      has_opening s opened run i none = joined_is_none s.openings i.opening [] (sym i.openings ∙ none)

      only_one : (p x : List ℕ) → Contains (p ∷ []) x → p ≡ x
      only_one p x within = of (Contains-push_cases [] p x within)
        where
          of : Contains [] x ⊎ (p ≡ x) → p ≡ x
          of (inl none) = absurd (All-contains (λ y. ⊥) [] x (All-nil (λ y. ⊥)) none)
          of (inr is) = is

      pub known_opened : (r after : Reader) → r.story.doubt ≡ None → IsKnown whole (bytes ++ (feeds count ++ more)) r → (ended : Bool) → (IsTrue ended → 3 ≤ count)
          → (line behind piece rest : List ℕ) (setup : List Node) (base : Option ℕ) (closed : Bool) → HasSetup bytes line behind setup base piece closed rest
          → (way : WasOpened r setup piece r.story.held) → IsRun r after line setup base rest ended r.story way.opens.rows way.member way.state → IsKnown whole more after
      known_opened r after none k ended far line behind piece rest setup base closed h way run = of (lines_sound Counted counting first rest ended run.opened after.story (counted r.story.held way.member way.state base) run.lines)
        where
          first : Running
          first = begun_over r.story.held way.member way.state base

          one : OpenedRun
          one = run_over line setup way.opens.rows way.member way.state

          party : List ℕ
          party = party_of way.member

          is_party : (w : List ℕ) → MayBe after w → key party ≡ key w
          is_party w (other, inl nobody) = absurd (some_is_none party [] (sym run.parties ∙ nobody))
          is_party w (other, inr (p, within, same)) = ap key (only_one party p (subst (λ l. Contains l p) run.parties within)) ∙ same

          narrows : (w : List ℕ) → MayBe after w → MayBe r w
          narrows w may = (subst (λ l. IsOther l w) run.earlier may.0, again way.may.1)
            where
              again : (r.parties ≡ []) ⊎ IsAmong r.parties party → (r.parties ≡ []) ⊎ IsAmong r.parties w
              again (inl nobody) = inl nobody
              again (inr (q, there, also)) = inr (q, there, also ∙ is_party w may)

          joined : (told said : List Happening) → told ++ (Opened one ∷ said) ≡ (told ++ Opened one ∷ []) ++ said
          joined told said = sym (append_assoc told (Opened one ∷ []) said)

          of : AreSound first rest ended run.opened after.story → IsKnown whole more after
          of a = record {
            told = (k.told ++ Opened one ∷ []) ++ a.told;
            tells = tells;
            reached = λ w may. subst (λ l. Reached (Prints w) start whole more l after.story.held) (joined k.told a.told)
                (one_more (Prints w) start whole bytes more k.told (Opened one ∷ a.told) r.story.held after.story.held count (front_of k.told r.story.held w (k.reached w (narrows w may)))
                (opened_prints bytes line behind piece rest setup base closed t h r.story.held way.member way.within way.state way.opens way.tells w (is_party w may) a.told after.story.held a.goes) t.plain enough);
            doubted = doubted;
            others = λ p within. subst (λ l. IsOther l p) (sym run.earlier) (subst (λ x. IsOther r.earlier x) (only_one party p (subst (λ l. Contains l p) run.parties within)) way.may.0);
            some = λ some none. some_is_none party [] (sym run.parties ∙ none);
          }
            where
              has : run.opened.openings ≢ []
              has = has_opening r.story run.opened one run.is

              tells : Tells ((k.told ++ Opened one ∷ []) ++ a.told) after.story.openings after.story.entries after.story.sources
              tells =
                  subst (λ l. Tells ((k.told ++ Opened one ∷ []) ++ a.told) l after.story.entries after.story.sources) (sym a.adds.openings)
                  (subst (λ l. Tells ((k.told ++ Opened one ∷ []) ++ a.told) run.opened.openings l after.story.sources) (sym a.adds.entries)
                  (subst (λ l. Tells ((k.told ++ Opened one ∷ []) ++ a.told) run.opened.openings (run.opened.entries ++ entries_behind a.told) l) (sym a.adds.sources)
                  (came_told (k.told ++ Opened one ∷ []) a.told run.opened.openings run.opened.entries run.opened.sources a.adds.added
                  (still_tells r.story run.opened one k.told k.tells run.is) has a.quiet a.adds.from)))

              one_less : (n : ℕ) → 3 ≤ n → (m : ℕ) × (n ≡ suc m) × (2 ≤ m)
              one_less zero three = absurd (not-suc-le-zero three)
              one_less (suc m) three = (m, refl, omega (arith, three))

              doubted : (d : Doubt) → after.story.doubt ≡ Some d → IsDoubted whole more after ((k.told ++ Opened one ∷ []) ++ a.told) d
              doubted d is = with (subst (λ o. IfSome o (Doubted first rest ended a.told (length run.opened.openings) after.story.held)) is a.doubt)
                where
                  with : Doubted first rest ended a.told (length run.opened.openings) after.story.held d → IsDoubted whole more after ((k.told ++ Opened one ∷ []) ++ a.told) d
                  with x = record {
                    later = x.more;
                    quiet = x.quiet;
                    entries = x.entries;
                    from = subst (λ l. AreSourcesOf (length l) x.more d.sources) (sym a.adds.openings) x.from;
                    reached = λ w may. reached_by w may;
                    some = λ none. some_is_none party [] (sym run.parties ∙ none);
                    one = λ p q here there. ap key (sym (only_one party p (subst (λ l. Contains l p) run.parties here)) ∙ only_one party q (subst (λ l. Contains l q) run.parties there));
                    begun = λ none. has (sym a.adds.openings ∙ none);
                    apart = x.apart;
                  }
                    where
                      less : (m : ℕ) × (count ≡ suc m) × (2 ≤ m)
                      less = one_less count (far x.ends)

                      shifted : bytes ++ (feeds count ++ more) ≡ (bytes ++ 10 ∷ []) ++ (feeds less.0 ++ more)
                      shifted = ap (λ n. bytes ++ (feeds n ++ more)) less.1 ∙ sym (append_assoc bytes (10 ∷ []) (feeds less.0 ++ more))

                      reached_by : (w : List ℕ) → MayBe after w → Reached (Prints w) start whole more (((k.told ++ Opened one ∷ []) ++ a.told) ++ x.more) d.held
                      reached_by w may =
                          subst (λ l. Reached (Prints w) start whole more l d.held) (joined k.told (a.told ++ x.more) ∙ sym (append_assoc (k.told ++ Opened one ∷ []) a.told x.more))
                          (one_more (Prints w) start whole (bytes ++ 10 ∷ []) more k.told (Opened one ∷ (a.told ++ x.more)) r.story.held d.held less.0
                          (subst (λ l. Before (Prints w) start whole l k.told r.story.held) shifted (front_of k.told r.story.held w (k.reached w (narrows w may))))
                          (opened_with_feed bytes line behind piece rest setup base closed t h r.story.held way.member way.within way.state way.opens way.tells w (is_party w may) (a.told ++ x.more) d.held x.goes)
                          (plain_with_feed bytes t) (inr less.2))

      -- ---- whichever run it was

      first_within : (p : List ℕ) (ps : List (List ℕ)) → Contains (p ∷ ps) p
      first_within p ps = Contains-append_left (p ∷ []) ps p (Contains-push [] p)

      some_party : (ps : List (List ℕ)) → ps ≢ [] → (p : List ℕ) × Contains ps p
      some_party [] some = absurd (some refl)
      some_party (p ∷ ps) some = (p, first_within p ps)

      module _ (r after : Reader) (k : IsKnown whole (bytes ++ (feeds count ++ more)) r) (ended : Bool) (far : IsTrue ended → 3 ≤ count) where
        abbrev before : Reader
        before = with_parties r r.parties (left_out r.story)

        -- nothing is known that was not
        unchanged : ((held : Held) (w : List ℕ) → Prints w held bytes [] held) → IsKnown whole more r
        unchanged prints =
            known_still r k r.parties (λ w may. may) k.others k.some (λ d is. let x = k.doubted d is in (x.some, x.one)) (λ w may. prints r.story.held w) (λ d is w may. prints d.held w)

        module _ {line behind piece rest : List ℕ} {setup : List Node} {base : Option ℕ} {closed : Bool} (h : HasSetup bytes line behind setup base piece closed rest) where
          -- a beginning of an opening by one of these
          prints_cut : (parties : List (List ℕ)) → parties ≢ [] → (held : Held) → AreCut r setup closed piece held parties → (w : List ℕ) → IsOther r.earlier w × ((parties ≡ []) ⊎ IsAmong parties w)
              → Prints w held bytes [] held
          prints_cut parties some held cut w (other, inl none) = absurd (some none)
          prints_cut parties some held cut w (other, inr (p, within, same)) = cut_prints r bytes line behind piece rest setup base closed t h held p w (cut.have p within) same

          cut_narrows : (parties : List (List ℕ)) → parties ≢ [] → (held : Held) → AreCut r setup closed piece held parties → (w : List ℕ) → IsOther r.earlier w × ((parties ≡ []) ⊎ IsAmong parties w) → MayBe r w
          cut_narrows parties some held cut w may = still_may r parties r.story some (λ p within. (cut.have p within).may) w may

          cut_others : (parties : List (List ℕ)) → (held : Held) → AreCut r setup closed piece held parties → (p : List ℕ) → Contains parties p → IsOther r.earlier p
          cut_others parties held cut p within = (cut.have p within).may.0

          -- by the party that a doubt leaves
          prints_too : (d : Doubt) → r.story.doubt ≡ Some d → (others : List (List ℕ)) → others ≢ [] → AreCut r setup closed piece d.held others → (w : List ℕ) → MayBe r w → Prints w d.held bytes [] d.held
          prints_too d is others some cut w may =
              let q = some_party others some in
              let m = cut.have q.0 q.1 in
              let x = k.doubted d is in
              cut_prints r bytes line behind piece rest setup base closed t h d.held q.0 w m (one_party r x.some x.one q.0 w m.may may)

        no_doubt : {X : Type 0} (d : Doubt) → None ≡ Some d → X
        no_doubt d is = absurd (let bad : None ≡ Some d = is in cc)

        pub known_by : RunTaken r after bytes ended → IsKnown whole more after
        known_by (read.Unclosed plain same) = subst (IsKnown whole more) (sym same) (unchanged (λ held w. unclosed_prints bytes t plain held w))
        known_by (read.NoSetupThere line behind first fault fails real missing is some same) =
            subst (IsKnown whole more) (sym same) (unchanged (λ held w. fault_prints bytes line behind t first fault fails real missing is held w))
        known_by (read.CutBefore h parties some cut none same) =
            subst (IsKnown whole more) (sym same)
            (known_still before (known_before whole (bytes ++ (feeds count ++ more)) r k) parties (λ w may. cut_narrows h parties some r.story.held cut w may)
            (λ p within. cut_others h parties r.story.held cut p within) (λ any. some) (λ d is. no_doubt d is)
            (λ w may. prints_cut h parties some r.story.held cut w may) (λ d is w may. no_doubt d is))
        known_by (read.CutAfter h none d is parties some cut same) =
            subst (IsKnown whole more) (sym same)
            (known_still (with_parties r r.parties (taken_in r.story d)) (known_after whole (bytes ++ (feeds count ++ more)) r d is k) parties (λ w may. cut_narrows h parties some d.held cut w may)
            (λ p within. cut_others h parties d.held cut p within) (λ any. some) (λ d is. no_doubt d is)
            (λ w may. prints_cut h parties some d.held cut w may) (λ d is w may. no_doubt d is))
        known_by (read.CutEither h parties some cut d is others any cut_too same) =
            subst (IsKnown whole more) (sym same)
            (known_still r k parties (λ w may. cut_narrows h parties some r.story.held cut w may) (λ p within. cut_others h parties r.story.held cut p within) (λ opened. some)
            (λ e there. let x = k.doubted e there in (some, (λ p q here also. one_party r x.some x.one p q (cut.have p here).may (cut.have q also).may)))
            (λ w may. prints_cut h parties some r.story.held cut w may)
            (λ e there w may. subst (λ (x : Doubt). Prints w x.held bytes [] x.held) (same_doubt d e (sym is ∙ there)) (prints_too h d is others any cut_too w (cut_narrows h parties some r.story.held cut w may))))
          where
            same_doubt : (d e : Doubt) → Some d ≡ Some e → d ≡ e
            same_doubt d e is = cc
        known_by (read.OpenedBefore {line = line} {behind = behind} {piece = piece} {rest = rest} {setup = setup} {base = base} {closed = closed} h way run) =
            known_opened before after refl (known_before whole (bytes ++ (feeds count ++ more)) r k) ended far line behind piece rest setup base closed h
            (record { member = way.member; within = way.within; may = way.may; state = way.state; opens = way.opens; tells = way.tells })
            (record { opened = run.opened; is = run.is; lines = run.lines; parties = run.parties; earlier = run.earlier })
        known_by (read.OpenedAfter {line = line} {behind = behind} {piece = piece} {rest = rest} {setup = setup} {base = base} {closed = closed} h d is way run) =
            known_opened (with_parties r r.parties (taken_in r.story d)) after refl (known_after whole (bytes ++ (feeds count ++ more)) r d is k) ended far line behind piece rest setup base closed h
            (record { member = way.member; within = way.within; may = way.may; state = way.state; opens = way.opens; tells = way.tells })
            (record { opened = run.opened; is = run.is; lines = run.lines; parties = run.parties; earlier = run.earlier })
