-- Whatever run printed what was read, it left what is known; and none printed what is refused.
use Rattle.std.proofs.Common.{◌≡◌, ◌≢◌, ◌⊎◌, ℕ, ◌+◌, List, [], ◌∷◌, ◌++◌, All, Bool, IsTrue, Option, None, Some, Contains, length, inl, inr, refl, sym, ap, subst, ◌∙◌, append_assoc, arith, length-append}
use Rattle.std.proofs.lemmas.List.Elements.{All-contains, All-nil, Contains-append_left, Contains-push}
use Rattle.json_text.specs.Fault.{Fails as FailsToRead}
use Rattle.json_text.specs.declared.fault.JsonFault.TheVariants.{Memory}
use Rattle.json_text.specs.declared.fault.JsonFault.{JsonFault}
use Rattle.node_runs.specs.DoneLines.{malformed_line}
use Rattle.node_runs.specs.SetupLines.{numbered_setup_in}
use Rattle.ocpi_text.specs.Text.{key}
use Rattle.ocpi_types.specs.Setups.{party_of}
use Rattle.ocpi_types.specs.declared.setup.Node.{Node}
use Rattle.stored_laws.specs.Nodes.{last_serial}
use Rattle.replays.proofs.Known.{AreOne, one_party}
use Rattle.replays.proofs.Lines.{Alike, Gifts, IsOption, lines_ended, lines_whole, not_printed, not_with_feed}
use Rattle.replays.proofs.Lists.{joined_is_none}
use Rattle.replays.proofs.Only.{Openings, Went, cut_seen, opened_seen}
use Rattle.replays.proofs.Seen.{Bare, CutShort, Fault, Seen, WentOn, seen, unclosed}
use Rattle.replays.proofs.Sound.{IsText, some_behind}
use Rattle.replays.specs.Happenings.{Happening, openings_in}
use Rattle.replays.specs.LineTurns.{Held, Running}
use Rattle.replays.specs.Printed.{GoesOn, Prints}
use Rattle.replays.specs.Reading as read
use Rattle.replays.specs.Reading.{AreCut, Doubt, HasSetup, IsFirstLine, IsOther, IsRun, LinesDiffer, LinesTaken, MayBe, Reader, RunRefused, RunTaken, Story, WasOpened, begun_over, left_out, taken_in, with_parties}

-- what is known of a line in doubt
pub record IsSingle (r : Reader) (d : Doubt) : Type 0 where
  pub some : r.parties ≢ []
  pub one : AreOne r.parties
  pub apart : d.held.line ≢ r.story.held.line

-- what follows of a run that printed a text
pub record Onward (r after : Reader) (bytes run : List ℕ) (ended : Bool) (w : List ℕ) (said : List Happening) (left : Held) : Type 0 where
  pub quiet : after.story.openings ≡ [] → openings_in said ≡ []
  pub goes : ((run ≡ bytes) ⊎ IsTrue ended) → MayBe after w × IsOption after.story left

pub none_within : {X A : Type 0} (x : A) → Contains {X = A} [] x → X
none_within x within = absurd (All-contains (λ y. ⊥) [] x (All-nil (λ y. ⊥)) within)

same_some : (d e : Doubt) (o : Option Doubt) → o ≡ Some d → o ≡ Some e → d ≡ e
same_some d e o a b = of (sym a ∙ b)
  where
    of : Some d ≡ Some e → d ≡ e
    of is = cc

module _ (Good : Running → Type 0) (gifts : Gifts Good) (Own : Held → Type 0) (known : Openings Good Own)
    (r : Reader) (bytes : List ℕ) (t : IsText bytes) (single : (d : Doubt) → r.story.doubt ≡ Some d → IsSingle r d)
    (own : Own r.story.held) (own_too : (d : Doubt) → r.story.doubt ≡ Some d → Own d.held)
    (w : List ℕ) (may : MayBe r w) (left : Held) (option : IsOption r.story left) (run : List ℕ) (said : List Happening) (next : Held) (one : Prints w left run said next)
    (ends : (run ≡ bytes) ⊎ (run ≡ bytes ++ 10 ∷ [])) where
  -- what stands behind the first line
  record Rest (line behind : List ℕ) : Type 0 where
    also : List ℕ
    is : (also ≡ behind) ⊎ (also ≡ behind ++ 10 ∷ [])
    whole : run ≡ line ++ 10 ∷ also
    some : also ≢ []

  rest_of : (line behind : List ℕ) → IsFirstLine bytes line behind → Rest line behind
  rest_of line behind f = of ends
    where
      of : (run ≡ bytes) ⊎ (run ≡ bytes ++ 10 ∷ []) → Rest line behind
      of (inl is) = record { also = behind; is = inl refl; whole = is ∙ f.is; some = some_behind bytes line behind t f }
      of (inr is) = record {
        also = behind ++ 10 ∷ [];
        is = inr refl;
        whole = is ∙ ap (λ l. l ++ 10 ∷ []) f.is ∙ append_assoc line (10 ∷ behind) (10 ∷ []);
        some = λ none. joined_is_none behind 10 [] none;
      }

  seen_behind : (line behind : List ℕ) → (f : IsFirstLine bytes line behind) → (x : Rest line behind) → Seen w left line x.also said next
  seen_behind line behind f x = seen w left run said next one line x.also f.plain x.some x.whole

  -- whatever is known is still known
  same_option : next ≡ left → IsOption r.story next
  same_option same = subst (IsOption r.story) (sym same) option

  still : said ≡ [] → next ≡ left → (ended : Bool) → Onward r r bytes run ended w said next
  still none same ended = record { quiet = λ empty. ap openings_in none; goes = λ far. (may, same_option same) }

  -- where a line has no reading as a setup
  no_setup : {X : Type 0} (line behind : List ℕ) (f : IsFirstLine bytes line behind) (fault : JsonFault) → FailsToRead fault (numbered_setup_in line) → fault ≢ Memory
      → ((other : JsonFault) → fault ≡ other → (missing : List ℕ) → malformed_line 1 None other ≡ (rest_of line behind f).also ++ missing → said ≡ [] → next ≡ left → X) → X
  no_setup {X = X} line behind f fault fails real then = of (seen_behind line behind f (rest_of line behind f))
    where
      of : Seen w left line (rest_of line behind f).also said next → X
      of (Fault other misses true_too missing is none same) = then other (known.one_fault line fault other fails real misses true_too) missing is none same
      of (CutShort o missing is long none same) = absurd (known.no_fault line o.setup o.base fault fails real o.reads)
      of (Bare o is told kept) = absurd (known.no_fault line o.setup o.base fault fails real o.reads)
      of (WentOn o text told is also on) = absurd (known.no_fault line o.setup o.base fault fails real o.reads)

  module _ {line behind piece rest : List ℕ} {setup : List Node} {base : Option ℕ} {closed : Bool} (h : HasSetup bytes line behind setup base piece closed rest) where
    -- the cut line of an opening over one of two stores
    cut_so : (held : Held) (alike : Alike held left) (parties : List (List ℕ)) → AreCut r setup closed piece held parties
        → (said ≡ []) × (next ≡ left) × ((p : List ℕ) × Contains parties p × (key p ≡ key w))
    cut_so held alike parties cut =
        let x = rest_of line behind h.first in
        let s = cut_seen Good gifts Own known r bytes line behind piece rest setup base closed h w may held left alike parties cut x.also said next x.is (seen_behind line behind h.first x) in
        (s.0, s.1, (s.2.party, s.2.within, s.2.same))

    -- what the node that was opened printed
    record GoesSo (over : Held) (way : WasOpened r setup piece over) (held : Held) : Type 0 where
      here : held ≡ over
      same : key (party_of way.member) ≡ key w
      told : List Happening
      on : GoesOn (begun_over over way.member way.state base) rest told next ⊎ ((run ≡ bytes ++ 10 ∷ []) × GoesOn (begun_over over way.member way.state base) (rest ++ 10 ∷ []) told next)

    went_so : (over : Held) (way : WasOpened r setup piece over) (held : Held) → (held.line ≡ over.line → held ≡ over) → Alike held left → Own held → Own over → GoesSo over way held
    went_so over way held number alike owned owned_too = of ends
      where
        x : Rest line behind
        x = rest_of line behind h.first

        s : Went Good gifts Own known r bytes line behind piece rest setup base closed h w may held left over alike way number owned owned_too x.also said next
        s = opened_seen Good gifts Own known r bytes line behind piece rest setup base closed h w may held left over alike way number owned owned_too x.also said next x.is (seen_behind line behind h.first x)

        longer : (run ≡ bytes) → x.also ≡ behind ++ 10 ∷ [] → ⊥
        longer is also =
            let whole : line ++ 10 ∷ behind ≡ line ++ 10 ∷ (behind ++ 10 ∷ []) = sym h.first.is ∙ sym is ∙ x.whole ∙ ap (λ l. line ++ 10 ∷ l) also in
            let size = ap length whole in
            let a = length-append line (10 ∷ behind) in
            let b = length-append line (10 ∷ (behind ++ 10 ∷ [])) in
            let c = length-append behind (10 ∷ []) in
            omega (arith, size, a, b, c)

        of : (run ≡ bytes) ⊎ (run ≡ bytes ++ 10 ∷ []) → GoesSo over way held
        of (inl is) = record { here = s.here; same = s.party; told = s.told; on = by s.on }
          where
            by : GoesOn (begun_over over way.member way.state base) rest s.told next ⊎ ((x.also ≡ behind ++ 10 ∷ []) × GoesOn (begun_over over way.member way.state base) (rest ++ 10 ∷ []) s.told next)
                → GoesOn (begun_over over way.member way.state base) rest s.told next ⊎ ((run ≡ bytes ++ 10 ∷ []) × GoesOn (begun_over over way.member way.state base) (rest ++ 10 ∷ []) s.told next)
            by (inl on) = inl on
            by (inr (also, on)) = absurd (longer is also)
        of (inr is) = record { here = s.here; same = s.party; told = s.told; on = by s.on }
          where
            by : GoesOn (begun_over over way.member way.state base) rest s.told next ⊎ ((x.also ≡ behind ++ 10 ∷ []) × GoesOn (begun_over over way.member way.state base) (rest ++ 10 ∷ []) s.told next)
                → GoesOn (begun_over over way.member way.state base) rest s.told next ⊎ ((run ≡ bytes ++ 10 ∷ []) × GoesOn (begun_over over way.member way.state base) (rest ++ 10 ∷ []) s.told next)
            by (inl on) = inl on
            by (inr (also, on)) = inr (is, on)

    -- ---- what was read

    by_parties : (parties : List (List ℕ)) (story : Story) → parties ≢ [] → ((p : List ℕ) × Contains parties p × (key p ≡ key w)) → MayBe (with_parties r parties story) w
    by_parties parties story some (p, within, same) = (may.0, inr (p, within, same))

    opened_on : (over : Held) (way : WasOpened r setup piece over) (held : Held) (g : GoesSo over way held) (after : Reader) (ended : Bool) (s : Story) → over ≡ s.held → Own over
        → IsRun r after line setup base rest ended s way.opens.rows way.member way.state → Onward r after bytes run ended w said next
    opened_on over way held g after ended s is owned x = record {
      quiet = λ none. absurd (has none);
      goes = λ far. (is_party, of g.on far);
    }
      where
        fine : Good (begun_over s.held way.member way.state base)
        fine = subst (λ (k : Held). Good (begun_over k way.member way.state base)) is (known.good line setup base h.reads way.member way.within over owned way.state way.opens)

        has : after.story.openings ≢ []
        has none = joined_is_none s.openings x.is.opening [] (sym x.is.openings ∙ sym (opened_same x.lines) ∙ none)
          where
            opened_same : LinesTaken (begun_over s.held way.member way.state base) rest ended x.opened after.story → after.story.openings ≡ x.opened.openings
            opened_same (read.AtTail text tail told now is walks plain adds kept there) = adds.openings
            opened_same (read.AtGift text line more told now is walks fed some out entered did next gives missing cut adds kept none) = adds.openings

        is_party : MayBe after w
        is_party = (subst (λ l. IsOther l w) (sym x.earlier) may.0, inr (party_of way.member, subst (λ l. Contains l (party_of way.member)) (sym x.parties) (Contains-push [] (party_of way.member)), g.same))

        of : GoesOn (begun_over over way.member way.state base) rest g.told next ⊎ ((run ≡ bytes ++ 10 ∷ []) × GoesOn (begun_over over way.member way.state base) (rest ++ 10 ∷ []) g.told next)
            → ((run ≡ bytes) ⊎ IsTrue ended) → IsOption after.story next
        of (inl on) far =
            inl (lines_whole Good gifts (begun_over s.held way.member way.state base) rest ended x.opened after.story fine x.lines g.told next
            (subst (λ (k : Held). GoesOn (begun_over k way.member way.state base) rest g.told next) is on))
        of (inr (whole, on)) (inl short) = absurd (longer (sym short ∙ whole))
          where
            longer : bytes ≡ bytes ++ 10 ∷ [] → ⊥
            longer same = let size = ap length same in let a = length-append bytes (10 ∷ []) in omega (arith, size, a)
        of (inr (whole, on)) (inr ended_so) =
            lines_ended Good gifts (begun_over s.held way.member way.state base) rest ended x.opened after.story fine x.lines ended_so g.told next
            (subst (λ (k : Held). GoesOn (begun_over k way.member way.state base) (rest ++ 10 ∷ []) g.told next) is on)

    -- the numbers of two stores differ where one is in doubt
    number_before : (held : Held) → (held ≡ r.story.held) ⊎ ((d : Doubt) × (r.story.doubt ≡ Some d) × (held ≡ d.held)) → held.line ≡ r.story.held.line → held ≡ r.story.held
    number_before held (inl is) same = is
    number_before held (inr (d, is, at)) same = absurd ((single d is).apart (ap (λ (k : Held). k.line) (sym at) ∙ same))

    number_after : (d : Doubt) → r.story.doubt ≡ Some d → (held : Held) → (held ≡ r.story.held) ⊎ ((e : Doubt) × (r.story.doubt ≡ Some e) × (held ≡ e.held)) → held.line ≡ d.held.line → held ≡ d.held
    number_after d is held (inl at) same = absurd ((single d is).apart (sym same ∙ ap (λ (k : Held). k.line) at))
    number_after d is held (inr (e, there, at)) same = at ∙ ap (λ (x : Doubt). x.held) (same_some e d r.story.doubt there is)

    -- which store it was opened over
    record At : Type 0 where
      held : Held
      alike : Alike held left
      which : (held ≡ r.story.held) ⊎ ((d : Doubt) × (r.story.doubt ≡ Some d) × (held ≡ d.held))

    at : At
    at = of option
      where
        of : IsOption r.story left → At
        of (inl alike) = record { held = r.story.held; alike = alike; which = inl refl }
        of (inr (d, is, alike)) = record { held = d.held; alike = alike; which = inr (d, is, refl) }

    -- it is of this node
    own_of : (held : Held) → (held ≡ r.story.held) ⊎ ((d : Doubt) × (r.story.doubt ≡ Some d) × (held ≡ d.held)) → Own held
    own_of held (inl is) = subst Own (sym is) own
    own_of held (inr (d, there, is)) = subst Own (sym is) (own_too d there)

    -- a cut opening by the store that it was
    pub data CutAt (parties : List (List ℕ)) (others : (d : Doubt) → r.story.doubt ≡ Some d → List (List ℕ)) : Type 0 where
      There : Alike r.story.held left → said ≡ [] → next ≡ left → (p : List ℕ) → Contains parties p → key p ≡ key w → CutAt parties others
      Behind : (d : Doubt) (is : r.story.doubt ≡ Some d) → Alike d.held left → said ≡ [] → next ≡ left → (p : List ℕ) → Contains (others d is) p → key p ≡ key w → CutAt parties others

    cut_at : (parties : List (List ℕ)) → AreCut r setup closed piece r.story.held parties → (others : (d : Doubt) → r.story.doubt ≡ Some d → List (List ℕ))
        → ((d : Doubt) → (is : r.story.doubt ≡ Some d) → AreCut r setup closed piece d.held (others d is)) → CutAt parties others
    cut_at parties cut others cut_too = of option
      where
        of : IsOption r.story left → CutAt parties others
        of (inl alike) = let x = cut_so r.story.held alike parties cut in There alike x.0 x.1 x.2.0 x.2.1 x.2.2
        of (inr (d, is, alike)) = let x = cut_so d.held alike (others d is) (cut_too d is) in Behind d is alike x.0 x.1 x.2.0 x.2.1 x.2.2

  pub onward : (after : Reader) (ended : Bool) → RunTaken r after bytes ended → Onward r after bytes run ended w said next
  onward after ended (read.Unclosed plain same) =
      let x = unclosed w left (λ at o. known.closed left.line (party_of o.member) (length o.rows) (last_serial o.state)) run said next one bytes plain ends
      (λ at o. known.long left.line (party_of o.member) (length o.rows) (last_serial o.state)) in
      subst (λ a. Onward r a bytes run ended w said next) (sym same) (still x.0 x.1 ended)
  onward after ended (read.NoSetupThere line behind f fault fails real missing is some same) =
      no_setup line behind f fault fails real (λ other faults more cut none left_so. subst (λ a. Onward r a bytes run ended w said next) (sym same) (still none left_so ended))
  onward after ended (read.CutBefore {piece = piece} {setup = setup} {closed = closed} h parties some cut none same) =
      subst (λ a. Onward r a bytes run ended w said next) (sym same) (of (cut_at h parties cut (λ d is. []) none))
    where
      of : CutAt h parties (λ d is. []) → Onward r (with_parties r parties (left_out r.story)) bytes run ended w said next
      of (There alike quiet left_so p within is) = record {
        quiet = λ empty. ap openings_in quiet;
        goes = λ far. (by_parties h parties (left_out r.story) some (p, within, is), inl (subst (λ l. Alike r.story.held l) (sym left_so) alike));
      }
      of (Behind d there alike quiet left_so p within is) = none_within p within
  onward after ended (read.CutAfter {piece = piece} {setup = setup} {closed = closed} h none d doubt parties some cut same) =
      subst (λ a. Onward r a bytes run ended w said next) (sym same) (of (cut_at h [] none (λ e is. parties) (λ e is. subst (λ (x : Doubt). AreCut r setup closed piece x.held parties) (same_some d e r.story.doubt doubt is) cut)))
    where
      of : CutAt h [] (λ e is. parties) → Onward r (with_parties r parties (taken_in r.story d)) bytes run ended w said next
      of (There alike quiet left_so p within is) = none_within p within
      of (Behind e there alike quiet left_so p within is) = record {
        quiet = λ empty. ap openings_in quiet;
        goes = λ far. (by_parties h parties (taken_in r.story d) some (p, within, is), inl (subst (λ l. Alike d.held l) (sym left_so) (subst (λ (x : Doubt). Alike x.held left) (same_some e d r.story.doubt there doubt) alike)));
      }
  onward after ended (read.CutEither {piece = piece} {setup = setup} {closed = closed} h parties some cut d doubt others any cut_too same) =
      subst (λ a. Onward r a bytes run ended w said next) (sym same) (of (cut_at h parties cut (λ e is. others) (λ e is. subst (λ (x : Doubt). AreCut r setup closed piece x.held others) (same_some d e r.story.doubt doubt is) cut_too)))
    where
      -- (all of them are one)
      there_too : (l : List (List ℕ)) → ((p : List ℕ) → Contains l p → MayBe r p) → l ≢ [] → (p : List ℕ) × Contains l p × (key p ≡ key w)
      there_too [] each some = absurd (some refl)
      there_too (p ∷ l) each some =
          let within = Contains-append_left (p ∷ []) l p (Contains-push [] p) in
          (p, within, one_party r (single d doubt).some (single d doubt).one p w (each p within) may)

      of : CutAt h parties (λ e is. others) → Onward r (with_parties r parties r.story) bytes run ended w said next
      of (There alike quiet left_so p within is) = record {
        quiet = λ empty. ap openings_in quiet;
        goes = λ far. (by_parties h parties r.story some (p, within, is), same_option left_so);
      }
      of (Behind e there alike quiet left_so p within is) = record {
        quiet = λ empty. ap openings_in quiet;
        goes = λ far. (by_parties h parties r.story some (there_too parties (λ q inside. (cut.have q inside).may) some), same_option left_so);
      }
  onward after ended (read.OpenedBefore h way run_so) =
      let x = at h in
      opened_on h r.story.held way x.held (went_so h r.story.held way x.held (number_before h x.held x.which) x.alike (own_of h x.held x.which) own) after ended (left_out r.story) refl own run_so
  onward after ended (read.OpenedAfter h d doubt way run_so) =
      let x = at h in
      opened_on h d.held way x.held (went_so h d.held way x.held (number_after h d doubt x.held x.which) x.alike (own_of h x.held x.which) (own_too d doubt)) after ended (taken_in r.story d) refl (own_too d doubt) run_so

  -- ---- what was refused

  differs : {line behind piece rest : List ℕ} {setup : List Node} {base : Option ℕ} {closed : Bool} (h : HasSetup bytes line behind setup base piece closed rest)
      (over : Held) (owned : Own over) (way : WasOpened r setup piece over) (held : Held) → GoesSo h over way held → LinesDiffer (begun_over over way.member way.state base) rest → ⊥
  differs {line = line} {rest = rest} {setup = setup} {base = base} h over owned way held g d = of g.on
    where
      fine : Good (begun_over over way.member way.state base)
      fine = known.good line setup base h.reads way.member way.within over owned way.state way.opens

      of : GoesOn (begun_over over way.member way.state base) rest g.told next ⊎ ((run ≡ bytes ++ 10 ∷ []) × GoesOn (begun_over over way.member way.state base) (rest ++ 10 ∷ []) g.told next) → ⊥
      of (inl on) = not_printed Good gifts (begun_over over way.member way.state base) rest fine d g.told next on
      of (inr (is, on)) = not_with_feed Good gifts (begun_over over way.member way.state base) rest fine d g.told next on

  pub refused : (number at : ℕ) → RunRefused r bytes number at → ⊥
  refused number place (read.SaysElse line behind f fault fails real none where_so) =
      no_setup line behind f fault fails real (λ other faults missing cut quiet left_so. of (rest_of line behind f).is other faults missing cut)
    where
      of : ((rest_of line behind f).also ≡ behind) ⊎ ((rest_of line behind f).also ≡ behind ++ 10 ∷ []) → (other : JsonFault) → fault ≡ other → (missing : List ℕ)
          → malformed_line 1 None other ≡ (rest_of line behind f).also ++ missing → ⊥
      of (inl is) other faults missing cut = none missing (ap (malformed_line 1 None) faults ∙ cut ∙ ap (λ l. l ++ missing) is)
      of (inr is) other faults missing cut =
          none (10 ∷ missing) (ap (malformed_line 1 None) faults ∙ cut ∙ ap (λ l. l ++ missing) is ∙ append_assoc behind (10 ∷ []) missing)
  refused number place (read.NotOpened h none none_too where_so) = of (cut_at h [] none (λ d is. []) none_too)
    where
      of : CutAt h [] (λ d is. []) → ⊥
      of (There alike quiet left_so p within is) = none_within p within
      of (Behind d there alike quiet left_so p within is) = none_within p within
  refused number place (read.DiffersBefore h way d where_so) =
      let x = at h in
      differs h r.story.held own way x.held (went_so h r.story.held way x.held (number_before h x.held x.which) x.alike (own_of h x.held x.which) own) d
  refused number place (read.DiffersAfter h d doubt way apart where_so) =
      let x = at h in
      differs h d.held (own_too d doubt) way x.held (went_so h d.held way x.held (number_after h d doubt x.held x.which) x.alike (own_of h x.held x.which) (own_too d doubt)) apart
