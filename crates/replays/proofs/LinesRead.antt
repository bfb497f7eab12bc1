-- How the lines of a run are read, one by one.
use Rattle.std.proofs.Common.{◌≡◌, ◌≢◌, ◌<◌, ℕ, zero, suc, ◌+◌, List, [], ◌∷◌, ◌++◌, Bool, None, length, refl, sym, ap, ◌∙◌, append-nil, append_assoc, zero-lt-suc, arith}
use Rattle.world_steps.specs.Steps.{NodeEvent as Deed}
use Rattle.replays.proofs.Before.{no_feed_in}
use Rattle.replays.proofs.Blame.{feeds_join}
use Rattle.replays.proofs.Going.{IsClosed}
use Rattle.replays.proofs.Lines.{quiet_walk}
use Rattle.replays.proofs.Lists.{IsPlain}
use Rattle.replays.proofs.Told.{behind_join, sources_join}
use Rattle.replays.specs.Answering.{IsOtherwise}
use Rattle.replays.specs.Fronts.{feeds_of}
use Rattle.replays.specs.Happenings.{Placed, came_by, entries_behind, openings_in}
use Rattle.replays.specs.LineTurns.{IsLeftBy, IsLine, LineGives, Running, echo_of}
use Rattle.replays.specs.Reading as read
use Rattle.replays.specs.Reading.{Adds, LinesDiffer, LinesTaken, Story, Tail}
use Rattle.replays.specs.RunParts.{AreRead, IsRestOfRun}
use Rattle.replays.specs.Telling.{AreSourcesOf}
use Rattle.replays.specs.Walks.{no_line, one_line}
use Rattle.replays.specs.declared.transcript.Source.{Source}

-- ---- line feeds

one_feed : (out : List ℕ) → feeds_of (10 ∷ out) ≡ suc (feeds_of out)
unfolding feeds_of
one_feed out = refl

feeds_of_echo : (line out : List ℕ) → IsPlain line → feeds_of (echo_of line ++ out) ≡ suc (feeds_of out)
feeds_of_echo line out plain =
    let whole = ap feeds_of (append_assoc line (10 ∷ []) out) ∙ feeds_join line (10 ∷ out) in
    let none = no_feed_in line plain in
    let one = one_feed out in
    omega (arith, whole, none, one)

pub no_feeds : feeds_of [] ≡ 0
unfolding feeds_of
no_feeds = refl

-- ---- where nothing was read yet

pub none_read : (first : Running) (all : List ℕ) (s : Story) (number : ℕ) → IsRestOfRun all → s.doubt ≡ None → AreRead first all s number first all s number
none_read first all s number fits doubt = record {
  text = [];
  told = [];
  is = refl;
  walks = no_line;
  adds = record { openings = refl; entries = sym (append-nil s.entries); added = []; sources = sym (append-nil s.sources); from = none_from (length s.openings) };
  doubt = doubt;
  fits = fits;
  counted = let none = no_feeds in omega (arith, none);
}
  where
    none_from : (n : ℕ) → AreSourcesOf n [] []
    none_from zero = tt
    none_from (suc n) = tt

-- ---- one line more

module _ (first : Running) (all : List ℕ) (s : Story) (number : ℕ) (now : Running) (rest : List ℕ) (t : Story) (at : ℕ) (r : AreRead first all s number now rest t at) where
  -- what ends the lines: a line without its line feed, or nothing
  pub to_tail : (ended : Bool) (u : Story) → IsPlain rest → IsOtherwise t u → IsLeftBy now u.held → Tail now rest ended (length s.openings) u.doubt → LinesTaken first all ended s u
  to_tail ended u plain same left tail =
      read.AtTail r.text rest r.told now r.is r.walks plain
      (record { openings = same.openings ∙ r.adds.openings; entries = same.entries ∙ r.adds.entries; added = r.adds.added; sources = same.sources ∙ r.adds.sources; from = r.adds.from })
      left tail

  module _ (line more : List ℕ) (is : rest ≡ line ++ 10 ∷ more) (plain : IsPlain line) where
    pub fed : IsLine line
    fed = record { some = of line is; plain = plain }
      where
        of : (l : List ℕ) → rest ≡ l ++ 10 ∷ more → 0 < length l
        of [] none = absurd (r.fits.plain [] more (ap (λ l. 10 ∷ l) none))
        of (c ∷ l) some = zero-lt-suc (length l)

    -- something stands behind it
    pub some_more : more ≢ []
    some_more none = r.fits.ends line (is ∙ ap (λ l. line ++ 10 ∷ l) none)

    all_is : all ≡ r.text ++ (echo_of line ++ more)
    all_is = r.is ∙ ap (λ l. r.text ++ l) (is ∙ sym (append_assoc line (10 ∷ []) more))

    module _ (out : List ℕ) (entered : List Placed) (did : List Deed) (next : Running) (gives : LineGives now line out entered did next) (u : Story)
        (openings : u.openings ≡ t.openings) (doubt : u.doubt ≡ t.doubt) (entries : u.entries ≡ t.entries ++ entries_behind (came_by line entered))
        (added : List Source) (sources : u.sources ≡ t.sources ++ added) (from : AreSourcesOf (length s.openings) (came_by line entered) added) where
      adds_one : Adds (r.told ++ came_by line entered) s u
      adds_one = record {
        openings = openings ∙ r.adds.openings;
        entries = entries ∙ ap (λ l. l ++ entries_behind (came_by line entered)) r.adds.entries
            ∙ append_assoc s.entries (entries_behind r.told) (entries_behind (came_by line entered)) ∙ ap (λ l. s.entries ++ l) (sym (behind_join r.told (came_by line entered)));
        added = r.adds.added ++ added;
        sources = sources ∙ ap (λ l. l ++ added) r.adds.sources ∙ append_assoc s.sources r.adds.added added;
        from = sources_join (length s.openings) (length s.openings) r.told (came_by line entered) r.adds.added added r.adds.from count from;
      }
        where
          count : length s.openings + length (openings_in r.told) ≡ length s.openings
          count = let none = ap length (quiet_walk first now r.text r.told r.walks) in omega (arith, none)

      -- what it gives stands there, whole
      pub one_read : (left : List ℕ) → IsClosed out → more ≡ out ++ left → AreRead first all s number next left u (at + 1 + feeds_of out)
      one_read left (body, closed) whole = record {
        text = r.text ++ (echo_of line ++ out);
        told = r.told ++ came_by line entered;
        is = all_is ∙ ap (λ l. r.text ++ (echo_of line ++ l)) whole ∙ ap (λ l. r.text ++ l) (sym (append_assoc (echo_of line) out left)) ∙ sym (append_assoc r.text (echo_of line ++ out) left);
        walks = one_line r.walks line fed out entered did next gives;
        adds = adds_one;
        doubt = doubt ∙ r.doubt;
        fits = record {
          plain = λ before after e. r.fits.plain ((10 ∷ (line ++ 10 ∷ body)) ++ before) after (ap (λ l. 10 ∷ l) (behind_it before (10 ∷ 10 ∷ after) e));
          ends = λ before e. r.fits.ends ((line ++ 10 ∷ (body ++ 10 ∷ [])) ++ before) (at_end before e);
        };
        counted = let joined = feeds_join r.text (echo_of line ++ out) in let one = feeds_of_echo line out plain in let so = r.counted in omega (arith, joined, one, so);
      }
        where
          rest_is : rest ≡ (line ++ 10 ∷ body) ++ 10 ∷ left
          rest_is = is ∙ ap (λ l. line ++ 10 ∷ l) (whole ∙ ap (λ l. l ++ left) closed ∙ append_assoc body (10 ∷ []) left) ∙ sym (append_assoc line (10 ∷ body) (10 ∷ left))

          behind_it : (before tail : List ℕ) → 10 ∷ left ≡ before ++ tail → rest ≡ ((line ++ 10 ∷ body) ++ before) ++ tail
          behind_it before tail e = rest_is ∙ ap (λ l. (line ++ 10 ∷ body) ++ l) e ∙ sym (append_assoc (line ++ 10 ∷ body) before tail)

          at_end : (before : List ℕ) → left ≡ before ++ 10 ∷ [] → rest ≡ ((line ++ 10 ∷ (body ++ 10 ∷ [])) ++ before) ++ 10 ∷ []
          at_end before e =
              rest_is ∙ ap (λ l. (line ++ 10 ∷ body) ++ 10 ∷ l) e ∙ sym (append_assoc (line ++ 10 ∷ body) (10 ∷ []) (before ++ 10 ∷ []))
              ∙ ap (λ l. l ++ (before ++ 10 ∷ [])) (append_assoc line (10 ∷ body) (10 ∷ [])) ∙ sym (append_assoc (line ++ 10 ∷ (body ++ 10 ∷ [])) before (10 ∷ []))

      -- a beginning of it does
      pub to_gift : (ended : Bool) (v : Story) (missing : List ℕ) → out ≡ more ++ missing → IsOtherwise u v → IsLeftBy next v.held → v.doubt ≡ u.doubt → LinesTaken first all ended s v
      to_gift ended v missing cut same left certain =
          read.AtGift r.text line more r.told now all_is r.walks fed some_more out entered did next gives missing cut
          (record { openings = same.openings ∙ adds_one.openings; entries = same.entries ∙ adds_one.entries; added = adds_one.added; sources = same.sources ∙ adds_one.sources; from = adds_one.from })
          left (certain ∙ doubt ∙ r.doubt)

      -- something else does
      pub differs : ((m : List ℕ) → out ≢ more ++ m) → ((m : List ℕ) → more ≢ out ++ m) → (d : LinesDiffer first all) × (at ≡ number + feeds_of d.text)
      differs not_cut not_whole = (
        record {
          text = r.text;
          line = line;
          more = more;
          told = r.told;
          now = now;
          is = all_is;
          walks = r.walks;
          fed = fed;
          out = out;
          entered = entered;
          did = did;
          next = next;
          gives = gives;
          not_cut = not_cut;
          not_whole = not_whole;
        },
        r.counted,
      )
