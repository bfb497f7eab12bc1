-- What a transcript is read as, run by run.
use Rattle.std.proofs.Common.{◌≡◌, ◌≢◌, ◌≤◌, ◌<◌, ℕ, suc, ◌+◌, List, [], ◌∷◌, ◌++◌, Option, None, IfOk, IfErr, Result, Ok, Err, length, inl, refl, sym, ap, ap₂, subst, ◌∙◌, arith, length-append}
use Rattle.std.proofs.lemmas.List.{length-replicate}
use Rattle.ocpi_types.specs.declared.setup.Node.{Node}
use Rattle.world_steps.specs.World.{NodeState}
use Rattle.replays.proofs.Facts.{Runs as Good, Stores, first_stores, fresh, line_facts, malformed_ends, opening_facts}
use Rattle.replays.proofs.FileRead.{IsSoFar, all_read, none_opened, none_printed, none_so_far, one_so_far, some_printed}
use Rattle.replays.proofs.LineFacts.{IsCounted, lines_count}
use Rattle.replays.proofs.TranscriptLemmas.{some_opened}
use Rattle.replays.specs.CutRuns.{HasNumbers, IsNextRun}
use Rattle.replays.specs.Cutting.{feeds}
use Rattle.replays.specs.Fronts.{lines_front}
use Rattle.replays.specs.Happenings.{Happening, openings_in}
use Rattle.replays.specs.LineTurns.{Held, IsNumbered, Store, held_in}
use Rattle.replays.specs.Reading.{Reader, RunRefused, RunTaken, Story, begun_over}
use Rattle.replays.specs.Telling.{AreRunsOf, AreSourcesOf}
use Rattle.replays.specs.Transcripts.{AccusesRightly, HasOwnUrls, IsToldBy, IsTranscriptOf, PrintedBy, TellsOf, Transcript, line_of}
use Rattle.replays.specs.declared.cutting.RunText.{RunText}
use Rattle.replays.specs.declared.cutting.Runs.{Runs}
use Rattle.replays.specs.declared.fault.ReplayFault.{ReplayFault}
use Rattle.replays.specs.declared.fault.ReplayFault.TheVariants as fault

-- what is known of a file, which is read from that on
abbrev pub SoFar : List (List ℕ) → Store → List ℕ → Reader → List ℕ → ℕ → Type 0
SoFar earlier start text r rest number = IsSoFar Stores (HasOwnUrls start.rows) earlier (held_in start) text r rest number

begun_counts : (held : Held) (member : Node) (state : NodeState) (base : Option ℕ) → IsCounted (begun_over held member state base)
begun_counts held member state base = inl refl

reader_is : (r : Reader) (earlier parties : List (List ℕ)) (story : Story) → r.earlier ≡ earlier → r.parties ≡ parties → r.story ≡ story → record { earlier = earlier; parties = parties; story = story } ≡ r
reader_is r earlier parties story a b c =
    ap₂ (λ (x y : List (List ℕ)). record { earlier = x; parties = y; story = story }) (sym a) (sym b) ∙ ap (λ (s : Story). record { earlier = r.earlier; parties = r.parties; story = s }) (sym c)

-- ---- numbers

feeds_long : (count : ℕ) → length (feeds count) ≡ count
feeds_long count = length-replicate count 10

pub run_numbers : (all : Runs) (run : RunText) (next : Runs) → IsNextRun all run next → HasNumbers all.number all.rest.now → HasNumbers run.number run.bytes.now
run_numbers all run next n fits =
    let a = ap length n.is in let b = length-append (feeds n.count) (run.bytes.now ++ next.rest.now) in let c = length-append run.bytes.now next.rest.now in let d = feeds_long n.count in let e = n.number in
    omega (arith, a, b, c, d, e, fits)

pub fewer : (all : Runs) (run : RunText) (next : Runs) → IsNextRun all run next → suc (length next.rest.now) ≤ length all.rest.now
fewer all run next n =
    let a = ap length n.is in let b = length-append (feeds n.count) (run.bytes.now ++ next.rest.now) in let c = length-append run.bytes.now next.rest.now in let d = ap length n.some in
    omega (arith, a, b, c, d)

-- ---- a file

module _ (earlier : List (List ℕ)) (start : Store) (text : List ℕ) (within : IsNumbered start) where
  pub nothing_read : (r : Reader) → r.earlier ≡ earlier → r.parties ≡ [] → r.story ≡ record { held = held_in start; doubt = None; openings = []; entries = []; sources = [] }
      → (rest : List ℕ) (number : ℕ) → rest ≡ text → number ≡ 1 → SoFar earlier start text r rest number
  nothing_read r a b c rest number whole one =
      subst (λ l. SoFar earlier start text r l number) (sym whole) (subst (λ n. SoFar earlier start text r text n) (sym one)
      (subst (λ x. SoFar earlier start text x text 1) (reader_is r earlier [] _ a b c)
      (none_so_far Good line_facts Stores opening_facts IsCounted lines_count begun_counts malformed_ends fresh earlier (held_in start) text (HasOwnUrls start.rows) (λ urls. first_stores start urls within))))

  module _ (r : Reader) (all : Runs) (s : SoFar earlier start text r all.rest.now all.number) where
    module _ (run : RunText) (next : Runs) (n : IsNextRun all run next) where
      pub run_read : (after : Reader) → RunTaken r after run.bytes.now run.is_ended → SoFar earlier start text after next.rest.now next.number
      run_read after taken =
          one_so_far Good line_facts Stores opening_facts IsCounted lines_count begun_counts malformed_ends fresh earlier (held_in start) text (HasOwnUrls start.rows) (λ urls. first_stores start urls within)
          r all s run next n after taken

      pub refused_rightly : (f : ReplayFault) → RunRefused r run.bytes.now run.number (line_of f) → AccusesRightly earlier start text f
      refused_rightly f refused real urls told (w, other, printed) =
          absurd (none_printed Good line_facts Stores opening_facts IsCounted lines_count begun_counts malformed_ends fresh earlier (held_in start) text (HasOwnUrls start.rows)
          (λ urls. first_stores start urls within) r all s run next n (line_of f) refused urls w other told printed)

      pub none_before : (at line : ℕ) → RunRefused r run.bytes.now run.number at → at ≡ suc line → (told : List Happening) × PrintedBy earlier start (lines_front line text) told
      none_before at line refused is =
          let x = some_printed Good line_facts Stores opening_facts IsCounted lines_count begun_counts malformed_ends fresh earlier (held_in start) text (HasOwnUrls start.rows)
          (λ urls. first_stores start urls within) r all s run next n at line refused is in
          (x.2.0, (x.0, x.1, x.2.1))

    -- at its end
    module _ (count : ℕ) (ends : all.rest.now ≡ feeds count) where
      pub transcript_read : (t : Transcript) → IsToldBy r.story t → IsTranscriptOf earlier start text t
      transcript_read t is = (
        s.knows.told,
        all_read Good line_facts Stores opening_facts IsCounted lines_count begun_counts malformed_ends fresh earlier (held_in start) text (HasOwnUrls start.rows)
            (λ urls. first_stores start urls within) r all s count ends,
        tells_of,
      )
        where
          tells_of : TellsOf t s.knows.told
          tells_of = record {
            tells = record {
              opened = subst (AreRunsOf (openings_in s.knows.told)) (sym is.openings) s.knows.tells.opened;
              entered = is.entries ∙ s.knows.tells.entered;
              from = subst (AreSourcesOf 0 s.knows.told) (sym is.sources) s.knows.tells.from;
            };
            some = some_opened s.knows.told r.story.openings r.story.entries r.story.sources s.knows.tells is.some;
          }

      pub none_told : (f : ReplayFault) → f ≡ fault.Wrong 0 → r.story.openings ≡ [] → AccusesRightly earlier start text f
      none_told f is none real urls told (w, other, printed) = (
        is,
        none_opened Good line_facts Stores opening_facts IsCounted lines_count begun_counts malformed_ends fresh earlier (held_in start) text (HasOwnUrls start.rows)
            (λ urls. first_stores start urls within) r all s count ends none urls w other told printed,
      )

-- one that names a line is real
pub named_real : (f : ReplayFault) (n : ℕ) → line_of f ≡ suc n → f ≢ fault.Memory
named_real f n is memory = let bad = sym (ap line_of memory) ∙ is in absurd (omega (arith, bad))
