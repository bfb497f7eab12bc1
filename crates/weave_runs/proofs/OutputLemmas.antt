-- What is written of transcripts.
use Rattle.std.proofs.Common.{◌≡◌, ◌⊎◌, ◌∙◌, ℕ, ◌+◌, ◌≤◌, List, [], ◌∷◌, ◌++◌, append-nil, drop, Option, Result, IfErr, IfOk, ap, map, sym, subst, take, arith, refl, inl, inr, Ok, Err, string_bytes}
use Rattle.std.proofs.lemmas.Option.{slice_get_within}
use Rattle.std.specs.Borrow.{Bor}
use Rattle.std.specs.Io.KnownBytes.{Appends}
use Rattle.std.specs.Prelude.{◌≢◌, Contains, Some, slice_get}
use Rattle.ocpi_types.specs.declared.node_events.NodeEventKind.TheVariants as event
use Rattle.ocpi_types.specs.declared.packet.Packet.{Packet}
use Rattle.ocpi_types.specs.declared.setup.Node.{Node}
use Rattle.histories.specs.declared.entry.Entry.{Entry}
use Rattle.histories.specs.declared.history.NodeHistory.{NodeHistory}
use Rattle.histories.specs.Entries.{Delivers, packets_of}
use Rattle.histories.specs.Weaving.{Woven, event_of}
use Rattle.histories.proofs.Lists.{is_in, some_same, stands, take_one}
use Rattle.given_laws.specs.Laws.{OwnInterleavingsAreNetworkRuns}
use Rattle.history_laws.specs.Laws.{InterleavingsAreRuns}
use Rattle.line_runs.specs.declared.outcome.Ran.{Ran}
use Rattle.line_runs.specs.declared.outcome.RunFault.TheVariants.{WriteFailed}
use Rattle.node_replay.specs.Replayed.{restart_entry}
use Rattle.reopening_laws.specs.Nodes.{NodesReopen, NodesStay}
use Rattle.replays.specs.Transcripts.{Transcript}
use Rattle.replays.specs.declared.transcript.Opening.{Opening}
use Rattle.replays.specs.declared.transcript.Source.{Source}
use Rattle.replays.specs.declared.transcript.Source.TheVariants as origin
use Rattle.tables.proofs.Elements.{in_front, in_none}
use Rattle.weave.specs.Faults.{EntryAt}
use Rattle.weave.specs.Given.{CanInterleaveWith, NoneGiven}
use Rattle.weave.specs.TurnFaults.{ExplainsTurns, IsSentOtherwiseBy}
use Rattle.weave.specs.Turns.{IsOrderWith}
use Rattle.weave.specs.declared.turn.Turn.{Turn}
use Rattle.weave.specs.declared.turn_fault.TurnFault.{TurnFault}
use Rattle.weave.specs.declared.turn_fault.TurnFault.TheVariants as weave
use Rattle.world_laws.specs.Laws.{IsSetup}
use Rattle.weave_runs.specs.declared.fault.WeaveRunFault.{WeaveRunFault}
use Rattle.weave_runs.specs.declared.fault.WeaveRunFault.TheVariants.{Run}
use Rattle.weave_runs.specs.declared.told.TranscriptFile.{TranscriptFile}
use Rattle.weave_runs.specs.declared.weaving.Written.{Written}
use Rattle.weave_runs.specs.declared.weaving.Written.TheVariants as written
use Rattle.weave_runs.specs.Histories.{AreHistories, AreTold, AreTranscripts}
use Rattle.weave_runs.specs.Outputs.{EndsBefore, AreOpeningLines, AsPlayed, HasNone, IsOfOneWorld, IsOtherText, IsPlayedText, IsSetupLine, IsTextOf, IsWoven, IsWritten, IsWrittenWith, OfHistories, OfMemory, Otherwise, Read, Weaves}
use Rattle.weave_runs.specs.Parties.{HaveNoFile}
use Rattle.weave_runs.specs.Refusals.{CameAsLine, CanTell, ComesBy, TellsFault, memory_line, number_of}
use Rattle.weave_runs.specs.Steps.{AddsLine, AddsSetups, AddsTurn, AreNamed, AreSourced, HasSteps, HasStepsAndSetups, IsSourceIn, Names, ended, entry_of, lines_text}
use Rattle.weave_runs.proofs.NetworkLemmas.{of_network}
use Rattle.weave_runs.proofs.RefusalLemmas.{drop_one}
use Rattle.weave_runs.proofs.RunLemmas.{run_as_told}
use Rattle.weave_runs.proofs.SourceLemmas.{all_sourced}
use Rattle.weave_runs.proofs.StepLemmas.{each_own, one_behind, same_setup, steps_and_setups_more, steps_interleave, steps_more, turn_names}
use Rattle.weave_runs.proofs.ToldLemmas.{replayed, sizes}

-- ---- an entry that is no start between runs came as a line

number_here : (x : Opening) (e : Entry) (s : Source) → IsSourceIn x e s → (e ≡ restart_entry → ⊥) → (n : ℕ) × (number_of (Some s) ≡ Some n)
number_here x e (origin.Echoed at line) is other = (line.number, refl)
number_here x e (origin.Restarted at) is other = absurd (other is)

restart_delivers : (at : ℕ) (q : Packet) → event.Restart ≡ event.Deliver at q → ⊥
restart_delivers at q e = cc

no_delivery : (e : Entry) (q : Packet) → e ≡ restart_entry → Delivers e q → ⊥
no_delivery e q is (at, delivers) = restart_delivers at q (sym (ap (λ (f : Entry). f.event) is) ∙ delivers)

no_packets : (e : Entry) (q : Packet) → e ≡ restart_entry → Contains (packets_of e) q → ⊥
no_packets e q is within = in_none q (subst (λ (f : Entry). Contains (packets_of f) q) is within)

-- what is to be written, where the words are read too
pub read_written : (words : List (Bor (List ℕ))) (files : List TranscriptFile) (r : Read words files) (w : Written) → IsWrittenWith r.given files r.told w → IsWritten words files w
read_written words files r (written.Run text) is = inr (r, is)
read_written words files r (written.Refused refusal) (inl none) = OfHistories (r, none)
read_written words files r (written.Refused refusal) (inr memory) = OfMemory memory
read_written words files r (written.Wrong fault) is = absurd is

pub ok_more : {T E : Type 0} {P Q : T → Type 0} (r : Result T E) → ((x : T) → P x → Q x) → IfOk r P → IfOk r Q
ok_more (Ok x) more h = more x h
ok_more (Err e) more h = tt

-- the one setup of all runs is that of the first
pub one_setup : (told : List Transcript) (t : Transcript) (x : Opening) (later : List Opening) → Contains told t → t.openings ≡ x ∷ later → IsSetup x.setup
    → (setup : List Node) → IsOfOneWorld setup told → IsSetup setup
one_setup told t x later within openings is setup one =
    subst IsSetup (one.setups t within x (subst (λ (os : List Opening). Contains os x) (sym openings) (in_front x later))) is

module _ (files : List TranscriptFile) (told : List Transcript) (hs : List NodeHistory) (of_files : AreTranscripts files told) (same : AreHistories hs told) (are : AreTold told) where
  as_line : (t : Turn) (x : Woven) → Names told t x → (x.entry ≡ restart_entry → ⊥) → CameAsLine files told t
  as_line t x names other =
      let u = names.teller_of in
      let has = all_sourced files told of_files u (is_in told t.history u names.here) in
      let line = number_here names.opening x.entry names.source (has.each t.entry x.entry names.source names.opening names.stands names.comes_from names.of_run) other in
      let place = slice_get_within told t.history u names.here in
      let of_size = of_files.size in
      let file_at = stands files t.history (omega (arith, place, of_size)) in (
        file_at.0.name.now,
        line.0,
        record { file = file_at.0; of_file = file_at.1; name_is = refl; teller_of = u; here = names.here; line_is = ap number_of names.comes_from ∙ line.1 },
      )

  named : (t : Turn) (h : NodeHistory) (e : Entry) → slice_get hs t.history ≡ Some h → slice_get h.entries.now t.entry ≡ Some e → Names told t (record { party = h.party; entry = e })
  named t h e here at = turn_names told hs same are t (record { party = h.party; entry = e }) (record { history = h; here = here; party = refl; entry = at })

  -- one that delivers a packet
  comes : (t : Turn) (q : Packet) (e : Entry) → EntryAt hs t.history t.entry e → Delivers e q → ComesBy files told t
  comes t q e at delivers =
      let names = named t at.history e at.here at.stands in
      let (name, line, is_line) = as_line t (record { party = at.history.party; entry = e }) names (λ is. no_delivery e q is delivers) in
      record {
        packet = q;
        delivers = record { teller_of = names.teller_of; here = names.here; entry = e; stands = names.stands; delivers = delivers };
        name = name;
        line = line;
        is_line = is_line;
      }

  -- one that gave a packet
  gave : (t : Turn) (q : Packet) → IsSentOtherwiseBy hs t q → CameAsLine files told t
  gave t q by =
      as_line t (record { party = by.sender.party; entry = by.entry }) (named t by.sender by.entry by.here by.stands) (λ is. no_packets by.entry by.packet is by.was_given)

  -- what is told can be
  pub can_tell : (given : List (List ℕ)) (f : TurnFault) → ExplainsTurns given hs f → CanTell files told f
  can_tell given (weave.NeverSent t) (q, first, none) = comes t q first.entry first.at first.asks.delivers
  can_tell given (weave.Differs t by) (q, first, otherwise) = (comes t q first.entry first.at first.asks.delivers, gave by q otherwise)
  can_tell given (weave.NoOrder places) (end, all) = end.block.size ∙ sizes told hs same ∙ of_files.size
  can_tell given weave.Memory cause = tt

  module _ (given : List (List ℕ)) where
    pub woven : ((setup : List Node) → IsOfOneWorld setup told → IsSetup setup) → InterleavingsAreRuns → NoneGiven → OwnInterleavingsAreNetworkRuns → NodesReopen → NodesStay → HaveNoFile told given
        → (turns : List Turn) → IsOrderWith given hs turns → (text : List ℕ) → IsTextOf given hs told turns text → IsWoven given told text
    woven is_setup law none network_law reopen stay alone turns order text (steps, of, lines) =
        let interleaves = steps_interleave told hs same given hs turns steps order of in
        record {
          histories = hs;
          turns = turns;
          steps = steps;
          are_histories = same;
          are_steps = of;
          interleaves = interleaves;
          run = λ setup one nobody.
              let (states, replays) = replayed told hs same files of_files setup (is_setup setup one) one are in (
                states,
                replays,
                run_as_told given hs setup hs states steps (each_own given hs told (all_sourced files told of_files) turns steps of)
                    (law setup hs states (map event_of (map entry_of steps)) replays
                    (map entry_of steps, none given hs (map entry_of steps) nobody interleaves, refl)),
              );
          network = λ empty alike. of_network reopen stay told empty alike files of_files hs same are network_law given alone (map entry_of steps) interleaves;
          lines = lines;
        }

    refused : (f : TurnFault) → f ≢ weave.Memory → ExplainsTurns given hs f → (f ≢ weave.Memory → CanInterleaveWith given hs → ⊥) → (line : List ℕ) → TellsFault files told f line
        → HasNone given files told line
    refused f other cause none line is = record { histories = hs; fault = f; are_histories = same; cause = cause; none = none other; line_is = is }

    pub refusal : (f : TurnFault) → ExplainsTurns given hs f → (f ≢ weave.Memory → CanInterleaveWith given hs → ⊥) → (line : List ℕ) → TellsFault files told f line
        → HasNone given files told line ⊎ (line ≡ memory_line)
    refusal (weave.NeverSent t) cause none line is = inl (refused (weave.NeverSent t) (λ e. cc) cause none line is)
    refusal (weave.Differs t by) cause none line is = inl (refused (weave.Differs t by) (λ e. cc) cause none line is)
    refusal (weave.NoOrder places) cause none line is = inl (refused (weave.NoOrder places) (λ e. cc) cause none line is)
    refusal weave.Memory cause none line is = inr is

-- ---- the text

pub setup_line : (told : List Transcript) (t : Transcript) (x : Opening) (later : List Opening) → slice_get told 0 ≡ Some t → t.openings ≡ x ∷ later → IsSetupLine told x.line.bytes.now
setup_line told t x later here openings =
    record { first = t; others = drop 1 told; told_are = drop_one told 0 t here; opening = x; later = later; openings_are = openings; is = refl }

-- how one transcript more begins
opening_push : (ts : List Transcript) (lines : List (List ℕ)) (t : Transcript) (x : Opening) (later : List Opening) → t.openings ≡ x ∷ later → AreOpeningLines ts lines
    → AreOpeningLines (ts ++ t ∷ []) (lines ++ x.told.now ∷ [])
opening_push [] [] t x later is are = ((x, later, is, refl), tt)
opening_push [] (l ∷ lines) t x later is are = absurd are
opening_push (u ∷ ts) [] t x later is are = absurd are
opening_push (u ∷ ts) (l ∷ lines) t x later is (first, are) = (first, opening_push ts lines t x later is are)

abbrev pub HasBegun : List Transcript → ℕ → List ℕ → List ℕ → Type 0
HasBegun told i before text = (lines : List (List ℕ)) × AreOpeningLines (take i told) lines × (text ≡ before ++ lines_text lines)

pub none_begun : (told : List Transcript) (before text : List ℕ) → text ≡ before → HasBegun told 0 before text
none_begun told before text is = ([], tt, is ∙ sym (append-nil before))

pub one_begun : (told : List Transcript) (i : ℕ) (t : Transcript) (x : Opening) (later : List Opening) (first before after : List ℕ) → slice_get told i ≡ Some t → t.openings ≡ x ∷ later
    → HasBegun told i first before → AddsLine x.told.now before after → HasBegun told (i + 1) first after
one_begun told i t x later first before after at is (lines, are, text) added = (
  lines ++ x.told.now ∷ [],
  subst (λ (ts : List Transcript). AreOpeningLines ts (lines ++ x.told.now ∷ [])) (sym (take_one told i t at)) (opening_push (take i told) lines t x later is are),
  one_behind ended lines x.told.now first before after text added,
)

pub played : (given : List (List ℕ)) (hs : List NodeHistory) (told : List Transcript) (turns : List Turn) (text : List ℕ) (setup : List Node) → IsOfOneWorld setup told
    → IsPlayedText given hs told turns text → IsTextOf given hs told turns text
played given hs told turns text setup one (line, is_line, (steps, are, is)) = (steps, are, AsPlayed setup one line is_line is)

pub otherwise : (given : List (List ℕ)) (hs : List NodeHistory) (told : List Transcript) (turns : List Turn) (text : List ℕ) → ((setup : List Node) → IsOfOneWorld setup told → ⊥)
    → IsOtherText given hs told turns text → IsTextOf given hs told turns text
otherwise given hs told turns text none (lines, are_lines, (steps, are, is)) = (steps, are, Otherwise none lines are_lines is)

-- one turn more
module _ (given : List (List ℕ)) (hs : List NodeHistory) (told : List Transcript) (turns : List Turn) (named : AreNamed told turns) where
  pub played_more : AreTold told → AreSourced told → ((setup : List Node) × IsOfOneWorld setup told) → (i : ℕ) (t : Turn) (front before after : List ℕ) → slice_get turns i ≡ Some t
      → HasSteps given hs told (take i turns) front before → AddsTurn given hs told t before after → HasSteps given hs told (take (i + 1) turns) front after
  played_more are sourced (setup, one) i t front before after at so_far adds =
      let (w, names) = named i t at in
      let u = names.teller_of in
      let inside = is_in told t.history u names.here in
      let new = same_setup u setup names.source (one.setups u inside)
      (λ place is. (sourced u inside).later place (subst (Contains u.sources) is (is_in u.sources t.entry names.source names.comes_from))) names.opening names.of_run in
      steps_more given hs told turns i t front before after at so_far w names ([], new) (are.each u inside).some adds

  pub other_more : (i : ℕ) (t : Turn) (front before between after : List ℕ) → slice_get turns i ≡ Some t → HasStepsAndSetups given hs told (take i turns) front before
      → AddsSetups told t before between → AddsTurn given hs told t between after → HasStepsAndSetups given hs told (take (i + 1) turns) front after
  other_more i t front before between after at so_far setups adds =
      let (w, names) = named i t at in
      steps_and_setups_more given hs told turns i t front before between after at so_far w names setups adds

-- ---- one world

-- a transcript of runs of that setup, which begins without rows
pub record IsAlike (setup : List Node) (t : Transcript) : Type 0 where
  pub setups : (x : Opening) → Contains t.openings x → x.setup ≡ setup
  pub empty : (x : Opening) (xs : List Opening) → t.openings ≡ x ∷ xs → x.rows ≡ 0

pub alike_by : (setup : List Node) (t : Transcript) (first : Opening) (later : List Opening) → t.openings ≡ first ∷ later → first.rows ≤ 0 → ((x : Opening) → Contains t.openings x → x.setup ≡ setup)
    → IsAlike setup t
alike_by setup t first later is none all = record {
  setups = all;
  empty = λ x xs at.
      let same : x ≡ first = some_same x first (ap (λ (os : List Opening). slice_get os 0) (sym at ∙ is)) in
      let rows = ap (λ (y : Opening). y.rows) same in
      omega (arith, rows, none);
}

pub all_alike : (setup : List Node) (told : List Transcript) → ((t : Transcript) → Contains told t → IsAlike setup t) → IsOfOneWorld setup told
all_alike setup told all = record { setups = λ t within. (all t within).setups; empty = λ t within. (all t within).empty }

-- a beginning of what may be written
pub begun : {T : Type 0} (words : List (Bor (List ℕ))) (files : List TranscriptFile) (r : Result T WeaveRunFault) (old new : Option (List ℕ)) (ran : Ran) (bytes : List ℕ) → Weaves words files ran bytes
    → IfErr r (λ fault. (fault ≡ Run WriteFailed) × (n : ℕ) × Appends old new (take n bytes)) → IfErr r (EndsBefore words files old new)
begun words files (Ok x) old new ran bytes weaves e = tt
begun words files (Err fault) old new ran bytes weaves (is, n, appends) = subst (EndsBefore words files old new) (sym is) (refl, (bytes, (ran, weaves), n, appends))

-- and all of it
pub whole : {E : Type 0} (words : List (Bor (List ℕ))) (files : List TranscriptFile) (r : Result Ran E) (old new : Option (List ℕ)) (ran : Ran) (bytes : List ℕ) → Weaves words files ran bytes
    → IfOk r (λ went. (went ≡ ran) × Appends old new bytes) → IfOk r (λ went. (out : List ℕ) × Weaves words files went out × Appends old new out)
whole words files r old new ran bytes weaves h = ok_more r (λ went is. (bytes, subst (λ (x : Ran). Weaves words files x bytes) (sym is.0) weaves, is.1)) h
