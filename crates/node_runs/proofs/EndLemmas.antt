-- What is known of a run that the node may have stopped, from what is known of the run over its lines.
use Rattle.std.proofs.Common.{◌≡◌, ◌≢◌, ◌∙◌, ℕ, false, true, Bool, List, Option, Some, None, IfErr, IfOk, Result, Ok, Err, refl, sym, ap, subst}
use Rattle.std.specs.Prelude.{IsOk}
use Rattle.std.specs.Str.Lines.{lines}
use Rattle.line_runs.specs.Numbered.{AreNumbered, IsNumberedRun, NumberedBegins, NumberedOutputs, NumberedStops, empty_line, none_numbered, numbered_end, numbered_stop, refused_line, taken_line}
use Rattle.line_runs.specs.declared.outcome.Ran.{Ran}
use Rattle.line_runs.specs.declared.outcome.Ran.TheVariants.{WithRefusals}
use Rattle.line_runs.specs.declared.outcome.RunFault.{RunFault}
use Rattle.line_runs.specs.declared.outcome.RunFault.TheVariants.{WriteFailed}
use Rattle.line_runs.specs.declared.run.Turn.{Turn}
use Rattle.line_runs.specs.declared.run.Turn.TheVariants.{Taken, Refused, Ended}
use Rattle.node_keepers.specs.Opening.{Source}
use Rattle.stored_nodes.specs.Keepers.{Keeper}
use Rattle.node_runs.specs.NodeOutputs.{BeginsSo, IsBehind, IsKept, NodeBegins, NodeOutputs, NodeStops, asked_for}
use Rattle.node_runs.specs.NodeAnswers.{BehindTurn, NodeEndGives, NodeLineGives, NodeTurn}
use Rattle.node_runs.specs.NodeAnswers as answers
use Rattle.node_runs.specs.NodeTurns.{Running, Stage, keep_in, opening}
use Rattle.node_runs.specs.NodeTurns as turns
use Rattle.node_runs.specs.Stops.{IfRun, IfStop}
use Rattle.node_runs.specs.declared.fault.NodeRunFault.{NodeRunFault}
use Rattle.node_runs.specs.declared.fault.NodeRunFault.TheVariants.{Run, Stop}
use Rattle.node_runs.specs.declared.fault.NodeStop.{NodeStop}

-- what is known of a run that reading or writing stopped, and what follows from it
pub stopped : (result : Result Ran NodeRunFault) (ran : Result Ran RunFault) (P Q : RunFault → Type 0) → ((fault : RunFault) → P fault → Q fault)
    → IfErr result (IfRun (λ fault. ran ≡ Err fault)) → IfErr ran P → IfErr result (IfRun Q)
stopped (Ok r) ran P Q law is p = tt
stopped (Err (Run fault)) ran P Q law is p = law fault (subst (λ (x : Result Ran RunFault). IfErr x P) is p)
stopped (Err (Stop stop)) ran P Q law is p = tt

pub same_fault : (result : Result Ran NodeRunFault) (ran : Result Ran RunFault) (fault : RunFault) → IfErr result (IfRun (λ f. ran ≡ Err f)) → result ≡ Err (Run fault) → ran ≡ Err fault
same_fault (Ok r) ran fault is e = absurd cc
same_fault (Err (Run f)) ran fault is e = let same : f ≡ fault = cc in subst (λ (x : RunFault). ran ≡ Err x) same is
same_fault (Err (Stop stop)) ran fault is e = absurd cc

-- a run begins at the opening of the party that was found in the word
pub begun_so : (K : Type 0) (first : Stage K) (wanted asked : Option (List ℕ)) (opened : List ℕ) → first ≡ opening wanted opened → wanted ≡ asked → first ≡ opening asked opened
begun_so K first wanted asked opened begun is = begun ∙ ap (λ (w : Option (List ℕ)). opening w opened) is

module _ {K : Type 0} (keeper : Keeper K) (source : Source K) where
  -- only a line that ends the run says that the node stopped it
  behind_goes_on : (now : Running K) (s : Stage K) (line : List ℕ) (turn : Turn) (out : List ℕ) (next : Stage K) →
      BehindTurn keeper now s line turn out next → (turn ≡ Ended → ⊥) → next.stop ≡ s.stop
  behind_goes_on now s line turn out next (answers.WasKnown is taken written left) on = ap (λ (t : Stage K). t.stop) left
  behind_goes_on now s line turn out next (answers.WasBeyond is refused written left) on = ap (λ (t : Stage K). t.stop) left
  behind_goes_on now s line turn out next (answers.GoesOn new few after is left) on = ap (λ (t : Stage K). t.stop) left
  behind_goes_on now s line turn out next (answers.Ends stop keep loses known stored number ended written left) on = absurd (on ended)

  goes_on : (now : Option (Running K)) (s : Stage K) (line : List ℕ) (turn : Turn) (out : List ℕ) (next : Stage K) →
      NodeTurn keeper source now s line turn out next → (turn ≡ Ended → ⊥) → next.stop ≡ s.stop
  goes_on None s line turn out next (turns.Opened o taken written left) on = ap (λ (t : Stage K). t.stop) left
  goes_on None s line turn out next (turns.Untold o ended written left) on = absurd (on ended)
  goes_on None s line turn out next (turns.Unbegun setup base read asked spare stop unbegun ended written left) on = absurd (on ended)
  goes_on None s line turn out next (turns.NoSetup fault fails other ended written left) on = absurd (on ended)
  goes_on None s line turn out next (turns.Unread ended written left) on = absurd (on ended)
  goes_on (Some now) s line turn out next gives on = behind_goes_on now s line turn out next gives on

  pub all_go_on : {echo : Bool} {first now : Stage K} {all : List (List ℕ)} {ran : Ran} {out : List ℕ} → AreNumbered (NodeLineGives keeper source) echo first all ran out now → now.stop ≡ first.stop
  all_go_on none_numbered = refl
  all_go_on (empty_line before) = all_go_on before
  all_go_on (taken_line {s = s} {t = t} {line = line} {more = more} before some gives) = goes_on s.running s line Taken more t gives (λ e. absurd cc) ∙ all_go_on before
  all_go_on (refused_line {s = s} {t = t} {line = line} {more = more} before some gives) = goes_on s.running s line Refused more t gives (λ e. absurd cc) ∙ all_go_on before

  was_ended : {echo : Bool} {first last : Stage K} {all : List (List ℕ)} {ran : Ran} {out : List ℕ} → IsNumberedRun (NodeLineGives keeper source) NodeEndGives echo first all ran out last
      → first.stop ≡ None → (stop : NodeStop) → last.stop ≡ Some stop → ran ≡ WithRefusals
  was_ended (numbered_end before gives) none stop is = absurd (cc (all_go_on before, none, is))
  was_ended (numbered_stop before some gives later) none stop is = refl

  abbrev Writes : Bool → Stage K → Option (List ℕ) → Option (List ℕ) → Option (List ℕ) → Stage K → Ran → Type 0
  Writes echo first text old new last ran = NumberedOutputs (NodeLineGives keeper source) NodeEndGives echo first text ran old new last

  ended_writes : (echo : Bool) (first : Stage K) (text old new : Option (List ℕ)) (last : Stage K) (ran : Ran) (stop : NodeStop) → first.stop ≡ None → last.stop ≡ Some stop
      → Writes echo first text old new last ran → Writes echo first text old new last WithRefusals
  ended_writes echo first None old new last ran stop none is wrote = tt
  ended_writes echo first (Some t) None new last ran stop none is wrote = tt
  ended_writes echo first (Some t) (Some before) new last ran stop none is wrote =
      (wrote.0, subst (λ r. IsNumberedRun (NodeLineGives keeper source) NodeEndGives echo first (lines t) r wrote.0 last) (was_ended wrote.1 none stop is) wrote.1, wrote.2)

  abbrev Begins : Bool → Stage K → Option (List ℕ) → Option (List ℕ) → Option (List ℕ) → Stage K → Type 0
  Begins echo first text old new last = NumberedBegins (NodeLineGives keeper source) NodeEndGives echo first text old new last

  abbrev Stops : Bool → Stage K → RunFault → Option (List ℕ) → Option (List ℕ) → Option (List ℕ) → Option (List ℕ) → Stage K → Type 0
  Stops echo first fault text rest old new last = NumberedStops (NodeLineGives keeper source) echo first fault text rest old new last

  -- of a run from a stage that is the opening, behind what an echo begins with, and of what it left
  module _ (opened word : List ℕ) (echo : Bool) (text old new : Option (List ℕ)) (first last : Stage K)
      (begun_is : first ≡ opening (asked_for word) opened) (kept : Option K) (kept_is : keep_in last.running last.spare ≡ kept) (stored : IsKept keeper last.running) where
    abbrev BeginsAt : Stage K → Type 0
    BeginsAt s = BeginsSo (Begins echo s text) s echo old new last

    begins_so : (fault : RunFault) → BeginsAt first → NodeBegins keeper source opened word echo text old new kept
    begins_so fault is = record { last = last; begins = subst BeginsAt begun_is is; left = kept_is; stored = stored }

    pub broken_off : (result : Result Ran NodeRunFault) (ran : Result Ran RunFault) → IfErr result (IfRun (λ fault. ran ≡ Err fault))
        → IfErr ran (λ fault. BeginsAt first)
        → IfErr result (IfRun (λ fault. NodeBegins keeper source opened word echo text old new kept))
    broken_off result ran is broken =
        stopped result ran (λ fault. BeginsAt first) (λ fault. NodeBegins keeper source opened word echo text old new kept) begins_so is broken

    stops_so : (rest : Option (List ℕ)) (fault : RunFault) → (fault ≢ WriteFailed → IsBehind echo old (λ begun. Stops echo first fault text rest begun new last))
        → fault ≢ WriteFailed → NodeStops keeper source opened word echo fault text rest old new kept
    stops_so rest fault stops other =
        let behind = stops other in
        record {
          begun = behind.0;
          begins = behind.1;
          last = last;
          stops = subst (λ (s : Stage K). Stops echo s fault text rest behind.0 new last) begun_is behind.2;
          left = kept_is;
          stored = stored;
        }

    pub read_to : (rest : Option (List ℕ)) (result : Result Ran NodeRunFault) (ran : Result Ran RunFault) → IfErr result (IfRun (λ fault. ran ≡ Err fault))
        → IfErr ran (λ fault. fault ≢ WriteFailed → IsBehind echo old (λ begun. Stops echo first fault text rest begun new last))
        → IfErr result (IfRun (λ fault. fault ≢ WriteFailed → NodeStops keeper source opened word echo fault text rest old new kept))
    read_to rest result ran is stops =
        stopped result ran (λ fault. fault ≢ WriteFailed → IsBehind echo old (λ begun. Stops echo first fault text rest begun new last))
        (λ fault. fault ≢ WriteFailed → NodeStops keeper source opened word echo fault text rest old new kept) (stops_so rest) is stops

    abbrev WritesBehind : Ran → Type 0
    WritesBehind r = IsBehind echo old (λ begun. Writes echo first text begun new last r)

    pub went : (stop : Option NodeStop) → stop ≡ last.stop → (result : Result Ran NodeRunFault) (ran : Result Ran RunFault)
        → IfOk result (λ r. (ran ≡ Ok r) × (stop ≡ None)) → IfOk ran WritesBehind
        → IfOk result (λ r. NodeOutputs keeper source opened word echo text r None old new kept)
    went stop left (Ok r) ran is wrote =
        let behind = subst (λ (x : Result Ran RunFault). IfOk x WritesBehind) is.0 wrote in
        record {
          begun = behind.0;
          begins = behind.1;
          last = last;
          outputs = subst (λ (s : Stage K). Writes echo s text behind.0 new last r) begun_is behind.2;
          stopped_by = sym left ∙ is.1;
          left = kept_is;
          stored = stored;
        }
    went stop left (Err e) ran is wrote = tt

    pub stopped_off : (stop : Option NodeStop) → stop ≡ last.stop → (result : Result Ran NodeRunFault) (ran : Result Ran RunFault)
        → IfErr result (IfStop (λ s. IsOk ran × (stop ≡ Some s))) → IfOk ran WritesBehind
        → IfErr result (IfStop (λ s. NodeOutputs keeper source opened word echo text WithRefusals (Some s) old new kept))
    stopped_off stop left (Ok r) ran is wrote = tt
    stopped_off stop left (Err (Run e)) ran is wrote = tt
    stopped_off stop left (Err (Stop s)) (Err e) is wrote = let ok : false ≡ true = is.0 in absurd cc
    stopped_off stop left (Err (Stop s)) (Ok r) is wrote =
        let stopped_by = sym left ∙ is.1 in
        let none = ap (λ (t : Stage K). t.stop) begun_is in
        let ends = ended_writes echo first text wrote.0 new last r s none stopped_by wrote.2 in
        record {
          begun = wrote.0;
          begins = wrote.1;
          last = last;
          outputs = subst (λ (t : Stage K). Writes echo t text wrote.0 new last WithRefusals) begun_is ends;
          stopped_by = stopped_by;
          left = kept_is;
          stored = stored;
        }
