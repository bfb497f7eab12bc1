-- What is known of a run that a store may have stopped, from what is known of the run over its lines.
use Rattle.std.proofs.Common.{◌≡◌, ◌≢◌, ◌∙◌, ℕ, false, true, Bool, List, Option, Some, None, IfErr, IfOk, Result, Ok, Err, refl, sym, ap, subst}
use Rattle.std.specs.Prelude.{IsOk}
use Rattle.line_runs.specs.Lines.{lines_of}
use Rattle.line_runs.specs.Run.{AreAnswered, Begins, IsRun, Outputs, StopsReading, at_end, none_yet, refused, stopped as ended_by, taken}
use Rattle.line_runs.specs.declared.outcome.Ran.{Ran}
use Rattle.line_runs.specs.declared.outcome.Ran.TheVariants.{WithRefusals}
use Rattle.line_runs.specs.declared.outcome.RunFault.{RunFault}
use Rattle.line_runs.specs.declared.outcome.RunFault.TheVariants.{WriteFailed}
use Rattle.line_runs.specs.declared.run.Turn.{Turn}
use Rattle.line_runs.specs.declared.run.Turn.TheVariants.{Taken, Refused, Ended}
use Rattle.node_store.specs.declared.fault.StoreFault.{StoreFault}
use Rattle.node_keepers.specs.Keeping.{Keeping}
use Rattle.node_programs.specs.Play.{Counted, Happened, Lost, NoSetup, Opened, PlayBegins, PlayEndGives, PlayLineGives, PlayOutputs, PlayStops, PlayTurn, Playing, Stage, Starved, Unkept, Unread, next_line, opening}
use Rattle.node_programs.specs.Stops.{IfRun, IfStore}
use Rattle.node_programs.specs.declared.fault.PlayFault.{PlayFault}
use Rattle.node_programs.specs.declared.fault.PlayFault.TheVariants.{Run, Store}

-- what is known of a run that reading or writing stopped, and what follows from it
pub stopped : (result : Result Ran PlayFault) (ran : Result Ran RunFault) (P Q : RunFault → Type 0) → ((fault : RunFault) → P fault → Q fault)
    → IfErr result (IfRun (λ fault. ran ≡ Err fault)) → IfErr ran P → IfErr result (IfRun Q)
stopped (Ok r) ran P Q law is p = tt
stopped (Err (Run fault)) ran P Q law is p = law fault (subst (λ (x : Result Ran RunFault). IfErr x P) is p)
stopped (Err (Store fault)) ran P Q law is p = tt

pub same_fault : (result : Result Ran PlayFault) (ran : Result Ran RunFault) (fault : RunFault) → IfErr result (IfRun (λ f. ran ≡ Err f)) → result ≡ Err (Run fault) → ran ≡ Err fault
same_fault (Ok r) ran fault is e = absurd cc
same_fault (Err (Run f)) ran fault is e = let same : f ≡ fault = cc in subst (λ (x : RunFault). ran ≡ Err x) same is
same_fault (Err (Store f)) ran fault is e = absurd cc

module _ {K : Type 0} (keeping : Keeping K) (may_refuse : ℕ → StoreFault → Type 0) (done : Bool) where
  -- only a line that ends the run says that a store stopped it
  goes_on : (now : Option (Playing K)) (number : Option ℕ) (stop : Option StoreFault) (line : List ℕ) (turn : Turn) (out : List ℕ) (next : Stage K) →
      PlayTurn keeping may_refuse now number stop line turn out next → (turn ≡ Ended → ⊥) → next.stop ≡ stop
  goes_on None number stop line turn out next (Opened setup read kept are turned none is) on = ap (λ (s : Stage K). s.stop) is
  goes_on None number stop line turn out next (Unkept setup read fault unopened ended none is) on = absurd (on ended)
  goes_on None number stop line turn out next (NoSetup fault fails ended written is) on = absurd (on ended)
  goes_on (Some now) number stop line turn out next (Happened event read o v gives kept takes turned written is) on = ap (λ (s : Stage K). s.stop) is
  goes_on (Some now) number stop line turn out next (Lost event read o v gives some fault kept refuses ended none is) on = absurd (on ended)
  goes_on (Some now) number stop line turn out next (Starved event read turned written is) on = ap (λ (s : Stage K). s.stop) is
  goes_on (Some now) number stop line turn out next (Unread fault fails turned written is) on = ap (λ (s : Stage K). s.stop) is

  all_go_on : {lines : List (List ℕ)} {ran : Ran} {out : List ℕ} {now : Counted K} → AreAnswered (PlayLineGives keeping may_refuse) (opening done) lines ran out now → now.stage.stop ≡ None
  all_go_on none_yet = refl
  all_go_on (taken {s = s} {t = t} {line = line} {more = more} before gives) = goes_on s.stage.playing (next_line s.line) s.stage.stop line Taken more t.stage gives.0 (λ e. absurd cc) ∙ all_go_on before
  all_go_on (refused {s = s} {t = t} {line = line} {more = more} before gives) = goes_on s.stage.playing (next_line s.line) s.stage.stop line Refused more t.stage gives.0 (λ e. absurd cc) ∙ all_go_on before

  was_ended : {lines : List (List ℕ)} {ran : Ran} {out : List ℕ} {last : Counted K} → IsRun (PlayLineGives keeping may_refuse) PlayEndGives (opening done) lines ran out last
      → (fault : StoreFault) → last.stage.stop ≡ Some fault → ran ≡ WithRefusals
  was_ended (at_end before gives) fault is = absurd (cc (all_go_on before, is))
  was_ended (ended_by before gives later) fault is = refl

  abbrev Writes : Counted K → Option (List ℕ) → Option (List ℕ) → Option (List ℕ) → Counted K → Ran → Type 0
  Writes first text old new last ran = Outputs (PlayLineGives keeping may_refuse) PlayEndGives first text ran old new last

  ended_writes : (text old new : Option (List ℕ)) (last : Counted K) (ran : Ran) (fault : StoreFault) → last.stage.stop ≡ Some fault
      → Writes (opening done) text old new last ran → Writes (opening done) text old new last WithRefusals
  ended_writes None old new last ran fault is wrote = tt
  ended_writes (Some t) None new last ran fault is wrote = tt
  ended_writes (Some t) (Some before) new last ran fault is wrote =
      (wrote.0, subst (λ r. IsRun (PlayLineGives keeping may_refuse) PlayEndGives (opening done) (lines_of t) r wrote.0 last) (was_ended wrote.1 fault is) wrote.1, wrote.2)

  -- of a run from a stage that is the opening, and of what it left
  module _ (text old new : Option (List ℕ)) (first last : Counted K) (begun : first ≡ opening done) (left : Option (Playing K)) (left_is : last.stage.playing ≡ left) where
    begins_so : (fault : RunFault) → Begins (PlayLineGives keeping may_refuse) PlayEndGives first text old new last → PlayBegins keeping may_refuse done text old new left
    begins_so fault begins = record {
      last = last;
      begins = subst (λ (s : Counted K). Begins (PlayLineGives keeping may_refuse) PlayEndGives s text old new last) begun begins;
      leaves = left_is;
    }

    pub broken_off : (result : Result Ran PlayFault) (ran : Result Ran RunFault) → IfErr result (IfRun (λ fault. ran ≡ Err fault))
        → IfErr ran (λ fault. Begins (PlayLineGives keeping may_refuse) PlayEndGives first text old new last)
        → IfErr result (IfRun (λ fault. PlayBegins keeping may_refuse done text old new left))
    broken_off result ran is begins = stopped result ran (λ fault. Begins (PlayLineGives keeping may_refuse) PlayEndGives first text old new last) (λ fault. PlayBegins keeping may_refuse done text old new left) begins_so is begins

    stops_so : (rest : Option (List ℕ)) (fault : RunFault) → (fault ≢ WriteFailed → StopsReading (PlayLineGives keeping may_refuse) first fault text rest old new last)
        → fault ≢ WriteFailed → PlayStops keeping may_refuse done fault text rest old new left
    stops_so rest fault stops other = record {
      last = last;
      stops = subst (λ (s : Counted K). StopsReading (PlayLineGives keeping may_refuse) s fault text rest old new last) begun (stops other);
      leaves = left_is;
    }

    pub read_to : (rest : Option (List ℕ)) (result : Result Ran PlayFault) (ran : Result Ran RunFault) → IfErr result (IfRun (λ fault. ran ≡ Err fault))
        → IfErr ran (λ fault. fault ≢ WriteFailed → StopsReading (PlayLineGives keeping may_refuse) first fault text rest old new last)
        → IfErr result (IfRun (λ fault. fault ≢ WriteFailed → PlayStops keeping may_refuse done fault text rest old new left))
    read_to rest result ran is stops =
        stopped result ran (λ fault. fault ≢ WriteFailed → StopsReading (PlayLineGives keeping may_refuse) first fault text rest old new last)
        (λ fault. fault ≢ WriteFailed → PlayStops keeping may_refuse done fault text rest old new left) (stops_so rest) is stops

  -- of a run from a stage that is the opening, and of the stop that it left
  module _ (text old new : Option (List ℕ)) (first last : Counted K) (begun : first ≡ opening done) (stop : Option StoreFault) (stop_is : stop ≡ last.stage.stop)
      (left : Option (Playing K)) (left_is : last.stage.playing ≡ left) where
    pub went : (result : Result Ran PlayFault) (ran : Result Ran RunFault) → IfOk result (λ r. (ran ≡ Ok r) × (stop ≡ None)) → IfOk ran (Writes first text old new last)
        → IfOk result (λ r. PlayOutputs keeping may_refuse done text r None old new left)
    went (Ok r) ran is wrote =
        let writes = subst (λ (x : Result Ran RunFault). IfOk x (Writes first text old new last)) is.0 wrote in
        record { last = last; outputs = subst (λ (s : Counted K). Writes s text old new last r) begun writes; stopped_by = sym stop_is ∙ is.1; leaves = left_is }
    went (Err e) ran is wrote = tt

    pub kept_off : (result : Result Ran PlayFault) (ran : Result Ran RunFault)
        → IfErr result (IfStore (λ fault. IsOk ran × (stop ≡ Some fault))) → IfOk ran (Writes first text old new last)
        → IfErr result (IfStore (λ fault. PlayOutputs keeping may_refuse done text WithRefusals (Some fault) old new left))
    kept_off (Ok r) ran is wrote = tt
    kept_off (Err (Run e)) ran is wrote = tt
    kept_off (Err (Store fault)) (Err e) is wrote = let ok : false ≡ true = is.0 in absurd cc
    kept_off (Err (Store fault)) (Ok r) is wrote =
        let writes = subst (λ (s : Counted K). Writes s text old new last r) begun wrote in
        let stopped_by = sym stop_is ∙ is.1 in
        record { last = last; outputs = ended_writes text old new last r fault stopped_by writes; stopped_by = stopped_by; leaves = left_is }
