-- Why a session that is to begin does not.
use Rattle.std.proofs.Common.{◌≡◌, ◌≤◌, ◌+◌, ◌++◌, ℕ, List, length, subst, sym, arith}
use Rattle.std.specs.Prelude.{Result, Option, IfErr}
use Rattle.std.specs.Result.{IsErrAnd}
use Rattle.ocpi_text.specs.Text.{key}
use Rattle.ocpi_text.specs.Whole.{max_whole}
use Rattle.ocpi_types.specs.declared.rows.Change.TheVariants.{Put}
use Rattle.ocpi_types.specs.declared.rows.Counter.TheVariants as counter
use Rattle.ocpi_types.specs.declared.rows.Row.TheVariants as row
use Rattle.tables.proofs.Elements.{in_front}
use Rattle.node_steps.specs.Acts.{Act, all_changes}
use Rattle.node_steps.specs.Drafts.{IsInRange, StopsBy, later}
use Rattle.node_steps.specs.Peers.{HasPeer}
use Rattle.node_steps.specs.declared.fault.NodeFault.{NodeFault}
use Rattle.node_steps.specs.declared.fault.NodeFault.TheVariants.{NumbersUsedUp, Memory}
use Rattle.operator_rows.specs.State.{State}
use Rattle.operator_steps.specs.declared.ending.Ending.{Ending}
use Rattle.operator_steps.specs.Acts.{spent}
use Rattle.operator_steps.specs.Ends.{ends_acts}
use Rattle.operator_steps.specs.Moves.{counters_of}
use Rattle.operator_planning.specs.Planned.{BeginsWith, StopsActs, StopsLine, begins_acts, begun_acts}
use Rattle.operator_planning.proofs.BeginningCounts.{begins_ask, begins_line, begins_send, begins_within}
use Rattle.operator_planning.proofs.CountedDrafts.{counted_refused, counted_starved, line_stops, returned}
use Rattle.operator_planning.proofs.NewVersions.{some_session}
use Rattle.session_tables.specs.declared.beginning.Beginning.{Beginning}

module _ (s : State) (at : ℕ) (ends : List Ending) (r : Option (List ℕ)) (b : Beginning) (peer : HasPeer s.providers (key b.token.party)) where
  abbrev Number : ℕ
  Number = s.rows.charged.last_session + 1

  -- some acts that the line asks for: which push the first version replaces makes no difference
  abbrev Acts : ℕ → List Act
  Acts last = begins_acts at s.rows.commands.pending last Number ends r (some_session s at Number b peer).0

  abbrev Others : ℕ → List Act
  Others last =
      let x = (some_session s at Number b peer).0 in
      (ends_acts at s.rows.commands.pending last ends ++ spent x.provider r) ++ begun_acts at (last + length ends) x

  line : BeginsWith s at ends r b (Acts s.rows.request)
  line = begins_line s at ends r b (some_session s at Number b peer).0 (some_session s at Number b peer).1

  unnumbered : (f : NodeFault) → (f ≡ NumbersUsedUp) × (max_whole ≤ s.rows.charged.last_session) → StopsLine (BeginsWith s at ends r b) s f
  unnumbered f h = record {
    acts = Acts s.rows.request;
    line = line;
    stops = subst (StopsActs s (Acts s.rows.request)) (sym h.0) (λ range. let within = range.numbers counter.Session Number (in_front (Put (row.Count counter.Session Number)) (all_changes (Others s.rows.request))) in omega (arith, within, h.1));
  }

  -- without a next number,
  pub begins_unnumbered : {T : Type 0} → (x : Result T NodeFault) (f : NodeFault) → IsErrAnd x (λ e. e ≡ f) → (f ≡ NumbersUsedUp) × (max_whole ≤ s.rows.charged.last_session) → IfErr x (StopsLine (BeginsWith s at ends r b) s)
  begins_unnumbered x f is h = returned unnumbered x f is h

  -- where a counter of packets or requests would pass its last number,
  pub begins_refused : {T : Type 0} → Number ≤ max_whole → (x : Result T NodeFault) (f : NodeFault) → IsErrAnd x (λ e. e ≡ f) → StopsBy (later (counters_of s) (length ends + 1) (length ends + 1)) f →
      IfErr x (StopsLine (BeginsWith s at ends r b) s)
  begins_refused number x f is h =
      let begun = (some_session s at Number b peer).0 in
      let m = s.rows.commands.pending in
      line_stops (BeginsWith s at ends r b) s (Acts s.rows.request) line x
      (counted_refused s Acts (length ends + 1) (length ends + 1) (begins_send at m Number ends r begun s.rows.request) (begins_ask at m Number ends r begun s.rows.request)
      (begins_within at m Number ends r begun s.rows.request number) x f is h)

  -- and for want of memory
  pub begins_starved : {T : Type 0} → Number ≤ max_whole → (x : Result T NodeFault) → IsErrAnd x (λ e. e ≡ Memory) → IsInRange (later (counters_of s) (length ends + 1) (length ends + 1)) →
      IfErr x (StopsLine (BeginsWith s at ends r b) s)
  begins_starved number x is h =
      let begun = (some_session s at Number b peer).0 in
      let m = s.rows.commands.pending in
      line_stops (BeginsWith s at ends r b) s (Acts s.rows.request) line x
      (counted_starved s Acts (length ends + 1) (length ends + 1) (begins_send at m Number ends r begun s.rows.request) (begins_ask at m Number ends r begun s.rows.request)
      (begins_within at m Number ends r begun s.rows.request number) x is h)
