-- What holds of a cell holds from its opening on, after each event, whether it was entered or refused.
use Rattle.std.proofs.Common.{◌≡◌, ◌⊎◌, ◌∙◌, ◌+◌, ◌≤◌, ◌<◌, ◌++◌, ◌∷◌, ℕ, List, [], inl, inr, refl, sym, ap, subst, arith, length, length-append, append_assoc, append-nil, Result, Ok, Err, IfOk, IfErr, OnErr}
use Rattle.std.specs.Prelude.{Bool, None, suc, true}
use Rattle.ocpi_types.specs.declared.node_events.NodeEventKind.{NodeEventKind}
use Rattle.ocpi_types.specs.declared.packet.Packet.{Packet}
use Rattle.node_laws.proofs.Runs.{run_join}
use Rattle.node_store.specs.Contents.{Content}
use Rattle.node_rows.specs.Holds.{HoldsRows}
use Rattle.node_rows.specs.Laws.{ChangesAreHeld}
use Rattle.stored_laws.specs.Nodes.{CanStartAgain, NodesCanStartAgain}
use Rattle.world_steps.specs.Steps.{NodeEvent, NodeStep}
use Rattle.world_steps.specs.World.{NodeState}
use Rattle.stored_nodes.specs.Keepers.{IsSettled, Keeper, KeepsOn, Nothing, Taken}
use Rattle.stored_nodes.specs.Stored.{Fails, IsStored, Loses, Stored}
use Rattle.stored_nodes.specs.declared.fault.ApplyFault.{ApplyFault}
use Rattle.stored_nodes.specs.declared.fault.ApplyFault.TheVariants as apply
use Rattle.node_store.specs.declared.fault.StoreFault.TheVariants as store
use Rattle.history_laws.specs.Replays as entries
use Rattle.history_laws.specs.Replays.{EntryStep, Replays}
use Rattle.node_cells.specs.Histories.{IsLeft, QuietStep}
use Rattle.node_cells.specs.Cells as cells
use Rattle.node_cells.specs.Cells.{Adds, Cell, Enters, IsCell, IsNotDone, IsNotEntered, IsOpening, StoredStep, cell_fault, cell_of, first_of}
use Rattle.histories.specs.declared.entry.Entry.{Entry}
use Rattle.node_cells.specs.declared.fault.CellFault.{CellFault}
use Rattle.node_cells.specs.declared.fault.CellFault.TheVariants as fault

-- what was noted at first is told, whatever the node is now
first_stays : {K : Type 0} (noted : List (Stored K)) (s t : Stored K) → length noted ≡ 1 → first_of noted s ≡ first_of noted t
first_stays [] s t one = absurd (omega (arith, one))
first_stays (x ∷ xs) s t one = refl

-- ---- what a stop may leave

-- the whole history made the state
whole : (first state left : NodeState) (history : List Entry) (c : Content) → Replays first history state → (left ≡ state) ⊎ ((x : NodeEvent) × NodeStep state x left) → HoldsRows c left → CanStartAgain left →
    IsLeft first state history c
whole first state left history c replays goes holds starts = record {
  front = history;
  rest = [];
  split = sym (append-nil history);
  reached = state;
  replays = replays;
  quiet = refl;
  left = left;
  goes = goes;
  holds = holds;
  starts = starts;
}

-- an entry more that changes no row
quietly : (first s t : NodeState) (history : List Entry) (e : Entry) (c : Content) → QuietStep s e t → IsLeft first s history c → IsLeft first t (history ++ e ∷ []) c
quietly first s t history e c step h = record {
  front = h.front;
  rest = h.rest ++ e ∷ [];
  split = ap (λ (l : List Entry). l ++ e ∷ []) h.split ∙ append_assoc h.front h.rest (e ∷ []);
  reached = h.reached;
  replays = h.replays;
  quiet = run_join QuietStep h.reached s t h.rest (e ∷ []) h.quiet (t, step, refl);
  left = h.left;
  goes = h.goes;
  holds = h.holds;
  starts = h.starts;
}

module _ {K : Type 0} (keeper : Keeper K) where
  entry_step : (old new : Stored K) (e : Entry) → StoredStep keeper old e new → EntryStep old.state e new.state
  entry_step old new e (cells.StoredStep.Does x did commits) = entries.EntryStep.Does x did
  entry_step old new e (cells.StoredStep.Idle idle same) = entries.EntryStep.Idle idle

  -- what a stop may leave of a node over its keeper
  abbrev Leaves : NodeState → Stored K → List Entry → Type 0
  Leaves first s history = keeper.is_honest s.keep → (c : Content) → keeper.may_leave s.keep c → IsLeft first s.state history c

  -- ---- an event was entered

  left_quietly : (first : NodeState) (old new : Stored K) (history : List Entry) (e : Entry) → Leaves first old history → new.keep ≡ old.keep → QuietStep old.state e new.state → Leaves first new (history ++ e ∷ [])
  left_quietly first old new history e h same step honest c may =
      quietly first old.state new.state history e c step (h (subst keeper.is_honest same honest) c (subst (λ (k : K). keeper.may_leave k c) same may))

  leaves : (first : NodeState) (old new : Stored K) (history : List Entry) (e : Entry) → Leaves first old history → IsStored keeper new → Replays first (history ++ e ∷ []) new.state →
      StoredStep keeper old e new → Leaves first new (history ++ e ∷ [])
  leaves first old new history e h stored replays (cells.StoredStep.Does x did (Nothing none same)) =
      left_quietly first old new history e h same (entries.EntryStep.Does x did, none)
  leaves first old new history e h stored replays (cells.StoredStep.Does x did (Taken some takes)) = λ honest c may.
      whole first new.state new.state (history ++ e ∷ []) c replays (inl refl) (subst (λ (b : Content). HoldsRows b new.state) (sym (takes.settled honest c may)) (stored.holds honest)) stored.starts
  leaves first old new history e h stored replays (cells.StoredStep.Idle idle same) =
      left_quietly first old new history e h same (entries.EntryStep.Idle idle, tt)

  -- the cell, with its first state told
  abbrev at : List ℕ → NodeState → List Entry → Bool → Stored K → Cell K
  at party first history is_fresh s = record { party = party; first = first; state = s.state; keep = s.keep; history = history; is_fresh = is_fresh }

  added : (party : List ℕ) (first : NodeState) (before after : List Entry) (is_fresh : Bool) (old new : Stored K) (e : Entry) → IsCell keeper (at party first before is_fresh old) → IsStored keeper new →
      Adds keeper old before e new after → IsCell keeper (at party first after is_fresh new)
  added party first before after is_fresh old new e h stored adds =
      let replays : Replays first (before ++ e ∷ []) new.state =
      run_join EntryStep first old.state new.state before (e ∷ []) h.replays (new.state, entry_step old new e adds.step, refl) in
      subst (λ (l : List Entry). IsCell keeper (at party first l is_fresh new)) (sym adds.history)
      (record {
        stored = stored;
        opens = h.opens;
        replays = replays;
        few = omega (arith, adds.few, length-append before (e ∷ []));
        stops = leaves first old new before e h.stops stored replays adds.step;
      })

  -- ---- an event was refused

  pub not_done : (old new : Stored K) (history : List Entry) (k : NodeEventKind) (f : ApplyFault) → Fails keeper None old k f new → IsNotDone keeper old history k (cell_fault f) new
  not_done old new history k (apply.Store (store.Refused cause)) fails = (tt, fails.1)
  not_done old new history k (apply.Store store.BadRow) fails = absurd fails.0
  not_done old new history k (apply.Store store.OldLayout) fails = absurd fails.0
  not_done old new history k (apply.Store store.Memory) fails = inr fails.1
  not_done old new history k (apply.Core refusal) fails = fails
  not_done old new history k apply.Memory fails = inl fails

  module _ (held : ChangesAreHeld) (start : NodesCanStartAgain) where
    lost : (party : List ℕ) (first : NodeState) (history : List Entry) (is_fresh : Bool) (old new : Stored K) (k : NodeEventKind) (rise : ℕ → ℕ) → IsCell keeper (at party first history is_fresh old) → IsStored keeper new →
        Loses keeper None old k rise new → IsCell keeper (at party first history is_fresh new)
    lost party first history is_fresh old new k rise h stored l = record {
      stored = stored;
      opens = h.opens;
      replays = subst (Replays first history) (sym l.state) h.replays;
      few = h.few;
      stops = λ honest c may.
          subst (λ (n : NodeState). IsLeft first n history c) (sym l.state)
          (elim (l.declines.stops honest c may) [
            | inl before ↦ h.stops (l.declines.earlier honest) c before
            | inr made ↦
                whole first old.state l.after history c h.replays (inr (l.event, l.step))
                (subst (λ (b : Content). HoldsRows b l.after) (sym made.0)
                (held (keeper.content old.keep) old.state l.after l.event h.stored.starts.sound (h.stored.holds (l.declines.earlier honest)) l.step made.1))
                (start old.state l.after l.event h.stored.starts l.step)
          ]);
    }

    same_as : (party : List ℕ) (first : NodeState) (history : List Entry) (is_fresh : Bool) (old new : Stored K) → IsCell keeper (at party first history is_fresh old) → new ≡ old → IsCell keeper (at party first history is_fresh new)
    same_as party first history is_fresh old new h same = subst (λ (s : Stored K). IsCell keeper (at party first history is_fresh s)) (sym same) h

    refused : (party : List ℕ) (first : NodeState) (history : List Entry) (is_fresh : Bool) (old new : Stored K) (k : NodeEventKind) (f : CellFault) → IsCell keeper (at party first history is_fresh old) →
        IsStored keeper new → IsNotDone keeper old history k f new → IsCell keeper (at party first history is_fresh new)
    refused party first history is_fresh old new k fault.TraceFull h stored why = same_as party first history is_fresh old new h why.1
    refused party first history is_fresh old new k (fault.Store refusal) h stored why = lost party first history is_fresh old new k suc h stored why.1
    refused party first history is_fresh old new k (fault.Core refusal) h stored why = same_as party first history is_fresh old new h why.same
    refused party first history is_fresh old new k fault.Memory h stored (inl same) = same_as party first history is_fresh old new h same
    refused party first history is_fresh old new k fault.Memory h stored (inr l) = lost party first history is_fresh old new k (λ n. n) h stored l

    -- what holds of a cell holds after an event
    pub goes_on : (party : List ℕ) (noted : List (Stored K)) (before after : List Entry) (is_fresh : Bool) (old new : Stored K) (k : NodeEventKind) (r : Result (List Packet) CellFault) → length noted ≡ 1 →
        IsCell keeper (cell_of party noted before is_fresh old) → IsStored keeper new → IfOk r (λ p. Adds keeper old before (record { event = k; packets = p }) new after) →
        IfErr r (λ f. IsNotDone keeper old before k f new) → OnErr r (after ≡ before) → IsCell keeper (cell_of party noted after is_fresh new)
    goes_on party noted before after is_fresh old new k (Ok p) one h stored adds err same =
        subst (λ (first : NodeState). IsCell keeper (at party first after is_fresh new)) (first_stays noted old new one)
        (added party (first_of noted old) before after is_fresh old new (record { event = k; packets = p }) h stored adds)
    goes_on party noted before after is_fresh old new k (Err f) one h stored ok why same =
        subst (λ (l : List Entry). IsCell keeper (cell_of party noted l is_fresh new)) (sym same)
        (subst (λ (first : NodeState). IsCell keeper (at party first before is_fresh new)) (first_stays noted old new one)
        (refused party (first_of noted old) before is_fresh old new k f h stored why))

  -- ---- what is told of an event

  pub entered : (party : List ℕ) (noted : List (Stored K)) (before after : List Entry) (is_fresh : Bool) (old new : Stored K) (k : NodeEventKind) (r : Result (List Packet) CellFault) → length noted ≡ 1 →
      IfOk r (λ p. Adds keeper old before (record { event = k; packets = p }) new after) →
      IfOk r (λ p. Enters keeper (cell_of party noted before is_fresh old) (record { event = k; packets = p }) (cell_of party noted after is_fresh new))
  entered party noted before after is_fresh old new k (Ok p) one adds = record { adds = adds; party = refl; first = first_stays noted new old one; fresh = refl }
  entered party noted before after is_fresh old new k (Err f) one adds = tt

  stays : (old new : Stored K) (history : List Entry) (k : NodeEventKind) (f : CellFault) → IsNotDone keeper old history k f new → new.state ≡ old.state
  stays old new history k fault.TraceFull why = ap (λ (s : Stored K). s.state) why.1
  stays old new history k (fault.Store refusal) why = why.1.state
  stays old new history k (fault.Core refusal) why = ap (λ (s : Stored K). s.state) why.same
  stays old new history k fault.Memory (inl same) = ap (λ (s : Stored K). s.state) same
  stays old new history k fault.Memory (inr l) = l.state

  pub not_entered : (party : List ℕ) (noted : List (Stored K)) (before after : List Entry) (is_fresh : Bool) (old new : Stored K) (k : NodeEventKind) (r : Result (List Packet) CellFault) → length noted ≡ 1 →
      IfErr r (λ f. IsNotDone keeper old before k f new) → OnErr r (after ≡ before) →
      IfErr r (λ f. IsNotEntered keeper (cell_of party noted before is_fresh old) k f (cell_of party noted after is_fresh new))
  not_entered party noted before after is_fresh old new k (Ok p) one why same = tt
  not_entered party noted before after is_fresh old new k (Err f) one why same = record {
    why = why;
    state = stays old new before k f why;
    history = same;
    party = refl;
    first = first_stays noted new old one;
    fresh = refl;
  }

  -- ---- it is opened

  at_first : (party : List ℕ) (is_fresh : Bool) (s : Stored K) → IsStored keeper s → IsSettled keeper s.keep → (is_fresh ≡ true → IsOpening party s.state) →
      IsCell keeper (cell_of party (s ∷ []) [] is_fresh s)
  at_first party is_fresh s stored settled opens = record {
    stored = stored;
    opens = opens;
    replays = refl;
    few = omega arith;
    stops = λ honest c may.
        whole s.state s.state s.state [] c refl (inl refl) (subst (λ (b : Content). HoldsRows b s.state) (sym (settled honest c may)) (stored.holds honest)) stored.starts;
  }

  -- nothing has happened yet
  pub begins : (party : List ℕ) (noted : List (Stored K)) (history : List Entry) (is_fresh : Bool) (s : Stored K) → history ≡ [] → noted ≡ s ∷ [] → IsStored keeper s → IsSettled keeper s.keep →
      (is_fresh ≡ true → IsOpening party s.state) → IsCell keeper (cell_of party noted history is_fresh s) × (length noted ≡ 1)
  begins party noted history is_fresh s empty is stored settled opens = (
    subst (λ (es : List Entry). IsCell keeper (cell_of party noted es is_fresh s)) (sym empty)
        (subst (λ (l : List (Stored K)). IsCell keeper (cell_of party l [] is_fresh s)) (sym is) (at_first party is_fresh s stored settled opens)),
    ap length is,
  )

  -- of a keeper that was read a stop leaves no more than before
  pub settled_on : (before after : K) → IsSettled keeper before → KeepsOn keeper before after → IsSettled keeper after
  settled_on before after settled keeps honest c may = settled (keeps.earlier honest) c (keeps.stops honest c may) ∙ sym (keeps.same honest)
