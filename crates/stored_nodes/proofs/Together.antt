-- Events whose changes are committed together: what holds of the node meanwhile and once they are, and what a refused
-- commit leaves.
use Rattle.std.proofs.Common.{◌≡◌, ◌∙◌, ◌++◌, ℕ, List, [], ◌∷◌, Option, Some, None, inl, inr, refl, sym, ap, subst, append-nil}
use Rattle.std.specs.List.{AllByRecursion}
use Rattle.std.specs.Prelude.{All}
use Rattle.std.proofs.lemmas.List.Concat.{flat_map-append}
use Rattle.std.proofs.lemmas.List.Elements.{All-from_recursion, recursion_from_All}
use Rattle.ocpi_types.specs.declared.rows.Change.{Change}
use Rattle.node_laws.specs.Runs.{Run}
use Rattle.node_laws.proofs.Runs.{kept_runs, run_join}
use Rattle.node_store.specs.Contents.{Content, IsReadAgain, changed, changed_all, line_of, marked, number_kept}
use Rattle.node_store.proofs.Numbered.{line_marked, line_stays}
use Rattle.node_rows.specs.Holds.{HoldsRows, StoresAlike}
use Rattle.node_rows.specs.Laws.{AreClasses, ChangesAreHeld, RestartsAreHeld}
use Rattle.stored_laws.specs.Nodes.{CanStartAgain, NodesCanStartAgain}
use Rattle.world_steps.specs.Steps.{NodeEvent, NodeStep, changes_of}
use Rattle.world_steps.specs.World.{NodeState}
use Rattle.stored_nodes.specs.Keepers.{Commits, Declines, IsLine, Keeper, Nothing, Taken}
use Rattle.stored_nodes.specs.Stored.{IsStored, Stored}
use Rattle.stored_nodes.specs.Transactions as transactions
use Rattle.stored_nodes.specs.Transactions.{HoldsAll, IsAllOrNothing, IsPending, LeavesAllOrNothing, LeavesTheseEvents, Pending, changes_of_each, number_behind}
use Rattle.stored_nodes.proofs.Staying.{marked_holds, taken, unasked}

-- ---- lists in two parts

none_of : {X : Type 0} (xs ys : List X) → xs ++ ys ≡ [] → (xs ≡ []) × (ys ≡ [])
none_of [] ys is = (refl, is)
none_of (x ∷ xs) ys is = absurd (cc)

each_of_parts : {X : Type 0} (P : X → Type 0) (xs ys : List X) → AllByRecursion P (xs ++ ys) → AllByRecursion P xs × AllByRecursion P ys
each_of_parts P [] ys h = (tt, h)
each_of_parts P (x ∷ xs) ys h = let r = each_of_parts P xs ys h.1 in ((h.0, r.0), r.1)

all_of_parts : {X : Type 0} (P : X → Type 0) (xs ys : List X) → All P (xs ++ ys) → All P xs × All P ys
all_of_parts P xs ys h =
    let r = each_of_parts P xs ys (recursion_from_All P (xs ++ ys) h) in
    (All-from_recursion P xs r.0, All-from_recursion P ys r.1)

changed_parts : (c : Content) (xs ys : List Change) → changed_all c (xs ++ ys) ≡ changed_all (changed_all c xs) ys
changed_parts c [] ys = refl
changed_parts c (x ∷ xs) ys = changed_parts (changed c x) xs ys

-- the changes of one event more stand behind those before
one_more : (events : List NodeEvent) (x : NodeEvent) → changes_of_each (events ++ x ∷ []) ≡ changes_of_each events ++ changes_of x
one_more events x = flat_map-append changes_of events (x ∷ []) ∙ ap (λ (l : List Change). changes_of_each events ++ l) (append-nil (changes_of x))

-- ---- what events make of what is kept

pub starts_by_events : NodesCanStartAgain → (n m : NodeState) (events : List NodeEvent) → Run NodeStep n events m → CanStartAgain n → CanStartAgain m
starts_by_events start n m events run can = kept_runs NodeStep CanStartAgain (λ s t x step h. start s t x h step) n m events run can

-- where a content holds the rows of a node, the changes of events in turn make it one that holds those of the node after them
pub held_by_events : ChangesAreHeld → NodesCanStartAgain → (c : Content) (n m : NodeState) (events : List NodeEvent) → CanStartAgain n → HoldsRows c n → Run NodeStep n events m →
    All IsReadAgain (changes_of_each events) → HoldsRows (changed_all c (changes_of_each events)) m
held_by_events held start c n m [] can holds run again = subst (HoldsRows c) (sym run) holds
held_by_events held start c n m (x ∷ events) can holds (u, step, rest) again =
    let parts = all_of_parts IsReadAgain (changes_of x) (changes_of_each events) again in
    subst (λ (d : Content). HoldsRows d m) (sym (changed_parts c (changes_of x) (changes_of_each events)))
    (held_by_events held start (changed_all c (changes_of x)) u m events (start n u x can step) (held c n u x can.sound holds step parts.0) rest parts.1)

-- events without changes leave a node that stores alike
pub alike_by_events : RestartsAreHeld → AreClasses → (n m : NodeState) (events : List NodeEvent) → Run NodeStep n events m → changes_of_each events ≡ [] → StoresAlike n m
alike_by_events alike classes n m [] run none = subst (StoresAlike n) (sym run) (classes.same n)
alike_by_events alike classes n m (x ∷ events) (u, step, rest) none =
    let parts = none_of (changes_of x) (changes_of_each events) none in
    classes.through n u m (alike.by_steps n u x step parts.0) (alike_by_events alike classes u m events rest parts.1)

-- the number that is kept behind a line
number_is : (line : Option ℕ) (c kept : Content) (changes : List Change) → IsLine line → kept ≡ c → line_of (marked line (changed_all c changes)) ≡ number_behind line kept
number_is None c kept changes is same = ap number_kept (line_stays c changes) ∙ ap line_of (sym same)
number_is (Some n) c kept changes is same = line_marked (changed_all c changes) n is.0 is.1

module _ {K : Type 0} (keeper : Keeper K) where
  -- ---- meanwhile

  pub begun : (old : Stored K) (changes : List Change) → changes ≡ [] → IsStored keeper old → IsPending keeper (record { state = old.state; keep = old.keep; changes = changes })
  begun old changes none h = record { first = old.state; events = []; stored = h; did = refl; gathers = none }

  pub goes_on : (p : Pending K) (n : NodeState) (x : NodeEvent) (changes : List Change) → IsPending keeper p → NodeStep p.state x n → changes ≡ p.changes ++ changes_of x →
      IsPending keeper (record { state = n; keep = p.keep; changes = changes })
  goes_on p n x changes h step is = record {
    first = h.first;
    events = h.events ++ x ∷ [];
    stored = h.stored;
    did = run_join NodeStep h.first p.state n h.events (x ∷ []) h.did (n, step, refl);
    gathers = is ∙ ap (λ (l : List Change). l ++ changes_of x) h.gathers ∙ sym (one_more h.events x);
  }

  module _ (held : ChangesAreHeld) (start : NodesCanStartAgain) where
    -- ---- once they are committed

    pub committed : RestartsAreHeld → AreClasses → (line : Option ℕ) (p : Pending K) (k : K) → IsPending keeper p → Commits keeper line p.changes p.keep k → IsStored keeper (record { state = p.state; keep = k })
    committed alike classes line p k h (Nothing none same) =
        unasked keeper held start alike classes (record { state = h.first; keep = p.keep }) (record { state = p.state; keep = k }) h.stored
        (starts_by_events start h.first p.state h.events h.did h.stored.starts) (alike_by_events alike classes h.first p.state h.events h.did (sym h.gathers ∙ none)) same
    committed alike classes line p k h (Taken some takes) =
        taken keeper held start alike classes line (record { state = h.first; keep = p.keep }) (record { state = p.state; keep = k }) p.changes
        (starts_by_events start h.first p.state h.events h.did h.stored.starts)
        (λ honest. subst (λ (l : List Change). HoldsRows (changed_all (keeper.content p.keep) l) p.state) (sym h.gathers)
        (held_by_events held start (keeper.content p.keep) h.first p.state h.events h.stored.starts (h.stored.holds (takes.earlier honest)) h.did (subst (All IsReadAgain) h.gathers takes.again)))
        h.stored takes

    -- ---- what a refused commit leaves

    -- what its changes make of what is kept
    holds_all : (line : Option ℕ) (old : Stored K) (events : List NodeEvent) (after : NodeState) (rise : ℕ → ℕ) (k : K) → IsStored keeper old → Run NodeStep old.state events after
        → Declines keeper line (changes_of_each events) rise old.keep k → keeper.is_honest k → (c : Content)
        → c ≡ marked line (changed_all (keeper.content old.keep) (changes_of_each events)) → All IsReadAgain (changes_of_each events) → HoldsAll line (keeper.content k) after c
    holds_all line old events after rise k h run d honest c made again = record {
      rows =
          subst (λ (b : Content). HoldsRows b after) (sym made)
          (marked_holds line (changed_all (keeper.content old.keep) (changes_of_each events)) after
          (held_by_events held start (keeper.content old.keep) old.state after events h.starts (h.holds (d.earlier honest)) run again));
      starts = starts_by_events start old.state after events run h.starts;
      number = ap line_of made ∙ number_is line (keeper.content old.keep) (keeper.content k) (changes_of_each events) d.is_line (d.same honest);
    }

    pub all_or_nothing : LeavesAllOrNothing keeper
    all_or_nothing line old events after rise k h run d = record {
      starts = h.starts;
      holds = λ honest. subst (λ (c : Content). HoldsRows c old.state) (sym (d.same honest)) (h.holds (d.earlier honest));
      stops = λ honest c may.
          elim (d.stops honest c may) [
            | inl before ↦ elim (h.stops (d.earlier honest) c before) [
              | inl is ↦ transactions.IsAllOrNothing.Nothing (is ∙ sym (d.same honest))
              | inr more ↦ transactions.IsAllOrNothing.Earlier more
            ]
            | inr made ↦ transactions.IsAllOrNothing.All (holds_all line old events after rise k h run d honest c made.0 made.1)
          ];
    }

    pub these_events : LeavesTheseEvents keeper
    these_events line old events after rise k h settled run d honest c may =
        elim (d.stops honest c may) [
          | inl before ↦ inl (settled (d.earlier honest) c before ∙ sym (d.same honest))
          | inr made ↦ inr (holds_all line old events after rise k h run d honest c made.0 made.1)
        ]
