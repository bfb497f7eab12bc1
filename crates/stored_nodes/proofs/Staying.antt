-- What holds of a node over its keeper holds after each event, whether its changes were committed or not.
use Rattle.std.proofs.Common.{◌≡◌, ◌≢◌, ◌⊎◌, ◌∙◌, ℕ, List, [], Option, inl, inr, refl, sym, ap, subst}
use Rattle.std.specs.FinMap.{empty}
use Rattle.std.specs.Prelude.{Contains, IsSome, None, Some}
use Rattle.ocpi_types.specs.declared.rows.Change.{Change}
use Rattle.ocpi_types.specs.declared.rows.Row.{Row}
use Rattle.ocpi_types.specs.declared.setup.Node.{Node}
use Rattle.ocpi_types.specs.declared.setup.Node.TheVariants as node
use Rattle.node_core.specs.Members.{IsMadeOfRows}
use Rattle.node_store.specs.Contents.{Content, changed_all, line_of, marked, rows_of}
use Rattle.node_store.proofs.Numbered.{numbers_are_no_rows}
use Rattle.node_rows.specs.Holds.{HoldsRows, StoresAlike}
use Rattle.node_rows.specs.Laws.{AreClasses, ChangesAreHeld, RestartsAreHeld}
use Rattle.node_rows.proofs.Telling.{empty_is_held}
use Rattle.stored_laws.specs.Nodes.{AreNodeRows, CanStartAgain, IsSound, IsWhole, NodesCanStartAgain}
use Rattle.stored_laws.proofs.Starting.{openings_can_start_again}
use Rattle.world_laws.specs.Laws.{IsSetup}
use Rattle.world_steps.specs.Steps.{NodeEvent, NodeStep, changes_of}
use Rattle.world_steps.specs.World.{NodeState, Operates, Provides, opening_of}
use Rattle.stored_nodes.specs.Keepers.{Commits, Declines, IsLine, IsSettled, Keeper, Nothing, Taken, Takes}
use Rattle.stored_nodes.specs.Stored.{HoldsOneMore, IsStored, Stored}

-- ---- the number of a line, beside the rows

-- a content with a number has the same rows
pub marked_holds : (line : Option ℕ) (c : Content) (n : NodeState) → HoldsRows c n → HoldsRows (marked line c) n
marked_holds line c n (rows, are, of_node) = (rows, numbers_are_no_rows.rows c line ∙ are, of_node)

numbered_by : (line : Option ℕ) (c : Content) → IsLine line → IsSome (line_of c) → IsSome (line_of (marked line c))
numbered_by None c is some = some
numbered_by (Some n) c is some = subst IsSome (sym (numbers_are_no_rows.is c n is.0 is.1)) refl

-- what changes make of a content with a number has one too, with that of their line or without
pub numbered_behind : (line : Option ℕ) (c : Content) (changes : List Change) → IsLine line → IsSome (line_of c) → IsSome (line_of (marked line (changed_all c changes)))
numbered_behind line c changes is some = numbered_by line (changed_all c changes) is (subst IsSome (sym (numbers_are_no_rows.stays c changes)) some)

module _ {K : Type 0} (keeper : Keeper K) (held : ChangesAreHeld) (start : NodesCanStartAgain) (alike : RestartsAreHeld) (classes : AreClasses) where
  -- what a stop may leave of a node it may leave of one that stores alike
  one_more_of : (n m : NodeState) (c : Content) → StoresAlike n m → HoldsOneMore c n → HoldsOneMore c m
  one_more_of n m c same h = record {
    u = h.u;
    v = h.v;
    event = h.event;
    alike = classes.through h.u n m h.alike same;
    step = h.step;
    holds = h.holds;
    numbered = h.numbered;
    starts = h.starts;
  }

  -- the keeper was not asked, and the node stores what it stored
  pub unasked : (old new : Stored K) → IsStored keeper old → CanStartAgain new.state → StoresAlike old.state new.state → new.keep ≡ old.keep → IsStored keeper new
  unasked old new h starts by same = record {
    starts = starts;
    holds = λ honest.
        subst (λ (k : K). HoldsRows (keeper.content k) new.state) (sym same)
        (alike.alike (keeper.content old.keep) old.state new.state by (h.holds (subst keeper.is_honest same honest)));
    numbered = λ honest. subst (λ (k : K). IsSome (line_of (keeper.content k))) (sym same) (h.numbered (subst keeper.is_honest same honest));
    stops = λ honest c may.
        elim (h.stops (subst keeper.is_honest same honest) c (subst (λ (k : K). keeper.may_leave k c) same may)) [
          | inl is ↦ inl (is ∙ ap keeper.content (sym same))
          | inr more ↦ inr (one_more_of old.state new.state c by more)
        ];
  }

  -- it took changes, which make what it kept the rows of the node now
  pub taken : (line : Option ℕ) (old new : Stored K) (changes : List Change) → CanStartAgain new.state → (keeper.is_honest new.keep → HoldsRows (changed_all (keeper.content old.keep) changes) new.state) →
      IsStored keeper old → Takes keeper line changes old.keep new.keep → IsStored keeper new
  taken line old new changes starts holds h takes = record {
    starts = starts;
    holds = λ honest. subst (λ (c : Content). HoldsRows c new.state) (sym (takes.makes honest))
        (marked_holds line (changed_all (keeper.content old.keep) changes) new.state (holds honest));
    numbered = λ honest. subst (λ (c : Content). IsSome (line_of c)) (sym (takes.makes honest))
        (numbered_behind line (keeper.content old.keep) changes takes.is_line (h.numbered (takes.earlier honest)));
    stops = λ honest c may. inl (takes.settled honest c may);
  }

  -- the changes of a step were committed
  pub took : (line : Option ℕ) (old new : Stored K) (x : NodeEvent) → IsStored keeper old → NodeStep old.state x new.state → Commits keeper line (changes_of x) old.keep new.keep → IsStored keeper new
  took line old new x h step (Nothing none same) = unasked old new h (start old.state new.state x h.starts step) (alike.by_steps old.state new.state x step none) same
  took line old new x h step (Taken some takes) =
      taken line old new (changes_of x) (start old.state new.state x h.starts step)
      (λ honest. held (keeper.content old.keep) old.state new.state x h.starts.sound (h.holds (takes.earlier honest)) step takes.again) h takes

  -- and were not: the node is as it was
  pub declined : (line : Option ℕ) (old : Stored K) (after : NodeState) (k : K) (x : NodeEvent) (rise : ℕ → ℕ) → IsStored keeper old → NodeStep old.state x after → Declines keeper line (changes_of x) rise old.keep k →
      IsStored keeper (record { state = old.state; keep = k })
  declined line old after k x rise h step d = record {
    starts = h.starts;
    holds = λ honest. subst (λ (c : Content). HoldsRows c old.state) (sym (d.same honest)) (h.holds (d.earlier honest));
    numbered = λ honest. subst (λ (c : Content). IsSome (line_of c)) (sym (d.same honest)) (h.numbered (d.earlier honest));
    stops = λ honest c may.
        elim (d.stops honest c may) [
          | inl before ↦ elim (h.stops (d.earlier honest) c before) [
            | inl is ↦ inl (is ∙ sym (d.same honest))
            | inr more ↦ inr more
          ]
          | inr made ↦ inr (record {
            u = old.state;
            v = after;
            event = x;
            alike = classes.same old.state;
            step = step;
            holds = subst (λ (b : Content). HoldsRows b after) (sym made.0)
                (marked_holds line (changed_all (keeper.content old.keep) (changes_of x)) after
                (held (keeper.content old.keep) old.state after x h.starts.sound (h.holds (d.earlier honest)) step made.1));
            numbered = subst (λ (b : Content). IsSome (line_of b)) (sym made.0)
                (numbered_behind line (keeper.content old.keep) (changes_of x) d.is_line (h.numbered (d.earlier honest)));
            starts = start old.state after x h.starts step;
          })
        ];
  }

-- ---- where a node over its keeper begins

module _ {K : Type 0} (keeper : Keeper K) where
  pub begins : (n : NodeState) (k : K) → CanStartAgain n → (keeper.is_honest k → HoldsRows (keeper.content k) n) → (keeper.is_honest k → IsSome (line_of (keeper.content k))) →
      IsSettled keeper k → IsStored keeper (record { state = n; keep = k })
  begins n k can holds numbered settled = record { starts = can; holds = holds; numbered = numbered; stops = λ honest c may. inl (settled honest c may) }

  -- over a keeper that keeps nothing
  pub opens : (setup : List Node) (is_setup : IsSetup setup) (member : Node) → Contains setup member → (n : NodeState) → n ≡ opening_of setup member → (k : K) →
      (keeper.is_honest k → keeper.content k ≡ empty) → IsSettled keeper k → IsStored keeper (record { state = n; keep = k })
  opens setup is_setup member among n is k nothing settled =
      begins n k (subst CanStartAgain (sym is) (openings_can_start_again setup is_setup member among))
      (λ honest. subst (λ (m : NodeState). HoldsRows (keeper.content k) m) (sym is)
      (subst (λ (c : Content). HoldsRows c (opening_of setup member)) (sym (nothing honest)) (empty_is_held.openings setup member)))
      (λ honest. subst (λ (c : Content). IsSome (line_of c)) (sym (nothing honest)) (subst IsSome (sym numbers_are_no_rows.first) refl))
      settled

made_whole : (setup : List Node) (m : Node) (rows : List Row) (n : NodeState) → IsMadeOfRows setup m rows n → IsWhole n
made_whole setup (node.Operator party site) rows (Operates s) made = made.whole
made_whole setup (node.Operator party site) rows (Provides s) made = absurd made
made_whole setup (node.Provider party) rows (Operates s) made = absurd made
made_whole setup (node.Provider party) rows (Provides s) made = made.whole

made_rows : (setup : List Node) (m : Node) (rows : List Row) (n : NodeState) → IsMadeOfRows setup m rows n → AreNodeRows rows n
made_rows setup (node.Operator party site) rows (Operates s) made = made.has_rows
made_rows setup (node.Operator party site) rows (Provides s) made = absurd made
made_rows setup (node.Provider party) rows (Operates s) made = absurd made
made_rows setup (node.Provider party) rows (Provides s) made = made.has_rows

-- over one whose rows were read
pub reopens : {K : Type 0} (keeper : Keeper K) (setup : List Node) (m : Node) (rows : List Row) (line : ℕ) (n : NodeState) (before after : K) → IsSound n → IsMadeOfRows setup m rows n → IsSettled keeper before →
    (keeper.is_honest after → rows_of (keeper.content before) ≡ Some rows) → (keeper.is_honest after → line_of (keeper.content before) ≡ Some line) → (keeper.is_honest after → keeper.content after ≡ keeper.content before) → (keeper.is_honest after → keeper.is_honest before) →
    (keeper.is_honest after → (c : Content) → keeper.may_leave after c → keeper.may_leave before c) → IsStored keeper (record { state = n; keep = after })
reopens keeper setup m rows line n before after sound made settled read told kept earlier stops =
    begins keeper n after (record { sound = sound; whole = made_whole setup m rows n made })
    (λ honest. (rows, ap rows_of (kept honest) ∙ read honest, made_rows setup m rows n made))
    (λ honest. subst IsSome (sym (ap line_of (kept honest) ∙ told honest)) refl)
    (λ honest c may. settled (earlier honest) c (stops honest c may) ∙ sym (kept honest))
