-- Work that is carried out over a keeper: what it leaves, and what is told of its event.
use Rattle.std.proofs.Common.{◌≡◌, ◌≢◌, ◌∙◌, ◌↔◌, ℕ, List, [], Option, Bool, IsTrue, inl, refl, sym, ap, subst, Result, Ok, Err, IfOk, IfErr, OnOk, OnErr}
use Rattle.ocpi_types.specs.declared.node_events.NodeEventKind.{NodeEventKind}
use Rattle.ocpi_types.specs.declared.rows.Change.{Change}
use Rattle.node_core.specs.Works.{IsWork, changes_by, node_after}
use Rattle.node_core.specs.declared.input.NodeInput.{NodeInput}
use Rattle.node_core.specs.declared.work.NodeWork.{NodeWork}
use Rattle.node_core.proofs.Doing.{does}
use Rattle.node_store.specs.Faults.{counted_fault}
use Rattle.node_rows.specs.Laws.{AreClasses, ChangesAreHeld, RestartsAreHeld}
use Rattle.stored_laws.specs.Nodes.{NodesCanStartAgain}
use Rattle.world_steps.specs.Steps.{NodeStep, changes_of, input_of}
use Rattle.world_steps.specs.World.{NodeState}
use Rattle.node_inputs.specs.Inputs.{SaysTheSame}
use Rattle.stored_nodes.specs.Keepers.{Commits, Declines, Keeper}
use Rattle.stored_nodes.specs.Stored.{Applies, Fails, IsCarriedOut, IsDeclined, IsNotCarriedOut, IsStored, Loses, Stored}
use Rattle.stored_nodes.specs.declared.fault.ApplyFault.{ApplyFault}
use Rattle.stored_nodes.specs.declared.fault.ApplyFault.TheVariants as fault
use Rattle.stored_nodes.specs.declared.stored_node.Applied.{Applied}
use Rattle.stored_nodes.specs.declared.stored_node.Applied.TheVariants.{Skipped, Stepped}
use Rattle.stored_nodes.proofs.Staying as staying

module _ {K : Type 0} (keeper : Keeper K) where
  commits_of : (line : Option ℕ) (x y : List Change) (before after : K) → x ≡ y → Commits keeper line y before after → Commits keeper line x before after
  commits_of line x y before after is h = subst (λ (l : List Change). Commits keeper line l before after) (sym is) h

  declines_of : (line : Option ℕ) (x y : List Change) (rise : ℕ → ℕ) (before after : K) → x ≡ y → Declines keeper line y rise before after → Declines keeper line x rise before after
  declines_of line x y rise before after is h = subst (λ (l : List Change). Declines keeper line l rise before after) (sym is) h

  -- ---- what it leaves

  module _ (held : ChangesAreHeld) (start : NodesCanStartAgain) (alike : RestartsAreHeld) (classes : AreClasses) where
    kept_back : (line : Option ℕ) (old : Stored K) (i : NodeInput) (x : NodeWork) (rise : ℕ → ℕ) (n : NodeState) (k : K) → IsStored keeper old → IsWork old.state i x → n ≡ old.state → IsDeclined keeper line x rise old.keep k →
        IsStored keeper (record { state = n; keep = k })
    kept_back line old i x rise n k h is same d =
        let w = does old.state i x is in
        subst (λ (m : NodeState). IsStored keeper (record { state = m; keep = k })) (sym same)
        (staying.declined keeper held start alike classes line old (node_after x old.state) k w.event rise h w.step (declines_of line (changes_of w.event) (changes_by x) rise old.keep k w.changes d.declines))

    pub carried : (line : Option ℕ) (old : Stored K) (i : NodeInput) (x : NodeWork) (r : Result Applied ApplyFault) (n : NodeState) (k : K) → IsStored keeper old → IsWork old.state i x →
        OnOk r (n ≡ node_after x old.state) → IfOk r (λ a. IsCarriedOut keeper line x old.keep a k) → OnErr r (n ≡ old.state) → IfErr r (λ f. IsNotCarriedOut keeper line x old.keep f k) →
        IsStored keeper (record { state = n; keep = k })
    carried line old i x (Ok Skipped) n k h is after ok same err = absurd ok
    carried line old i x (Ok (Stepped packets changed)) n k h is after ok same err =
        let w = does old.state i x is in
        staying.took keeper held start alike classes line old (record { state = n; keep = k }) w.event h (subst (NodeStep old.state w.event) (sym after) w.step)
        (commits_of line (changes_of w.event) (changes_by x) old.keep k w.changes ok.commits)
    carried line old i x (Err (fault.Store refusal)) n k h is after ok same err = kept_back line old i x (counted_fault refusal) n k h is same err.1
    carried line old i x (Err (fault.Core refusal)) n k h is after ok same err = absurd err
    carried line old i x (Err fault.Memory) n k h is after ok same left =
        subst (λ (m : NodeState). IsStored keeper (record { state = m; keep = k })) (sym same) (subst (λ (q : K). IsStored keeper (record { state = old.state; keep = q })) (sym left) h)

  -- ---- what is told

  pub applied : (line : Option ℕ) (old new : Stored K) (k : NodeEventKind) (i : NodeInput) (x : NodeWork) (r : Result Applied ApplyFault) → SaysTheSame i k → IsWork old.state i x →
      OnOk r (new.state ≡ node_after x old.state) → IfOk r (λ a. IsCarriedOut keeper line x old.keep a new.keep) → IfOk r (λ a. Applies keeper line old k a new)
  applied line old new k i x (Ok Skipped) says is after ok = absurd ok
  applied line old new k i x (Ok (Stepped packets changed)) says is after ok =
      let w = does old.state i x is in
      inl (record {
        event = w.event;
        brings = says.brings old.state (input_of w.event) w.gets;
        step = subst (NodeStep old.state w.event) (sym after) w.step;
        sends = ok.sends ∙ sym w.packets;
        tells = subst (λ (l : List Change). IsTrue changed ↔ (l ≢ [])) (sym w.changes) ok.tells;
        commits = commits_of line (changes_of w.event) (changes_by x) old.keep new.keep w.changes ok.commits;
      })
  applied line old new k i x (Err f) says is after ok = tt

  loses : (line : Option ℕ) (old new : Stored K) (k : NodeEventKind) (i : NodeInput) (x : NodeWork) (rise : ℕ → ℕ) → SaysTheSame i k → IsWork old.state i x → new.state ≡ old.state →
      IsDeclined keeper line x rise old.keep new.keep → Loses keeper line old k rise new
  loses line old new k i x rise says is same d =
      let w = does old.state i x is in
      record {
        event = w.event;
        after = node_after x old.state;
        brings = says.brings old.state (input_of w.event) w.gets;
        step = w.step;
        some = λ none. d.some (sym w.changes ∙ none);
        state = same;
        declines = declines_of line (changes_of w.event) (changes_by x) rise old.keep new.keep w.changes d.declines;
      }

  unchanged : (old new : Stored K) → new.state ≡ old.state → new.keep ≡ old.keep → new ≡ old
  unchanged old new s k = ap (λ (n : NodeState). record { state = n; keep = new.keep }) s ∙ ap (λ (q : K). record { state = old.state; keep = q }) k

  pub failed : {A : Type 0} (line : Option ℕ) (old new : Stored K) (k : NodeEventKind) (i : NodeInput) (x : NodeWork) (r : Result A ApplyFault) → SaysTheSame i k → IsWork old.state i x →
      OnErr r (new.state ≡ old.state) → IfErr r (λ f. IsNotCarriedOut keeper line x old.keep f new.keep) → IfErr r (λ f. Fails keeper line old k f new)
  failed line old new k i x (Ok a) says is same err = tt
  failed line old new k i x (Err (fault.Store refusal)) says is same err = (err.0, loses line old new k i x (counted_fault refusal) says is same err.1)
  failed line old new k i x (Err (fault.Core refusal)) says is same err = absurd err
  failed line old new k i x (Err fault.Memory) says is same left = unchanged old new same left
