-- Work that is carried out in memory: what it leaves, and what is told of its event.
use Rattle.std.proofs.Common.{◌≡◌, ◌≢◌, ◌∙◌, ◌++◌, ◌↔◌, List, [], Bool, IsTrue, inl, sym, ap, subst, Result, Ok, Err, IfOk, IfErr, OnOk, OnErr}
use Rattle.ocpi_types.specs.declared.node_events.NodeEventKind.{NodeEventKind}
use Rattle.ocpi_types.specs.declared.rows.Change.{Change}
use Rattle.node_core.specs.Works.{IsWork, node_after}
use Rattle.node_core.specs.declared.input.NodeInput.{NodeInput}
use Rattle.node_core.specs.declared.work.NodeWork.{NodeWork}
use Rattle.node_core.proofs.Doing.{does}
use Rattle.world_steps.specs.Steps.{NodeStep, input_of}
use Rattle.world_steps.specs.World.{NodeState}
use Rattle.stored_nodes.specs.Keepers.{Keeper}
use Rattle.node_inputs.specs.Inputs.{SaysTheSame}
use Rattle.stored_nodes.specs.Transactions.{AppliesInMemory, FailsInMemory, IsCarriedOutInMemory, IsPending, Pending}
use Rattle.stored_nodes.specs.declared.fault.StepFault.{StepFault}
use Rattle.stored_nodes.specs.declared.fault.StepFault.TheVariants.{Memory}
use Rattle.stored_nodes.specs.declared.stored_node.Applied.{Applied}
use Rattle.stored_nodes.specs.declared.stored_node.Applied.TheVariants.{Skipped, Stepped}
use Rattle.stored_nodes.proofs.Together.{goes_on}

module _ {K : Type 0} where
  -- ---- what it leaves

  pub carried : {E : Type 0} (keeper : Keeper K) (old : Pending K) (i : NodeInput) (x : NodeWork) (r : Result Applied E) (n : NodeState) (changes : List Change) → IsPending keeper old →
      IsWork old.state i x → OnOk r (n ≡ node_after x old.state) → IfOk r (λ a. IsCarriedOutInMemory x old.changes a changes) → OnErr r (n ≡ old.state) → OnErr r (changes ≡ old.changes) →
      IsPending keeper (record { state = n; keep = old.keep; changes = changes })
  carried keeper old i x (Ok Skipped) n changes h is after ok same kept = absurd ok
  carried keeper old i x (Ok (Stepped packets changed)) n changes h is after ok same kept =
      let w = does old.state i x is in
      goes_on keeper old n w.event changes h (subst (NodeStep old.state w.event) (sym after) w.step)
      (ok.gathers ∙ ap (λ (l : List Change). old.changes ++ l) (sym w.changes))
  carried keeper old i x (Err e) n changes h is after ok same kept =
      subst (λ (m : NodeState). IsPending keeper (record { state = m; keep = old.keep; changes = changes })) (sym same)
      (subst (λ (l : List Change). IsPending keeper (record { state = old.state; keep = old.keep; changes = l })) (sym kept) h)

  -- ---- what is told

  pub applied : (old new : Pending K) (k : NodeEventKind) (i : NodeInput) (x : NodeWork) (r : Result Applied StepFault) → SaysTheSame i k → IsWork old.state i x →
      OnOk r (new.state ≡ node_after x old.state) → IfOk r (λ a. IsCarriedOutInMemory x old.changes a new.changes) → new.keep ≡ old.keep → IfOk r (λ a. AppliesInMemory old k a new)
  applied old new k i x (Ok Skipped) says is after ok keep = absurd ok
  applied old new k i x (Ok (Stepped packets changed)) says is after ok keep =
      let w = does old.state i x is in
      inl (record {
        event = w.event;
        brings = says.brings old.state (input_of w.event) w.gets;
        step = subst (NodeStep old.state w.event) (sym after) w.step;
        sends = ok.sends ∙ sym w.packets;
        tells = subst (λ (l : List Change). IsTrue changed ↔ (l ≢ [])) (sym w.changes) ok.tells;
        gathers = ok.gathers ∙ ap (λ (l : List Change). old.changes ++ l) (sym w.changes);
        keep = keep;
      })
  applied old new k i x (Err f) says is after ok keep = tt

  pub failed : {A : Type 0} (old new : Pending K) (k : NodeEventKind) (r : Result A StepFault) → IfErr r (λ f. (f ≡ Memory) × (new ≡ old)) → IfErr r (λ f. FailsInMemory old k f new)
  failed old new k (Ok a) err = tt
  failed old new k (Err f) err = subst (λ (g : StepFault). FailsInMemory old k g new) (sym err.0) err.1
