-- What comes of an event at a node over its keeper is a step of the event's entry.
use Rattle.std.proofs.Common.{◌≡◌, ◌∙◌, sym, subst, None, Result, Ok, Err, IfOk, OnOk}
use Rattle.ocpi_types.specs.declared.node_events.NodeEventKind.{NodeEventKind}
use Rattle.node_core.specs.Works.{IsWork, changes_by, node_after, packets_by}
use Rattle.node_core.specs.declared.input.NodeInput.{NodeInput}
use Rattle.node_core.specs.declared.work.NodeWork.{NodeWork}
use Rattle.node_core.proofs.Doing.{does}
use Rattle.world_steps.specs.Steps.{NodeStep, input_of}
use Rattle.node_inputs.specs.Inputs.{SaysTheSame}
use Rattle.stored_nodes.specs.Keepers.{Commits, Keeper}
use Rattle.stored_nodes.specs.Stored.{Stored}
use Rattle.stored_nodes.specs.declared.fault.ApplyFault.{ApplyFault}
use Rattle.node_cells.specs.Cells as cells
use Rattle.node_cells.specs.Cells.{StoredStep}
use Rattle.node_cells.specs.declared.stepping.Sent.{Sent}

-- work that was carried out
pub done : {K : Type 0} (keeper : Keeper K) (old new : Stored K) (k : NodeEventKind) (i : NodeInput) (x : NodeWork) (r : Result Sent ApplyFault) → SaysTheSame i k → IsWork old.state i x →
    OnOk r (new.state ≡ node_after x old.state) → IfOk r (λ sent. sent.entered ≡ packets_by x) → OnOk r (Commits keeper None (changes_by x) old.keep new.keep) →
    IfOk r (λ sent. StoredStep keeper old (record { event = k; packets = sent.entered }) new)
done keeper old new k i x (Ok sent) says is after entered commits =
    let w = does old.state i x is in
    cells.StoredStep.Does w.event
    (record {
      brings = says.brings old.state (input_of w.event) w.gets;
      step = subst (NodeStep old.state w.event) (sym after) w.step;
      sends = entered ∙ sym w.packets;
    })
    (subst (λ l. Commits keeper None l old.keep new.keep) (sym w.changes) commits)
done keeper old new k i x (Err f) says is after entered commits = tt
