-- What comes of an event at a node is a step of its entry, and so a replay stays one.
use Rattle.std.proofs.Common.{◌≡◌, ◌≢◌, ◌∙◌, ◌↔◌, List, [], Bool, IsTrue, false, true, inl, refl, sym, subst}
use Rattle.ocpi_types.specs.declared.node_events.NodeEventKind.{NodeEventKind}
use Rattle.ocpi_types.specs.declared.node_events.NodeEventKind.TheVariants as event
use Rattle.ocpi_types.specs.declared.packet.Packet.{Packet}
use Rattle.ocpi_types.specs.declared.rows.Change.{Change}
use Rattle.node_steps.specs.declared.fault.NodeFault.{NodeFault}
use Rattle.node_core.specs.Works as works
use Rattle.node_core.specs.Works.{IsWork, changes_by, node_after, packets_by}
use Rattle.node_core.specs.declared.input.NodeInput.{NodeInput}
use Rattle.node_core.specs.declared.work.NodeWork.{NodeWork}
use Rattle.node_core.proofs.Doing.{does}
use Rattle.node_inputs.specs.Inputs.{SaysTheSame}
use Rattle.history_laws.specs.Replays as entries
use Rattle.world_steps.specs.Steps.{NodeStep, input_of}
use Rattle.world_steps.specs.World.{NodeState}
use Rattle.node_replay.specs.Replayed.{Leads, Refuses}

-- work that is done is the step of an entry
pub leads : (s t : NodeState) (k : NodeEventKind) (i : NodeInput) (x : NodeWork) (packets : List Packet) (changed : Bool) → SaysTheSame i k → IsWork s i x → packets ≡ packets_by x →
    IsTrue changed ↔ (changes_by x ≢ []) → t ≡ node_after x s → Leads s k packets changed t
leads s t k i x packets changed says is sends tells after =
    let w = does s i x is in
    record {
      own = λ passes. passes.nothing (input_of w.event) (says.brings s (input_of w.event) w.gets);
      step = entries.EntryStep.Does w.event
          (record {
            brings = says.brings s (input_of w.event) w.gets;
            step = subst (NodeStep s w.event) (sym after) w.step;
            sends = sends ∙ sym w.packets;
          });
      tells = subst (λ (l : List Change). IsTrue changed ↔ (l ≢ [])) (sym w.changes) tells;
    }

-- an event whose storing was refused is idle
pub idles : (s : NodeState) (k : NodeEventKind) → k ≡ event.Refused → Leads s k [] false s
idles s k is = record {
  own = λ passes. passes.taken is;
  step = entries.EntryStep.Idle (record { why = inl is; sends = refl; same = refl });
  tells = ((λ changed. let bad : false ≡ true = changed in cc), (λ x. absurd x));
}

-- what the node refuses of what the event brings it refuses of the event
pub refuses : (s : NodeState) (k : NodeEventKind) (i : NodeInput) (why : NodeFault) → SaysTheSame i k → works.Refuses s i why → Refuses s k why
refuses s k i why says h = record { input = h.input; brings = says.brings s h.input h.gets; refuses = h.refuses; other = h.other }
