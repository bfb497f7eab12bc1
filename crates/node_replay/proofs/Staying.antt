-- A node stays one that can start again, after each event, whether it is entered or not.
use Rattle.std.proofs.Common.{◌≡◌, List, sym, subst, Result, Ok, Err, IfOk, OnErr}
use Rattle.ocpi_types.specs.declared.node_events.NodeEventKind.{NodeEventKind}
use Rattle.histories.specs.declared.entry.Entry.{Entry}
use Rattle.history_laws.specs.Replays as entries
use Rattle.history_laws.specs.Replays.{EntryStep}
use Rattle.stored_laws.specs.Nodes.{CanStartAgain, NodesCanStartAgain}
use Rattle.world_steps.specs.World.{NodeState}
use Rattle.node_replay.specs.Replayed.{Adds}
use Rattle.node_replay.specs.declared.outcome.ReplayFault.{ReplayFault}
use Rattle.node_replay.specs.declared.outcome.Replayed.{Replayed}
use Rattle.node_replay.specs.declared.outcome.Replayed.TheVariants.{Skipped, Stepped}

can_start : NodesCanStartAgain → (s t : NodeState) (e : Entry) → CanStartAgain s → EntryStep s e t → CanStartAgain t
can_start start s t e h (entries.EntryStep.Does x did) = start s t x h did.step
can_start start s t e h (entries.EntryStep.Idle idle) = subst CanStartAgain (sym idle.same) h

pub goes_on : NodesCanStartAgain → (s t : NodeState) (before after : List Entry) (k : NodeEventKind) (r : Result Replayed ReplayFault) →
    CanStartAgain s → IfOk r (λ a. Adds s before k a t after) → OnErr r (t ≡ s) → CanStartAgain t
goes_on start s t before after k (Ok Skipped) h adds state = subst CanStartAgain (sym adds.1) h
goes_on start s t before after k (Ok (Stepped changed)) h adds state = can_start start s t (record { event = k; packets = adds.0 }) h adds.1.step
goes_on start s t before after k (Err f) h adds state = subst CanStartAgain (sym state) h
