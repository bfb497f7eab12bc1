-- A node is of its opening from there on, and can start again once it has.
use Rattle.std.proofs.Common.{◌≡◌, List, refl, sym, ap, ◌∙◌}
use Rattle.ocpi_types.specs.declared.setup.Node.{Node}
use Rattle.ocpi_types.specs.declared.setup.Node.TheVariants as node
use Rattle.operator_rows.specs.Rows as operator_rows
use Rattle.operator_rows.specs.Sound as operator_sound
use Rattle.operator_rows.specs.State as operator
use Rattle.operator_rows.specs.Steps as operator_steps
use Rattle.operator_rows.specs.Stored as operator_stored
use Rattle.operator_rows.proofs.KeepingTimes as operator_times
use Rattle.operator_steps.specs.Events as operator_events
use Rattle.operator_steps.specs.Moves as operator_moves
use Rattle.provider_rows.specs.Rows as provider_rows
use Rattle.provider_rows.specs.Sound as provider_sound
use Rattle.provider_rows.specs.State as provider
use Rattle.provider_rows.specs.Steps as provider_steps
use Rattle.provider_rows.specs.Stored as provider_stored
use Rattle.provider_rows.proofs.KeepingTimes as provider_times
use Rattle.provider_steps.specs.Events as provider_events
use Rattle.provider_steps.specs.Moves as provider_moves
use Rattle.stored_laws.specs.Nodes.{CanStartAgain, IsOfOpening, NodesKeepOpenings, ReopeningsCanStartAgain, RestartsCanStartAgain, restarted}
use Rattle.world_steps.specs.Steps as steps
use Rattle.world_steps.specs.Steps.{AtOperator, AtProvider, NodeEvent, NodeStep, OperatorDoes, ProviderDoes}
use Rattle.world_steps.specs.World.{NodeState, Operates, Provides, opening_of}

-- ---- a step

-- the operator as it starts again, with other rows
abbrev pub operator_with : operator.State → operator.Rows → operator.State
operator_with s rows = operator_sound.with_rows rows (operator_steps.restarted s)

abbrev pub provider_with : provider.State → provider.Rows → provider.State
provider_with s rows = provider_sound.with_rows rows (provider_steps.restarted s)

-- a step changes rows, and what a restart empties
pub operator_left : (s t : operator.State) (e : operator_events.Event) → OperatorDoes s e t → operator_steps.restarted t ≡ operator_with s (operator_stored.changed_all e.changes s.rows)
operator_left s t e (steps.Done by) =
    let x = operator_moves.step_of_work s by.work in
    ap (λ (o : operator_moves.Out). operator_steps.restarted o.state) by.out_is ∙ ap (λ (o : operator_moves.Out). operator_with s (operator_stored.changed_all o.changes s.rows)) (sym by.out_is)
operator_left s t e (steps.Restarted now is) =
    ap (λ (o : operator_moves.Out). operator_steps.restarted o.state) is ∙ ap (λ (o : operator_moves.Out). operator_with s (operator_stored.changed_all o.changes s.rows)) (sym is)

pub provider_left : (s t : provider.State) (e : provider_events.Event) → ProviderDoes s e t → provider_steps.restarted t ≡ provider_with s (provider_stored.changed_all e.changes s.rows)
provider_left s t e (steps.Done by) =
    ap (λ (o : provider_moves.Out). provider_steps.restarted o.state) by.out_is ∙ ap (λ (o : provider_moves.Out). provider_with s (provider_stored.changed_all o.changes s.rows)) (sym by.out_is)
provider_left s t e (steps.Restarted now is) =
    ap (λ (o : provider_moves.Out). provider_steps.restarted o.state) is ∙ ap (λ (o : provider_moves.Out). provider_with s (provider_stored.changed_all o.changes s.rows)) (sym is)

-- ---- a node that can start again

pub restarts_can_start_again : RestartsCanStartAgain
restarts_can_start_again (Operates s) h = record {
  sound = operator_times.restarted_consistent s h.sound;
  whole = record { sessions = h.whole.sessions; resumable = h.whole.resumable; cdrs = h.whole.cdrs; billed = h.whole.billed };
}
restarts_can_start_again (Provides s) h = record {
  sound = (provider_times.restarted_consistent s h.sound.0, h.sound.1);
  whole = record { references = h.whole.references; tokens = h.whole.tokens; sessions = h.whole.sessions; cdrs = h.whole.cdrs; once = h.whole.once };
}

-- what it stored is the same under another setup
pub reopenings_can_start_again : ReopeningsCanStartAgain
reopenings_can_start_again = record {
  operators = λ s line h may. record {
    sound = operator_times.reopened_consistent line s may.sound h.sound;
    whole = record { sessions = h.whole.sessions; resumable = may.resumable; cdrs = h.whole.cdrs; billed = h.whole.billed };
  };
  providers = λ s p h may. record {
    sound = (provider_times.reopened_consistent p s may, h.sound.1);
    whole = record { references = h.whole.references; tokens = h.whole.tokens; sessions = h.whole.sessions; cdrs = h.whole.cdrs; once = h.whole.once };
  };
}

-- ---- openings

at_first : (setup : List Node) (n : Node) → IsOfOpening (opening_of setup n) (opening_of setup n)
at_first setup (node.Operator party site) = refl
at_first setup (node.Provider party) = refl

by_steps : (first n m : NodeState) (x : NodeEvent) → IsOfOpening first n → NodeStep n x m → IsOfOpening first m
by_steps (Operates first) (Operates s) (Operates t) (AtOperator e) is does =
    let left = operator_left s t e does in
    left ∙ ap (operator_sound.with_rows (operator_stored.changed_all e.changes s.rows)) is ∙ ap (λ (u : operator.State). operator_sound.with_rows u.rows first) (sym left)
by_steps (Provides first) (Provides s) (Provides t) (AtProvider e) is does =
    let left = provider_left s t e does in
    left ∙ ap (provider_sound.with_rows (provider_stored.changed_all e.changes s.rows)) is ∙ ap (λ (u : provider.State). provider_sound.with_rows u.rows first) (sym left)
by_steps (Operates first) (Provides s) m x is does = absurd is
by_steps (Provides first) (Operates s) m x is does = absurd is
by_steps (Operates first) (Operates s) (Provides t) (AtOperator e) is does = absurd does
by_steps (Operates first) (Operates s) m (AtProvider e) is does = absurd does
by_steps (Provides first) (Provides s) (Operates t) (AtProvider e) is does = absurd does
by_steps (Provides first) (Provides s) m (AtOperator e) is does = absurd does

by_restarts : (first n : NodeState) → IsOfOpening first n → IsOfOpening first (restarted n)
by_restarts (Operates first) (Operates s) is = is
by_restarts (Provides first) (Provides s) is = is
by_restarts (Operates first) (Provides s) is = absurd is
by_restarts (Provides first) (Operates s) is = absurd is

pub nodes_keep_openings : NodesKeepOpenings
nodes_keep_openings = record { at_first = at_first; by_steps = by_steps; by_restarts = by_restarts }
