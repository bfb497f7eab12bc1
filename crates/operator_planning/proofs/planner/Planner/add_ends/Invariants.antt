use Rattle.std.proofs.Common.{◌≡◌, drop}
use Rattle.node_steps.proofs.Gathering.{all_turns}
use Rattle.operator_steps.specs.Ends.{end_acts}
use Rattle.operator_planning.proofs.planner.Planner.add_ends.Given as goal

-- with the ends that are left, all are gathered
abbrev pub invariant-loop-ending : goal.invariant-loop-ending
invariant-loop-ending l = all_turns (end_acts l.at l.self.state.rows.commands.pending) (drop l.ending-index l.ends) l.draft ≡ all_turns (end_acts l.at l.self.state.rows.commands.pending) l.ends l.initial.draft
