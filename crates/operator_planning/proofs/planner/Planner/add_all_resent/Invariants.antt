use Rattle.std.proofs.Common.{◌≡◌, drop}
use Rattle.std.specs.FinMap.{get}
use Rattle.node_steps.proofs.Gathering.{all_turns}
use Rattle.operator_steps.specs.Ends.{resent_acts}
use Rattle.operator_planning.proofs.planner.Planner.add_all_resent.Given as goal

-- with the pushes that are left, all are sent again
abbrev pub invariant-loop-number : goal.invariant-loop-number
invariant-loop-number l = all_turns (λ last n. resent_acts l.self.state.providers l.at n (get l.self.state.rows.pushes n)) (drop l.number-index l.numbers) l.draft ≡ all_turns (λ last n. resent_acts l.self.state.providers l.at n (get l.self.state.rows.pushes n)) l.numbers l.initial.draft
