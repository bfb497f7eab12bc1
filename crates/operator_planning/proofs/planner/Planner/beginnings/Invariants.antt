use Rattle.operator_planning.proofs.LateBeginnings.{BegunSoFar}
use Rattle.operator_planning.proofs.planner.Planner.beginnings.Given as goal

abbrev pub invariant-loop-number : goal.invariant-loop-number
invariant-loop-number l = BegunSoFar l.self.state l.at l.late l.number-index l.beginnings.items
