use Rattle.std.proofs.Common.{◌≡◌, ◌++◌, ◌∷◌, [], arith}
use Rattle.operator_planning.proofs.LateBeginnings.{all_have_begun, none_begins, one_begins}
use Rattle.operator_planning.proofs.planner.Planner.beginnings.Goals as goal
use Rattle.operator_planning.proofs.planner.Planner.beginnings.Goals.{in-Some+in_ok-push, in_default}

pub loop-number-preserved : goal.loop-number-preserved
loop-number-preserved c =
    let s = c.args.self.now.state in
    let at = c.loop-number in
    let k = c.number-item.result in
    elim c.match-beginning.branch [
      | in-Some+in_ok-push w ↦
          let items : c.match-beginning.beginnings.items ≡ at.beginnings.items ++ w.in-Some.beginning ∷ [] = rw w.beginnings-is w.in_ok-push.ensures.items in
          rw items (one_begins s c.args.at c.args.late.now at.number-index k w.in-Some.beginning at.beginnings.items c.loop-number-test.true c.number-item.is w.in-Some.ensures at.invariant)
      | in_default w ↦
          rw w.beginnings-is (none_begins s c.args.at c.args.late.now at.number-index k at.beginnings.items c.loop-number-test.true c.number-item.is w.in_default.ensures at.invariant)
    ]

pub returns : goal.returns
returns c =
    let at = c.loop-number in
    all_have_begun c.args.self.now.state c.args.at c.args.late.now at.number-index at.beginnings.items (omega (arith, c.loop-number-test.false)) at.invariant
