use Rattle.std.proofs.Common.{ℕ, List, sym, subst, ◌∙◌, arith}
use Rattle.std.specs.FinMap.{get}
use Rattle.node_steps.specs.Acts.{Act}
use Rattle.node_steps.specs.Drafts.{HasNumbersOf}
use Rattle.node_steps.proofs.Gathering.{turn_at, turn_at_has}
use Rattle.operator_steps.specs.Ends.{resent_acts}
use Rattle.operator_planning.proofs.Loops.{flat_done, flat_in_turn}
use Rattle.operator_planning.proofs.planner.Planner.add_all_resent.Goals as goal

pub add_resent-requires : goal.add_resent-requires
add_resent-requires c =
    let m = c.args.self.now.state.rows.pushes in
    let one : ℕ → List Act = λ n. resent_acts c.args.self.now.state.providers c.args.at n (get m n) in
    let at = c.loop-number in
    turn_at_has (λ last n. one n) c.args.numbers.now at.number-index c.number-item.result at.draft c.args.draft.now c.loop-number-test.true c.number-item.is at.invariant
    (subst (λ l. HasNumbersOf l c.args.draft.now) (sym (flat_in_turn one c.args.draft.now.counters.request c.args.numbers.now)) c.requires)

pub loop-number-preserved : goal.loop-number-preserved
loop-number-preserved c =
    let m = c.args.self.now.state.rows.pushes in
    let one : ℕ → List Act = λ n. resent_acts c.args.self.now.state.providers c.args.at n (get m n) in
    let at = c.loop-number in
    rw c.in_ok-add_resent.ensures (turn_at (λ last n. one n) c.args.numbers.now at.number-index c.number-item.result at.draft c.loop-number-test.true c.number-item.is) ∙ at.invariant

pub returns : goal.returns
returns c =
    let m = c.args.self.now.state.rows.pushes in
    let one : ℕ → List Act = λ n. resent_acts c.args.self.now.state.providers c.args.at n (get m n) in
    let at = c.loop-number in
    flat_done one c.args.numbers.now at.number-index at.draft c.args.draft.now (omega (arith, c.loop-number-test.false)) at.invariant
