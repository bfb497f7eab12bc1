use Rattle.std.proofs.Common.{ap}
use Rattle.std.specs.Prelude.{is_some}
use Rattle.operator_steps.specs.Tick.{TickLine}
use Rattle.operator_planning.specs.Planned.{AreBeginnings}
use Rattle.operator_planning.proofs.TickDrafts.{all_happen, starved_own}
use Rattle.operator_planning.proofs.planner.Planner.happening.Goals as goal

pub beginnings-requires : goal.beginnings-requires
beginnings-requires c = λ n i. ap is_some ((c.requires.exact n).0 i).stands

pub returns-in_err-beginnings-clause-err : goal.returns-in_err-beginnings-clause-err
returns-in_err-beginnings-clause-err c = starved_own (TickLine c.args.self.now.state c.args.at) c.args.self.now.state c.from_residual.result c.from_residual.ensures.1

pub happens-requires : goal.happens-requires
happens-requires c =
    let begin : AreBeginnings c.args.self.now.state c.args.at c.args.late.now c.as_slice.result.now = rw c.as_slice.ensures.value c.in_ok-beginnings.ensures in
    record { late = c.args.late.now; are_late = c.requires; begin = begin }

pub returns-clause-ok : goal.returns-clause-ok
returns-clause-ok c =
    let begin : AreBeginnings c.args.self.now.state c.args.at c.args.late.now c.as_slice.result.now = rw c.as_slice.ensures.value c.in_ok-beginnings.ensures in
    all_happen c.args.self.now.state c.args.at c.args.late.now c.as_slice.result.now c.happens.result begin c.happens.ensures.ok
