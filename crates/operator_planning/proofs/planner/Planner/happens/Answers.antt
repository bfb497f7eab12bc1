use Rattle.std.proofs.Common.{◌≡◌}
use Rattle.operator_steps.specs.Tick.{TickLine}
use Rattle.operator_planning.specs.Happenings.{unreplaced}
use Rattle.operator_planning.proofs.CountedDrafts.{returned}
use Rattle.operator_planning.proofs.TickDrafts.{peers_begin, starved_own, unnumbered}
use Rattle.operator_planning.proofs.planner.Planner.happens.Goals as goal

pub returns-in_err-due-clause-err : goal.returns-in_err-due-clause-err
returns-in_err-due-clause-err c = starved_own (TickLine c.args.self.now.state c.args.at) c.args.self.now.state c.from_residual.result c.from_residual.ensures.1

pub all_begun-requires : goal.all_begun-requires
all_begun-requires c = peers_begin c.args.self.now.state c.args.at c.requires.late c.args.beginnings.now c.consistency.ensures c.requires.begin

pub returns-in_err-begun-clause-err : goal.returns-in_err-begun-clause-err
returns-in_err-begun-clause-err c =
    returned (unnumbered c.args.self.now.state c.args.at c.consistency.ensures c.requires.late c.requires.are_late c.args.beginnings.now c.requires.begin c.in_ok-due.due c.in_ok-due.ensures)
    c.from_residual-in_err-begun.result _ c.from_residual-in_err-begun.ensures.1 c.in_err-begun.ensures.err

pub returns-in_err-resent-clause-err : goal.returns-in_err-resent-clause-err
returns-in_err-resent-clause-err c = starved_own (TickLine c.args.self.now.state c.args.at) c.args.self.now.state c.from_residual-in_err-resent.result c.from_residual-in_err-resent.ensures.1

pub returns-clause-ok : goal.returns-clause-ok
returns-clause-ok c =
    let left : c.in_ok-resent.resent.items ≡ unreplaced c.in_ok-begun.begun.items c.in_ok-due.due.pushes.items = rw (← c.as_slice.ensures.value, ← c.as_slice-2.ensures.value) c.in_ok-resent.ensures in
    record {
      due = c.in_ok-due.ensures;
      new_sessions = c.in_ok-begun.ensures.sessions;
      last_is = c.in_ok-begun.ensures.last;
      in_range = c.in_ok-begun.ensures.in_range;
      resent_are = left;
    }
