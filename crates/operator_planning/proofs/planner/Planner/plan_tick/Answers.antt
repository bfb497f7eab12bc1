use Rattle.std.proofs.Common.{◌≡◌, map}
use Rattle.authorization_book.specs.Waits as waits
use Rattle.authorization_book.specs.declared.waiting.Waiting.TheVariants.{Ends}
use Rattle.outbox.specs.Due.{AreExactly}
use Rattle.node_steps.specs.Drafts.{step_of}
use Rattle.operator_steps.specs.Tick.{TickLine}
use Rattle.operator_steps.proofs.TickSteps.{ticks, timed_open}
use Rattle.operator_planning.specs.Happenings.{IsHappening}
use Rattle.operator_planning.proofs.CountedDrafts.{returned}
use Rattle.operator_planning.proofs.PlannedActs.{own_fault, planned_may}
use Rattle.operator_planning.proofs.TickDrafts.{exactly_due, happens_line, resent_stand, starved_own, work_of}
use Rattle.operator_planning.proofs.planner.Planner.plan_tick.Goals as goal

pub returns-in_err-late-clause-fault : goal.returns-in_err-late-clause-fault
returns-in_err-late-clause-fault c = starved_own (TickLine c.args.self.now.state c.args.at) c.args.self.now.state c.from_residual.result c.from_residual.ensures.1

pub happening-requires : goal.happening-requires
happening-requires c =
    let s = c.args.self.now.state in
    let late : AreExactly (waits.IsDue s.waits c.args.at) c.in_ok-late.late.items = exactly_due s.waits c.args.at c.in_ok-late.late.items (rw (← c.self.view_is, ← c.waits.ensures) c.in_ok-late.ensures.list) in
    rw c.as_slice.ensures.value late

pub returns-in_err-all-clause-fault : goal.returns-in_err-all-clause-fault
returns-in_err-all-clause-fault c = returned (λ f h. h) c.from_residual-in_err-all.result _ c.from_residual-in_err-all.ensures.1 c.in_err-all.ensures.err

pub plan_all-requires-clause-open : goal.plan_all-requires-clause-open
plan_all-requires-clause-open c =
    let s = c.args.self.now.state in
    timed_open s c.args.at c.in_ok-all.all.due.ends.items c.in_ok-all.ensures.ok.happen.due.timed_out

pub plan_all-requires-clause-stand : goal.plan_all-requires-clause-stand
plan_all-requires-clause-stand c =
    let s = c.args.self.now.state in
    let h = c.in_ok-all.ensures.ok in
    resent_stand s c.args.at h.beginnings c.in_ok-all.all h.happen

pub plan_all-requires-clause-number : goal.plan_all-requires-clause-number
plan_all-requires-clause-number c = c.in_ok-all.ensures.ok.happen.in_range

pub returns-in_err-plan-clause-fault : goal.returns-in_err-plan-clause-fault
returns-in_err-plan-clause-fault c =
    let s = c.args.self.now.state in
    let late : AreExactly (waits.IsDue s.waits c.args.at) c.in_ok-late.late.items = exactly_due s.waits c.args.at c.in_ok-late.late.items (rw (← c.self.view_is, ← c.waits.ensures) c.in_ok-late.ensures.list) in
    let x = c.in_ok-all.all in
    let h : IsHappening s c.args.at c.in_ok-late.late.items x = rw (← c.as_slice.ensures.value) c.in_ok-all.ensures.ok in
    let line = happens_line s c.args.at c.consistency.ensures c.in_ok-late.late.items late h.beginnings h.begin x h.happen in
    let work = work_of s c.args.at c.consistency.ensures c.in_ok-late.late.items late h.beginnings h.begin x in
    returned (own_fault (TickLine s c.args.at) s work line) c.from_residual-in_err-plan.result _ c.from_residual-in_err-plan.ensures.1 c.in_err-plan.ensures.err

pub returns-in_err-waits-clause-fault : goal.returns-in_err-waits-clause-fault
returns-in_err-waits-clause-fault c = starved_own (TickLine c.args.self.now.state c.args.at) c.args.self.now.state c.from_residual-in_err-waits.result c.from_residual-in_err-waits.ensures.1

pub returns-clause-step : goal.returns-clause-step
returns-clause-step c =
    let s = c.args.self.now.state in
    let late : AreExactly (waits.IsDue s.waits c.args.at) c.in_ok-late.late.items = exactly_due s.waits c.args.at c.in_ok-late.late.items (rw (← c.self.view_is, ← c.waits.ensures) c.in_ok-late.ensures.list) in
    let x = c.in_ok-all.all in
    let h : IsHappening s c.args.at c.in_ok-late.late.items x = rw (← c.as_slice.ensures.value) c.in_ok-all.ensures.ok in
    let waiting : c.in_ok-waits.waits.items ≡ map Ends c.in_ok-late.late.items = rw (← c.as_slice-2.ensures.value) c.in_ok-waits.ensures in
    record {
      work = work_of s c.args.at c.consistency.ensures c.in_ok-late.late.items late h.beginnings h.begin x;
      line = happens_line s c.args.at c.consistency.ensures c.in_ok-late.late.items late h.beginnings h.begin x h.happen;
      in_range = c.in_ok-plan.ensures.in_range;
      step_is = λ i. record { step = c.in_ok-plan.ensures.ok i; waits = waiting i };
    }

pub returns-clause-follows : goal.returns-clause-follows
returns-clause-follows c =
    let s = c.args.self.now.state in
    planned_may (TickLine s c.args.at) s (record { step = step_of c.in_ok-plan.plan; waits = c.in_ok-waits.waits.items }) (λ work line in_range. ticks c.args.at s work c.consistency.ensures line in_range) (returns-clause-step c)
