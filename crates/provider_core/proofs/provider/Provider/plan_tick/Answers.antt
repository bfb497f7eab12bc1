use Rattle.outbox.specs.Due.{AreExactly, IsDue}
use Rattle.node_steps.specs.Drafts.{step_of}
use Rattle.provider_rows.specs.Sound.{IsConsistent}
use Rattle.provider_steps.specs.Tick.{TickLine, all_resent}
use Rattle.provider_core.proofs.Plans.{all_may, all_planned}
use Rattle.provider_core.proofs.Resending.{resent_within, tick_line}
use Rattle.provider_core.proofs.provider.Provider.plan_tick.Goals as goal

pub returns-clause-step : goal.returns-clause-step
returns-clause-step c =
    let s = c.args.self.now.state in
    let due = c.as_slice.result.now in
    let are : AreExactly (IsDue s.rows.outbox s.resend c.args.at) due = rw (c.as_slice.ensures.value, ← c.self.view_is, ← c.outbox.ensures.rows, ← c.outbox.ensures.resend) c.in_ok-due.ensures.ok in
    all_planned (TickLine s c.args.at) s c.plan_resent.result step_of (all_resent s.operators c.args.at s.rows.outbox due) (tick_line s c.args.at due are) (resent_within s.operators c.args.at s.rows.outbox due) c.plan_resent.ensures.in_range c.plan_resent.ensures.ok

pub returns-clause-follows : goal.returns-clause-follows
returns-clause-follows c =
    let s = c.args.self.now.state in
    let due = c.as_slice.result.now in
    let are : AreExactly (IsDue s.rows.outbox s.resend c.args.at) due = rw (c.as_slice.ensures.value, ← c.self.view_is, ← c.outbox.ensures.rows, ← c.outbox.ensures.resend) c.in_ok-due.ensures.ok in
    let consistent : IsConsistent s = rw (← c.self.view_is) c.consistency.ensures in
    all_may (TickLine s c.args.at) s c.plan_resent.result step_of (λ acts line range. c.ticks_may_follow.ensures c.args.at s acts consistent line range)
    (all_planned (TickLine s c.args.at) s c.plan_resent.result step_of (all_resent s.operators c.args.at s.rows.outbox due) (tick_line s c.args.at due are) (resent_within s.operators c.args.at s.rows.outbox due) c.plan_resent.ensures.in_range c.plan_resent.ensures.ok)
