use Rattle.outbox.proofs.DueNumbers.{due_sorted, front_is_due, push_is_due, command_is_due}
use Rattle.outbox.proofs.outbox.Outbox.due.Goals as goal

pub returns-clause-ok : goal.returns-clause-ok
returns-clause-ok c =
    rw (← c.self.view_is) (due_sorted _ _ _ _ c.self.inside.first c.args.at c.self.invariant c.push_past.ensures.exact c.waiting_from.ensures.exact
    c.new-due.result.items _ _ _ c.sort_unstable.new.self.items c.new-due.ensures.items c.in_ok-push_past.ensures.ok
    (rw c.visits_from.ensures at c.in_ok-push_untimed.ensures.ok) (rw c.waiting_from.ensures.visits at c.in_ok-push_untimed-2.ensures.ok)
    c.sort_unstable.ensures.permutation c.sort_unstable.ensures.sorted)

pub returns-in_err-push_past-clause-none : goal.returns-in_err-push_past-clause-none
returns-in_err-push_past-clause-none c = rw (← c.self.view_is) (λ nothing. absurd (let bad = c.in_err-push_past.ensures.err in nothing bad.0 (front_is_due _ _ _ _ c.args.at c.self.invariant c.push_past.ensures.exact bad.0 bad.1)))

pub returns-in_err-push_untimed-clause-none : goal.returns-in_err-push_untimed-clause-none
returns-in_err-push_untimed-clause-none c = rw (← c.self.view_is) (λ nothing. absurd (let bad = (rw c.visits_from.ensures at c.in_err-push_untimed.ensures.err) in nothing bad.0 (push_is_due _ _ c.self.inside.first c.args.at bad.0 bad.1)))

pub returns-in_err-push_untimed-2-clause-none : goal.returns-in_err-push_untimed-2-clause-none
returns-in_err-push_untimed-2-clause-none c = rw (← c.self.view_is) (λ nothing. absurd (let bad = (rw c.waiting_from.ensures.visits at c.in_err-push_untimed-2.ensures.err) in nothing bad.0 (command_is_due _ _ _ c.self.inside.first c.args.at c.waiting_from.ensures.exact bad.0 bad.1)))
