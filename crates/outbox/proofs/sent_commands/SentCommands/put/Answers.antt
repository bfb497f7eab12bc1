use Rattle.std.proofs.Common.{true, false, ◌≡◌, sym, subst, ◌∙◌}
use Rattle.outbox.specs.Commands.{IsUnanswered}
use Rattle.outbox.proofs.Waiting.{waiting_put, answered_put, keeps_others, same_slots, other_slots}
use Rattle.outbox.proofs.sent_commands.SentCommands.put.Goals as goal

pub invariant_of-self : goal.invariant_of-self
invariant_of-self c = rw (c.put.ensures.shown, c.put-then-waits.ensures.shown) (waiting_put _ _ c.self.invariant c.args.number c.args.command (subst IsUnanswered c.deref.ensures (c.is_unanswered-waits.ensures.0 c.if-waits.true)))

pub invariant_of-self-else-waits : goal.invariant_of-self-else-waits
invariant_of-self-else-waits c = rw (c.put.ensures.shown, c.remove.ensures.shown) (answered_put _ _ c.self.invariant c.args.number c.args.command (λ is. let yes = c.is_unanswered-waits.ensures.1 (subst IsUnanswered (sym c.deref.ensures) is) in let bad : true ≡ false = sym yes ∙ c.if-waits.false in cc))

pub returns-else-waits-clause-keeps : goal.returns-else-waits-clause-keeps
returns-else-waits-clause-keeps c = rw (← c.self.view_is) (keeps_others _ _ c.args.number (λ q apart had. same_slots _ _ c.put.ensures.room q had) (other_slots _ _ c.args.number c.remove.ensures.room))
