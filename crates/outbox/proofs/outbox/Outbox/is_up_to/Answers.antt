use Rattle.std.proofs.Common.{◌≡◌, true, false, sym, ◌∙◌}
use Rattle.outbox.proofs.outbox.Outbox.is_up_to.Goals as goal

pub returns-then-is_up_to : goal.returns-then-is_up_to
returns-then-is_up_to c = rw (← c.self.view_is) (
  λ yes. record { pushes = c.is_up_to.ensures.0 c.if-is_up_to.true; commands = c.is_up_to-then-is_up_to.ensures.0 yes },
  λ h. c.is_up_to-then-is_up_to.ensures.1 h.commands,
)

pub returns-else-is_up_to : goal.returns-else-is_up_to
returns-else-is_up_to c = rw (← c.self.view_is) (
  λ yes. (let bad : true ≡ false = sym yes ∙ c.if-is_up_to.false in absurd (cc)),
  λ h. c.is_up_to.ensures.1 h.pushes,
)
