use Rattle.std.proofs.Common.{ap}
use Rattle.handover.specs.Inbox.{InboxRows}
use Rattle.handover.proofs.InboxListed.{not_empty}
use Rattle.handover.proofs.inbox.Inbox.is_empty.Goals as goal

pub returns-in-Some-clause-no : goal.returns-in-Some-clause-no
returns-in-Some-clause-no c = rw (← c.self.view_is) (λ never is. not_empty _ _ _ c.in-Some.ensures.some.0 (ap (λ (s : InboxRows). s.sessions) is))

pub returns-in-None-clause-no : goal.returns-in-None-clause-no
returns-in-None-clause-no c = rw (← c.self.view_is) (λ false is. c.is_empty.ensures.no false (ap (λ (s : InboxRows). s.cdrs) is))
