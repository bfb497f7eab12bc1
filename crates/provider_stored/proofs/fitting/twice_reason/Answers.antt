use Rattle.std.proofs.Common.{sym, ◌∙◌}
use Rattle.provider_stored.specs.Fitting.IsSaidTwice.{Bill, Credit}
use Rattle.provider_stored.proofs.fitting.twice_reason.Goals as goal

pub returns-then-is_credit : goal.returns-then-is_credit
returns-then-is_credit c = Credit (sym c.is_credit.ensures ∙ c.if-is_credit.true)

pub returns-else-is_credit : goal.returns-else-is_credit
returns-else-is_credit c = Bill (sym c.is_credit.ensures ∙ c.if-is_credit.false)
