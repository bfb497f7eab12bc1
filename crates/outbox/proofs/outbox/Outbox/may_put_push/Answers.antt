use Rattle.std.proofs.Common.{sym, ◌∙◌}
use Rattle.std.proofs.lemmas.Map.Keys.{le_from_not_gt}
use Rattle.tables.proofs.Options.{is_none}
use Rattle.outbox.proofs.MayPuts.{may_some, found_same, may_none, same_numbers, told_same}
use Rattle.outbox.proofs.outbox.Outbox.may_put_push.Goals as goal

pub returns-in-Some : goal.returns-in-Some
returns-in-Some c = rw (← c.self.view_is) (
  λ same. may_some _ c.self.invariant.consistent c.args.number _ c.in-Some.found (rw c.in-Some.is at c.replaced.ensures) (le_from_not_gt _ _ (sym c.gt.ensures ∙ c.if-gt.false)) (is_none _ (sym c.stands.ensures ∙ c.if-stands.false)) (same_numbers _ _ _ c.eq.ensures same),
  λ may. told_same _ _ _ c.eq.ensures (found_same _ c.self.invariant.consistent c.args.number _ c.in-Some.found (rw c.in-Some.is at c.replaced.ensures) may),
)

pub returns-in-None : goal.returns-in-None
returns-in-None c = rw (← c.self.view_is) (
  λ yes. may_none _ c.self.invariant.consistent c.args.number _ (rw c.in-None.is at c.replaced.ensures) (le_from_not_gt _ _ (sym c.gt.ensures ∙ c.if-gt.false)) (is_none _ (sym c.stands.ensures ∙ c.if-stands.false)),
  λ may. cc,
)
