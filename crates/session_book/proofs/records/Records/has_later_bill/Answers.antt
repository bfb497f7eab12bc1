use Rattle.std.proofs.Common.{◌≡◌, ◌∙◌, ap, true, false}
use Rattle.std.specs.Ordering.{is_eq}
use Rattle.session_book.proofs.Bills.{later_iff, none_later}
use Rattle.session_book.proofs.records.Records.has_later_bill.Goals as goal

pub returns : goal.returns
returns c = rw (← c.self.view_is)
    (later_iff _ _ _ c.self.invariant c.args.session c.args.id c.in-Some.next.0 c.in-Some.next.1.now c.is_eq.result (c.is_eq.ensures ∙ ap is_eq c.cmp.ensures) c.in-Some.ensures.some)

pub returns-in_default : goal.returns-in_default
returns-in_default c = rw (← c.self.view_is)
    (λ t. absurd (let bad : false ≡ true = t in cc), λ h. absurd (none_later _ _ _ c.self.invariant c.args.session c.args.id c.in_default.ensures.none h))
