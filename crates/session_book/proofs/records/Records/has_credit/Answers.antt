use Rattle.std.proofs.Common.{◌≡◌, true, false}
use Rattle.session_book.proofs.Bills.{credit_there, no_credit}
use Rattle.session_book.proofs.records.Records.has_credit.Goals as goal

pub returns-in-Some : goal.returns-in-Some
returns-in-Some c = rw (← c.self.view_is) (λ t. credit_there _ _ _ c.self.invariant c.args.session _ _ c.in-Some.ensures.some.0, λ h i. true)

pub returns-in-None : goal.returns-in-None
returns-in-None c = rw (← c.self.view_is) (λ t. absurd (let bad : false ≡ true = t in cc), λ h. absurd (no_credit _ _ _ c.self.invariant c.args.session c.in-None.ensures.none h))
