use Rattle.session_book.proofs.Bills.{bill_found, no_bill, sole_found, two_bills}
use Rattle.std.proofs.Common.{◌≡◌, ◌∙◌, sym, true, false}
use Rattle.session_book.proofs.records.Records.sole_bill.Goals as goal

pub returns-in_default-clause-none : goal.returns-in_default-clause-none
returns-in_default-clause-none c = rw (← c.self.view_is) (no_bill _ _ _ c.self.invariant c.args.session c.in_default.ensures.none)

pub returns-then-has_later_bill-clause-none : goal.returns-then-has_later_bill-clause-none
returns-then-has_later_bill-clause-none c =
    let later = rw (← c.self.view_is) at c.has_later_bill.ensures.0 c.if-has_later_bill.true in
    rw (← c.self.view_is) (two_bills _ _ _ c.self.invariant c.args.session c.in-Some.first.0 _ c.in-Some.ensures.some later)

pub returns-clause-some : goal.returns-clause-some
returns-clause-some c =
    let tells = rw (← c.self.view_is) at c.has_later_bill.ensures.1 in
    rw (← c.self.view_is) (sole_found _ _ _ c.self.invariant c.args.session c.in-Some.first.0 _ c.in-Some.ensures.some
    (λ h. let bad : true ≡ false = sym (tells h) ∙ c.if-has_later_bill.false in cc) c.get.result (rw (← c.self.view_is) at c.get.ensures))

pub returns-clause-none : goal.returns-clause-none
returns-clause-none c = bill_found _ _ _ c.self.invariant c.args.session c.in-Some.first.0 _ c.in-Some.ensures.some _ c.get.result (rw (← c.self.view_is) at c.get.ensures)
