use Rattle.std.proofs.Common.{◌≡◌, inl, inr, sym}
use Rattle.std.specs.Prelude.{Some, None}
use Rattle.std.specs.FinMap.{get}
use Rattle.site_book.specs.declared.claim.Claim.TheVariants.{OpenStart}
use Rattle.operator_planning.proofs.planner.Planner.open_start_at.Goals as goal

pub returns-in_err-provider-clause-none : goal.returns-in_err-provider-clause-none
returns-in_err-provider-clause-none c =
    let none : get c.site_book.result.now.claims c.args.evse_uid ≡ None = sym c.in_err-provider.ensures in
    rw (c.from_residual.ensures, ← c.self.view_is) (λ p n x. let some = (c.site_book.ensures.claims c.args.evse_uid (OpenStart p n)).1 x in cc)

pub returns-in-OpenStart-clause-some : goal.returns-in-OpenStart-clause-some
returns-in-OpenStart-clause-some c =
    let some : get c.site_book.result.now.claims c.args.evse_uid ≡ Some c.in_ok-provider.field-0 = sym c.in_ok-provider.ensures in
    rw (← c.self.view_is) ((c.site_book.ensures.claims c.args.evse_uid (OpenStart c.in-OpenStart.provider c.in-OpenStart.number)).0 (cc))

pub returns-in-OpenStart-clause-only : goal.returns-in-OpenStart-clause-only
returns-in-OpenStart-clause-only c =
    let some : get c.site_book.result.now.claims c.args.evse_uid ≡ Some c.in_ok-provider.field-0 = sym c.in_ok-provider.ensures in
    rw (← c.self.view_is) (λ p n x. let also = (c.site_book.ensures.claims c.args.evse_uid (OpenStart p n)).1 x in (cc, cc))

pub returns-in-Live : goal.returns-in-Live
returns-in-Live c =
    let some : get c.site_book.result.now.claims c.args.evse_uid ≡ Some c.in_ok-provider.field-0 = sym c.in_ok-provider.ensures in
    record {
      some = tt;
      only = tt;
      none = rw (← c.self.view_is) (λ p n x. let also = (c.site_book.ensures.claims c.args.evse_uid (OpenStart p n)).1 x in elim c.in-Live.is [ inl h ↦ let e = h.2 in cc | inr h ↦ let e = h.2 in cc ]);
    }
