use Rattle.std.proofs.Common.{◌≡◌, sym, ap, ◌∙◌, Some}
use Rattle.std.specs.FinMap.{get, contains_key}
use Rattle.tables.specs.Keys.{text_cmp}
use Rattle.tables.specs.Tables.{shown_of}
use Rattle.site_book.specs.Sites.{Claims, OutOfService}
use Rattle.site_book.proofs.Finding.{known_evse}
use Rattle.site_book.proofs.Remarking.{flags_stand, inserted_other, remarked}
use Rattle.site_book.proofs.book.SiteBook.put_claim.Goals as goal

pub unwrap-position-requires : goal.unwrap-position-requires
unwrap-position-requires c = rw c.position.ensures (known_evse _ _ _ _ c.self.invariant.2.evses_found c.args.evse (rw (← c.self.view_is) at c.requires))

pub put_claim-requires-clause-room : goal.put_claim-requires-clause-room
put_claim-requires-clause-room c =
    let known : get (shown_of text_cmp c.self.inside.indexes.evses) c.args.evse ≡ Some c.unwrap-position.result = sym c.position.ensures ∙ c.unwrap-position.ensures in
    c.self.invariant.2.evses_found.room c.args.evse c.unwrap-position.result tt (c.self.invariant.2.evses_found.sound c.args.evse c.unwrap-position.result known)

pub put_claim-requires-clause-flags : goal.put_claim-requires-clause-flags
put_claim-requires-clause-flags c =
    let known : get (shown_of text_cmp c.self.inside.indexes.evses) c.args.evse ≡ Some c.unwrap-position.result = sym c.position.ensures ∙ c.unwrap-position.ensures in
    flags_stand _ c.self.invariant.1 _ c.self.invariant.2 c.args.evse c.unwrap-position.result (c.self.invariant.2.evses_found.sound c.args.evse c.unwrap-position.result known)

pub invariant_of-self : goal.invariant_of-self
invariant_of-self c =
    let known : get (shown_of text_cmp c.self.inside.indexes.evses) c.args.evse ≡ Some c.unwrap-position.result = sym c.position.ensures ∙ c.unwrap-position.ensures in (
      c.self.invariant.0,
      c.self.invariant.1,
      remarked _ c.self.invariant.1 _ c.self.invariant.2 c.args.evse c.unwrap-position.result (c.self.invariant.2.evses_found.sound c.args.evse c.unwrap-position.result known) c.put_claim.new.self c.put_claim.ensures.marks
          (λ q apart. ap (λ (m : Claims). contains_key m q) c.put_claim.ensures.claims ∙ inserted_other (shown_of text_cmp c.self.inside.indexes.claims) c.args.evse c.args.claim q apart)
          (λ q apart. ap (λ (m : OutOfService). contains_key m q) c.put_claim.ensures.out_of_service),
    )
