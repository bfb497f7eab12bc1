use Rattle.std.proofs.Common.{rules, ◌≡◌, ℕ, List, sym, ap, subst, ◌∙◌}
use Rattle.std.specs.Prelude.{Some}
use Rattle.ocpi_text.specs.declared.own_ids.OwnIdKind.TheVariants.{AuthorizationReference}
use Rattle.ocpi_types.specs.Commands.{reference_of}
use Rattle.provider_stored.specs.Fitting.HasStrangeReference.{OfOther, NotGivenYet}
use Rattle.stored_rows.specs.Given.{IsOwnId}
use Rattle.provider_stored.proofs.fitting.reference_fault.Goals as goal

pub returns-in_default-own_number-clause-strange : goal.returns-in_default-own_number-clause-strange
returns-in_default-own_number-clause-strange c =
    let is : reference_of c.args.command.now ≡ Some c.in-Some.reference = sym c.authorization_reference.ensures ∙ c.in-Some.is in
    OfOther c.in-Some.reference is (λ n own.
    c.in_default-own_number.ensures.none n (subst (λ (t : List ℕ). IsOwnId AuthorizationReference c.args.party.now t n) (sym c.as_str.ensures.value) own))

pub returns-then-lt-clause-strange : goal.returns-then-lt-clause-strange
returns-then-lt-clause-strange c =
    let is : reference_of c.args.command.now ≡ Some c.in-Some.reference = sym c.authorization_reference.ensures ∙ c.in-Some.is in
    let n = c.in-Some-own_number.number in
    let own = subst (λ (t : List ℕ). IsOwnId AuthorizationReference c.args.party.now t n) c.as_str.ensures.value c.in-Some-own_number.ensures.some in
    NotGivenYet c.in-Some.reference n is own (search rules)
