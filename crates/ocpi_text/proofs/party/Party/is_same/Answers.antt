use Rattle.std.proofs.Common.{◌∙◌, sym, ap, arith}
use Rattle.std.specs.Char.{to_ascii_uppercase}
use Rattle.std.proofs.lemmas.Bool.Decides.{nat_tests}
use Rattle.ocpi_text.proofs.Numbers.{party_same_last}
use Rattle.ocpi_text.proofs.party.Party.is_same.Goals as goal

pub returns-else-to_ascii_uppercase : goal.returns-else-to_ascii_uppercase
returns-else-to_ascii_uppercase c = (
  λ t. absurd (grind (arith, nat_tests, t, c.if-to_ascii_uppercase.false)),
  λ e.
      let same = party_same_last c.args.self.now c.args.other.now c.last-last.ensures.party c.last-other_last.ensures.party e in
      let equal = c.to_ascii_uppercase.ensures.value ∙ ap to_ascii_uppercase c.last-last.ensures.value ∙ same ∙ sym (c.to_ascii_uppercase-2.ensures.value ∙ ap to_ascii_uppercase c.last-other_last.ensures.value) in
      grind (arith, nat_tests, equal),
)
