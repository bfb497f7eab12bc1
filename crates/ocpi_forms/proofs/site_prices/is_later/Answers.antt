use Rattle.std.proofs.Common.{◌≡◌, Some, rules, sym, ap, subst, ◌∙◌}
use Rattle.std.specs.Prelude.{option_copied}
use Rattle.ocpi_forms.proofs.PriceForms.{later_than}
use Rattle.ocpi_forms.proofs.site_prices.is_later.Goals as goal

pub returns-in-Some : goal.returns-in-Some
returns-in-Some c =
    let same = later_than c.args.before.now (Some c.in-Some.entry.now) c.args.at (ap option_copied (sym c.in-Some.is) ∙ c.last.ensures.value) in
    subst (λ b. c.lt.result ≡ b) same (search rules)
