use Rattle.std.proofs.Common.{rules, ltb}
use Rattle.std.proofs.lemmas.Fn.{always_returns_same}
use Rattle.ocpi_types.specs.declared.price_lists.PriceFrom.{PriceFrom}
use Rattle.ocpi_types.proofs.Begun.{rising_decided}
use Rattle.ocpi_types.proofs.price_lists.are_rising.Goals as goal

pub returns : goal.returns
returns c =
    let is_earlier = λ (p q : PriceFrom). ltb p.start_date_time q.start_date_time in
    rising_decided (λ p. p.start_date_time) c.args.prices.now c.is_sorted_by.result (c.is_sorted_by.ensures.cases is_earlier (always_returns_same _ _ _ (λ a r q k. search rules)))
