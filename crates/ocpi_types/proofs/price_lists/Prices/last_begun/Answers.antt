use Rattle.std.proofs.Common.{◌<◌, AllPairs, Some, arith, rules, leb, sym, subst, ap, ◌∙◌}
use Rattle.std.proofs.lemmas.List.Sorted.{IsPartitionPoint-from_clause, IsPartitionedBy-leb}
use Rattle.ocpi_types.specs.PriceLists.{IsEarlier, last_begun}
use Rattle.ocpi_types.proofs.PriceLaws.{by_moments, none_begun, one_begun}
use Rattle.ocpi_types.proofs.price_lists.Prices.last_begun.Goals as goal

pub returns-in-0 : goal.returns-in-0
returns-in-0 c =
    let rising = subst (AllPairs IsEarlier) (sym c.as_slice-prices.ensures.value) c.self.invariant.rising in
    let parted = IsPartitionedBy-leb (λ p. p.start_date_time) c.as_slice-prices.result.now c.args.at (by_moments _ rising) in
    let point = IsPartitionPoint-from_clause (λ p. leb p.start_date_time c.args.at) c.as_slice-prices.result.now c.partition_point.result c.partition_point.ensures.partitioned parted (λ a r q k. search rules) in
    sym (ap (last_begun c.args.at) (sym c.self.view_is ∙ sym c.as_slice-prices.ensures.value) ∙ none_begun _ _ _ point c.in-0.is)

pub returns-in_default : goal.returns-in_default
returns-in_default c =
    let rising = subst (AllPairs IsEarlier) (sym c.as_slice-prices.ensures.value) c.self.invariant.rising in
    let parted = IsPartitionedBy-leb (λ p. p.start_date_time) c.as_slice-prices.result.now c.args.at (by_moments _ rising) in
    let point = IsPartitionPoint-from_clause (λ p. leb p.start_date_time c.args.at) c.as_slice-prices.result.now c.partition_point.result c.partition_point.ensures.partitioned parted (λ a r q k. search rules) in
    let some : 0 < c.partition_point.result = omega arith in
    sym (
    ap (last_begun c.args.at) (sym c.self.view_is ∙ sym c.as_slice-prices.ensures.value)
    ∙ one_begun _ _ _ c.index-prices-begun.result point some c.partition_point.ensures.bound
    ∙ ap Some (sym c.index-prices-begun.is)
    )
