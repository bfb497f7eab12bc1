use Rattle.std.proofs.Common.{rules}
use Rattle.std.proofs.lemmas.List.Sorted.{IsNonDecreasingBy-from_sort_by_key}
use Rattle.stored_rows.specs.Turns.{rank_of}
use Rattle.stored_rows.proofs.Growing.{turn_rises}
use Rattle.stored_rows.proofs.turns.in_turn.Goals as goal

pub returns-clause-by_rank : goal.returns-clause-by_rank
returns-clause-by_rank c = IsNonDecreasingBy-from_sort_by_key rank_of _ c.sort_unstable_by_key.ensures.sorted (λ a r q k. search rules)

pub returns-clause-order : goal.returns-clause-order
returns-clause-order c i j d up bound =
    turn_rises _ _ (IsNonDecreasingBy-from_sort_by_key rank_of _ c.sort_unstable_by_key.ensures.sorted (λ a r q k. search rules) i j d up bound)
