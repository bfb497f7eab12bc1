use Rattle.std.proofs.Common.{ap, ◌∙◌}
use Rattle.tables.proofs.Nothing.{no_entries, ok_not_err}
use Rattle.tables.proofs.Elements.{not_none}
use Rattle.token_desk.specs.Stored.{Rows}
use Rattle.token_desk.specs.TypeOrder.{tokens_total, tokens_exact}
use Rattle.token_desk.proofs.Listed.{listing_is}
use Rattle.token_desk.proofs.desk.TokenDesk.rows.Goals as goal

pub returns-in_err-rows-clause-none : goal.returns-in_err-rows-clause-none
returns-in_err-rows-clause-none c = λ none. ok_not_err c.count_rows.result _ c.in_err-rows.was (c.count_rows.ensures.none (ap (λ (s : Rows). s.references) none))

pub returns-in_err-token-clause-none : goal.returns-in_err-token-clause-none
returns-in_err-token-clause-none c = λ none. not_none _ _ _ c.in-Some.ensures.steps
    (c.loop-token.invariant.1 (c.into_iter-token-iterator.ensures.into_iter_gives ∙ c.tokens-token-items.ensures ∙ no_entries tokens_total tokens_exact _ (ap (λ (s : Rows). s.tokens) none)))

pub returns-in_err-push-clause-none : goal.returns-in_err-push-clause-none
returns-in_err-push-clause-none c = λ none. not_none _ _ _ c.in-Some.ensures.steps
    (c.loop-token.invariant.1 (c.into_iter-token-iterator.ensures.into_iter_gives ∙ c.tokens-token-items.ensures ∙ no_entries tokens_total tokens_exact _ (ap (λ (s : Rows). s.tokens) none)))

pub returns-clause-list : goal.returns-clause-list
returns-clause-list c =
    listing_is _ c.consistency.ensures _ _ _ _ c.in-None.ensures.steps.0 c.in_ok-rows.ensures.list (c.into_iter-token-iterator.ensures.into_iter_gives ∙ c.tokens-token-items.ensures) c.loop-token.invariant.0
