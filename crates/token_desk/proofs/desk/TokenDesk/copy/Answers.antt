use Rattle.std.proofs.Common.{ap, ◌∙◌}
use Rattle.tables.proofs.Nothing.{no_entries}
use Rattle.tables.proofs.Elements.{not_none}
use Rattle.token_desk.specs.Stored.{Rows, Held}
use Rattle.token_desk.specs.TypeOrder.{tokens_total, tokens_exact}
use Rattle.token_desk.proofs.Listed.{copied_start, copied_next, copied_end}
use Rattle.token_desk.proofs.desk.TokenDesk.copy.Goals as goal

pub loop-token-init : goal.loop-token-init
loop-token-init c = (
  (
    copied_start _ _ _ c.consistency.ensures (ap (λ (h : Held). h.rows.tokens) c.set_references.ensures ∙ ap (λ (r : Rows). r.tokens) c.new-desk.ensures.rows)
        (c.into_iter-token-iterator.ensures.into_iter_gives ∙ c.tokens-token-items.ensures),
    ap (λ (h : Held). h.rows.references) c.set_references.ensures ∙ c.references.ensures,
  ),
  λ none. none,
)

pub loop-token-preserved : goal.loop-token-preserved
loop-token-preserved c = (
  copied_next _ _ _ _ (c.in-Some.field-0-0.now, c.in-Some.token.now) _ _ c.in-Some.ensures.steps c.in_ok-insert.ensures.rows c.loop-token.invariant.0,
  λ none. not_none _ _ _ c.in-Some.ensures.steps (c.loop-token.invariant.1 none),
)

pub returns-in_err-insert-clause-none : goal.returns-in_err-insert-clause-none
returns-in_err-insert-clause-none c = λ none. not_none _ _ _ c.in-Some.ensures.steps
    (c.loop-token.invariant.1 (c.into_iter-token-iterator.ensures.into_iter_gives ∙ c.tokens-token-items.ensures ∙ no_entries tokens_total tokens_exact _ none))

pub returns-clause-rows : goal.returns-clause-rows
returns-clause-rows c = copied_end _ _ _ c.in-None.ensures.steps.0 c.loop-token.invariant.0
