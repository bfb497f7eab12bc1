use Rattle.std.proofs.Common.{ℕ, Option, sym, ap, subst, ◌∙◌}
use Rattle.std.specs.Prelude.{option_copied}
use Rattle.std.specs.FinMap.{get}
use Rattle.node_store.specs.Contents.{AnswersNumber, number_kept, number_of_text}
use Rattle.node_store.specs.Placing.{kept}
use Rattle.node_store.proofs.list_keep.line_of.Goals as goal

pub returns : goal.returns
returns c =
    let stands = ap (get (kept c.args.stored.now)) (sym c.line_place.ensures) ∙ sym c.get.ensures ∙ ap option_copied c.in-Some.is in
    subst (λ (o : Option ℕ). AnswersNumber c.number_of_text.result o) (ap number_of_text (c.as_bytes.ensures.value ∙ c.in_ok-text.ensures) ∙ sym (ap number_kept stands)) c.number_of_text.ensures
