use Rattle.std.proofs.Common.{ap, sym, ◌∙◌}
use Rattle.std.proofs.lemmas.Bool.{eqb-true}
use Rattle.reservation_book.proofs.Orders.{group_total, group_exact}
use Rattle.tables.proofs.Ties.{same_when_tied, apart_when_not}
use Rattle.reservation_book.proofs.listings.is_for.Goals as goal

pub returns-then-is_eq-clause-yes : goal.returns-then-is_eq-clause-yes
returns-then-is_eq-clause-yes c = λ h. record {
  group_is = sym c.token.ensures ∙ same_when_tied group_total group_exact _ _ _ _ c.is_eq.ensures c.cmp.ensures c.if-is_eq.true;
  type_is = ap (λ q. q.0) (sym c.spot.ensures) ∙ eqb-true _ _ h ∙ c.type_place.ensures;
}

pub returns-else-is_eq-clause-no : goal.returns-else-is_eq-clause-no
returns-else-is_eq-clause-no c = λ h f. apart_when_not group_total group_exact _ _ _ _ c.is_eq.ensures c.cmp.ensures c.if-is_eq.false (c.token.ensures ∙ f.group_is)
