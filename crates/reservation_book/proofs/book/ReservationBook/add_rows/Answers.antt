use Rattle.std.proofs.Common.{◌≡◌, ◌∷◌, [], length, sym, ap, ◌∙◌, arith}
use Rattle.std.proofs.lemmas.List.{nil_from_length}
use Rattle.std.specs.Vec.Iter.{into_iter_items}
use Rattle.tables.proofs.Elements.{not_none}
use Rattle.reservation_book.specs.Rows.{put_rows}
use Rattle.reservation_book.proofs.book.ReservationBook.add_rows.Goals as goal

pub loop-row-preserved : goal.loop-row-preserved
loop-row-preserved c =
    let at = c.loop-row in
    let steps : into_iter_items at.row-iterator ≡ c.in-Some.row ∷ into_iter_items c.next.new.self = c.in-Some.ensures.steps.0 in (
      rw c.in_ok-add_row.ensures.ok (sym (ap (λ l. put_rows l at.self.rows) steps) ∙ at.invariant.0),
      let was = at.invariant.1 in
          let gone = c.in-Some.ensures.steps.1 in
          let short = ap length steps in
          omega arith,
      λ none. not_none _ _ _ steps (at.invariant.2 none),
    )

pub returns-in_err-add_row-clause-none : goal.returns-in_err-add_row-clause-none
returns-in_err-add_row-clause-none c = λ none. not_none _ _ _ c.in-Some.ensures.steps.0 (c.loop-row.invariant.2 (c.into_iter-row-iterator.ensures.into_iter_gives.0 ∙ none))

pub returns-clause-list : goal.returns-clause-list
returns-clause-list c =
    let at = c.loop-row in
    let empty : into_iter_items at.row-iterator ≡ [] = nil_from_length _ (sym at.invariant.1 ∙ c.in-None.ensures.steps.0) in
    let given = c.into_iter-row-iterator.ensures.into_iter_gives.0 in
    rw (← given) (sym (ap (λ l. put_rows l at.self.rows) empty) ∙ at.invariant.0)
