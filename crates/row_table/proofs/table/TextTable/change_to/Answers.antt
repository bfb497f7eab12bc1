use Rattle.std.proofs.Common.{◌≡◌, inl, inr, [], ◌∷◌, ◌++◌, ap, sym, subst, ◌∙◌, arith, slice_index_or}
use Rattle.sqlite.specs.State.{HasCleanDisk}
use Rattle.sqlite.specs.Held.{state}
use Rattle.sqlite.specs.Effect.{Database}
use Rattle.row_table.specs.Contents.{IsWhole}
use Rattle.row_table.specs.Kept.{IsAtRest}
use Rattle.row_table.proofs.KeptLemmas.{any_err, committed_rest, the_one, still_one, undone_rest}
use Rattle.row_table.proofs.OpenLemmas.{shown_still}
use Rattle.row_table.proofs.table.TextTable.change_to.Goals as goal

pub invariant_of-self : goal.invariant_of-self
invariant_of-self g c =
    let items = c.self.inside.last.items in
    let old = c.self.inside.conn in
    let new = c.commit_to.new.conn in
    let one = c.self.invariant.0 in
    let earlier = λ (clean : HasCleanDisk (state g.S.Store new)). let early : HasCleanDisk (state g.S.Store old) = omega (arith, c.commit_to.ensures.crash.clean) in early in (
      still_one items old new one,
      subst (λ h. IsAtRest g.S.Store (record { conn = new; last = h })) (sym (the_one items old old new one))
          (undone_rest g.S.Store old (slice_index_or items 0 old) new c.self.invariant.1 c.commit_to.ensures.mode earlier
          (λ clean. c.in_err-commit_to.ensures.none clean (c.self.invariant.1.tables (earlier clean)))
          (λ clean trees may. elim (c.commit_to.ensures.crash.crash clean trees may) [
            | inl before ↦ c.self.invariant.1.left (earlier clean) trees before
            | inr made ↦ (made (c.self.invariant.1.tables (earlier clean))).whole
          ])),
    )

pub invariant_of-self-2 : goal.invariant_of-self-2
invariant_of-self-2 g c =
    let old = c.self.inside.conn in
    let new = c.commit_to.new.conn in
    let noted : c.note-self-inside.result.items ≡ new ∷ [] = c.note-self-inside.ensures ∙ ap (λ l. l ++ new ∷ []) c.new.ensures in
    let earlier = λ (clean : HasCleanDisk (state g.S.Store new)). let early : HasCleanDisk (state g.S.Store old) = omega (arith, c.commit_to.ensures.crash.clean) in early in
    let done = λ (clean : HasCleanDisk (state g.S.Store new)). c.in_ok-commit_to.ensures.all clean (c.self.invariant.1.tables (earlier clean)) in (
      noted ∙ ap (λ l. slice_index_or l 0 new ∷ []) (sym noted),
      subst (λ l. IsAtRest g.S.Store (record { conn = new; last = slice_index_or l 0 new })) (sym noted)
          (committed_rest g.S.Store old old new c.commit_to.ensures.mode _ done (λ is_open db may. g.met.S.Store.settled new.store db is_open may)),
    )

pub returns-in_err-commit_to-clause-whole : goal.returns-in_err-commit_to-clause-whole
returns-in_err-commit_to-clause-whole g c clean trees may =
    let early : HasCleanDisk (state g.S.Store c.self.inside.conn) = omega (arith, c.commit_to.ensures.crash.clean) in
    elim (c.commit_to.ensures.crash.crash clean trees may) [
      | inl before ↦ c.self.invariant.1.left early trees before
      | inr made ↦ (made (c.self.invariant.1.tables early)).whole
    ]

pub returns-clause-whole : goal.returns-clause-whole
returns-clause-whole g c clean trees may =
    let old = c.self.inside.conn in
    let new = c.commit_to.new.conn in
    let early : HasCleanDisk (state g.S.Store old) = omega (arith, c.commit_to.ensures.crash.clean) in
    let done = c.in_ok-commit_to.ensures.all clean (c.self.invariant.1.tables early) in
    subst IsWhole (sym (g.met.S.Store.settled new.store trees done.is_open may ∙ sym (ap (λ (d : Database). d.trees) done.settled))) done.tables.whole

pub returns-in_err-commit_to-clause-shown : goal.returns-in_err-commit_to-clause-shown
returns-in_err-commit_to-clause-shown g c clean =
    let old = state g.S.Store c.self.inside.conn in
    let new = state g.S.Store c.commit_to.new.conn in
    let early : HasCleanDisk old = omega (arith, c.commit_to.ensures.crash.clean) in
    rw (← c.self.view_is) (any_err c.from_residual.result _ (shown_still old new (c.self.invariant.1.settled early) (c.in_err-commit_to.ensures.none clean (c.self.invariant.1.tables early))))
