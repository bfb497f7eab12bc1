use Rattle.std.proofs.Common.{sym, subst, arith, slice_index_or}
use Rattle.sqlite.specs.Held.{state}
use Rattle.row_table.specs.Kept.{IsAtRest}
use Rattle.row_table.proofs.KeptLemmas.{left_whole, the_one, still_one, undone_rest}
use Rattle.row_table.proofs.OpenLemmas.{shown_still}
use Rattle.row_table.proofs.table.TextTable.rows.Goals as goal

pub invariant_of-self : goal.invariant_of-self
invariant_of-self g c =
    let items = c.self.inside.last.items in
    let old = c.self.inside.conn in
    let new = c.load.new.conn in
    let one = c.self.invariant.0 in (
      still_one items old new one,
      subst (λ h. IsAtRest g.S.Store (record { conn = new; last = h })) (sym (the_one items old old new one))
          (undone_rest g.S.Store old (slice_index_or items 0 old) new c.self.invariant.1 c.load.ensures.mode (λ clean. omega (arith, c.load.ensures.crash.clean)) c.load.ensures.same
          (λ clean trees may. left_whole (state g.S.Store old) (λ _. ⊥) (c.self.invariant.1.left (omega (arith, c.load.ensures.crash.clean))) (λ _ none. absurd none) trees (c.load.ensures.crash.crash clean trees may))),
    )

pub returns-clause-shown : goal.returns-clause-shown
returns-clause-shown g c clean = rw (← c.self.view_is) (shown_still (state g.S.Store c.self.inside.conn) (state g.S.Store c.load.new.conn) (c.self.invariant.1.settled (omega (arith, c.load.ensures.crash.clean))) (c.load.ensures.same clean))
