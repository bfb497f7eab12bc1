use Rattle.session_book.proofs.Keeping.{filled}
use Rattle.session_book.proofs.records.Records.fill.Goals as goal

pub invariant_of-self : goal.invariant_of-self
invariant_of-self c = filled _ _ _ c.self.invariant c.args.cdr c.key-id.result _ _ _ _
    (rw (← c.self.view_is) at c.requires.new) (rw (← c.self.view_is) at c.requires.of_record) (rw c.deref.ensures at c.key-id.ensures) (rw c.deref-2.ensures at c.entry_of-entry.ensures)
    c.put.ensures.shown c.put-2.ensures.shown c.put.ensures.room
