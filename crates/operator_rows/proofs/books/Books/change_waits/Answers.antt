use Rattle.operator_rows.specs.contracts.books.Books.{the_view}
use Rattle.operator_rows.proofs.KeepingRows.{kept_waits}
use Rattle.operator_rows.proofs.books.Books.change_waits.Goals as goal

pub invariant_of-self : goal.invariant_of-self
invariant_of-self c =
    kept_waits _ (the_view c.self.inside).state _ _ c.self.invariant c.args.waits.now c.change_all.new.self.waits c.change_all.ensures.waits (rw (← c.self.view_is) at c.requires.may) (rw (← c.self.view_is) at c.requires.awaitable) (rw (← c.self.view_is) at c.requires.asked)

pub change_all-requires-clause-room : goal.change_all-requires-clause-room
change_all-requires-clause-room c = rw (← c.self.view_is) at c.requires.room
