use Rattle.std.proofs.Common.{◌∙◌, sym, refl}
use Rattle.outbox.proofs.Indexing.{fill_some, fill_none}
use Rattle.outbox.proofs.push_book.PushBook.fill.Goals as goal

pub invariant_of-self : goal.invariant_of-self
invariant_of-self c = rw (c.put.ensures.shown, c.put-in-Some.ensures.shown) (fill_some _ _ c.self.invariant c.args.number (record { to = c.args.to; push = c.args.push }) (rw (← c.self.view_is) at c.requires.new) c.in-Some.subject (sym c.subject_of-subject.ensures ∙ c.in-Some.is))

pub invariant_of-self-in_default : goal.invariant_of-self-in_default
invariant_of-self-in_default c = rw c.put.ensures.shown (fill_none _ _ c.self.invariant c.args.number (record { to = c.args.to; push = c.args.push }) (rw (← c.self.view_is) at c.requires.new) (sym c.subject_of-subject.ensures ∙ c.in_default.is))

pub returns-in-Some-clause-rooms : goal.returns-in-Some-clause-rooms
returns-in-Some-clause-rooms c = rw (← c.self.view_is, c.put.ensures.room, c.put-in-Some.ensures.room) refl
