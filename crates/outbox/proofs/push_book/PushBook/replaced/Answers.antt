use Rattle.std.proofs.Common.{rules, arith, ◌≡◌}
use Rattle.outbox.proofs.Indexing.{replaced_some, replaced_none}
use Rattle.outbox.proofs.Timing.{not_above}
use Rattle.outbox.proofs.push_book.PushBook.replaced.Goals as goal

pub first_with-requires : goal.first_with-requires
first_with-requires c = let zero : c.unwrap.result ≡ 0 = search (rules, c.new.ensures, c.unwrap.ensures) in rw zero (λ b. not_above 0 b (omega arith))

pub returns-in-Some : goal.returns-in-Some
returns-in-Some c = rw (← c.self.view_is, ← c.subject_of.ensures, c.in_ok-subject.was) (replaced_some _ _ c.self.invariant c.in_ok-subject.subject c.in-Some.found.0 c.in-Some.found.1.now c.in-Some.ensures.some)

pub returns-in-None : goal.returns-in-None
returns-in-None c = rw (← c.self.view_is, ← c.subject_of.ensures, c.in_ok-subject.was) (replaced_none _ _ c.self.invariant c.in_ok-subject.subject c.in-None.ensures.none)
