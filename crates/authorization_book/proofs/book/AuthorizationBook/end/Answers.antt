use Rattle.std.proofs.Common.{◌∙◌, sym}
use Rattle.std.specs.Cmp.{nat_cmp_total}
use Rattle.std.specs.FinMap.{nat_cmp-IsAntisymmetric}
use Rattle.tables.proofs.Maps.{remove_absent}
use Rattle.authorization_book.proofs.Indexing.{ended}
use Rattle.authorization_book.proofs.book.AuthorizationBook.end.Goals as goal

pub invariant_of-self : goal.invariant_of-self
invariant_of-self c =
    rw (c.remove.ensures.shown, c.remove-in-Some.ensures.shown, c.remove-in-Some-2.ensures.shown, c.key.ensures)
    (ended _ _ _ c.self.invariant c.args.number c.in-Some.awaited (sym c.get.ensures ∙ sym c.copied.ensures ∙ c.in-Some.is))

pub returns-in_default-clause-waits : goal.returns-in_default-clause-waits
returns-in_default-clause-waits c = rw (← c.self.view_is) (sym (remove_absent nat_cmp_total nat_cmp-IsAntisymmetric _ _ (sym c.get.ensures ∙ sym c.copied.ensures ∙ c.in_default.is)))
