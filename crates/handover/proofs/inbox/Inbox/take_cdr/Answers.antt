use Rattle.std.proofs.Common.{inr, refl, sym, subst}
use Rattle.std.proofs.lemmas.Result.{err_from_is_err_and}
use Rattle.handover.specs.Cdrs.{HasOnePerSession}
use Rattle.handover.specs.Inbox.{InboxRows}
use Rattle.handover.proofs.Holding.{not_in_conflict, not_kept, one_more_session}
use Rattle.handover.proofs.inbox.Inbox.take_cdr.Goals as goal

pub returns-in_err-add_cdr-in-Taken-clause-fault : goal.returns-in_err-add_cdr-in-Taken-clause-fault
returns-in_err-add_cdr-in-Taken-clause-fault c =
    let clear = not_in_conflict _ _ c.in-Taken.is (rw c.deref.ensures at c.in_ok-taking.ensures.conflict) in
    let new = not_kept _ _ _ c.in-Taken.is (rw c.deref.ensures at c.in_ok-taking.ensures.kept) clear in
    let parties = rw c.deref.ensures at c.in_ok-taking.ensures.ok in
    let told = err_from_is_err_and c.from_residual-in_err-add_cdr-in-Taken.result c.from_residual-in_err-add_cdr-in-Taken.ensures.1 in
    rw (told.1, told.2) (inr (refl, parties, clear, new))

pub returns-in_ok-add_cdr-in-Taken-clause-once : goal.returns-in_ok-add_cdr-in-Taken-clause-once
returns-in_ok-add_cdr-in-Taken-clause-once c =
    let clear = not_in_conflict _ _ c.in-Taken.is (rw c.deref.ensures at c.in_ok-taking.ensures.conflict) in
    subst (λ (s : InboxRows). HasOnePerSession c.args.self.now.rows.cdrs → HasOnePerSession s.cdrs) (sym c.in_ok-add_cdr-in-Taken.ensures.ok) (one_more_session _ c.args.cdr c.consistency.ensures.of_cdrs clear)
