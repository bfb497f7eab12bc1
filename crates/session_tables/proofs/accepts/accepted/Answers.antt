use Rattle.session_tables.proofs.Answering.{not_accepted, nothing}
use Rattle.session_tables.proofs.accepts.accepted.Goals as goal

pub returns-in_err-at-in-StartSession : goal.returns-in_err-at-in-StartSession
returns-in_err-at-in-StartSession c =
    nothing _ c.from_residual-in_err-at-in-StartSession.result c.from_residual-in_err-at-in-StartSession.ensures
    (not_accepted c.args.books.now.state.site c.args.opened.now c.in_ok-opened-in-StartSession.field-0 c.in_ok-opened-in-StartSession-2.field-0
    c.in_ok-opened-in-StartSession.was c.in_ok-opened-in-StartSession-2.was (rw c.key.ensures at c.in_err-at-in-StartSession.ensures.none))
