use Rattle.session_tables.specs.Answered.{IsUsed}
use Rattle.session_tables.proofs.Answering.{none_placed, nothing}
use Rattle.session_tables.proofs.answers.beginning_there.Goals as goal

pub returns-in_err-at : goal.returns-in_err-at
returns-in_err-at c =
    nothing _ c.from_residual.result c.from_residual.ensures
    (none_placed c.args.books.now.state.site c.args.awaited.now c.args.method c.args.reference (IsUsed c.args.taking) (rw c.key.ensures at c.in_err-at.ensures.none))
