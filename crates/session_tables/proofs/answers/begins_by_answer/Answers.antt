use Rattle.std.proofs.Common.{sym, ◌∙◌}
use Rattle.std.proofs.lemmas.Bool.{false≢true}
use Rattle.session_tables.proofs.Answering.{by_answer, nothing}
use Rattle.session_tables.proofs.answers.begins_by_answer.Goals as goal

pub returns-in_err-info : goal.returns-in_err-info
returns-in_err-info c = nothing _ c.from_residual.result c.from_residual.ensures (λ b by. c.in_err-info.ensures.none by.info by.allows)

pub returns : goal.returns
returns c =
    let unspent = rw c.key.ensures at c.is_spent.ensures.no in
    by_answer c.args.books.now.state.site c.args.books.now.state.rows c.args.awaited.now c.args.answer.now c.in_ok-info.info.now c.in_ok-info.ensures.only c.in_ok-info.ensures.some
    (λ spent. false≢true (sym c.if-is_spent.false ∙ unspent spent)) c.may_take-taking.result (rw c.key-2.ensures at c.may_take-taking.ensures) c.beginning_there.result c.beginning_there.ensures
