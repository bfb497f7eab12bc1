use Rattle.std.proofs.Common.{ap, sym, ◌∙◌}
use Rattle.std.specs.FinMap.{get}
use Rattle.command_book.specs.Stored as commands
use Rattle.operator_stored.proofs.StandingRows.{some_of}
use Rattle.operator_stored.proofs.TellingCommands.{command_of_stranger, none_copied, open_unanswered, open_with_result, start_of_other}
use Rattle.operator_stored.proofs.commands.may_open.Goals as goal

pub returns-then-not-is_provider : goal.returns-then-not-is_provider
returns-then-not-is_provider c = command_of_stranger c.args.books.now.state c.args.provider c.args.number c.args.order.now c.if-not-is_provider.ensures

pub returns-then-is_none : goal.returns-then-is_none
returns-then-is_none c = let s = c.args.books.now.state in
    open_unanswered s c.args.provider c.args.number c.args.order.now
    (none_copied c.is_none.result c.reply.result (get s.rows.commands.replies (c.args.provider, c.args.number)) c.is_none.ensures c.reply.ensures c.if-is_none.true)

pub returns-then-is_some : goal.returns-then-is_some
returns-then-is_some c = let s = c.args.books.now.state in
    let has = some_of c.answered.result (sym c.is_some.ensures ∙ c.if-is_some.true) in
    open_with_result s c.args.provider c.args.number c.args.order.now has.0
    (ap (λ (r : commands.Rows). get r.results (c.args.provider, c.args.number)) (sym c.commands.ensures) ∙ sym c.answered.ensures ∙ has.1)

pub returns-then-not-is_own : goal.returns-then-not-is_own
returns-then-not-is_own c = start_of_other c.args.books.now.state c.args.provider c.args.number c.args.order.now c.if-not-is_own.ensures
