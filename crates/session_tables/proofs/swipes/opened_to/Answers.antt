use Rattle.std.proofs.Common.{sym}
use Rattle.session_tables.proofs.Takings.{opens_by}
use Rattle.session_tables.proofs.swipes.opened_to.Goals as goal

pub returns-in-Some : goal.returns-in-Some
returns-in-Some c =
    opens_by _ c.args.books.now.state c.site_book.ensures.claims c.args.evse c.args.uid c.args.token_type (c.is_ready.ensures.0 c.if-not-is_ready.false)
    c.in-Some.claim (sym c.in-Some.ensures) c.held_for.result c.held_for.ensures
