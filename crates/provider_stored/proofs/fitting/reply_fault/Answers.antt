use Rattle.std.proofs.Common.{sym, ◌∙◌}
use Rattle.std.specs.FinMap.{get}
use Rattle.provider_stored.proofs.Fit.{reply_fits}
use Rattle.provider_stored.proofs.Looked.{found_there, missing_there}
use Rattle.provider_stored.proofs.Spoiled.{replied_before}
use Rattle.provider_stored.proofs.fitting.reply_fault.Goals as goal

pub returns-then-is_some-clause-spoils : goal.returns-then-is_some-clause-spoils
returns-then-is_some-clause-spoils c =
    let s = c.args.books.now.state in
    let (v, stands) = found_there c.reply.result (get s.rows.replies (c.args.sender, c.args.number)) c.reply.ensures (sym c.is_some.ensures ∙ c.if-is_some.true) in
    replied_before s c.args.sender c.args.number v c.args.reply.now stands

pub returns-clause-fits : goal.returns-clause-fits
returns-clause-fits c =
    let s = c.args.books.now.state in
    let none = missing_there c.reply.result (get s.rows.replies (c.args.sender, c.args.number)) c.reply.ensures (sym c.is_some.ensures ∙ c.if-is_some.false) in
    reply_fits s c.args.sender c.args.number c.args.reply.now none
