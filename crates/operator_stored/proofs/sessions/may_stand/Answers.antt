use Rattle.std.proofs.Common.{ap, ◌∙◌}
use Rattle.std.proofs.lemmas.Result.{err_from_is_err_and}
use Rattle.ocpi_types.specs.Prices.{price_at}
use Rattle.ocpi_types.specs.declared.site.Site.{Site}
use Rattle.operator_stored.proofs.TellingSessions.{stuck}
use Rattle.operator_stored.proofs.sessions.may_stand.Goals as goal

pub returns-in_err-check_version : goal.returns-in_err-check_version
returns-in_err-check_version c =
    let p = err_from_is_err_and c.from_residual-in_err-check_version.result c.from_residual-in_err-check_version.ensures.1 in
    rw (p.1, p.2)
    (stuck c.args.books.now.state c.args.session.now _ _
    (c.price_at.ensures ∙ ap (λ (z : Site). price_at z c.args.session.now.start_date_time) (c.site-site.ensures ∙ c.site_book.ensures.site)) c.in_err-check_version.ensures.stuck)
