use Rattle.operator_stored.proofs.Telling.{service_may, service_nowhere}
use Rattle.operator_stored.proofs.places.may_stop.Goals as goal

pub returns-then-not-has_evse : goal.returns-then-not-has_evse
returns-then-not-has_evse c =
    service_nowhere c.has_evse.result c.args.books.now.state c.site_book.result.now.site c.args.evse c.site_book.ensures.site c.has_evse.ensures.1 c.if-not-has_evse.true

pub returns : goal.returns
returns c =
    service_may c.has_evse.result c.args.books.now.state c.site_book.result.now.site c.args.evse c.site_book.ensures.site c.has_evse.ensures.0 c.if-not-has_evse.false
