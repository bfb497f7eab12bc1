use Rattle.site_book.proofs.Finding.{none_from, fitting, no_place}
use Rattle.site_book.proofs.book.SiteBook.find_place.Goals as goal

pub returns-in_err-evse-clause-none : goal.returns-in_err-evse-clause-none
returns-in_err-evse-clause-none c = none_from c.from_residual.result (λ e k fit. c.in_err-evse.ensures.none e (fitting _ c.args.evse_uid.now c.args.connector_id.now e k fit))

pub returns-clause-none : goal.returns-clause-none
returns-clause-none c =
    no_place _ c.place_of.result c.args.evse_uid.now c.args.connector_id.now c.in_ok-evse.evse.now c.requires.named c.in_ok-evse.ensures.sole c.place_of.ensures.none c.place_of.ensures.first
