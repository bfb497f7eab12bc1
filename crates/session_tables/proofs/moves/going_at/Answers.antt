use Rattle.ocpi_text.specs.Text.{key}
use Rattle.ocpi_types.specs.Prices.{price_at}
use Rattle.session_tables.proofs.Resuming.{can_go_on, goes_on}
use Rattle.session_tables.proofs.moves.going_at.Goals as goal

pub unreachable-requires : goal.unreachable-requires
unreachable-requires c =
    let v = c.in_ok-version.version.now in
    let here = c.in_ok-version.ensures.found in
    let may = (c.consistency.ensures.sound.sessions (key v.id) v here.stands).going here.live in
    can_go_on (price_at c.args.books.now.state.site v.start_date_time) v (rw (c.price_at-price.ensures, c.site.ensures, c.site_book.ensures.site) at c.in-Err.ensures.refused.1) here.live may.priced may.uncharged

pub returns-clause-found : goal.returns-clause-found
returns-clause-found c =
    let v = c.in_ok-version.version.now in
    let here = c.in_ok-version.ensures.found in
    record {
      session = v;
      here = here;
      only = λ w at. c.in_ok-version.ensures.sole w at;
      going = goes_on (price_at c.args.books.now.state.site v.start_date_time) v c.in-Ok.session here.live (rw (c.price_at-price.ensures, c.site.ensures, c.site_book.ensures.site) at c.in-Ok.ensures.resumed);
    }
