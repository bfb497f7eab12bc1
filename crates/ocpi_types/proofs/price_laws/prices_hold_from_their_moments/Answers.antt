use Rattle.ocpi_types.proofs.PriceLaws.{own_price, price_before, entry_price, later_entry, price_in_range}
use Rattle.ocpi_types.proofs.price_laws.prices_hold_from_their_moments.Goals as goal

pub returns : goal.returns
returns c = record { own = own_price; before = price_before; entry = entry_price; added = later_entry; bound = price_in_range }
