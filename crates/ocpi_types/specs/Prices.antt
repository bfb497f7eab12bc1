-- The price of a site, which may change at moments (profile of OCPI 2.2.1, Sessions: Session object, total_cost).
use Rattle.std.specs.Prelude.{ℕ, ℤ, Option, Some, None}
use Rattle.ocpi_types.specs.PriceLists.{last_begun}
use Rattle.ocpi_types.specs.declared.price_lists.PriceFrom.{PriceFrom}
use Rattle.ocpi_types.specs.declared.site.Site.{Site}

-- the price of an entry, and another where there is none
abbrev pub price_of : ℤ → Option PriceFrom → ℤ
price_of own None = own
price_of own (Some p) = p.price

-- the price of a site at a moment: that of the last entry that begins by it, and the site's own where there is none
unfoldable pub price_at : Site → ℕ → ℤ
price_at s at = price_of s.price (last_begun at s.prices)
