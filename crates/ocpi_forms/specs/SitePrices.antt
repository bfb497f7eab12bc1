-- Reading the prices of a site, entry by entry, in the order in which faults are told (profile of OCPI 2.2.1, Sessions:
-- Session object, total_cost).
use Rattle.std.specs.Prelude.{ℕ, ℤ, pos, List, [], Bool, true, Option, Some, None, unwrap_or, nat_lt, int_le, ◌&&◌, Ok, Err, if◌then◌else◌}
use Rattle.std.specs.List.{last_or}
use Rattle.serde_json.specs.Data.{Data}
use Rattle.ocpi_types.specs.declared.field.Field.{Field}
use Rattle.ocpi_types.specs.declared.field.Field.TheVariants as field
use Rattle.ocpi_types.specs.declared.price_lists.PriceFrom.{PriceFrom}
use Rattle.json_text.specs.declared.fault.JsonFault.TheVariants.{WrongForm}
use Rattle.json_text.specs.Fault.{Read, ◌>>=◌}
use Rattle.json_text.specs.Fields.{as_record, moment_in, e4_in, optional, each_after}
use Rattle.json_text.specs.Lists.{counted_in}

-- a price from 0.0000 to 10,000.0000
unfoldable pub price_in : Data → Read ℤ
price_in d = do
  z ← e4_in field.Price d
  if int_le (pos 0) z && int_le z (pos 100000000) then Ok z else Err (WrongForm field.Price)

-- the moment is later than that of an entry, where there is one
abbrev pub is_later : Option PriceFrom → ℕ → Bool
is_later None at = true
is_later (Some p) at = nat_lt p.start_date_time at

-- the moment from which an entry holds, behind those before it
unfoldable pub start_in : List PriceFrom → Data → Read ℕ
start_in before d = do
  at ← moment_in field.StartDateTime d
  if is_later (last_or None before) at then Ok at else Err (WrongForm field.StartDateTime)

unfoldable pub price_from_at : List PriceFrom → Data → Read PriceFrom
price_from_at before d = do
  start_date_time ← start_in before d
  price ← price_in d
  Ok (record { start_date_time = start_date_time; price = price })

abbrev pub price_element : List PriceFrom → Data → Read PriceFrom
price_element before e = as_record field.Prices e >>= price_from_at before

unfoldable pub listed_prices_in : Field → Data → Read (List PriceFrom)
listed_prices_in f d = counted_in 0 1000 f d >>= each_after price_element []

-- none, where the member is absent
unfoldable pub prices_in : Data → Read (List PriceFrom)
prices_in d = do
  listed ← optional listed_prices_in field.Prices d
  Ok (unwrap_or listed [])
