-- Reading the site line: each record, member by member, in the order in which faults are told
-- (OCPI 2.2.1, Locations: Location, EVSE and Connector objects).
use Rattle.std.specs.Prelude.{ℕ, List, [], ◌∷◌, ◌++◌, map, Ok}
use Rattle.serde_json.specs.Data.{Data}
use Rattle.ocpi_text.specs.Text.{key}
use Rattle.ocpi_text.specs.Party.{party_at}
use Rattle.ocpi_types.specs.Connectors.{connector_keys}
use Rattle.ocpi_types.specs.Locations.{evse_keys, location_keys, site_evse_keys}
use Rattle.ocpi_types.specs.Parties.{SiteParties}
use Rattle.ocpi_types.specs.declared.field.Field.TheVariants as field
use Rattle.ocpi_types.specs.declared.site.Connector.{Connector}
use Rattle.ocpi_types.specs.declared.site.Evse.{Evse}
use Rattle.ocpi_types.specs.declared.site.Location.{Location}
use Rattle.ocpi_types.specs.declared.site.Site.{Site}
use Rattle.ocpi_types.specs.declared.site.SiteLine.{SiteLine}
use Rattle.ocpi_forms.specs.declared.sites.LocationPlace.{LocationPlace}
use Rattle.json_text.specs.Fault.{Read, ◌>>=◌}
use Rattle.json_text.specs.Fields.{as_record, as_text, formed, ci_in, free_in, moment_in, party_in, record_in, each_after}
use Rattle.json_text.specs.Lists.{new_among, new_ci_in, counted_in}
use Rattle.ocpi_forms.specs.SitePrices.{price_in, prices_in}

unfoldable pub connector_at : List Connector → Data → Read Connector
connector_at before d = do
  id ← new_ci_in 36 field.Id (connector_keys before) d
  standard ← free_in 64 field.Standard d
  format ← free_in 64 field.Format d
  power_type ← free_in 64 field.PowerType d
  Ok (record { id = id; standard = standard; format = format; power_type = power_type })

-- one of a list, beside those before it
abbrev pub connector_element : List Connector → Data → Read Connector
connector_element before e = as_record field.Connectors e >>= connector_at before

unfoldable pub connectors_in : Data → Read (List Connector)
connectors_in d = counted_in 1 10 field.Connectors d >>= each_after connector_element []

-- an EVSE, beside those of earlier locations and those before it at its own
unfoldable pub evse_at : List Location → List Evse → Data → Read Evse
evse_at earlier before d = do
  uid ← new_ci_in 36 field.Uid (site_evse_keys earlier ++ evse_keys before) d
  evse_id ← ci_in 48 field.EvseId d
  connectors ← connectors_in d
  Ok (record { uid = uid; evse_id = evse_id; connectors = connectors })

abbrev pub evse_element : List Location → List Evse → Data → Read Evse
evse_element earlier before e = as_record field.Evses e >>= evse_at earlier before

unfoldable pub evses_in : List Location → Data → Read (List Evse)
evses_in earlier d = counted_in 1 1000 field.Evses d >>= each_after (evse_element earlier) []

-- where a location is
unfoldable pub location_place_at : Data → Read LocationPlace
location_place_at d = do
  address ← free_in 45 field.Address d
  city ← free_in 45 field.City d
  country ← free_in 3 field.Country d
  latitude ← free_in 10 field.Latitude d
  longitude ← free_in 11 field.Longitude d
  Ok (record { address = address; city = city; country = country; latitude = latitude; longitude = longitude })

unfoldable pub location_at : List Location → Data → Read Location
location_at before d = do
  id ← new_ci_in 36 field.Id (location_keys before) d
  place ← location_place_at d
  evses ← evses_in before d
  Ok (record { id = id; address = place.address; city = place.city; country = place.country; latitude = place.latitude; longitude = place.longitude; evses = evses })

abbrev pub location_element : List Location → Data → Read Location
location_element before e = as_record field.Locations e >>= location_at before

unfoldable pub locations_in : Data → Read (List Location)
locations_in d = counted_in 1 1000 field.Locations d >>= each_after location_element []

unfoldable pub site_at : Data → Read Site
site_at d = do
  currency ← free_in 3 field.Currency d
  price ← price_in d
  prices ← prices_in d
  locations ← locations_in d
  Ok (record { currency = currency; price = price; prices = prices; locations = locations })

-- a provider, which differs from the operator and from the providers before it
unfoldable pub provider_at : List ℕ → List (List ℕ) → Data → Read (List ℕ)
provider_at operator before d = do
  s ← as_text field.Providers d
  party ← formed field.Providers (party_at s)
  new_among field.Providers (key operator ∷ map key before) party

unfoldable pub providers_in : List ℕ → Data → Read (List (List ℕ))
providers_in operator d = counted_in 0 63 field.Providers d >>= each_after (provider_at operator) []

unfoldable pub parties_at : Data → Read SiteParties
parties_at d = do
  operator ← party_in field.Party d
  providers ← providers_in operator d
  Ok (record { operator = operator; providers = providers })

unfoldable pub site_line_at : Data → Read SiteLine
site_line_at d = do
  at ← moment_in field.At d
  parties ← parties_at d
  inner ← record_in field.Site d
  site ← site_at inner
  Ok (record { at = at; parties = parties; site = site })

-- a line that is no object is told as such
unfoldable pub site_of_line : Data → Read SiteLine
site_of_line d = as_record field.Line d >>= site_line_at
