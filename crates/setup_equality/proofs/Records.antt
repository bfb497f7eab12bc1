-- Records are equal just where their fields are.
use Rattle.std.proofs.Common.{◌≡◌, ap}
use Rattle.ocpi_types.specs.declared.price_lists.PriceFrom.{PriceFrom}
use Rattle.ocpi_types.specs.declared.site.Connector.{Connector}
use Rattle.ocpi_types.specs.declared.site.Evse.{Evse}
use Rattle.ocpi_types.specs.declared.site.Location.{Location}
use Rattle.ocpi_types.specs.declared.site.Site.{Site}
use Rattle.setup_equality.specs.Addresses.{IsSameAddress}

pub connectors_are : (a b : Connector) → a.id ≡ b.id → a.standard ≡ b.standard → a.format ≡ b.format → a.power_type ≡ b.power_type → a ≡ b
connectors_are a b id standard format power = λ k. record { id = id k; standard = standard k; format = format k; power_type = power k }

pub evses_are : (a b : Evse) → a.uid ≡ b.uid → a.evse_id ≡ b.evse_id → a.connectors ≡ b.connectors → a ≡ b
evses_are a b uid evse connectors = λ k. record { uid = uid k; evse_id = evse k; connectors = connectors k }

pub locations_are : (a b : Location) → a.id ≡ b.id → IsSameAddress a b → a.evses ≡ b.evses → a ≡ b
locations_are a b id h evses = λ k. record {
  id = id k;
  address = h.address k;
  city = h.city k;
  country = h.country k;
  latitude = h.latitude k;
  longitude = h.longitude k;
  evses = evses k;
}

pub same_address : (a b : Location) → a ≡ b → IsSameAddress a b
same_address a b e = record {
  address = ap (λ (l : Location). l.address) e;
  city = ap (λ (l : Location). l.city) e;
  country = ap (λ (l : Location). l.country) e;
  latitude = ap (λ (l : Location). l.latitude) e;
  longitude = ap (λ (l : Location). l.longitude) e;
}

pub prices_are : (a b : PriceFrom) → a.start_date_time ≡ b.start_date_time → a.price ≡ b.price → a ≡ b
prices_are a b start price = λ k. record { start_date_time = start k; price = price k }

pub sites_are : (a b : Site) → a.currency ≡ b.currency → a.price ≡ b.price → a.prices ≡ b.prices → a.locations ≡ b.locations → a ≡ b
sites_are a b currency price prices locations = λ k. record { currency = currency k; price = price k; prices = prices k; locations = locations k }
