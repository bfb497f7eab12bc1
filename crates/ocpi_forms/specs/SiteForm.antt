-- What a tree has to do with a site line: each record, member by member
-- (OCPI 2.2.1, Locations: Location, EVSE and Connector objects).
use Rattle.std.specs.Prelude.{◌≡◌, List, [], length, Option, unwrap_or}
use Rattle.serde_json.specs.Data.{Data}
use Rattle.ocpi_types.specs.Connectors.{AreConnectors}
use Rattle.ocpi_types.specs.Limits.{IsCount, IsPrice}
use Rattle.ocpi_types.specs.Locations.{AreLocations}
use Rattle.ocpi_types.specs.Parties.{SiteParties, AreParties}
use Rattle.ocpi_types.specs.PriceLists.{ArePrices}
use Rattle.ocpi_types.specs.declared.field.Field.TheVariants as field
use Rattle.ocpi_types.specs.declared.price_lists.PriceFrom.{PriceFrom}
use Rattle.ocpi_types.specs.declared.site.Connector.{Connector}
use Rattle.ocpi_types.specs.declared.site.Evse.{Evse}
use Rattle.ocpi_types.specs.declared.site.Location.{Location}
use Rattle.ocpi_types.specs.declared.site.Site.{Site}
use Rattle.ocpi_types.specs.declared.site.SiteLine.{SiteLine}
use Rattle.json_text.specs.Form.{Required, Optional, IsCi, IsFree, IsParty, IsMoment, IsE4, IsRecord, IsList}

pub record IsConnector (d : Data) (c : Connector) : Type 0 where
  pub id : Required (IsCi 36) field.Id d c.id
  pub standard : Required (IsFree 64) field.Standard d c.standard
  pub format : Required (IsFree 64) field.Format d c.format
  pub power_type : Required (IsFree 64) field.PowerType d c.power_type

pub record IsEvse (d : Data) (e : Evse) : Type 0 where
  pub uid : Required (IsCi 36) field.Uid d e.uid
  pub evse_id : Required (IsCi 48) field.EvseId d e.evse_id
  pub connectors : Required (IsList (IsRecord IsConnector)) field.Connectors d e.connectors
  pub are : AreConnectors e.connectors

pub record IsLocation (d : Data) (l : Location) : Type 0 where
  pub id : Required (IsCi 36) field.Id d l.id
  pub address : Required (IsFree 45) field.Address d l.address
  pub city : Required (IsFree 45) field.City d l.city
  pub country : Required (IsFree 3) field.Country d l.country
  pub latitude : Required (IsFree 10) field.Latitude d l.latitude
  pub longitude : Required (IsFree 11) field.Longitude d l.longitude
  pub evses : Required (IsList (IsRecord IsEvse)) field.Evses d l.evses
  pub count : IsCount 1000 (length l.evses)

pub record IsPriceFrom (d : Data) (p : PriceFrom) : Type 0 where
  pub start_date_time : Required IsMoment field.StartDateTime d p.start_date_time
  pub price : Required IsE4 field.Price d p.price
  pub bound : IsPrice p.price

-- a list of prices from moments on, which may be absent: then there are none
pub record HasPrices (d : Data) (ps : List PriceFrom) : Type 0 where
  pub listed : Option (List PriceFrom)
  pub form : Optional (IsList (IsRecord IsPriceFrom)) field.Prices d listed
  pub all : ps ≡ unwrap_or listed []
  pub are : ArePrices ps

pub record IsSite (d : Data) (s : Site) : Type 0 where
  pub currency : Required (IsFree 3) field.Currency d s.currency
  pub price : Required IsE4 field.Price d s.price
  pub bound : IsPrice s.price
  pub prices : HasPrices d s.prices
  pub locations : Required (IsList (IsRecord IsLocation)) field.Locations d s.locations
  pub are : AreLocations s.locations

pub record HasParties (d : Data) (p : SiteParties) : Type 0 where
  pub operator : Required IsParty field.Party d p.operator
  pub providers : Required (IsList IsParty) field.Providers d p.providers
  pub are : AreParties p

pub record IsSiteLine (d : Data) (l : SiteLine) : Type 0 where
  pub at : Required IsMoment field.At d l.at
  pub parties : HasParties d l.parties
  pub site : Required (IsRecord IsSite) field.Site d l.site

-- the tree of a site line
abbrev pub IsSiteLineTree : Data → SiteLine → Type 0
IsSiteLineTree = IsRecord IsSiteLine
