-- The site of an operator: its locations, EVSEs and connectors, each found by its key (OCPI 2.2.1, Locations:
-- Location, EVSE and Connector object), the claims on its EVSEs, and which of these are out of service.
use Rattle.std.specs.Prelude.{◌≡◌, ◌<◌, ℕ, Bool, true, false, not, ◌&&◌, List, Option, Some, None, Contains, IsTrue, slice_get}
use Rattle.std.specs.FinMap.{FinMap, insert, remove, contains_key}
use Rattle.ocpi_text.specs.Text.{key}
use Rattle.ocpi_types.specs.declared.site.Site.{Site}
use Rattle.ocpi_types.specs.declared.site.Location.{Location}
use Rattle.ocpi_types.specs.declared.site.Evse.{Evse}
use Rattle.ocpi_types.specs.declared.site.Connector.{Connector}
use Rattle.ocpi_types.specs.declared.rows.Place.{Place}
use Rattle.tables.specs.Keys.{text_cmp}
use Rattle.site_book.specs.declared.claim.Claim.{Claim}
use Rattle.site_book.specs.declared.claim.SiteFault.{SiteFault}
use Rattle.site_book.specs.declared.claim.SiteFault.TheVariants as fault
use Rattle.site_book.specs.declared.found.FoundLocation.{FoundLocation}

-- the claim on each EVSE that is claimed, by the key of its uid
abbrev pub Claims : Type 0
Claims = FinMap text_cmp Claim

-- the EVSEs that are out of service, by the keys of their uids
abbrev pub OutOfService : Type 0
OutOfService = FinMap text_cmp (Unit {0})

-- a site, the claims on its EVSEs, and its EVSEs that are out of service
pub record SiteState : Type 0 where
  pub site : Site
  pub claims : Claims
  pub out_of_service : OutOfService

-- a location of the list that has the id
pub record IsLocation (locations : List Location) (id : List ℕ) (l : Location) : Type 0 where
  pub listed : Contains locations l
  pub same : key l.id ≡ key id

-- the location that was found
abbrev pub location_of : FoundLocation → Location
location_of found = found.location.now

-- what was found is a location of this site, where it stands in the site's list
abbrev pub IsFoundIn : Site → FoundLocation → Type 0
IsFoundIn site found = slice_get site.locations found.position ≡ Some (location_of found)

-- an EVSE of that uid, or any where none is named
abbrev pub IsNamed : Option (List ℕ) → List ℕ → Type 0
IsNamed None uid = Unit {0}
IsNamed (Some name) uid = key uid ≡ key name

-- an EVSE of the location: the one of that uid, or any where none is named
pub record IsEvseFor (l : Location) (evse_uid : Option (List ℕ)) (e : Evse) : Type 0 where
  pub listed : Contains l.evses e
  pub named : IsNamed evse_uid e.uid

-- in the order of the site line the EVSE is the first of the location that passes a test: none that stands before it does
pub record IsFirst (l : Location) (P : Evse → Type 0) (e : Evse) : Type 0 where
  pub place : ℕ
  pub stands : slice_get l.evses place ≡ Some e
  pub none_before : (i : ℕ) (f : Evse) → i < place → slice_get l.evses i ≡ Some f → P f → ⊥

-- the connector of that id, or the first where none is named
abbrev pub IsChosen : Option (List ℕ) → List Connector → Connector → Type 0
IsChosen None connectors k = slice_get connectors 0 ≡ Some k
IsChosen (Some name) connectors k = Contains connectors k × (key k.id ≡ key name)

-- an EVSE of a location, and a connector of it, as a command names them or leaves them open
pub record Fits (evses : List Evse) (evse_uid connector_id : Option (List ℕ)) (e : Evse) (k : Connector) : Type 0 where
  pub listed : Contains evses e
  pub named : IsNamed evse_uid e.uid
  pub chosen : IsChosen connector_id e.connectors k

-- that EVSE and that connector, as what a command is about
abbrev pub IsPlaceOf : Evse → Connector → Place → Type 0
IsPlaceOf e k place = place ≡ record { evse_uid = e.uid; connector_id = k.id }

-- an EVSE of one of the locations has the uid of that key
pub record IsEvse (locations : List Location) (uid : List ℕ) : Type 0 where
  pub location : Location
  pub evse : Evse
  pub listed : Contains locations location
  pub within : Contains location.evses evse
  pub same : key evse.uid ≡ uid

-- that EVSE has the uid of that key, and is of that location, one of the locations
pub record IsEvseOf (locations : List Location) (uid : List ℕ) (l : Location) (e : Evse) : Type 0 where
  pub listed : Contains locations l
  pub within : Contains l.evses e
  pub same : key e.uid ≡ uid

-- an EVSE of one of the locations has the uid of that key, and a connector with the id of that key
pub record IsConnectorOf (locations : List Location) (evse connector : List ℕ) : Type 0 where
  pub of_location : Location
  pub of_evse : Evse
  pub of_site : IsEvseOf locations evse of_location of_evse
  pub its_connector : Connector
  pub listed : Contains of_evse.connectors its_connector
  pub same : key its_connector.id ≡ connector

-- the EVSE of that key is one of the location of that key
pub record IsSiteOf (locations : List Location) (evse location : List ℕ) : Type 0 where
  pub of_location : Location
  pub of_evse : Evse
  pub of_site : IsEvseOf locations evse of_location of_evse
  pub same : key of_location.id ≡ location

-- the EVSE of that key is claimed, whatever by
abbrev pub is_claimed : Claims → List ℕ → Bool
is_claimed claims uid = contains_key claims uid

-- the EVSE of that key is not out of service
abbrev pub works : OutOfService → List ℕ → Bool
works out uid = not (contains_key out uid)

-- the EVSE of that key is not claimed and not out of service
abbrev pub is_free : Claims → OutOfService → List ℕ → Bool
is_free claims out uid = not (contains_key claims uid) && not (contains_key out uid)

-- the EVSE is not out of service
abbrev pub IsWorkingEvse : SiteState → Evse → Type 0
IsWorkingEvse s e = IsTrue (works s.out_of_service (key e.uid))

-- the EVSE is not claimed and not out of service
abbrev pub IsFreeEvse : SiteState → Evse → Type 0
IsFreeEvse s e = IsTrue (is_free s.claims s.out_of_service (key e.uid))

-- an EVSE of that uid, or any where none is named, that is not claimed and not out of service
pub record IsFreeFor (s : SiteState) (evse_uid : Option (List ℕ)) (e : Evse) : Type 0 where
  pub named : IsNamed evse_uid e.uid
  pub free : IsFreeEvse s e

-- the EVSE is the first of the location of that uid, or of any where none is named, that is not claimed and not out of
-- service
pub record IsFirstFree (s : SiteState) (l : Location) (evse_uid : Option (List ℕ)) (e : Evse) : Type 0 where
  pub fits : IsEvseFor l evse_uid e
  pub free : IsFreeEvse s e
  pub first : IsFirst l (IsFreeFor s evse_uid) e

-- the place is the first of the location that is free, as a command names it or leaves it open
pub record IsFreePlace (s : SiteState) (l : Location) (evse_uid connector_id : Option (List ℕ)) (p : Place) : Type 0 where
  pub evse : Evse
  pub connector : Connector
  pub fits : Fits l.evses evse_uid connector_id evse connector
  pub free : IsFreeEvse s evse
  pub first : IsFirst l (IsFreeFor s evse_uid) evse
  pub place_is : IsPlaceOf evse connector p

-- the EVSEs out of service, once that EVSE is put in service or out of it
abbrev pub with_service : Bool → List ℕ → OutOfService → OutOfService
with_service true uid out = remove out uid
with_service false uid out = insert out uid tt

-- why an EVSE may not be claimed: the first that applies
abbrev pub IsRefused : SiteState → List ℕ → SiteFault → Type 0
IsRefused s evse fault.UnknownLocation = ⊥
IsRefused s evse fault.UnknownEvse = ¬ IsEvse s.site.locations evse
IsRefused s evse fault.Claimed = IsEvse s.site.locations evse × IsTrue (is_claimed s.claims evse)
IsRefused s evse fault.OutOfService = IsEvse s.site.locations evse × (is_claimed s.claims evse ≡ false) × (works s.out_of_service evse ≡ false)
