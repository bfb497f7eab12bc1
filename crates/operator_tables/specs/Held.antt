-- The places that reservations hold for a start (OCPI 2.2.1, Commands: StartSession).
use Rattle.std.specs.Prelude.{◌≡◌, ℕ, List, Some}
use Rattle.std.specs.BTreeMap.Range.{IsLeBy}
use Rattle.tables.specs.Keys.{text_cmp}
use Rattle.ocpi_text.specs.Text.{key}
use Rattle.ocpi_types.specs.declared.site.Location.{Location}
use Rattle.ocpi_types.specs.declared.site.Evse.{Evse}
use Rattle.ocpi_types.specs.declared.site.Connector.{Connector}
use Rattle.ocpi_types.specs.declared.rows.Place.{Place}
use Rattle.ocpi_types.specs.declared.commands.StartSession.{StartSession}
use Rattle.reservation_book.specs.declared.standing.Standing.{Standing}
use Rattle.reservation_book.specs.declared.standing.TokenAt.{TokenAt}
use Rattle.reservation_book.specs.Tokens.{IsFor}
use Rattle.site_book.specs.Sites.{Fits}
use Rattle.operator_rows.specs.State.{Rows}
use Rattle.operator_tables.specs.Places.{Works, place_of}
use Rattle.operator_tables.specs.Start.{IsPlace}

-- the token of the command, as that provider's, at the location that the command names
abbrev pub token_of : List ℕ → StartSession → TokenAt
token_of provider c = record { provider = provider; location_id = key c.location_id; uid = key c.token.uid; token_type = c.token.token_type }

-- the EVSE that the reservation is on, in service, and the connector of it that the command names, or its first
pub record IsPlaceOn (s : Rows) (c : StartSession) (l : Location) (x : Standing) (e : Evse) (k : Connector) : Type 0 where
  pub place : Fits l.evses (Some x.reservation.evse_uid) c.connector_id e k
  pub works : Works s e

-- an EVSE in service and a connector of it, which the command may be about, and which the reservation holds for the
-- token
pub record IsHeldBy (s : Rows) (t : TokenAt) (c : StartSession) (l : Location) (x : Standing) (e : Evse) (k : Connector) : Type 0 where
  pub place : IsPlace l c e k
  pub works : Works s e
  pub is_for : IsFor s.booked.reservations t x
  pub here : key x.reservation.evse_uid ≡ key e.uid

-- the place, and the id of a reservation that holds it for the token. Of the EVSEs that are held so its key is the least
pub record IsHeld (s : Rows) (t : TokenAt) (c : StartSession) (l : Location) (p : Place × List ℕ) : Type 0 where
  pub reservation : Standing
  pub evse : Evse
  pub connector : Connector
  pub held : IsHeldBy s t c l reservation evse connector
  pub least : (x : Standing) (e : Evse) (k : Connector) → IsHeldBy s t c l x e k → IsLeBy text_cmp (key evse.uid) (key e.uid)
  pub place_is : p.0 ≡ place_of evse connector
  pub id_is : p.1 ≡ reservation.id

-- no reservation holds a place for the token
abbrev pub HasNoHeld : Rows → TokenAt → StartSession → Location → Type 0
HasNoHeld s t c l = (x : Standing) (e : Evse) (k : Connector) → IsHeldBy s t c l x e k → ⊥
