-- Of several causes for which one thing is refused, which one it is.
use Rattle.std.specs.Prelude.{◌≡◌, ℤ, ℕ, List, Some, None}
use Rattle.ocpi_text.specs.Text.{key}
use Rattle.ocpi_types.specs.declared.sessions.Price.{Price}
use Rattle.ocpi_types.specs.declared.sessions.Session.{Session}
use Rattle.ocpi_types.specs.declared.site.Location.{Location}
use Rattle.ocpi_types.specs.declared.stored.OpenCommand.{OpenCommand}
use Rattle.ocpi_types.specs.declared.words.SessionStatus.TheVariants.{Reservation}
use Rattle.site_book.specs.Sites.{IsConnectorOf, IsEvse, IsSiteOf}
use Rattle.session_state.specs.Versions.{HasCost, IsUncharged}
use Rattle.stored_rows.specs.declared.fault.BadReason.{BadReason}
use Rattle.stored_rows.specs.declared.fault.BadReason.TheVariants as reason

-- the site has no EVSE of that uid, or it has, which has no connector of that id
pub data IsNoConnector (locations : List Location) (evse connector : List ℕ) : BadReason → Type 0 where
  OfNoEvse : ¬ IsEvse locations evse → IsNoConnector locations evse connector reason.UnknownEvse
  OfEvse : IsEvse locations evse → ¬ IsConnectorOf locations evse connector → IsNoConnector locations evse connector reason.UnknownConnector

-- the site has no EVSE of that uid, or it has, which is not at the location of that id
pub data IsNotAt (locations : List Location) (evse location : List ℕ) : BadReason → Type 0 where
  Nowhere : ¬ IsEvse locations evse → IsNotAt locations evse location reason.UnknownEvse
  Elsewhere : IsEvse locations evse → ¬ IsSiteOf locations evse location → IsNotAt locations evse location reason.OtherLocation

-- the command names no EVSE, or no connector, or those that it names are none of the site's
pub data IsMisplaced (locations : List Location) (o : OpenCommand) : BadReason → Type 0 where
  WithoutEvse : o.evse_uid ≡ None → IsMisplaced locations o reason.WithoutPlace
  WithoutConnector : o.connector_id ≡ None → IsMisplaced locations o reason.WithoutPlace
  AtNoConnector : (uid connector : List ℕ) (why : BadReason) → o.evse_uid ≡ Some uid → o.connector_id ≡ Some connector →
      IsNoConnector locations (key uid) (key connector) why → IsMisplaced locations o why

-- the session is a reservation's, or has no cost, or is PENDING and has energy, or its cost is not that of its energy at
-- the price
pub data IsStuck (price : ℤ) (v : Session) : BadReason → Type 0 where
  OfReservation : v.status ≡ Reservation → IsStuck price v reason.ReservationStatus
  CostMissing : v.total_cost ≡ None → IsStuck price v reason.WithoutCost
  ChargedEarly : ¬ IsUncharged v → IsStuck price v reason.EnergyWhilePending
  OtherPrice : (cost : Price) → v.total_cost ≡ Some cost → ¬ HasCost price v → IsStuck price v (reason.OtherPrice v.start_date_time v.kwh cost.excl_vat price)
