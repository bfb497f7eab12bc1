-- What a charge point's report makes of the session at an EVSE (OCPI 2.2.1, Sessions: Session object, SessionStatus).
use Rattle.std.specs.Prelude.{◌≡◌, ◌⊎◌, ℕ, ℤ, List, Option, Some, None}
use Rattle.std.specs.FinMap.{get}
use Rattle.ocpi_text.specs.Text.{key}
use Rattle.ocpi_types.specs.Prices.{price_at}
use Rattle.ocpi_types.specs.declared.events.ChargerEvent.{ChargerEvent}
use Rattle.ocpi_types.specs.declared.events.ChargerEvent.TheVariants as event
use Rattle.ocpi_types.specs.declared.sessions.Session.{Session}
use Rattle.ocpi_types.specs.declared.site.Site.{Site}
use Rattle.ocpi_types.specs.declared.words.SessionStatus.TheVariants.{Pending, Active}
use Rattle.session_state.specs.Versions.{CanRead, activated, metered, completed, voided}
use Rattle.operator_rows.specs.State.{Rows, IsLive}

-- the session that is at the EVSE of that key and has not ended
pub record IsSessionAt (s : Rows) (evse : List ℕ) (v : Session) : Type 0 where
  pub stands : get s.charged.sessions (key v.id) ≡ Some v
  pub live : IsLive v.status
  pub here : key v.evse_uid ≡ evse

-- the EVSE whose session a report is about, if it is about one
abbrev pub charging_at : ChargerEvent → Option (List ℕ)
charging_at (event.Starts evse_uid) = Some (key evse_uid)
charging_at (event.Meter evse_uid kwh) = Some (key evse_uid)
charging_at (event.Stops evse_uid) = Some (key evse_uid)
charging_at (event.Fault evse_uid) = Some (key evse_uid)
charging_at (event.Accepts provider number) = None
charging_at (event.Refuses provider number) = None
charging_at (event.Unlocked provider number) = None
charging_at (event.Swipe evse_uid connector_id token_uid token_type) = None

-- the session ends: one that was charged is complete, and another never began
abbrev pub Ends : ℕ → Session → Session → Type 0
Ends at v w = ((v.status ≡ Active) × (w ≡ completed at v)) ⊎ ((v.status ≡ Pending) × (w ≡ voided at v))

-- w is what the report makes of the version v, at that price. A reading that is below the last, or out of its range,
-- makes nothing
abbrev pub Makes : ℤ → ℕ → ChargerEvent → Session → Session → Type 0
Makes price at (event.Starts evse_uid) v w = (v.status ≡ Pending) × (w ≡ activated at v)
Makes price at (event.Meter evse_uid kwh) v w = (v.status ≡ Active) × CanRead v kwh × (w ≡ metered at kwh price v)
Makes price at (event.Stops evse_uid) v w = Ends at v w
Makes price at (event.Fault evse_uid) v w = Ends at v w
Makes price at (event.Accepts provider number) v w = ⊥
Makes price at (event.Refuses provider number) v w = ⊥
Makes price at (event.Unlocked provider number) v w = ⊥
Makes price at (event.Swipe evse_uid connector_id token_uid token_type) v w = ⊥

-- the report is about the session at an EVSE, and makes w of its version v, at the price of the moment at which it began
pub record Moves (site : Site) (s : Rows) (at : ℕ) (report : ChargerEvent) (v w : Session) : Type 0 where
  pub evse : List ℕ
  pub about : charging_at report ≡ Some evse
  pub here : IsSessionAt s evse v
  pub makes : Makes (price_at site v.start_date_time) at report v w

-- the report makes nothing of any session
abbrev pub MovesNone : Site → Rows → ℕ → ChargerEvent → Type 0
MovesNone site s at report = (v w : Session) → Moves site s at report v w → ⊥
