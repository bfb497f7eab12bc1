-- A session that has not ended goes on at a price (OCPI 2.2.1, Sessions: Session object).
use Rattle.std.specs.Prelude.{◌≡◌, ℕ, ℤ, List}
use Rattle.ocpi_types.specs.Prices.{price_at}
use Rattle.ocpi_types.specs.declared.sessions.Session.{Session}
use Rattle.ocpi_types.specs.declared.site.Site.{Site}
use Rattle.ocpi_types.specs.declared.words.SessionStatus.TheVariants as status
use Rattle.session_state.specs.declared.resuming.Resumed.{Resumed}
use Rattle.operator_rows.specs.State.{Rows}
use Rattle.session_tables.specs.Moves.{IsSessionAt}
use Rattle.session_state.specs.declared.resuming.Resumed.TheVariants as resumed

-- it is the session of that version, which is PENDING or ACTIVE
abbrev pub IsGoing : ℤ → Session → Resumed → Type 0
IsGoing price v (resumed.Pending x) = (v.status ≡ status.Pending) × (x ≡ record { version = v; price = price })
IsGoing price v (resumed.Active x) = (v.status ≡ status.Active) × (x ≡ record { version = v; price = price })
IsGoing price v (resumed.Completed x) = ⊥
IsGoing price v (resumed.Invalid x) = ⊥

-- it is the one session at the EVSE of that key that has not ended, at the price of the moment at which it began
pub record IsGoingAt (s : Rows) (site : Site) (evse : List ℕ) (x : Resumed) : Type 0 where
  pub session : Session
  pub here : IsSessionAt s evse session
  pub only : (w : Session) → IsSessionAt s evse w → w ≡ session
  pub going : IsGoing (price_at site session.start_date_time) session x
