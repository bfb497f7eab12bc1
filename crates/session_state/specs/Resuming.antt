-- A session that is made again of its newest version.
use Rattle.std.specs.Prelude.{◌≡◌, ◌⊎◌, ℤ, Option, Some, None}
use Rattle.ocpi_types.specs.declared.sessions.Session.{Session}
use Rattle.ocpi_types.specs.declared.words.SessionStatus.{SessionStatus}
use Rattle.ocpi_types.specs.declared.words.SessionStatus.TheVariants as status
use Rattle.session_state.specs.declared.resuming.Resumed.{Resumed}
use Rattle.session_state.specs.declared.resuming.Resumed.TheVariants as resumed
use Rattle.session_state.specs.Versions.{Priced, HasCost, IsUncharged}

-- the session in the state that the status names; RESERVATION names none
abbrev pub in_state : SessionStatus → Priced → Option Resumed
in_state status.Pending s = Some (resumed.Pending s)
in_state status.Active s = Some (resumed.Active s)
in_state status.Completed s = Some (resumed.Completed s)
in_state status.Invalid s = Some (resumed.Invalid s)
in_state status.Reservation s = None

-- the version goes on as that session
pub record IsResumed (price : ℤ) (v : Session) (session : Resumed) : Type 0 where
  pub priced : HasCost price v
  pub uncharged : IsUncharged v
  pub state : in_state v.status (record { version = v; price = price }) ≡ Some session

-- it cannot go on
abbrev pub CannotResume : ℤ → Session → Type 0
CannotResume price v = (v.status ≡ status.Reservation) ⊎ (¬ HasCost price v) ⊎ (¬ IsUncharged v)
