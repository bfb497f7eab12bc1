-- Laws of how sessions begin and go on.
use Rattle.std.specs.Prelude.{◌≡◌, ◌<◌, ℕ}
use Rattle.ocpi_text.specs.Moment.{last_moment}
use Rattle.ocpi_text.specs.Text.{key}
use Rattle.ocpi_types.specs.Prices.{price_at}
use Rattle.ocpi_types.specs.declared.events.ChargerEvent.{ChargerEvent}
use Rattle.ocpi_types.specs.declared.sessions.Session.{Session}
use Rattle.ocpi_types.specs.declared.site.Site.{Site}
use Rattle.ocpi_types.specs.declared.stored.OpenCommand.{OpenCommand}
use Rattle.ocpi_types.specs.declared.authorizations.Authorization.{Authorization}
use Rattle.authorization_book.specs.declared.awaited.Awaited.{Awaited}
use Rattle.session_state.specs.Versions.{IsPriced, IsUncharged}
use Rattle.session_state.specs.Pasts.{MayFollow}
use Rattle.site_book.specs.Sites.{IsConnectorOf}
use Rattle.operator_rows.specs.State.{Rows}
use Rattle.session_tables.specs.declared.beginning.Beginning.{Beginning}
use Rattle.session_tables.specs.Accepts.{Accepts}
use Rattle.session_tables.specs.Answers.{BeginsByAnswer, BeginsWithoutAnswer}
use Rattle.session_tables.specs.Moves.{Moves}
use Rattle.session_tables.specs.Places.{MayTakeAt}

-- what a report makes of a version that has its cost, and was not updated at the last moment, may follow it
abbrev pub MovesMayFollow : Type 0
MovesMayFollow = (site : Site) (s : Rows) (at : ℕ) (report : ChargerEvent) (v w : Session) →
    Moves site s at report v w → IsPriced (price_at site) v → IsUncharged v → v.last_updated < last_moment → MayFollow (price_at site) v w

-- a report makes one version of a version
abbrev pub MovesAreOne : Type 0
MovesAreOne = (site : Site) (s : Rows) (at : ℕ) (report : ChargerEvent) (v w x : Session) →
    Moves site s at report v w → Moves site s at report v x → w ≡ x

-- a session begins at a connector of the site
abbrev pub IsOfSite : Site → Beginning → Type 0
IsOfSite site b = IsConnectorOf site.locations (key b.place.evse_uid) (key b.place.connector_id)

pub record BeginningsAreOfSite : Type 0 where
  -- by an answer
  pub answered : (site : Site) (s : Rows) (w : Awaited) (a : Authorization) (b : Beginning) → BeginsByAnswer site s w a b → IsOfSite site b
  -- without one
  pub unanswered : (site : Site) (s : Rows) (at : ℕ) (w : Awaited) (b : Beginning) → BeginsWithoutAnswer site (MayTakeAt s at w.token (key w.place.evse_uid)) w b → IsOfSite site b
  -- and by a start
  pub accepted : (site : Site) (o : OpenCommand) (b : Beginning) → Accepts site o b → IsOfSite site b
