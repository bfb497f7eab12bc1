-- Which EVSE an operator unlocks (OCPI 2.2.1, Commands: UnlockConnector).
use Rattle.std.specs.Prelude.{◌≡◌, ◌⊎◌, ℕ, List, Some}
use Rattle.std.specs.FinMap.{get}
use Rattle.ocpi_text.specs.Text.{key}
use Rattle.ocpi_types.specs.declared.commands.Command.TheVariants as command
use Rattle.ocpi_types.specs.declared.commands.StartSession.{StartSession}
use Rattle.ocpi_types.specs.declared.commands.UnlockConnector.{UnlockConnector}
use Rattle.ocpi_types.specs.declared.rows.Row.TheVariants as row
use Rattle.ocpi_types.specs.declared.sessions.Session.{Session}
use Rattle.ocpi_types.specs.declared.stored.OpenCommand.{OpenCommand}
use Rattle.ocpi_types.specs.declared.stored.Reservation.{Reservation}
use Rattle.ocpi_types.specs.declared.words.SessionStatus.TheVariants.{Active, Pending}
use Rattle.operator_rows.specs.State.{Rows, State}
use Rattle.operator_steps.specs.Events.{Event, Happens}
use Rattle.operator_laws.specs.Sessions.{Puts}

-- whoever has an open start, a session that goes on, or a reservation at the EVSE of that key is the provider of that
-- key
pub record IsOfNoOther (s : Rows) (p evse : List ℕ) : Type 0 where
  pub starts : (q : List ℕ) (n : ℕ) (o : OpenCommand) (c : StartSession) (uid : List ℕ) → get s.commands.pending (q, n) ≡ Some o → o.command ≡ command.StartSession c →
      o.evse_uid ≡ Some uid → key uid ≡ evse → q ≡ p
  pub sessions : (id : List ℕ) (v : Session) → get s.charged.sessions id ≡ Some v → (v.status ≡ Pending) ⊎ (v.status ≡ Active) → key v.evse_uid ≡ evse → key v.cdr_token.party ≡ p
  pub reservations : (q id : List ℕ) (r : Reservation) → get s.booked.reservations (q, id) ≡ Some r → key r.evse_uid ≡ evse → q ≡ p

-- a command to unlock a connector is opened where no other provider is at its EVSE
abbrev pub UnlocksAreOfNoOther : Type 0
UnlocksAreOfNoOther = (s t : State) (e : Event) → Happens s e t → (p : List ℕ) (n : ℕ) (o : OpenCommand) (c : UnlockConnector) → o.command ≡ command.UnlockConnector c →
    Puts e (row.Pending p n o) → IsOfNoOther s.rows p (key c.evse_uid)
