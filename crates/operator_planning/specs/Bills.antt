-- Charge detail records, and the versions of sessions that are completed, as an operator sends them (OCPI 2.2.1, CDRs:
-- Sender interface).
use Rattle.std.specs.Prelude.{◌≡◌, ◌≤◌, ℕ, ◌+◌, List, [], ◌∷◌, ◌++◌, ⊤}
use Rattle.ocpi_text.specs.Text.{key}
use Rattle.ocpi_text.specs.Whole.{max_whole}
use Rattle.ocpi_types.specs.declared.cdrs.CdrLocation.{CdrLocation}
use Rattle.ocpi_types.specs.declared.rows.Change.TheVariants.{Put}
use Rattle.ocpi_types.specs.declared.rows.Row.TheVariants as row
use Rattle.ocpi_types.specs.declared.sessions.Session.{Session}
use Rattle.ocpi_types.specs.declared.site.Connector.{Connector}
use Rattle.ocpi_types.specs.declared.site.Evse.{Evse}
use Rattle.ocpi_types.specs.declared.site.Location.{Location}
use Rattle.ocpi_types.specs.declared.stored.Push.TheVariants as push
use Rattle.node_steps.specs.Acts.{Act, changed, pushed}
use Rattle.node_steps.specs.declared.fault.NodeFault.{NodeFault}
use Rattle.node_steps.specs.declared.fault.NodeFault.TheVariants.{NotForMe, UnknownOperator, UnknownToken, StampEnd, NumbersUsedUp, Memory}
use Rattle.operator_rows.specs.State.{State}
use Rattle.operator_steps.specs.Moves.{AreInRange}
use Rattle.operator_steps.specs.Sessions.{IsBilled, IsVersioned, next_cdr, numbered_cdrs}
use Rattle.operator_planning.specs.declared.reports.bills.Bill.{Bill}
use Rattle.operator_planning.specs.declared.sessions.Versioned.{Versioned}
use Rattle.operator_planning.specs.Planned.{version_acts}
use Rattle.session_tables.specs.Places.{IsConnectorAt, cdr_location_of}

-- the record is numbered, pushed to the party `to` as the request after `last`, and stored
abbrev pub bill_acts : ℕ → ℕ → List ℕ → Bill → List Act
bill_acts at last to b = numbered_cdrs b.number ∷ (pushed at (last + 1) to (push.PostCdr b.cdr) ∷ (changed (Put (row.Cdr b.cdr)) ∷ []))

-- the last version of a session, and its record
abbrev pub completed_acts : ℕ → ℕ → Versioned → Bill → List Act
completed_acts at last x b = version_acts at last x ++ bill_acts at (last + 1) x.to b

-- the place where the session is charged, as its record names it
pub record IsLocationOf (s : State) (v : Session) (c : CdrLocation) : Type 0 where
  pub location : Location
  pub of_evse : Evse
  pub of_connector : Connector
  pub place : IsConnectorAt s.site.locations (key v.evse_uid) (key v.connector_id) location of_evse of_connector
  pub location_is : c ≡ cdr_location_of location of_evse of_connector

-- the next record of this operator is that of the version
pub record IsBillOf (s : State) (v : Session) (b : Bill) : Type 0 where
  pub number_is : b.number ≡ s.rows.charged.last_cdr + 1
  pub in_range : b.number ≤ max_whole
  pub location : Location
  pub of_evse : Evse
  pub of_connector : Connector
  pub place : IsConnectorAt s.site.locations (key v.evse_uid) (key v.connector_id) location of_evse of_connector
  pub cdr_is : b.cdr ≡ next_cdr s v location of_evse of_connector

-- there is no next number of a record, or memory ran out
abbrev pub CannotBill : State → NodeFault → Type 0
CannotBill s NotForMe = ⊥
CannotBill s UnknownOperator = ⊥
CannotBill s UnknownToken = ⊥
CannotBill s StampEnd = ⊥
CannotBill s NumbersUsedUp = max_whole ≤ s.rows.charged.last_cdr
CannotBill s Memory = ⊤

-- the new version of a session is pushed and stored, and, where it is complete, its charge detail record
pub record IsRecorded (s : State) (at : ℕ) (v : Session) (acts : List Act) : Type 0 where
  pub version_part : List Act
  pub bill_part : List Act
  pub versioned : IsVersioned s at s.rows.request v version_part
  pub billed : IsBilled s at (s.rows.request + 1) v bill_part
  pub acts_are : acts ≡ version_part ++ bill_part

-- what a line asks for would take a counter past its last number
pub record PassesEnd (Line : List Act → Type 0) (s : State) : Type 0 where
  pub acts : List Act
  pub line : Line acts
  pub past : ¬ AreInRange s acts

-- why what a line asks for is not done, where memory may run out before the numbers are counted
abbrev pub StopsEarly : (List Act → Type 0) → State → NodeFault → Type 0
StopsEarly Line s NotForMe = ⊥
StopsEarly Line s UnknownOperator = ⊥
StopsEarly Line s UnknownToken = ⊥
StopsEarly Line s StampEnd = ⊥
StopsEarly Line s NumbersUsedUp = PassesEnd Line s
StopsEarly Line s Memory = ⊤
