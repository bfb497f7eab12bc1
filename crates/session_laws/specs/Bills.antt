-- The charge detail records of an operator (OCPI 2.2.1, CDRs: CDR object).
use Rattle.std.specs.Prelude.{◌≡◌, ◌<◌, ◌+◌, ℕ, List, Some, None, Contains}
use Rattle.std.specs.FinMap.{get}
use Rattle.ocpi_text.specs.OwnIds.{own_id_text}
use Rattle.ocpi_text.specs.Text.{key}
use Rattle.ocpi_text.specs.declared.own_ids.OwnIdKind.TheVariants as own
use Rattle.ocpi_types.specs.Credits.{AreAlike, IsBill, IsCredit, IsCreditOf}
use Rattle.ocpi_types.specs.declared.cdrs.Cdr.{Cdr}
use Rattle.ocpi_types.specs.declared.rows.Row.TheVariants as row
use Rattle.ocpi_types.specs.declared.sessions.Session.{Session}
use Rattle.ocpi_types.specs.declared.site.Connector.{Connector}
use Rattle.ocpi_types.specs.declared.site.Evse.{Evse}
use Rattle.ocpi_types.specs.declared.site.Location.{Location}
use Rattle.ocpi_types.specs.declared.site.SiteLine.{SiteLine}
use Rattle.ocpi_types.specs.declared.words.SessionStatus.TheVariants.{Completed}
use Rattle.session_state.specs.Records.{cdr_of}
use Rattle.session_tables.specs.Places.{IsConnectorAt, cdr_location_of}
use Rattle.operator_rows.specs.State.{State, opening}
use Rattle.operator_rows.specs.Sound.{IsConsistent}
use Rattle.operator_steps.specs.Events.{Credits, Event, Happens}
use Rattle.operator_laws.specs.Laws.{IsOfParty, Run, setups_in}
use Rattle.operator_laws.specs.Sessions.{Puts}
use Rattle.session_laws.specs.Pasts.{stored}

-- the record bills the version, which is COMPLETED: its energy and its cost are the version's
pub record Bills (v : Session) (x : Cdr) : Type 0 where
  pub bill : IsBill x
  pub completed : v.status ≡ Completed
  pub session : x.session_id ≡ v.id
  pub token : x.cdr_token ≡ v.cdr_token
  pub energy : x.total_energy ≡ v.kwh
  pub cost : v.total_cost ≡ Some x.total_cost

-- it is the record that a version gets: its id is that of the next number, and its location that of the version's
-- connector
pub record IsRecordOf (s : State) (v : Session) (x : Cdr) : Type 0 where
  pub bills : Bills v x
  pub location : Location
  pub of_evse : Evse
  pub of_connector : Connector
  pub place : IsConnectorAt s.site.locations (key v.evse_uid) (key v.connector_id) location of_evse of_connector
  pub record_is : x ≡ cdr_of v (own_id_text own.Cdr s.party (s.rows.charged.last_cdr + 1)) (cdr_location_of location of_evse of_connector)

-- the credit takes back a bill that stands, of a session that is COMPLETED and had no credit. It is later than the bill,
-- and no record has its id
pub record IsFirstCredit (s : State) (x : Cdr) : Type 0 where
  pub bill : Cdr
  pub stands : get s.rows.charged.cdrs (key bill.id) ≡ Some bill
  pub is_bill : IsBill bill
  pub takes_back : IsCreditOf bill x
  pub later : bill.last_updated < x.last_updated
  pub version : Session
  pub newest : stored s (key bill.session_id) ≡ Some version
  pub completed : version.status ≡ Completed
  pub first : (id : List ℕ) (y : Cdr) → get s.rows.charged.cdrs id ≡ Some y → key y.session_id ≡ key bill.session_id → IsCredit y → ⊥
  pub new : get s.rows.charged.cdrs (key x.id) ≡ None

-- an event puts a bill exactly where it puts a COMPLETED version of a session, and it is the record of that version; and
-- each credit that it puts is the first of its bill, and was ordered by that event
pub record PutsRecords (s : State) (e : Event) : Type 0 where
  pub each : (v : Session) → Puts e (row.Session v) → v.status ≡ Completed → (x : Cdr) × Puts e (row.Cdr x) × IsRecordOf s v x
  pub only : (x : Cdr) → Puts e (row.Cdr x) → IsBill x → (v : Session) × Puts e (row.Session v) × IsRecordOf s v x
  pub credits : (x : Cdr) → Puts e (row.Cdr x) → IsCredit x → IsFirstCredit s x
  pub ordered : (x : Cdr) → Puts e (row.Cdr x) → IsCredit x → (at : ℕ) × (e.input ≡ Credits at (key x.session_id))

abbrev pub RecordsAreOfCompletedSessions : Type 0
RecordsAreOfCompletedSessions = (s t : State) (e : Event) → IsConsistent s → Happens s e t → PutsRecords s e

-- each session that is COMPLETED has one bill, no other session has one, and each credit takes back a bill that stands.
-- No session has two bills, nor two credits
pub record AreBilledOnce (t : State) : Type 0 where
  pub each : (id : List ℕ) (v : Session) → stored t id ≡ Some v → v.status ≡ Completed → (x : Cdr) × (get t.rows.charged.cdrs (key x.id) ≡ Some x) × Bills v x
  pub only : (id : List ℕ) (x : Cdr) → get t.rows.charged.cdrs id ≡ Some x → IsBill x → (v : Session) × (stored t (key v.id) ≡ Some v) × Bills v x
  pub credits : (id : List ℕ) (x : Cdr) → get t.rows.charged.cdrs id ≡ Some x → IsCredit x →
      (bill : Cdr) × (get t.rows.charged.cdrs (key bill.id) ≡ Some bill) × IsBill bill × IsCreditOf bill x
  pub once : (i j : List ℕ) (x y : Cdr) → get t.rows.charged.cdrs i ≡ Some x → get t.rows.charged.cdrs j ≡ Some y → key x.session_id ≡ key y.session_id →
      AreAlike x y → i ≡ j

abbrev pub SessionsAreBilledOnce : Type 0
SessionsAreBilledOnce = (line : SiteLine) (es : List Event) (t : State) → IsOfParty line → Run (opening line) es t → AreBilledOnce t

-- a charge detail record stays for good, unchanged
abbrev pub RecordsStay : Type 0
RecordsStay = (s t : State) (es : List Event) → IsConsistent s → Run s es t → (id : List ℕ) (x : Cdr) → get s.rows.charged.cdrs id ≡ Some x → get t.rows.charged.cdrs id ≡ Some x

-- each session and each charge detail record is in the currency of the site
pub record AreInCurrency (t : State) : Type 0 where
  pub sessions : (id : List ℕ) (v : Session) → stored t id ≡ Some v → v.currency ≡ t.site.currency
  pub cdrs : (id : List ℕ) (x : Cdr) → get t.rows.charged.cdrs id ≡ Some x → x.currency ≡ t.site.currency

-- where each setup has the currency of the first
abbrev pub CurrenciesAreOfSite : Type 0
CurrenciesAreOfSite = (line : SiteLine) (es : List Event) (t : State) → IsOfParty line → Run (opening line) es t →
    ((other : SiteLine) → Contains (setups_in es) other → other.site.currency ≡ line.site.currency) → AreInCurrency t
