-- What stored rows of an operator are tested for beside what its type keeps. It holds of each operator that ran from
-- its opening.
use Rattle.std.specs.Prelude.{◌≡◌, ℕ, List, Some}
use Rattle.std.specs.FinMap.{get}
use Rattle.ocpi_text.specs.Text.{key}
use Rattle.ocpi_text.specs.declared.own_ids.OwnIdKind.TheVariants as own
use Rattle.ocpi_types.specs.Prices.{price_at}
use Rattle.ocpi_types.specs.Credits.{AreAlike, IsBill, IsCredit}
use Rattle.ocpi_types.specs.declared.cdrs.Cdr.{Cdr}
use Rattle.ocpi_types.specs.declared.sessions.Session.{Session}
use Rattle.ocpi_types.specs.declared.words.SessionStatus.TheVariants.{Completed}
use Rattle.session_state.specs.Resuming.{CannotResume}
use Rattle.stored_rows.specs.Given.{IsOwnId}
use Rattle.stored_rows.specs.Records.{IsCreditOfBill, IsRecordId}
use Rattle.operator_rows.specs.State.{State, Rows}

-- each COMPLETED session has a bill, no session has two bills, nor two credits, and no other session has a charge detail
-- record (OCPI 2.2.1, CDRs); each credit takes a bill back
pub record AreBilled (s : Rows) : Type 0 where
  pub each : (id : List ℕ) (v : Session) → get s.charged.sessions id ≡ Some v → v.status ≡ Completed →
      (x : Cdr) × (get s.charged.cdrs (key x.id) ≡ Some x) × IsBill x × (key x.session_id ≡ key v.id)
  pub only : (id : List ℕ) (x : Cdr) → get s.charged.cdrs id ≡ Some x →
      (v : Session) × (get s.charged.sessions (key x.session_id) ≡ Some v) × (v.status ≡ Completed)
  pub once : (i j : List ℕ) (x y : Cdr) → get s.charged.cdrs i ≡ Some x → get s.charged.cdrs j ≡ Some y →
      AreAlike x y → key x.session_id ≡ key y.session_id → i ≡ j
  pub credited : (id : List ℕ) (x : Cdr) → get s.charged.cdrs id ≡ Some x → IsCredit x →
      (y : Cdr) × (get s.charged.cdrs (key y.id) ≡ Some y) × IsCreditOfBill y x

pub record IsWhole (s : State) : Type 0 where
  -- each session has an id of the operator's own, and can go on from its newest version: its status is one that a
  -- session has, its cost that of its energy at the price of the moment at which it began, and one that is PENDING has no
  -- energy
  pub sessions : (id : List ℕ) (v : Session) → get s.rows.charged.sessions id ≡ Some v → (n : ℕ) × IsOwnId own.Session s.party v.id n
  pub resumable : (id : List ℕ) (v : Session) → get s.rows.charged.sessions id ≡ Some v → ¬ CannotResume (price_at s.site v.start_date_time) v
  -- each charge detail record has an id of the operator's own
  pub cdrs : (id : List ℕ) (x : Cdr) → get s.rows.charged.cdrs id ≡ Some x → (n : ℕ) × IsRecordId s.party x n
  pub billed : AreBilled s.rows
