-- A world is safe: no EVSE has two claims, no authorization reference starts two sessions, each session goes on in
-- order, what a provider holds of it is what the operator had, and each session is billed once, taken back at most once,
-- and each is counted once in what is owed.
use Rattle.std.specs.Prelude.{◌≡◌, ◌≢◌, ◌↔◌, ℕ, ℤ, ◌-ℤ◌, Bool, true, false, List, Some, None, map, Contains, pos}
use Rattle.std.specs.List.{AllPairs, last_or}
use Rattle.std.specs.FinMap.{get, values}
use Rattle.ocpi_text.specs.Text.{key}
use Rattle.ocpi_types.specs.Credits.{AreAlike, IsBill, IsCredit, IsCreditOf, is_credit}
use Rattle.ocpi_types.specs.Prices.{price_at}
use Rattle.ocpi_types.specs.declared.cdrs.Cdr.{Cdr}
use Rattle.ocpi_types.specs.declared.sessions.Session.{Session}
use Rattle.ocpi_types.specs.declared.words.SessionStatus.TheVariants.{Completed}
use Rattle.handover.specs.Owed.{owed, total}
use Rattle.operator_rows.specs.State as operator
use Rattle.provider_rows.specs.State as provider
use Rattle.session_state.specs.Pasts.{IsOrderly}
use Rattle.world_laws.specs.Nodes.{HasCdr, HasSession, Holds, HoldsCdr, IsPast, OperatorOf, ProviderOf}
use Rattle.world_steps.specs.World.{Place, World, past_of}

-- a session of that provider that its authorization reference started
pub record Started (w : World) (p reference o id : List ℕ) : Type 0 where
  pub session : Session
  pub stands : HasSession w o id session
  pub of_provider : key session.cdr_token.party ≡ p
  pub spelled : List ℕ
  pub named : session.authorization_reference ≡ Some spelled
  pub same : key spelled ≡ reference

-- the past of a session is orderly: it begins PENDING, its statuses follow one another, each version is later than the
-- one before it, its energy never falls, its cost is that of its energy at the site's price at its start, and what it is
-- of stays. The newest is what is stored
pub record GoesInOrder (p : Place) (s : operator.State) (id : List ℕ) : Type 0 where
  pub orderly : IsOrderly (price_at s.site) (past_of id p.versions)
  pub newest : get s.rows.charged.sessions id ≡ last_or None (past_of id p.versions)

-- a version that is held is one of its past; and one that is COMPLETED is the last
pub record IsOfPast (w : World) (o id : List ℕ) (v : Session) : Type 0 where
  pub versions : List Session
  pub is_past : IsPast w o id versions
  pub member : Contains versions v
  pub last : v.status ≡ Completed → last_or None versions ≡ Some v

-- the record bills the version, which is COMPLETED: its energy and its cost are the version's (OCPI 2.2.1, CDRs: CDR
-- object)
pub record Bills (v : Session) (x : Cdr) : Type 0 where
  pub bill : IsBill x
  pub completed : v.status ≡ Completed
  pub session : x.session_id ≡ v.id
  pub energy : x.total_energy ≡ v.kwh
  pub cost : v.total_cost ≡ Some x.total_cost

-- the session of that id ended as this version
abbrev pub EndsAs : Place → List ℕ → Session → Type 0
EndsAs p id v = last_or None (past_of id p.versions) ≡ Some v

-- an operator has one bill for each session whose past ends COMPLETED, and no other. Each credit takes back a bill of the
-- operator, and no session has two bills, nor two credits
pub record BillsOnce (p : Place) (s : operator.State) : Type 0 where
  pub each : (id : List ℕ) (v : Session) → EndsAs p id v → v.status ≡ Completed → (x : Cdr) × (get s.rows.charged.cdrs (key x.id) ≡ Some x) × Bills v x
  pub only : (id : List ℕ) (x : Cdr) → get s.rows.charged.cdrs id ≡ Some x → IsBill x → (v : Session) × EndsAs p (key x.session_id) v × Bills v x
  pub credits : (id : List ℕ) (x : Cdr) → get s.rows.charged.cdrs id ≡ Some x → IsCredit x →
      (bill : Cdr) × (get s.rows.charged.cdrs (key bill.id) ≡ Some bill) × IsBill bill × IsCreditOf bill x
  pub once : (i j : List ℕ) (x y : Cdr) → get s.rows.charged.cdrs i ≡ Some x → get s.rows.charged.cdrs j ≡ Some y → key x.session_id ≡ key y.session_id → AreAlike x y → i ≡ j

-- the sessions of an operator of which the provider holds a bill, or, where `credit` is true, a credit, each once, in
-- their last versions
pub record AreOfHeld (credit : Bool) (w : World) (p o : List ℕ) (place : Place) (versions : List Session) : Type 0 where
  pub each : (v : Session) → Contains versions v ↔ ((id : List ℕ) × (x : Cdr) × HoldsCdr w p o id x × (is_credit x ≡ credit) × EndsAs place (key x.session_id) v)
  pub once : AllPairs (λ (v w : Session). key v.id ≢ key w.id) versions

abbrev pub cost_of : Session → ℤ
cost_of v = elim v.total_cost [ None ↦ pos 0 | Some cost ↦ cost.excl_vat ]

-- what is owed in the operator's currency is the sum of the costs of the sessions whose bills are held, less that of the
-- costs of those whose credits are held; in another currency nothing is owed
pub record OwesForEach (w : World) (p o : List ℕ) (place : Place) (site : operator.State) (t : provider.State) : Type 0 where
  pub billed : List Session
  pub are_billed : AreOfHeld false w p o place billed
  pub credited : List Session
  pub are_credited : AreOfHeld true w p o place credited
  pub sum : owed (o, site.site.currency) (values t.rows.inbox.cdrs) ≡ total (map cost_of billed) -ℤ total (map cost_of credited)
  pub other : (currency : List ℕ) → currency ≢ site.site.currency → owed (o, currency) (values t.rows.inbox.cdrs) ≡ pos 0

pub record IsSafe (w : World) : Type 0 where
  -- at most one claim an EVSE: an open start, a session that is PENDING or ACTIVE, or a reservation that stands
  pub claims : (o : List ℕ) (p : Place) (s : operator.State) → OperatorOf w o p s → operator.OneClaimEach s.rows
  -- a reference of a provider starts at most one session, over all operators
  pub started : (p reference o id q jd : List ℕ) → Started w p reference o id → Started w p reference q jd → (o ≡ q) × (id ≡ jd)
  -- each session goes on in order
  pub orderly : (o : List ℕ) (p : Place) (s : operator.State) → OperatorOf w o p s → (id : List ℕ) → GoesInOrder p s id
  -- each version that a provider holds is one that the operator had, and nothing follows one that is COMPLETED
  pub held : (p o id : List ℕ) (v : Session) → Holds w p o id v → IsOfPast w o id v
  -- each completed session is billed once, and no other; each is taken back at most once
  pub billed : (o : List ℕ) (p : Place) (s : operator.State) → OperatorOf w o p s → BillsOnce p s
  -- each charge detail record that a provider holds is the operator's, and it holds no two bills of one session, nor two
  -- credits
  pub records : (p o id : List ℕ) (x : Cdr) → HoldsCdr w p o id x → HasCdr w o id x
  pub records_once : (p o i j : List ℕ) (x y : Cdr) → HoldsCdr w p o i x → HoldsCdr w p o j y → key x.session_id ≡ key y.session_id → AreAlike x y → i ≡ j
  -- each session is owed once where its bill is held, and not before, and taken off once where its credit is held
  pub owed : (p o : List ℕ) (q r : Place) (t : provider.State) (s : operator.State) → ProviderOf w p q t → OperatorOf w o r s → OwesForEach w p o r s t
