-- What is owed to an operator in a currency, by whoever holds some of its records (OCPI 2.2.1, CDRs: CDR object).
use Rattle.std.specs.Prelude.{◌≡◌, ◌≢◌, ◌↔◌, ℕ, ◌-ℤ◌, Bool, true, false, List, Some, map, Contains}
use Rattle.std.specs.List.{AllPairs}
use Rattle.std.specs.FinMap.{FinMap, get, values}
use Rattle.tables.specs.Keys.{text_pair_cmp}
use Rattle.ocpi_text.specs.Text.{key}
use Rattle.ocpi_types.specs.Credits.{is_credit}
use Rattle.ocpi_types.specs.declared.cdrs.Cdr.{Cdr}
use Rattle.ocpi_types.specs.declared.sessions.Session.{Session}
use Rattle.handover.specs.Owed.{owed, total}
use Rattle.operator_rows.specs.State.{State}
use Rattle.session_laws.specs.Pasts.{stored}
use Rattle.world_laws.specs.Safe.{cost_of}
use Rattle.currency_laws.specs.Currencies.{AreInOwnCurrency}

-- records by operator and id, both in key form
abbrev pub Held : Type 0
Held = FinMap text_pair_cmp Cdr

-- what is held of the operator of that key stands there
pub record HoldsOf (o : List ℕ) (s : State) (held : Held) : Type 0 where
  pub keyed : (p id : List ℕ) (x : Cdr) → get held (p, id) ≡ Some x → key x.party ≡ p
  pub stands : (id : List ℕ) (x : Cdr) → get held (o, id) ≡ Some x → get s.rows.charged.cdrs id ≡ Some x

-- the sessions in that currency of which a bill is held, or, where `credit` is true, a credit, each once, as they stand
pub record AreOfHeld (credit : Bool) (o currency : List ℕ) (s : State) (held : Held) (versions : List Session) : Type 0 where
  pub each : (v : Session) →
      Contains versions v ↔ ((id : List ℕ) × (x : Cdr) × (get held (o, id) ≡ Some x) × (is_credit x ≡ credit) × (stored s (key x.session_id) ≡ Some v) × (v.currency ≡ currency))
  pub once : AllPairs (λ (v w : Session). key v.id ≢ key w.id) versions

-- what is owed in the currency is the sum of the costs of the sessions in it whose bills are held, less that of the costs
-- of those whose credits are held
pub record OwesIn (o currency : List ℕ) (s : State) (held : Held) : Type 0 where
  pub billed : List Session
  pub are_billed : AreOfHeld false o currency s held billed
  pub credited : List Session
  pub are_credited : AreOfHeld true o currency s held credited
  pub sum : owed (o, currency) (values held) ≡ total (map cost_of billed) -ℤ total (map cost_of credited)

abbrev pub OwedInEachCurrency : Type 0
OwedInEachCurrency = (o currency : List ℕ) (s : State) (held : Held) → AreInOwnCurrency s → HoldsOf o s held → OwesIn o currency s held
