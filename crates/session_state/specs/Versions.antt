-- The versions of a session (OCPI 2.2.1, Sessions: Session object and SessionStatus).
use Rattle.std.specs.Prelude.{◌≡◌, ℕ, max, ℤ, pos, ◌≤ℤ◌, Some, None}
use Rattle.ocpi_types.specs.Stamps.{next_stamp}
use Rattle.ocpi_types.specs.declared.sessions.Session.{Session}
use Rattle.ocpi_types.specs.declared.words.SessionStatus.{SessionStatus}
use Rattle.ocpi_types.specs.declared.words.SessionStatus.TheVariants.{Active, Completed, Invalid, Pending}
use Rattle.ocpi_types.specs.declared.sessions.Opening.{Opening}
use Rattle.session_state.specs.Costs.{price_of, most_kwh}

-- a session: its newest version, and what a kilowatt-hour costs at the moment at which it began
pub record Priced : Type 0 where
  pub version : Session
  pub price : ℤ

-- the total cost is that of the energy at the price
abbrev pub HasCost : ℤ → Session → Type 0
HasCost price v = v.total_cost ≡ Some (price_of v.kwh price)

-- the total cost is that of the energy at the price of the moment at which the session began
abbrev pub IsPriced : (ℕ → ℤ) → Session → Type 0
IsPriced price v = HasCost (price v.start_date_time) v

-- nothing was charged before the charging began
abbrev pub IsUncharged : Session → Type 0
IsUncharged v = v.status ≡ Pending → v.kwh ≡ pos 0

-- the version has that status, its cost is that of the price, and nothing was charged before the charging began
pub record IsIn (status : SessionStatus) (price : ℤ) (v : Session) : Type 0 where
  pub state : v.status ≡ status
  pub priced : HasCost price v
  pub uncharged : IsUncharged v

-- a session's first version
abbrev pub first_version : Opening → ℕ → Session
first_version o at = record {
  party = o.party;
  id = o.id;
  start_date_time = at;
  end_date_time = None;
  kwh = pos 0;
  cdr_token = o.cdr_token;
  auth_method = o.auth_method;
  authorization_reference = o.authorization_reference;
  location_id = o.location_id;
  evse_uid = o.evse_uid;
  connector_id = o.connector_id;
  currency = o.currency;
  total_cost = Some (record { excl_vat = pos 0 });
  status = Pending;
  last_updated = at;
}

-- the charging begins
abbrev pub activated : ℕ → Session → Session
activated at v = record v { start_date_time = at; status = Active; last_updated = next_stamp at v.last_updated }

-- the meter reads that much
abbrev pub metered : ℕ → ℤ → ℤ → Session → Session
metered at kwh price v =
    record v { kwh = kwh; total_cost = Some (price_of kwh price); last_updated = next_stamp at v.last_updated }

-- the session ends, not before its start
abbrev pub ended : SessionStatus → ℕ → Session → Session
ended status at v =
    record v { end_date_time = Some (max at v.start_date_time); status = status; last_updated = next_stamp at v.last_updated }

abbrev pub completed : ℕ → Session → Session
completed at v = ended Completed at v

abbrev pub voided : ℕ → Session → Session
voided at v = ended Invalid at v

-- the reading may come next: it is not below the last, and within the limit
pub record CanRead (v : Session) (kwh : ℤ) : Type 0 where
  pub no_less : v.kwh ≤ℤ kwh
  pub within : kwh ≤ℤ most_kwh
