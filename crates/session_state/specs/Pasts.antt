-- What may follow what: the past of a session is all its versions, oldest first (OCPI 2.2.1, Sessions: SessionStatus).
use Rattle.std.specs.Prelude.{◌≡◌, ℕ, ◌<◌, ℤ, ◌≤ℤ◌, List, [], ◌∷◌, ◌++◌, ⊤}
use Rattle.ocpi_text.specs.Moment.{last_moment}
use Rattle.ocpi_types.specs.declared.sessions.Session.{Session}
use Rattle.ocpi_types.specs.declared.words.SessionStatus.{SessionStatus}
use Rattle.ocpi_types.specs.declared.words.SessionStatus.TheVariants.{Active, Completed, Invalid, Pending}
use Rattle.ocpi_types.specs.declared.sessions.Opening.{Opening}
use Rattle.session_state.specs.Versions.{IsPriced, CanRead, first_version, activated, metered, completed, voided}

-- the statuses that follow one another
abbrev pub IsTurn : SessionStatus → SessionStatus → Type 0
IsTurn Pending Active = ⊤
IsTurn Pending Invalid = ⊤
IsTurn Active Active = ⊤
IsTurn Active Completed = ⊤
IsTurn _ _ = ⊥

-- nothing follows these
abbrev pub IsFinal : SessionStatus → Type 0
IsFinal Completed = ⊤
IsFinal Invalid = ⊤
IsFinal _ = ⊥

-- versions of one session agree in these
pub record IsSame (v w : Session) : Type 0 where
  pub party : v.party ≡ w.party
  pub id : v.id ≡ w.id
  pub cdr_token : v.cdr_token ≡ w.cdr_token
  pub auth_method : v.auth_method ≡ w.auth_method
  pub authorization_reference : v.authorization_reference ≡ w.authorization_reference
  pub location_id : v.location_id ≡ w.location_id
  pub evse_uid : v.evse_uid ≡ w.evse_uid
  pub connector_id : v.connector_id ≡ w.connector_id
  pub currency : v.currency ≡ w.currency

-- w may follow v, by the prices of the moments
pub record MayFollow (price : ℕ → ℤ) (v w : Session) : Type 0 where
  pub later : v.last_updated < w.last_updated
  pub no_less : v.kwh ≤ℤ w.kwh
  pub turn : IsTurn v.status w.status
  pub same : IsSame v w
  pub priced : IsPriced price w

-- each of the list may follow the one before it, the first of them v
abbrev pub Follow : (ℕ → ℤ) → Session → List Session → Type 0
Follow price v [] = ⊤
Follow price v (w ∷ ws) = MayFollow price v w × Follow price w ws

-- a past is orderly: the first version is PENDING and has its cost, and each other may follow the one before it
abbrev pub IsOrderly : (ℕ → ℤ) → List Session → Type 0
IsOrderly price [] = ⊤
IsOrderly price (v ∷ vs) = (v.status ≡ Pending) × IsPriced price v × Follow price v vs

-- w is what a move makes of v; a move that is refused makes nothing
pub data Makes (price : ℕ → ℤ) (v w : Session) : Type 0 where
  activates : (at : ℕ) → v.status ≡ Pending → v.last_updated < last_moment → w ≡ activated at v → Makes price v w
  meters : (at : ℕ) (kwh : ℤ) → v.status ≡ Active → v.last_updated < last_moment → CanRead v kwh → w ≡ metered at kwh (price v.start_date_time) v → Makes price v w
  completes : (at : ℕ) → v.status ≡ Active → v.last_updated < last_moment → w ≡ completed at v → Makes price v w
  voids : (at : ℕ) → v.status ≡ Pending → v.last_updated < last_moment → w ≡ voided at v → Makes price v w

-- each of the list is made of the one before it, the first of them of v
abbrev pub AreMade : (ℕ → ℤ) → Session → List Session → Type 0
AreMade price v [] = ⊤
AreMade price v (w ∷ ws) = Makes price v w × AreMade price w ws

-- what moves make of a new session is an orderly past
abbrev pub MovesAreOrderly : Type 0
MovesAreOrderly =
    (opening : Opening) (at : ℕ) (price : ℕ → ℤ) (later : List Session) → AreMade price (first_version opening at) later
    → IsOrderly price (first_version opening at ∷ later)

-- a version that is COMPLETED or INVALID is the last
abbrev pub FinalIsLast : Type 0
FinalIsLast =
    (price : ℕ → ℤ) (earlier later : List Session) (v : Session) → IsOrderly price (earlier ++ v ∷ later) → IsFinal v.status → later ≡ []

-- a past grows by what may follow its last version
abbrev pub PastsGrow : Type 0
PastsGrow =
    (price : ℕ → ℤ) (earlier : List Session) (v w : Session) → IsOrderly price (earlier ++ v ∷ []) → MayFollow price v w
    → IsOrderly price (earlier ++ v ∷ [] ++ w ∷ [])
