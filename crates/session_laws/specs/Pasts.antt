-- The pasts of an operator's sessions (OCPI 2.2.1, Sessions: Session object, SessionStatus).
use Rattle.std.specs.Prelude.{◌≡◌, ◌⊎◌, ℕ, ℤ, List, [], ◌∷◌, Option, Some, None, Contains, cond, ⊤}
use Rattle.std.specs.List.{flat_map, last_or}
use Rattle.std.specs.Str.{bytes_eq}
use Rattle.std.specs.FinMap.{get}
use Rattle.ocpi_text.specs.Text.{key}
use Rattle.ocpi_types.specs.Prices.{price_at}
use Rattle.ocpi_types.specs.declared.rows.Change.{Change}
use Rattle.ocpi_types.specs.declared.rows.Change.TheVariants.{Put, Drop}
use Rattle.ocpi_types.specs.declared.rows.Row.TheVariants as row
use Rattle.ocpi_types.specs.declared.sessions.Session.{Session}
use Rattle.ocpi_types.specs.declared.site.Site.{Site}
use Rattle.ocpi_types.specs.declared.site.SiteLine.{SiteLine}
use Rattle.ocpi_types.specs.declared.words.SessionStatus.TheVariants.{Pending}
use Rattle.session_state.specs.Pasts.{IsFinal, MayFollow}
use Rattle.session_state.specs.Versions.{IsPriced}
use Rattle.operator_rows.specs.State.{State, opening}
use Rattle.operator_rows.specs.Sound.{IsConsistent}
use Rattle.operator_steps.specs.Events.{Event}
use Rattle.operator_laws.specs.Laws.{IsOfParty, Run, setups_in}

-- the version of the session of that id, in key form, that a change puts
abbrev pub version_put : List ℕ → Change → List Session
version_put id (Put (row.Session v)) = cond (bytes_eq (key v.id) id) (v ∷ []) []
version_put id (Put r) = []
version_put id (Drop k) = []

-- and those that changes put, in order
abbrev pub versions_put : List ℕ → List Change → List Session
versions_put id changes = flat_map (version_put id) changes

-- the past of a session in a run: the versions of it that the events put, oldest first
abbrev pub past : List ℕ → List Event → List Session
past id es = flat_map (λ (e : Event). versions_put id e.changes) es

-- the newest version of the session of that id, in key form, if there is one
abbrev pub stored : State → List ℕ → Option Session
stored s id = get s.rows.charged.sessions id

-- prices by the moment, of which a version may have one
abbrev pub Prices : Type 1
Prices = (ℕ → ℤ) → Type 0

-- the cost of the version is that of its energy at one of them
abbrev pub IsPricedAt : Prices → Session → Type 0
IsPricedAt P v = (price : ℕ → ℤ) × P price × IsPriced price v

-- w may follow v, at one of them, at which v has its cost too
abbrev pub MayFollowAt : Prices → Session → Session → Type 0
MayFollowAt P v w = (price : ℕ → ℤ) × P price × IsPriced price v × MayFollow price v w

-- each of the list may follow the one before it, the first of them v
abbrev pub FollowAt : Prices → Session → List Session → Type 0
FollowAt P v [] = ⊤
FollowAt P v (w ∷ ws) = MayFollowAt P v w × FollowAt P w ws

-- a past is orderly: the first version is PENDING, and each other may follow the one before it. Any two that follow one
-- another have the costs of their energies at one price, which is one of these
abbrev pub IsOrderlyAt : Prices → List Session → Type 0
IsOrderlyAt P [] = ⊤
IsOrderlyAt P (v ∷ vs) = (v.status ≡ Pending) × IsPricedAt P v × FollowAt P v vs

-- the prices that the operator had, from that setup on
abbrev pub HadPrices : Site → List Event → Prices
HadPrices first es prices = (prices ≡ price_at first) ⊎ ((line : SiteLine) × Contains (setups_in es) line × (prices ≡ price_at line.site))

-- from the opening on the past of each session is orderly: it begins PENDING, its statuses follow one another, each
-- version is later than the one before it, its energy never falls, its cost is that of its energy at a price that the
-- operator had, and what a session is of stays. What is stored of a session is its last version
abbrev pub PastsAreOrderly : Type 0
PastsAreOrderly = (line : SiteLine) (es : List Event) (t : State) → IsOfParty line → Run (opening line) es t → (id : List ℕ) →
    IsOrderlyAt (HadPrices line.site es) (past id es) × (stored t id ≡ last_or None (past id es))

-- versions that may come next, at those prices, where that version is stored, or none is
abbrev pub MayComeNext : Prices → Option Session → List Session → Type 0
MayComeNext P None vs = IsOrderlyAt P vs
MayComeNext P (Some v) vs = FollowAt P v vs

-- from any state to any later one, the versions that are put may follow the one that is stored, and the last of them
-- is stored then
abbrev pub PastsGoOn : Type 0
PastsGoOn = (s t : State) (es : List Event) → IsConsistent s → Run s es t → (id : List ℕ) →
    MayComeNext (HadPrices s.site es) (stored s id) (past id es) × (stored t id ≡ last_or (stored s id) (past id es))

-- a version that is COMPLETED or INVALID is the last: none is put after it, and it is stored for good
abbrev pub FinalVersionsAreLast : Type 0
FinalVersionsAreLast = (s t : State) (es : List Event) → IsConsistent s → Run s es t → (id : List ℕ) (v : Session) → stored s id ≡ Some v → IsFinal v.status →
    (past id es ≡ []) × (stored t id ≡ Some v)
