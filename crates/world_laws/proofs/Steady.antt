-- A node of a world starts again under the setup that it had, and under no other: so its site, its prices and whom
-- it deals with stay.
use Rattle.std.proofs.Common.{◌≡◌, ◌⊎◌, ℕ, ℤ, List, [], ◌∷◌, ◌++◌, refl, sym, ap, subst, ◌∙◌, append-nil}
use Rattle.std.specs.Prelude.{None, Contains}
use Rattle.std.specs.List.{flat_map, last_or}
use Rattle.tables.proofs.Elements.{in_none}
use Rattle.ocpi_types.specs.Prices.{price_at}
use Rattle.ocpi_types.specs.declared.sessions.Session.{Session}
use Rattle.ocpi_types.specs.declared.site.SiteLine.{SiteLine}
use Rattle.node_steps.specs.Acts.{Act}
use Rattle.operator_laws.specs.Laws as operator_laws
use Rattle.operator_laws.specs.Laws.{IsOfParty, setup_of, setups_in}
use Rattle.operator_laws.proofs.events.Doing as operator_doing
use Rattle.operator_rows.specs.State as operator
use Rattle.operator_steps.specs.Events as operator_events
use Rattle.operator_steps.specs.Moves.{Work}
use Rattle.provider_laws.specs.Laws as provider_laws
use Rattle.provider_laws.specs.Laws.{peering_of, peerings_in}
use Rattle.provider_laws.proofs.events.Doing as provider_doing
use Rattle.provider_rows.specs.State as provider
use Rattle.provider_steps.specs.Events as provider_events
use Rattle.session_laws.specs.Pasts.{FollowAt, IsOrderlyAt, past, stored}
use Rattle.session_laws.proofs.Growing.{pasts_at}
use Rattle.session_state.specs.Pasts.{Follow, IsOrderly, MayFollow}
use Rattle.session_state.specs.Versions.{IsPriced}
use Rattle.world_steps.specs.Steps as steps
use Rattle.world_steps.specs.Steps.{OperatorDoes, ProviderDoes}

-- what is asked for is no start under another setup
pub asks_none : (s : operator.State) (i : operator_events.Input) (work : Work) → operator_events.Asks s i work → setup_of i ≡ []
asks_none s (operator_events.Arrives at q) work line = refl
asks_none s (operator_events.Serves evse in_service) work line = refl
asks_none s (operator_events.Reports at report) work line = refl
asks_none s (operator_events.Credits at session) work line = refl
asks_none s (operator_events.Ticks at) work line = refl
asks_none s operator_events.Restarts work line = refl
asks_none s (operator_events.Reopens other) work line = absurd line

pub does_none : (s : operator.State) (e : operator_events.Event) (t : operator.State) → OperatorDoes s e t → setup_of e.input ≡ []
does_none s e t (steps.Done by) = asks_none s e.input by.work by.line
does_none s e t (steps.Restarted now is) = ap setup_of now

provider_asks_none : (s : provider.State) (i : provider_events.Input) (acts : List Act) → provider_events.Asks s i acts → peering_of i ≡ []
provider_asks_none s (provider_events.Arrives at q) acts line = refl
provider_asks_none s (provider_events.Submits at operator order) acts line = refl
provider_asks_none s (provider_events.Gives at t) acts line = refl
provider_asks_none s (provider_events.Ticks at) acts line = refl
provider_asks_none s provider_events.Restarts acts line = refl
provider_asks_none s (provider_events.Reopens p) acts line = absurd line

pub provider_does_none : (s : provider.State) (e : provider_events.Event) (t : provider.State) → ProviderDoes s e t → peering_of e.input ≡ []
provider_does_none s e t (steps.Done by) = provider_asks_none s e.input by.acts by.line
provider_does_none s e t (steps.Restarted now is) = ap peering_of now

pub no_more : {X : Type 0} (xs ys : List X) → xs ++ ys ≡ [] → (xs ≡ []) × (ys ≡ [])
no_more [] ys is = (refl, is)
no_more (x ∷ xs) ys is = absurd (let bad : x ∷ (xs ++ ys) ≡ [] = is in cc)

some_setup : (i : operator_events.Input) (line : SiteLine) → i ≡ operator_events.Reopens line → setup_of i ≡ [] → ⊥
some_setup i line now none = let bad : line ∷ [] ≡ [] = sym (ap setup_of now) ∙ none in cc

some_peering : (i : provider_events.Input) (p : provider.Peering) → i ≡ provider_events.Reopens p → peering_of i ≡ [] → ⊥
some_peering i p now none = let bad : p ∷ [] ≡ [] = sym (ap peering_of now) ∙ none in cc

pub event_keeps : (s u : operator.State) (e : operator_events.Event) → setup_of e.input ≡ [] → operator_doing.IsUnder s e.input u → (u.site ≡ s.site) × (u.providers ≡ s.providers)
event_keeps s u e none (operator_doing.Same site providers) = (site, providers)
event_keeps s u e none (operator_doing.Other line now site providers) = absurd (some_setup e.input line now none)

-- what each event keeps that is no start under another setup, such a run keeps
pub kept_steadily : (P : operator.State → Type 0) → ((a b : operator.State) (e : operator_events.Event) → setup_of e.input ≡ [] → operator_events.Happens a e b → P a → P b) →
    (es : List operator_events.Event) (s t : operator.State) → operator_laws.Run s es t → setups_in es ≡ [] → P s → P t
kept_steadily P keeps [] s t run none h = subst P (sym run) h
kept_steadily P keeps (e ∷ es) s t (u, first, rest) none h =
    let (here, later) = no_more (setup_of e.input) (setups_in es) none in
    kept_steadily P keeps es u t rest later (keeps s u e here first h)

-- the setup of an operator stays
pub setup_kept : (es : List operator_events.Event) (s t : operator.State) → operator_laws.Run s es t → setups_in es ≡ [] → (t.site ≡ s.site) × (t.providers ≡ s.providers)
setup_kept [] s t run none = (ap (λ (z : operator.State). z.site) run, ap (λ (z : operator.State). z.providers) run)
setup_kept (e ∷ es) s t (u, first, rest) none =
    let (here, later) = no_more (setup_of e.input) (setups_in es) none in
    let now = event_keeps s u e here (operator_doing.does s u e first).under in
    let then = setup_kept es u t rest later in
    (then.0 ∙ now.0, then.1 ∙ now.1)

provider_event_keeps : (s u : provider.State) (e : provider_events.Event) → peering_of e.input ≡ [] → provider_doing.IsAmong s e.input u → u.operators ≡ s.operators
provider_event_keeps s u e none (provider_doing.Same is) = is
provider_event_keeps s u e none (provider_doing.Other p now is) = absurd (some_peering e.input p now none)

pub peers_kept : (es : List provider_events.Event) (s t : provider.State) → provider_laws.Run s es t → peerings_in es ≡ [] → t.operators ≡ s.operators
peers_kept [] s t run none = ap (λ (z : provider.State). z.operators) run
peers_kept (e ∷ es) s t (u, first, rest) none =
    let (here, later) = no_more (peering_of e.input) (peerings_in es) none in
    peers_kept es u t rest later ∙ provider_event_keeps s u e here (provider_doing.is_among s u e first)

-- so all that it was ever set up with is what it was at first
pub of_first : (line : SiteLine) (es : List operator_events.Event) → setups_in es ≡ [] → (x : List ℕ) → Contains (operator_laws.providers_in line es) x → Contains line.parties.providers x
of_first line es none x i =
    subst (λ l. Contains l x) (ap (λ ls. line.parties.providers ++ flat_map (λ (l : SiteLine). l.parties.providers) ls) none ∙ append-nil line.parties.providers) i

pub of_first_peers : (p : provider.Peering) (es : List provider_events.Event) → peerings_in es ≡ [] → (x : List ℕ) → Contains (provider_laws.operators_in p es) x → Contains p.operators x
of_first_peers p es none x i =
    subst (λ l. Contains l x) (ap (λ ls. p.operators ++ flat_map (λ (q : provider.Peering). q.operators) ls) none ∙ append-nil p.operators) i

-- at the prices of one setup
one_price : (price : ℕ → ℤ) (v : Session) (vs : List Session) → FollowAt (λ p. p ≡ price) v vs → Follow price v vs
one_price price v [] h = tt
one_price price v (w ∷ ws) ((p, is, cost, follows), more) = (subst (λ z. MayFollow z v w) is follows, one_price price w ws more)

orderly_at_one : (price : ℕ → ℤ) (vs : List Session) → IsOrderlyAt (λ p. p ≡ price) vs → IsOrderly price vs
orderly_at_one price [] h = tt
orderly_at_one price (v ∷ vs) (pending, (p, is, cost), more) = (pending, subst (λ z. IsPriced z v) is cost, one_price price v vs more)

pub pasts_are_orderly : (line : SiteLine) (es : List operator_events.Event) (t : operator.State) → IsOfParty line → operator_laws.Run (operator.opening line) es t → setups_in es ≡ [] → (id : List ℕ) →
    IsOrderly (price_at line.site) (past id es) × (stored t id ≡ last_or None (past id es))
pasts_are_orderly line es t own run none id =
    let law = pasts_at (λ p. p ≡ price_at line.site) line es t own run refl (λ other i. absurd (in_none other (subst (λ l. Contains l other) none i))) id in
    (orderly_at_one (price_at line.site) (past id es) law.0, law.1)
