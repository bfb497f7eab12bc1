-- The pasts of sessions grow by what may follow.
use Rattle.std.proofs.Common.{◌≡◌, ℕ, ℤ, List, [], ◌∷◌, ◌++◌, inl, inr, refl, sym, ap, subst, ◌∙◌}
use Rattle.std.specs.Prelude.{Option, Some, None, Contains}
use Rattle.std.proofs.lemmas.List.Elements.{Contains-append_left, Contains-append_right}
use Rattle.tables.proofs.Elements.{in_front}
use Rattle.std.specs.List.{last_or}
use Rattle.std.specs.FinMap.{get, get-empty}
use Rattle.tables.specs.Keys.{text_cmp}
use Rattle.ocpi_types.specs.Prices.{price_at}
use Rattle.ocpi_types.specs.declared.sessions.Session.{Session}
use Rattle.ocpi_types.specs.declared.site.Site.{Site}
use Rattle.ocpi_types.specs.declared.site.SiteLine.{SiteLine}
use Rattle.ocpi_types.specs.declared.words.SessionStatus.{SessionStatus}
use Rattle.ocpi_types.specs.declared.words.SessionStatus.TheVariants.{Active, Completed, Invalid, Pending, Reservation}
use Rattle.session_state.specs.Pasts.{IsFinal, IsTurn}
use Rattle.session_state.specs.Versions.{IsPriced}
use Rattle.operator_rows.specs.State.{IsLive, State, opening}
use Rattle.operator_rows.specs.Sound.{IsConsistent}
use Rattle.operator_rows.specs.Steps.{IsNextOf}
use Rattle.operator_rows.proofs.KeepingTimes.{opening_consistent}
use Rattle.operator_steps.specs.Events.{Event}
use Rattle.operator_laws.specs.Laws.{IsOfParty, Run, setup_of, setups_in}
use Rattle.operator_laws.proofs.events.Doing.{IsUnder, Same, Other}
use Rattle.session_laws.specs.Pasts.{FinalVersionsAreLast, FollowAt, HadPrices, IsOrderlyAt, MayComeNext, PastsAreOrderly, PastsGoOn, Prices, past, stored, versions_put}
use Rattle.session_laws.proofs.Doing.{Does, does}
use Rattle.session_laws.proofs.Versions.{ArePut, NoVersion, Version, event_puts, stands, stays}

-- what a run leaves of a session
pub record Grows (P : Prices) (was : Option Session) (vs : List Session) (now : Option Session) : Type 0 where
  pub next : MayComeNext P was vs
  pub newest : now ≡ last_or was vs

grows_none : (P : Prices) (o : Option Session) → Grows P o [] o
grows_none P None = record { next = tt; newest = refl }
grows_none P (Some v) = record { next = tt; newest = refl }

grows_by : (P : Prices) (price : ℕ → ℤ) → P price → (o end : Option Session) (v : Session) (ws : List Session) → IsNextOf price o v → ((w : Session) → o ≡ Some w → IsTurn w.status v.status → IsPriced price w) →
    Grows P (Some v) ws end → Grows P o (v ∷ ws) end
grows_by P price had None end v ws next cost h = record { next = (next.0, (price, had, next.1), h.next); newest = h.newest }
grows_by P price had (Some w) end v ws next cost h = record { next = ((price, had, cost w refl next.turn, next), h.next); newest = h.newest }

-- what another version may follow is PENDING or ACTIVE
going_on : (a b : SessionStatus) → IsTurn a b → IsLive a
going_on Pending b turn = tt
going_on Active b turn = tt
going_on Completed b turn = absurd turn
going_on Invalid b turn = absurd turn
going_on Reservation b turn = absurd turn

-- what an event leaves of a session, and then what a run does
grow : (P : Prices) (s u : State) (e : Event) (d : Does s e u) (id : List ℕ) (ws vs : List Session) (end : Option Session) → P (price_at s.site) → IsConsistent s → ArePut id e.changes vs →
    Grows P (stored u id) ws end → Grows P (stored s id) (vs ++ ws) end
grow P s u e d id ws vs end had fine (NoVersion empty others) h =
    subst (λ l. Grows P (stored s id) (l ++ ws) end) (sym empty) (subst (λ o. Grows P o ws end) (stays s u e d id fine others) h)
grow P s u e d id ws vs end had fine (Version v i at one) h =
    let next : IsNextOf (price_at s.site) (stored s id) v = subst (λ k. IsNextOf (price_at s.site) (get s.rows.charged.sessions k) v) at (d.sessions v i) in
    subst (λ l. Grows P (stored s id) (l ++ ws) end) (sym one)
    (grows_by P (price_at s.site) had (stored s id) end v ws next (λ w has turn. ((fine.sound.sessions id w has).going (going_on w.status v.status turn)).priced) (subst (λ o. Grows P o ws end) (stands s u e d id v i at) h))

-- the price that an event leaves is the one that there was, or that of another setup
price_under : (P : Prices) (s u : State) (e : Event) → P (price_at s.site) → ((line : SiteLine) → Contains (setup_of e.input) line → P (price_at line.site)) → IsUnder s e.input u → P (price_at u.site)
price_under P s u e had others (Same site is) = subst (λ (z : Site). P (price_at z)) (sym site) had
price_under P s u e had others (Other line now site is) = subst (λ (z : Site). P (price_at z)) (sym site) (others line (subst (λ i. Contains (setup_of i) line) (sym now) (in_front line [])))

pub grows : (P : Prices) (s t : State) (es : List Event) → P (price_at s.site) → ((line : SiteLine) → Contains (setups_in es) line → P (price_at line.site)) → IsConsistent s → Run s es t → (id : List ℕ) →
    Grows P (stored s id) (past id es) (stored t id)
grows P s t [] had others fine run id = subst (λ (z : State). Grows P (stored s id) [] (stored z id)) (sym run) (grows_none P (stored s id))
grows P s t (e ∷ es) had others fine (u, first, rest) id =
    let d = does s u e fine first in
    let now = price_under P s u e had (λ line i. others line (Contains-append_left (setup_of e.input) (setups_in es) line i)) d.under in
    let later = grows P u t es now (λ line i. others line (Contains-append_right (setup_of e.input) (setups_in es) line i)) d.consistent rest id in
    grow P s u e d id (past id es) (versions_put id e.changes) (stored t id) had fine (event_puts s u e d id) later

-- with the prices that there were
pub grows_at : (s t : State) (es : List Event) → IsConsistent s → Run s es t → (id : List ℕ) → Grows (HadPrices s.site es) (stored s id) (past id es) (stored t id)
grows_at s t es fine run id = grows (HadPrices s.site es) s t es (inl refl) (λ line i. inr (line, i, refl)) fine run id

pub pasts_go_on : PastsGoOn
pasts_go_on s t es fine run id = let h = grows_at s t es fine run id in (h.next, h.newest)

none_at_first : (id : List ℕ) (o : Option Session) → o ≡ None → (P : Prices) (vs : List Session) (now : Option Session) → Grows P o vs now → IsOrderlyAt P vs × (now ≡ last_or None vs)
none_at_first id o none P vs now h = let g = subst (λ z. Grows P z vs now) none h in (g.next, g.newest)

pub pasts_are_orderly : PastsAreOrderly
pasts_are_orderly line es t own run id =
    none_at_first id (stored (opening line) id) (get-empty text_cmp id) (HadPrices line.site es) (past id es) (stored t id)
    (grows_at (opening line) t es (opening_consistent line own) run id)

-- the same, at any prices that have all that there were
pub pasts_at : (P : Prices) (line : SiteLine) (es : List Event) (t : State) → IsOfParty line → Run (opening line) es t → P (price_at line.site) →
    ((other : SiteLine) → Contains (setups_in es) other → P (price_at other.site)) → (id : List ℕ) → IsOrderlyAt P (past id es) × (stored t id ≡ last_or None (past id es))
pasts_at P line es t own run had others id =
    none_at_first id (stored (opening line) id) (get-empty text_cmp id) P (past id es) (stored t id) (grows P (opening line) t es had others (opening_consistent line own) run id)

-- nothing may follow a version that is final
pub no_turn : (a b : SessionStatus) → IsFinal a → IsTurn a b → ⊥
no_turn Completed b final turn = turn
no_turn Invalid b final turn = turn
no_turn Pending b final turn = final
no_turn Active b final turn = final
no_turn Reservation b final turn = final

pub none_follow : (P : Prices) (v : Session) (vs : List Session) → IsFinal v.status → FollowAt P v vs → vs ≡ []
none_follow P v [] final h = refl
none_follow P v (w ∷ ws) final ((price, had, cost, follows), more) = absurd (no_turn v.status w.status final follows.turn)

pub final_versions_are_last : FinalVersionsAreLast
final_versions_are_last s t es fine run id v has final =
    let h = subst (λ o. Grows (HadPrices s.site es) o (past id es) (stored t id)) has (grows_at s t es fine run id) in
    let none = none_follow (HadPrices s.site es) v (past id es) final h.next in
    (none, h.newest ∙ ap (last_or (Some v)) none)
