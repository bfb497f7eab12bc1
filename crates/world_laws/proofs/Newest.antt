-- Of an orderly past each version is the last, or comes before it and is of the same session.
use Rattle.std.proofs.Common.{◌≡◌, ◌⊎◌, ◌<◌, ℕ, ℤ, List, [], ◌∷◌, cond, inl, inr, refl, sym, subst, ◌∙◌, arith}
use Rattle.std.specs.Prelude.{Some, None, Contains}
use Rattle.std.specs.List.{last_or}
use Rattle.std.proofs.lemmas.Slice.Eq.{bytes_eq-Decides}
use Rattle.std.proofs.lemmas.List.Elements.{Contains-append_left, Contains-append_right}
use Rattle.tables.proofs.Elements.{in_none, in_front, in_single}
use Rattle.ocpi_text.specs.Text.{key}
use Rattle.ocpi_types.specs.declared.rows.Change.{Change}
use Rattle.ocpi_types.specs.declared.rows.Change.TheVariants.{Put}
use Rattle.ocpi_types.specs.declared.rows.Row.TheVariants as row
use Rattle.ocpi_types.specs.declared.sessions.Session.{Session}
use Rattle.session_state.specs.Pasts.{Follow, IsFinal, IsOrderly, IsSame, MayFollow}
use Rattle.operator_rows.proofs.RowChanges.{of_cons}
use Rattle.operator_steps.specs.Events.{Event}
use Rattle.operator_laws.specs.Sessions.{Puts}
use Rattle.session_laws.specs.Pasts.{past, version_put, versions_put}
use Rattle.session_laws.proofs.Growing.{no_turn}

-- an earlier version of the session: it is not final
pub record IsEarlier (y v : Session) : Type 0 where
  pub going : IsFinal y.status → ⊥
  pub below : y.last_updated < v.last_updated
  pub same : IsSame y v

same_both : (u v w : Session) → IsSame u v → IsSame v w → IsSame u w
same_both u v w f g = record {
  party = f.party ∙ g.party;
  id = f.id ∙ g.id;
  cdr_token = f.cdr_token ∙ g.cdr_token;
  auth_method = f.auth_method ∙ g.auth_method;
  authorization_reference = f.authorization_reference ∙ g.authorization_reference;
  location_id = f.location_id ∙ g.location_id;
  evse_uid = f.evse_uid ∙ g.evse_uid;
  connector_id = f.connector_id ∙ g.connector_id;
  currency = f.currency ∙ g.currency;
}

next_earlier : (price : ℕ → ℤ) (u x : Session) → MayFollow price u x → IsEarlier u x
next_earlier price u x h = record { going = λ final. no_turn u.status x.status final h.turn; below = h.later; same = h.same }

before_both : (u x v : Session) → IsEarlier u x → IsEarlier x v → IsEarlier u v
before_both u x v f g = let first = f.below in let then = g.below in record { going = f.going; below = omega (arith, first, then); same = same_both u x v f.same g.same }

first_or : (price : ℕ → ℤ) (u : Session) (vs : List Session) (v : Session) → Follow price u vs → last_or (Some u) vs ≡ Some v → (u ≡ v) ⊎ IsEarlier u v
first_or price u [] v h last = inl (let is : u ≡ v = cc in is)
first_or price u (x ∷ vs) v h last = inr (elim (first_or price x vs v h.1 last) [
  | inl same ↦ subst (IsEarlier u) same (next_earlier price u x h.0)
  | inr later ↦ before_both u x v (next_earlier price u x h.0) later
])

among : (price : ℕ → ℤ) (u : Session) (vs : List Session) (v y : Session) → Follow price u vs → last_or (Some u) vs ≡ Some v → Contains (u ∷ vs) y → (y ≡ v) ⊎ IsEarlier y v
among price u [] v y h last i = subst (λ z. (z ≡ v) ⊎ IsEarlier z v) (in_single u y i) (first_or price u [] v h last)
among price u (x ∷ vs) v y h last i = elim (of_cons u (x ∷ vs) y i) [
  | inl is ↦ subst (λ z. (z ≡ v) ⊎ IsEarlier z v) is (first_or price u (x ∷ vs) v h last)
  | inr j ↦ among price x vs v y h.1 last j
]

pub last_or_earlier : (price : ℕ → ℤ) (vs : List Session) (v y : Session) → IsOrderly price vs → last_or None vs ≡ Some v → Contains vs y → (y ≡ v) ⊎ IsEarlier y v
last_or_earlier price [] v y h last i = absurd (in_none y i)
last_or_earlier price (u ∷ vs) v y h last i = among price u vs v y h.2 last i

some_last : (u : Session) (vs : List Session) → (v : Session) × (last_or (Some u) vs ≡ Some v)
some_last u [] = (u, refl)
some_last u (x ∷ vs) = some_last x vs

-- a past with a version has a last one
pub has_last : (vs : List Session) (y : Session) → Contains vs y → (v : Session) × (last_or None vs ≡ Some v)
has_last [] y i = absurd (in_none y i)
has_last (u ∷ vs) y i = some_last u vs

-- what an event of a run puts of a session is of its past
put_of_it : (v : Session) → Contains (version_put (key v.id) (Put (row.Session v))) v
put_of_it v = subst (λ b. Contains (cond b (v ∷ []) []) v) (sym ((bytes_eq-Decides (key v.id) (key v.id)).1 refl)) (in_front v [])

in_versions : (cs : List Change) (v : Session) → Contains cs (Put (row.Session v)) → Contains (versions_put (key v.id) cs) v
in_versions [] v i = absurd (in_none _ i)
in_versions (c ∷ cs) v i = elim (of_cons c cs (Put (row.Session v)) i) [
  | inl is ↦ Contains-append_left (version_put (key v.id) c) (versions_put (key v.id) cs) v (subst (λ z. Contains (version_put (key v.id) z) v) (sym is) (put_of_it v))
  | inr j ↦ Contains-append_right (version_put (key v.id) c) (versions_put (key v.id) cs) v (in_versions cs v j)
]

pub in_past : (es : List Event) (e : Event) (v : Session) → Contains es e → Puts e (row.Session v) → Contains (past (key v.id) es) v
in_past [] e v i puts = absurd (in_none e i)
in_past (x ∷ es) e v i puts = elim (of_cons x es e i) [
  | inl is ↦ Contains-append_left (versions_put (key v.id) x.changes) (past (key v.id) es) v (in_versions x.changes v (subst (λ (z : Event). Puts z (row.Session v)) (sym is) puts))
  | inr j ↦ Contains-append_right (versions_put (key v.id) x.changes) (past (key v.id) es) v (in_past es e v j puts)
]
