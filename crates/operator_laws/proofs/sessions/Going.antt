-- How what is stored of sessions goes on: a session stands for good, in a version that may follow the one before it,
-- and so does each charge detail record, unchanged.
use Rattle.std.proofs.Common.{◌≡◌, ◌⊎◌, ◌≤◌, zero, suc, ℕ, List, inl, inr, refl, sym, ap, subst, ◌∙◌, arith}
use Rattle.std.specs.Prelude.{Some, Contains}
use Rattle.std.specs.FinMap.{get}
use Rattle.tables.proofs.Elements.{of_map}
use Rattle.tables.proofs.Options.{not_both}
use Rattle.ocpi_text.specs.Text.{key}
use Rattle.ocpi_types.specs.Rows.{key_of}
use Rattle.ocpi_types.specs.Prices.{price_at}
use Rattle.ocpi_types.specs.declared.cdrs.Cdr.{Cdr}
use Rattle.ocpi_types.specs.declared.rows.Change.{Change}
use Rattle.ocpi_types.specs.declared.rows.Change.TheVariants.{Put, Drop}
use Rattle.ocpi_types.specs.declared.rows.Counter.{Counter}
use Rattle.ocpi_types.specs.declared.rows.Counter.TheVariants as counter
use Rattle.ocpi_types.specs.declared.rows.Row.{Row}
use Rattle.ocpi_types.specs.declared.rows.Row.TheVariants as row
use Rattle.ocpi_types.specs.declared.rows.RowKey.{RowKey}
use Rattle.ocpi_types.specs.declared.rows.RowKey.TheVariants as keys
use Rattle.ocpi_types.specs.declared.sessions.Session.{Session}
use Rattle.session_state.specs.Pasts.{IsSame, MayFollow}
use Rattle.node_steps.specs.Acts.{all_changes}
use Rattle.operator_rows.specs.State.{State}
use Rattle.operator_rows.specs.Rows.{HasRow}
use Rattle.operator_rows.specs.Stored.{change_key}
use Rattle.operator_rows.specs.Sound.{IsConsistent}
use Rattle.operator_rows.specs.Steps.{IsNextOf}
use Rattle.operator_steps.specs.Events.{Event, Happens}
use Rattle.operator_laws.specs.Laws.{Run}
use Rattle.operator_laws.specs.Sessions.{NumbersNeverFall, SessionsStay}
use Rattle.operator_laws.proofs.events.Causes.{Cause}
use Rattle.operator_laws.proofs.events.Doing.{Does, IsCount, does, put_now}
use Rattle.operator_laws.proofs.events.Standing.{consistent_stays}
use Rattle.operator_laws.proofs.standing.AtAllTimes.{kept}
use Rattle.operator_laws.proofs.sessions.RowSearch.{IsCharged, found_or_none}

-- what is put under such a key is of its kind
put_session : (x : Row) (p id : List ℕ) → keys.Session p id ≡ key_of x → (w : Session) × (x ≡ row.Session w) × (key w.id ≡ id)
put_session (row.Session w) p id e = let a : key w.id ≡ id = cc in (w, refl, a)
put_session x p id e = absurd (cc)

put_cdr : (x : Row) (p id : List ℕ) → keys.Cdr p id ≡ key_of x → (w : Cdr) × (x ≡ row.Cdr w) × (key w.id ≡ id)
put_cdr (row.Cdr w) p id e = let a : key w.id ≡ id = cc in (w, refl, a)
put_cdr x p id e = absurd (cc)

put_count : (x : Row) (k : Counter) → keys.Count k ≡ key_of x → (n : ℕ) × (x ≡ row.Count k n)
put_count (row.Count c n) k e = let same : c ≡ k = cc in (n, ap (λ z. row.Count z n) same)
put_count x k e = absurd (cc)

-- the counters that a step stores by itself are others
uncounted : (c : Change) (k : RowKey) → IsCharged k → k ≡ change_key c → IsCount c → ⊥
uncounted c k charged same (counter.Serial, of, is) = subst IsCharged (same ∙ is) charged
uncounted c k charged same (counter.Request, of, is) = subst IsCharged (same ∙ is) charged
uncounted c k charged same (counter.Session, of, is) = of
uncounted c k charged same (counter.Cdr, of, is) = of
uncounted c k charged same (counter.Reference, of, is) = of

module _ (s t : State) (e : Event) (d : Does s e t) (fine : IsConsistent s) where
  -- a change of such a row is one of the acts
  acted : (c : Change) (k : RowKey) → IsCharged k → k ≡ change_key c → Contains e.changes c → Contains (all_changes d.acts) c
  acted c k charged same i = elim (d.of_acts c i) [ inl count ↦ absurd (uncounted c k charged same count) | inr j ↦ j ]

  -- what stands after the event was put by the acts, or stood before
  pub row_from_acts : (r : Row) → IsCharged (key_of r) → HasRow t.rows r → Contains (all_changes d.acts) (Put r) ⊎ HasRow s.rows r
  row_from_acts r charged has = elim (((d.follows fine).rows r).0 has) [ inl i ↦ inl (acted (Put r) (key_of r) charged refl i) | inr old ↦ inr old.0 ]

  -- what stood stands, or the acts put a row in its place
  pub row_goes_on : (r : Row) → IsCharged (key_of r) → HasRow s.rows r → HasRow t.rows r ⊎ ((x : Row) × Contains (all_changes d.acts) (Put x) × (key_of r ≡ key_of x))
  row_goes_on r charged has = elim (found_or_none e.changes (key_of r) charged) [
    | inl (c, i, same) ↦ inr (by c (acted c (key_of r) charged same i) same)
    | inr none ↦ inl (((d.follows fine).rows r).1 (inr (has, λ j. let (c, listed, same) = of_map change_key e.changes (key_of r) j in none c listed (sym same))))
  ]
    where
      undropped : (k : RowKey) → IsCharged k → Cause s e.input d.acts (Drop k) → ⊥
      undropped (keys.Count c) at cause = cause
      undropped (keys.Session p id) at cause = cause
      undropped (keys.Cdr p id) at cause = cause
      undropped (keys.Reply p n) at cause = cause
      undropped (keys.Token p k u) at cause = cause
      undropped (keys.Push n) at cause = at
      undropped (keys.Service evse) at cause = at
      undropped (keys.Spent p x) at cause = at
      undropped (keys.Mark p id) at cause = at
      undropped (keys.Reservation p id) at cause = at
      undropped (keys.Pending p n) at cause = at
      undropped (keys.Result p n) at cause = at
      undropped (keys.Command n) at cause = at

      by : (c : Change) → Contains (all_changes d.acts) c → key_of r ≡ change_key c → (x : Row) × Contains (all_changes d.acts) (Put x) × (key_of r ≡ key_of x)
      by (Put x) i same = (x, i, same)
      by (Drop k) i same = absurd (undropped k (subst IsCharged same charged) (d.caused (Drop k) i))

  -- a session
  pub session_from : (v : Session) → get t.rows.charged.sessions (key v.id) ≡ Some v → Contains (all_changes d.acts) (Put (row.Session v)) ⊎ (get s.rows.charged.sessions (key v.id) ≡ Some v)
  session_from v has = row_from_acts (row.Session v) tt has

  pub session_put : (v : Session) → Contains (all_changes d.acts) (Put (row.Session v)) → get t.rows.charged.sessions (key v.id) ≡ Some v
  session_put v i = put_now s t e d fine (row.Session v) i

  pub next_session : (v : Session) → Contains (all_changes d.acts) (Put (row.Session v)) → IsNextOf (price_at s.site) (get s.rows.charged.sessions (key v.id)) v
  next_session v i = (d.follows fine).sessions v (d.to_acts (Put (row.Session v)) i)

  -- a version goes in place of the one that stands
  pub followed : (v w : Session) → get s.rows.charged.sessions (key w.id) ≡ Some v → Contains (all_changes d.acts) (Put (row.Session w)) → MayFollow (price_at s.site) v w
  followed v w has i = subst (λ o. IsNextOf (price_at s.site) o w) has (next_session w i)

  pub data GoesOn (id : List ℕ) (v : Session) : Type 0 where
    Still : get t.rows.charged.sessions id ≡ Some v → GoesOn id v
    Next : (w : Session) → get t.rows.charged.sessions id ≡ Some w → Contains (all_changes d.acts) (Put (row.Session w)) → MayFollow (price_at s.site) v w → GoesOn id v

  pub session_goes_on : (id : List ℕ) (v : Session) → get s.rows.charged.sessions id ≡ Some v → GoesOn id v
  session_goes_on id v has = elim (row_goes_on (row.Session v) tt (ap (get s.rows.charged.sessions) (sym own) ∙ has)) [
    | inl still ↦ Still (ap (get t.rows.charged.sessions) own ∙ still)
    | inr (x, i, same) ↦ by x i same
  ]
    where
      own : id ≡ key v.id
      own = fine.sound.charged_keyed.sessions id v has

      by : (x : Row) → Contains (all_changes d.acts) (Put x) → key_of (row.Session v) ≡ key_of x → GoesOn id v
      by x i same =
          let (w, is, at) = put_session x (key v.party) (key v.id) same in
          let puts : Contains (all_changes d.acts) (Put (row.Session w)) = subst (λ z. Contains (all_changes d.acts) (Put z)) is i in
          let here : id ≡ key w.id = own ∙ sym at in
          Next w (ap (get t.rows.charged.sessions) here ∙ session_put w puts) puts (followed v w (ap (get s.rows.charged.sessions) (sym here) ∙ has) puts)

  -- a charge detail record
  pub cdr_from : (x : Cdr) → get t.rows.charged.cdrs (key x.id) ≡ Some x → Contains (all_changes d.acts) (Put (row.Cdr x)) ⊎ (get s.rows.charged.cdrs (key x.id) ≡ Some x)
  cdr_from x has = row_from_acts (row.Cdr x) tt has

  pub cdr_put : (x : Cdr) → Contains (all_changes d.acts) (Put (row.Cdr x)) → get t.rows.charged.cdrs (key x.id) ≡ Some x
  cdr_put x i = put_now s t e d fine (row.Cdr x) i

  pub cdr_stays : (id : List ℕ) (x : Cdr) → get s.rows.charged.cdrs id ≡ Some x → get t.rows.charged.cdrs id ≡ Some x
  cdr_stays id x has = elim (row_goes_on (row.Cdr x) tt (ap (get s.rows.charged.cdrs) (sym own) ∙ has)) [
    | inl still ↦ ap (get t.rows.charged.cdrs) own ∙ still
    | inr (y, i, same) ↦ absurd (by y i same)
  ]
    where
      own : id ≡ key x.id
      own = fine.sound.charged_keyed.cdrs id x has

      by : (y : Row) → Contains (all_changes d.acts) (Put y) → key_of (row.Cdr x) ≡ key_of y → ⊥
      by y i same =
          let (w, is, at) = put_cdr y (key x.party) (key x.id) same in
          let puts : Contains (all_changes d.acts) (Put (row.Cdr w)) = subst (λ z. Contains (all_changes d.acts) (Put z)) is i in
          not_both x _ ((d.follows fine).cdrs w (d.to_acts (Put (row.Cdr w)) puts)) (ap (get s.rows.charged.cdrs) (at ∙ sym own) ∙ has)

  -- the counters: one is as it was, or its row is put
  pub last_session_is : (n : ℕ) → t.rows.charged.last_session ≡ n → (s.rows.charged.last_session ≡ n) ⊎ Contains (all_changes d.acts) (Put (row.Count counter.Session n))
  last_session_is (suc n) is = elim (row_from_acts (row.Count counter.Session (suc n)) tt (is, λ e. absurd (cc))) [ inl i ↦ inr i | inr old ↦ inl old.0 ]
  last_session_is zero is = inl (by s.rows.charged.last_session refl)
    where
      by : (m : ℕ) → s.rows.charged.last_session ≡ m → s.rows.charged.last_session ≡ 0
      by zero same = same
      by (suc m) same = elim (row_goes_on (row.Count counter.Session (suc m)) tt (same, λ e. absurd (cc))) [
        | inl still ↦ absurd (let bad : suc m ≡ 0 = sym still.0 ∙ is in cc)
        | inr (x, i, at) ↦
            let (n, put) = put_count x counter.Session at in
            let stands : HasRow t.rows (row.Count counter.Session n) = put_now s t e d fine (row.Count counter.Session n) (subst (λ z. Contains (all_changes d.acts) (Put z)) put i) in
            absurd (stands.1 (sym stands.0 ∙ is))
      ]

  pub last_cdr_is : (n : ℕ) → t.rows.charged.last_cdr ≡ n → (s.rows.charged.last_cdr ≡ n) ⊎ Contains (all_changes d.acts) (Put (row.Count counter.Cdr n))
  last_cdr_is (suc n) is = elim (row_from_acts (row.Count counter.Cdr (suc n)) tt (is, λ e. absurd (cc))) [ inl i ↦ inr i | inr old ↦ inl old.0 ]
  last_cdr_is zero is = inl (by s.rows.charged.last_cdr refl)
    where
      by : (m : ℕ) → s.rows.charged.last_cdr ≡ m → s.rows.charged.last_cdr ≡ 0
      by zero same = same
      by (suc m) same = elim (row_goes_on (row.Count counter.Cdr (suc m)) tt (same, λ e. absurd (cc))) [
        | inl still ↦ absurd (let bad : suc m ≡ 0 = sym still.0 ∙ is in cc)
        | inr (x, i, at) ↦
            let (n, put) = put_count x counter.Cdr at in
            let stands : HasRow t.rows (row.Count counter.Cdr n) = put_now s t e d fine (row.Count counter.Cdr n) (subst (λ z. Contains (all_changes d.acts) (Put z)) put i) in
            absurd (stands.1 (sym stands.0 ∙ is))
      ]

  pub session_rises : s.rows.charged.last_session ≤ t.rows.charged.last_session
  session_rises = elim (last_session_is t.rows.charged.last_session refl) [ inl same ↦ omega (arith, same) | inr i ↦ d.reasons fine (Put (row.Count counter.Session t.rows.charged.last_session)) i ]

  pub cdr_rises : s.rows.charged.last_cdr ≤ t.rows.charged.last_cdr
  cdr_rises = elim (last_cdr_is t.rows.charged.last_cdr refl) [ inl same ↦ omega (arith, same) | inr i ↦ d.reasons fine (Put (row.Count counter.Cdr t.rows.charged.last_cdr)) i ]

-- versions agree
same_one : (v : Session) → IsSame v v
same_one v = record { party = refl; id = refl; cdr_token = refl; auth_method = refl; authorization_reference = refl; location_id = refl; evse_uid = refl; connector_id = refl; currency = refl }

same_two : (u v w : Session) → IsSame u v → IsSame v w → IsSame u w
same_two u v w a b = record {
  party = a.party ∙ b.party;
  id = a.id ∙ b.id;
  cdr_token = a.cdr_token ∙ b.cdr_token;
  auth_method = a.auth_method ∙ b.auth_method;
  authorization_reference = a.authorization_reference ∙ b.authorization_reference;
  location_id = a.location_id ∙ b.location_id;
  evse_uid = a.evse_uid ∙ b.evse_uid;
  connector_id = a.connector_id ∙ b.connector_id;
  currency = a.currency ∙ b.currency;
}

-- over runs
module _ (id : List ℕ) (v : Session) where
  record Stays (z : State) : Type 0 where
    fine : IsConsistent z
    now : Session
    stands : get z.rows.charged.sessions id ≡ Some now
    same : IsSame v now

  stays_so : (s t : State) (e : Event) → Happens s e t → Stays s → Stays t
  stays_so s t e happens h = by (session_goes_on s t e (does s t e happens) h.fine id h.now h.stands)
    where
      by : GoesOn s t e (does s t e happens) h.fine id h.now → Stays t
      by (Still still) = record { fine = consistent_stays s t e happens h.fine; now = h.now; stands = still; same = h.same }
      by (Next w stands puts follows) = record { fine = consistent_stays s t e happens h.fine; now = w; stands = stands; same = same_two v h.now w h.same follows.same }

pub sessions_stay : SessionsStay
sessions_stay s t es fine run id v has =
    let h = kept (Stays id v) (stays_so id v) s t es run (record { fine = fine; now = v; stands = has; same = same_one v }) in
    (h.now, h.stands, h.same)

pub cdrs_stay : (s t : State) (es : List Event) → IsConsistent s → Run s es t → (id : List ℕ) (x : Cdr) → get s.rows.charged.cdrs id ≡ Some x → get t.rows.charged.cdrs id ≡ Some x
cdrs_stay s t es fine run id x has =
    (kept (λ z. IsConsistent z × (get z.rows.charged.cdrs id ≡ Some x)) (λ a b e happens h. (consistent_stays a b e happens h.0, cdr_stays a b e (does a b e happens) h.0 id x h.1)) s t es run (fine, has)).1

pub numbers_never_fall : NumbersNeverFall
numbers_never_fall s t es fine run =
    (kept (λ z. IsConsistent z × ((s.rows.charged.last_session ≤ z.rows.charged.last_session) × (s.rows.charged.last_cdr ≤ z.rows.charged.last_cdr)))
    (λ a b e happens h.
    let d = does a b e happens in
    let one = session_rises a b e d h.0 in
    let two = cdr_rises a b e d h.0 in
    let before = h.1.0 in
    let then = h.1.1 in
    (consistent_stays a b e happens h.0, (omega (arith, one, before), omega (arith, two, then))))
    s t es run (fine, (omega arith, omega arith))).1
