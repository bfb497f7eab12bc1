-- What tells that a session or a charge detail record may stand, and what that the rows are bad.
use Rattle.std.proofs.Common.{◌≡◌, ◌≢◌, ℤ, ℕ, ◌≤◌, ◌<◌, List, Bool, true, false, not, true≢false, ◌⊎◌, inl, inr, refl, sym, ap, subst, ◌∙◌, arith}
use Rattle.std.specs.Prelude.{Option, Some, None, Contains, IfSome, Ok}
use Rattle.std.specs.FinMap.{get}
use Rattle.std.proofs.lemmas.Bool.{cases_lt}
use Rattle.ocpi_text.specs.OwnIds.{own_id_text}
use Rattle.ocpi_text.specs.Party.{party_at}
use Rattle.ocpi_text.specs.Text.{key}
use Rattle.ocpi_text.specs.Whole.{max_whole}
use Rattle.ocpi_text.specs.declared.own_ids.OwnIdKind.{OwnIdKind}
use Rattle.ocpi_text.specs.declared.own_ids.OwnIdKind.TheVariants as own
use Rattle.ocpi_types.specs.Prices.{price_at}
use Rattle.ocpi_types.specs.Rows.{key_of}
use Rattle.ocpi_types.specs.declared.cdrs.Cdr.{Cdr}
use Rattle.ocpi_types.specs.declared.rows.Counter.TheVariants as counter
use Rattle.ocpi_types.specs.declared.rows.Row.{Row}
use Rattle.ocpi_types.specs.declared.rows.Row.TheVariants as row
use Rattle.ocpi_types.specs.declared.rows.RowKey.TheVariants as keys
use Rattle.ocpi_types.specs.declared.sessions.Session.{Session}
use Rattle.ocpi_types.specs.declared.site.Site.{Site}
use Rattle.ocpi_types.specs.declared.site.SiteLine.{SiteLine}
use Rattle.ocpi_types.specs.declared.words.SessionStatus.TheVariants.{Reservation}
use Rattle.node_steps.specs.Peers.{HasPeer}
use Rattle.session_book.proofs.OwnIds.{ids_differ}
use Rattle.session_state.specs.Resuming.{CannotResume}
use Rattle.session_state.specs.Versions.{HasCost, IsUncharged}
use Rattle.site_book.specs.Sites.{IsConnectorOf}
use Rattle.site_book.specs.declared.claim.Claim.{Claim}
use Rattle.site_book.specs.declared.claim.Claim.TheVariants.{Live}
use Rattle.stored_rows.specs.Given.{IsOwnId}
use Rattle.stored_rows.specs.Records.{IsRecordId}
use Rattle.stored_rows.proofs.RecordNumbers.{bill_made, credit_made, no_credit}
use Rattle.stored_rows.specs.declared.fault.BadReason.{BadReason}
use Rattle.stored_rows.specs.declared.fault.BadReason.TheVariants as reason
use Rattle.operator_rows.specs.State.{HasClaim, IsFree, IsLive, State}
use Rattle.operator_stored.proofs.BadRows.{bill_or_credit}
use Rattle.operator_stored.proofs.Telling.{claimed_twice, count_of, free_may, party_of, site_of, stranger}
use Rattle.operator_stored.specs.Bad as bad
use Rattle.operator_stored.specs.Bad.{IsBad, CdrIdNotOwn, CdrNotGiven, CdrOfOther, SessionAtNoConnector, SessionIdNotOwn, SessionNotGiven, SessionNowhere, SessionOfOther, SessionOfStranger}
use Rattle.operator_stored.specs.Causes.{ChargedEarly, IsNoConnector, IsStuck, CostMissing, OfEvse, OfNoEvse, OfReservation, OtherPrice}
use Rattle.operator_stored.specs.Placing.{ComesNext, IsOwn, MayAdd, MayCharge, ShowsBad}

equal_or_not : (m n : ℕ) → (m ≡ n) ⊎ (m ≢ n)
equal_or_not m n = elim (cases_lt m n) [
  | inl below ↦ inr (omega arith)
  | inr above ↦ elim (cases_lt n m) [
    | inl below ↦ inr (omega arith)
    | inr also ↦ inl (omega arith)
  ]
]

-- no other number makes the id
pub sole_number : (o : Option ℕ) (k : OwnIdKind) (p q id : List ℕ) → p ≡ q → party_at q ≡ Ok q → IfSome o (λ n. IsOwnId k p id n) →
    IfSome o (λ n. (m : ℕ) → m ≤ max_whole → key (own_id_text k q m) ≡ key id → m ≡ n)
sole_number None k p q id same fine h = tt
sole_number (Some n) k p q id same fine h = λ m fits is. elim (equal_or_not m n) [
  | inl e ↦ e
  | inr apart ↦ absurd (ids_differ k q m n fine fits h.is_number apart (is ∙ ap key h.made ∙ ap (λ (z : List ℕ). key (own_id_text k z n)) same))
]

-- nor does it the id of a charge detail record
pub sole_record : (o : Option ℕ) (p q : List ℕ) (x : Cdr) → p ≡ q → party_at q ≡ Ok q → IfSome o (λ n. IsRecordId p x n) →
    IfSome o (λ n. (m : ℕ) → m ≤ max_whole → key (own_id_text own.Cdr q m) ≡ key x.id → m ≡ n)
sole_record None p q x same fine h = tt
sole_record (Some n) p q x same fine h = elim (bill_or_credit x) [
  | inl bill ↦ sole_number (Some n) own.Cdr p q x.id same fine (bill_made p x n h bill)
  | inr credit ↦ λ m fits is. absurd (no_credit own.Cdr own.Cdr q p m n (is ∙ ap key (credit_made p x n h credit)))
]

pub own_of : (s : State) (k : OwnIdKind) (last n : ℕ) (party id : List ℕ) → key party ≡ key s.party → IsOwnId k s.party id n →
    ((m : ℕ) → m ≤ max_whole → key (own_id_text k s.party m) ≡ key id → m ≡ n) → n ≤ last → IsOwn s k last party id
own_of s k last n party id of made sole most = record {
  of_operator = of;
  number = n;
  made = made;
  given = λ m fits same. subst (λ (z : ℕ). z ≤ last) (sym (sole m fits same)) most;
}

-- a session that has not ended and is at no connector of the site, and one that cannot go on
module _ (line : SiteLine) (rows : List Row) (v : Session) (h : Contains rows (row.Session v)) where
  misplaced : (why : BadReason) → IsLive v.status → IsNoConnector line.site.locations (key v.evse_uid) (key v.connector_id) why → IsBad line rows (key_of (row.Session v)) why
  misplaced _ live (OfNoEvse nowhere) = SessionNowhere v h live nowhere
  misplaced _ live (OfEvse evse not) = SessionAtNoConnector v h live evse not

  stuck_is_bad : (why : BadReason) → IsStuck (price_at line.site v.start_date_time) v why → IsBad line rows (key_of (row.Session v)) why
  stuck_is_bad _ (OfReservation is) = bad.OfReservation v h is
  stuck_is_bad _ (CostMissing none) = bad.CostMissing v h none
  stuck_is_bad _ (ChargedEarly charged) = bad.ChargedEarly v h charged
  stuck_is_bad _ (OtherPrice cost is not) = bad.OtherPrice v cost h is not

module _ (s : State) (v : Session) where
  pub session_of_other : (key v.party ≡ key s.party → ⊥) → ShowsBad s (row.Session v) reason.OfOtherParty
  session_of_other other line rows h = SessionOfOther v h.here (λ e. other (e ∙ ap key (sym (party_of s (row.Session v) line rows h))))

  pub session_not_own : ((n : ℕ) → IsOwnId own.Session s.party v.id n → ⊥) → ShowsBad s (row.Session v) reason.NotOwnId
  session_not_own none line rows h =
      SessionIdNotOwn v h.here (λ n is. none n (subst (λ (p : List ℕ). IsOwnId own.Session p v.id n) (sym (party_of s (row.Session v) line rows h)) is))

  pub session_not_given : (n : ℕ) → IsOwnId own.Session s.party v.id n → s.rows.charged.last_session < n → ShowsBad s (row.Session v) reason.NotGiven
  session_not_given n is beyond line rows h =
      SessionNotGiven v n h.here (subst (λ (p : List ℕ). IsOwnId own.Session p v.id n) (party_of s (row.Session v) line rows h) is) (record {
        some_number = λ e. absurd (omega arith);
        above = λ last there. let c = count_of s (row.Session v) line rows h counter.Session last (omega arith) there in
            let same : s.rows.charged.last_session ≡ last = c.0 in omega arith;
      })

  pub session_of_stranger : IsLive v.status → ¬ HasPeer s.providers (key v.cdr_token.party) → ShowsBad s (row.Session v) reason.UnknownParty
  session_of_stranger live not line rows h = SessionOfStranger v h.here live (stranger s (row.Session v) line rows h (key v.cdr_token.party) not)

  pub session_of_other_money : IsLive v.status → v.currency ≢ s.site.currency → ShowsBad s (row.Session v) reason.OtherCurrency
  session_of_other_money live other line rows h =
      bad.OtherMoney v h.here live (λ e. other (e ∙ ap (λ (z : Site). z.currency) (sym (site_of s (row.Session v) line rows h))))

  pub session_nowhere : (evse : List ℕ) (why : BadReason) → evse ≡ key v.evse_uid → IsLive v.status → IsNoConnector s.site.locations evse (key v.connector_id) why →
      ShowsBad s (row.Session v) why
  session_nowhere evse why is live not line rows h =
      misplaced line rows v h.here why live (subst (λ (z : Site). IsNoConnector z.locations (key v.evse_uid) (key v.connector_id) why) (site_of s (row.Session v) line rows h)
      (subst (λ (k : List ℕ). IsNoConnector s.site.locations k (key v.connector_id) why) is not))

  pub stuck : (price : ℤ) (why : BadReason) → price ≡ price_at s.site v.start_date_time → IsStuck price v why → ShowsBad s (row.Session v) why
  stuck price why same cannot line rows h =
      stuck_is_bad line rows v h.here why (subst (λ (z : ℤ). IsStuck z v why) (same ∙ ap (λ (z : Site). price_at z v.start_date_time) (site_of s (row.Session v) line rows h)) cannot)

  not_charged : ComesNext s (row.Session v) → key v.party ≡ key s.party → (p evse : List ℕ) → HasClaim s.rows evse (Live p (key v.id)) → ⊥
  not_charged next of p evse h =
      let keyed : key v.id ≡ key h.0.id = next.in_turn.sound.charged_keyed.sessions (key v.id) h.0 h.1 in
      let its = (next.in_turn.sound.sessions (key v.id) h.0 h.1).own in
      next.is_new (row.Session h.0) (subst (λ k. get s.rows.charged.sessions k ≡ Some h.0) keyed h.1)
      (ap (λ (k : List ℕ). keys.Session k (key h.0.id)) (its ∙ sym of) ∙ ap (λ (k : List ℕ). keys.Session (key v.party) k) (sym keyed))

  module _ (evse : List ℕ) (is : evse ≡ key v.evse_uid) where
    pub charge_may : HasPeer s.providers (key v.cdr_token.party) → IsConnectorOf s.site.locations evse (key v.connector_id) → v.currency ≡ s.site.currency → IsFree s.rows evse → MayCharge s v
    charge_may peer place money free = record {
      provider = peer;
      place = subst (λ (k : List ℕ). IsConnectorOf s.site.locations k (key v.connector_id)) is place;
      currency = money;
      alone = free_may s (key v.evse_uid) _ (subst (λ (k : List ℕ). IsFree s.rows k) is free);
    }

    pub charge_claimed : ComesNext s (row.Session v) → IsLive v.status → key v.party ≡ key s.party → (d : Claim) × HasClaim s.rows evse d →
        ShowsBad s (row.Session v) reason.ClaimedTwice
    charge_claimed next live of d =
        claimed_twice s (row.Session v) (key v.evse_uid) (Live (key v.cdr_token.party) (key v.id)) d.0 next
        (key v.cdr_token.party, record { live = live; here = refl; of_provider = refl }, refl)
        (subst (λ (k : List ℕ). HasClaim s.rows k d.0) is d.1) (not_charged next of (key v.cdr_token.party) (key v.evse_uid))

module _ (s : State) (x : Cdr) where
  pub cdr_of_other : (key x.party ≡ key s.party → ⊥) → ShowsBad s (row.Cdr x) reason.OfOtherParty
  cdr_of_other other line rows h = CdrOfOther x h.here (λ e. other (e ∙ ap key (sym (party_of s (row.Cdr x) line rows h))))

  pub cdr_not_own : ((n : ℕ) → IsRecordId s.party x n → ⊥) → ShowsBad s (row.Cdr x) reason.NotOwnId
  cdr_not_own none line rows h =
      CdrIdNotOwn x h.here (λ n is. none n (subst (λ (p : List ℕ). IsRecordId p x n) (sym (party_of s (row.Cdr x) line rows h)) is))

  pub cdr_not_given : (n : ℕ) → IsRecordId s.party x n → s.rows.charged.last_cdr < n → ShowsBad s (row.Cdr x) reason.NotGiven
  cdr_not_given n is beyond line rows h =
      CdrNotGiven x n h.here (subst (λ (p : List ℕ). IsRecordId p x n) (party_of s (row.Cdr x) line rows h) is) (record {
        some_number = λ e. absurd (omega arith);
        above = λ last there. let c = count_of s (row.Cdr x) line rows h counter.Cdr last (omega arith) there in
            let same : s.rows.charged.last_cdr ≡ last = c.0 in omega arith;
      })

  pub own_cdr : (n : ℕ) → key x.party ≡ key s.party → IsRecordId s.party x n →
      ((m : ℕ) → m ≤ max_whole → key (own_id_text own.Cdr s.party m) ≡ key x.id → m ≡ n) → n ≤ s.rows.charged.last_cdr → MayAdd s (row.Cdr x)
  own_cdr n of made sole most =
      let given = λ (m : ℕ) (fits : m ≤ max_whole) (same : key (own_id_text own.Cdr s.party m) ≡ key x.id).
      subst (λ (z : ℕ). z ≤ s.rows.charged.last_cdr) (sym (sole m fits same)) most in
      record { may = record { own = of; number = given }; fit = (n, made) }

-- a version whose status is not RESERVATION, which has no energy while it is PENDING, and that cannot go on, has not the
-- cost of its energy
pub not_priced : (price : ℤ) (v : Session) → (v.status ≡ Reservation → ⊥) → IsUncharged v → CannotResume price v → ¬ HasCost price v
not_priced price v other uncharged (inl is) = absurd (other is)
not_priced price v other uncharged (inr (inl not)) = not
not_priced price v other uncharged (inr (inr charged)) = absurd (charged uncharged)

pub not_same : (b : Bool) (party operator own : List ℕ) → operator ≡ own → (key party ≡ key operator → b ≡ true) → b ≡ false → key party ≡ key own → ⊥
not_same b party operator own is also e h = true≢false (sym (also (h ∙ ap key (sym is))) ∙ e)
