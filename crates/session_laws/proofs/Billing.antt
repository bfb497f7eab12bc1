-- Charge detail records: each bill is of a COMPLETED version, which has one, and each credit takes back a bill that had
-- none.
use Rattle.std.proofs.Common.{◌≡◌, ◌≢◌, ◌⊎◌, ◌+◌, ℕ, ℤ, true, false, pos, List, map, inl, inr, refl, sym, ap, subst, ◌∙◌, arith}
use Rattle.std.specs.Prelude.{Option, Some, None, Contains, unwrap_or}
use Rattle.std.specs.FinMap.{get, get-empty}
use Rattle.std.proofs.lemmas.Bool.{cases_Bool}
use Rattle.tables.specs.Keys.{text_cmp}
use Rattle.tables.proofs.Elements.{of_map}
use Rattle.tables.proofs.Options.{none_some, not_both}
use Rattle.ocpi_text.specs.Text.{key}
use Rattle.ocpi_text.specs.OwnIds.{own_id_text}
use Rattle.ocpi_text.specs.declared.own_ids.OwnIdKind.TheVariants as own
use Rattle.ocpi_types.specs.Credits.{AreAlike, IsBill, IsCredit, credit_id, is_credit}
use Rattle.ocpi_types.specs.Rows.{key_of}
use Rattle.ocpi_types.specs.Prices.{price_at}
use Rattle.ocpi_types.specs.declared.site.SiteLine.{SiteLine}
use Rattle.ocpi_types.specs.declared.cdrs.Cdr.{Cdr}
use Rattle.ocpi_types.specs.declared.events.ChargerEvent.{ChargerEvent}
use Rattle.ocpi_types.specs.declared.site.Connector.{Connector}
use Rattle.ocpi_types.specs.declared.site.Evse.{Evse}
use Rattle.ocpi_types.specs.declared.site.Location.{Location}
use Rattle.session_tables.specs.Places.{IsConnectorAt}
use Rattle.ocpi_types.specs.declared.rows.Change.{Change}
use Rattle.ocpi_types.specs.declared.rows.Change.TheVariants.{Put, Drop}
use Rattle.ocpi_types.specs.declared.rows.Row.TheVariants as row
use Rattle.ocpi_types.specs.declared.rows.RowKey.TheVariants as keys
use Rattle.ocpi_types.specs.declared.sessions.Price.{Price}
use Rattle.ocpi_types.specs.declared.sessions.Session.{Session}
use Rattle.ocpi_types.specs.declared.words.SessionStatus.{SessionStatus}
use Rattle.ocpi_types.specs.declared.words.SessionStatus.TheVariants.{Completed, Pending}
use Rattle.session_state.specs.Pasts.{IsFinal, MayFollow}
use Rattle.session_state.specs.Versions.{IsPriced}
use Rattle.node_laws.proofs.Runs.{kept_runs}
use Rattle.node_steps.specs.Acts.{all_changes}
use Rattle.node_steps.proofs.Gathering.{changes_append}
use Rattle.std.proofs.lemmas.List.Elements.{Contains-append_left, Contains-append_right}
use Rattle.operator_rows.specs.State.{State, opening}
use Rattle.operator_rows.specs.Stored.{change_key}
use Rattle.operator_rows.specs.Sound.{IsConsistent, MayChange}
use Rattle.operator_rows.specs.Steps.{IsNextOf}
use Rattle.operator_rows.proofs.KeepingTimes.{opening_consistent}
use Rattle.operator_steps.specs.Credits.{CreditsTo, next_credit}
use Rattle.operator_steps.specs.Events.{Credits, Event, Happens}
use Rattle.operator_steps.specs.Sessions as acts_of
use Rattle.operator_steps.specs.Sessions.{IsBilled, IsMoved, first_of, next_cdr}
use Rattle.session_laws.specs.Pasts.{stored}
use Rattle.session_laws.specs.Bills.{AreBilledOnce, IsFirstCredit, IsRecordOf, PutsRecords, RecordsAreOfCompletedSessions, RecordsStay, SessionsAreBilledOnce}
use Rattle.session_laws.proofs.Causes.{CdrCause, Billed, Credited, SessionCause, Begun, Moved}
use Rattle.session_laws.proofs.Caused.{cdr_cause, session_cause}
use Rattle.session_laws.proofs.Doing.{Does, does}
use Rattle.session_laws.proofs.Growing.{no_turn}
use Rattle.session_laws.proofs.Versions.{of_each, stands, stays}

-- a version that may come next has its cost
next_cost : (price : ℕ → ℤ) (o : Option Session) (v : Session) → IsNextOf price o v → IsPriced price v
next_cost price None v next = next.1
next_cost price (Some w) v next = next.priced

cost_kept : (o : Option Price) (x : Price) (z : Price) → o ≡ Some x → o ≡ Some (unwrap_or o z)
cost_kept (Some y) x z is = refl
cost_kept None x z is = none_some x is

final_completed : (w : SessionStatus) → w ≡ Completed → IsFinal w
final_completed w is = subst IsFinal (sym is) tt

module _ (s t : State) (e : Event) (fine : IsConsistent s) (d : Does s e t) where
  -- the record of a version that a report makes
  is_record : (v : Session) (l : Location) (c : Evse) (k : Connector) → Contains e.changes (Put (row.Session v)) → v.status ≡ Completed → IsConnectorAt s.site.locations (key v.evse_uid) (key v.connector_id) l c k →
      IsRecordOf s v (next_cdr s v l c k)
  is_record v l c k i complete place = record {
    bills = record {
      bill = refl;
      completed = complete;
      session = refl;
      token = refl;
      energy = refl;
      cost = cost_kept v.total_cost _ (record { excl_vat = pos 0 }) (next_cost (price_at s.site) (get s.rows.charged.sessions (key v.id)) v (d.sessions v i));
    };
    location = l;
    of_evse = c;
    of_connector = k;
    place = place;
    record_is = refl;
  }

  -- the acts of a move put its version
  moved_put : (at : ℕ) (report : ChargerEvent) (m : IsMoved s at report d.acts) → Contains e.changes (Put (row.Session m.after))
  moved_put at report m = d.to_acts _ (subst (λ l. Contains (all_changes l) (Put (row.Session m.after))) (sym m.acts_are)
      (subst (λ l. Contains l (Put (row.Session m.after))) (sym (changes_append m.version_acts m.bill_acts))
      (Contains-append_left (all_changes m.version_acts) (all_changes m.bill_acts) _ (subst (λ l. Contains (all_changes l) (Put (row.Session m.after))) (sym m.versioned.acts_are) (by m.versioned.old)))))
    where
      by : (old : Option ℕ) → Contains (all_changes (acts_of.versioned at s.rows.request m.versioned.to old m.after)) (Put (row.Session m.after))
      by None = (1, omega arith, refl)
      by (Some k) = (2, omega arith, refl)

  -- and its record, where it is complete
  bill_put : (at : ℕ) (report : ChargerEvent) (m : IsMoved s at report d.acts) → m.after.status ≡ Completed → (x : Cdr) × Contains e.changes (Put (row.Cdr x)) × IsRecordOf s m.after x
  bill_put at report m complete = by m.billed
    where
      by : IsBilled s at (s.rows.request + 1) m.after m.bill_acts → (x : Cdr) × Contains e.changes (Put (row.Cdr x)) × IsRecordOf s m.after x
      by (acts_of.Billed same to peer l c k place is) =
          let x = next_cdr s m.after l c k in
          let last : Contains (all_changes m.bill_acts) (Put (row.Cdr x)) = subst (λ z. Contains (all_changes z) (Put (row.Cdr x))) (sym is) (2, omega arith, refl) in
          let all : Contains (all_changes d.acts) (Put (row.Cdr x)) = subst (λ z. Contains (all_changes z) (Put (row.Cdr x))) (sym m.acts_are)
          (subst (λ z. Contains z (Put (row.Cdr x))) (sym (changes_append m.version_acts m.bill_acts)) (Contains-append_right (all_changes m.version_acts) (all_changes m.bill_acts) _ last)) in
          (x, d.to_acts _ all, is_record m.after l c k (moved_put at report m) complete place)
      by (acts_of.Unbilled other is) = absurd (other complete)

  each_billed : (v : Session) → v.status ≡ Completed → SessionCause s e.input d.acts v → (x : Cdr) × Contains e.changes (Put (row.Cdr x)) × IsRecordOf s v x
  each_billed v complete (Begun at n b how above within is only) = let never : Pending ≡ Completed = sym (ap (λ (z : Session). z.status) is) ∙ complete in absurd (cc)
  each_billed v complete (Moved at report reports m is) =
      subst (λ z. (x : Cdr) × Contains e.changes (Put (row.Cdr x)) × IsRecordOf s z x) (sym is) (bill_put at report m (sym (ap (λ (z : Session). z.status) is) ∙ complete))

  only_billed : (x : Cdr) → IsBill x → CdrCause s e.input d.acts x → (v : Session) × Contains e.changes (Put (row.Session v)) × IsRecordOf s v x
  only_billed x bill (Billed at report reports m complete l c k place within is) =
      (m.after, moved_put at report m, subst (IsRecordOf s m.after) (sym is) (is_record m.after l c k (moved_put at report m) complete place))
  only_billed x bill (Credited at session orders y to takes is) = let never : true ≡ false = sym (ap is_credit is) ∙ bill in absurd (cc)

  -- the credit of a bill that is taken back
  first_credit : (at : ℕ) (session : List ℕ) (bill : Cdr) (to : List ℕ) → CreditsTo s session bill to → IsFirstCredit s (next_credit at bill)
  first_credit at session bill to takes =
      let h = takes.bill in
      let of_session : key bill.session_id ≡ session = h.billed.billed.of_session in
      record {
        bill = bill;
        stands = h.billed.billed.stands;
        is_bill = h.billed.is_bill;
        takes_back = refl;
        later = omega arith;
        version = h.version;
        newest = ap (stored s) of_session ∙ h.stands;
        completed = h.completed;
        first = λ id y has same credit. h.uncredited (record {
          credit = y;
          credited = record { stands = ap (get s.rows.charged.cdrs) (sym (fine.sound.charged_keyed.cdrs id y has)) ∙ has; of_session = same ∙ of_session };
          is_credit = credit;
        });
        new = h.new;
      }

  credited : (x : Cdr) → IsCredit x → CdrCause s e.input d.acts x → IsFirstCredit s x
  credited x credit (Billed at report reports m complete l c k place within is) = let never : false ≡ true = sym (ap is_credit is) ∙ credit in absurd (cc)
  credited x credit (Credited at session orders bill to takes is) = subst (IsFirstCredit s) (sym is) (first_credit at session bill to takes)

  -- which was ordered for its session
  ordered : (x : Cdr) → IsCredit x → CdrCause s e.input d.acts x → (at : ℕ) × (e.input ≡ Credits at (key x.session_id))
  ordered x credit (Billed at report reports m complete l c k place within is) = let never : false ≡ true = sym (ap is_credit is) ∙ credit in absurd (cc)
  ordered x credit (Credited at session orders bill to takes is) =
      let of_session : session ≡ key x.session_id = sym takes.bill.billed.billed.of_session ∙ sym (ap (λ (z : Cdr). key z.session_id) is) in
      (at, orders ∙ ap (Credits at) of_session)

  pub puts_records : PutsRecords s e
  puts_records = record {
    each = λ v i complete. each_billed v complete (session_cause s t e fine d v i);
    only = λ x i bill. only_billed x bill (cdr_cause s t e fine d x i);
    credits = λ x i credit. credited x credit (cdr_cause s t e fine d x i);
    ordered = λ x i credit. ordered x credit (cdr_cause s t e fine d x i);
  }

pub records_are_of_completed_sessions : RecordsAreOfCompletedSessions
records_are_of_completed_sessions s t e fine happens = puts_records s t e fine (does s t e fine happens)

-- a change of a record's row puts the record
of_record : (s : State) (c : Change) (p id : List ℕ) → MayChange s c → change_key c ≡ keys.Cdr p id → (x : Cdr) × (c ≡ Put (row.Cdr x))
of_record s (Put (row.Cdr x)) p id may same = (x, refl)
of_record s (Put r) p id may same = absurd (cc)
of_record s (Drop (keys.Cdr q k)) p id may same = absurd may
of_record s (Drop k) p id may same = absurd (cc)

module _ (s t : State) (e : Event) (fine : IsConsistent s) (d : Does s e t) where
  -- no change is of a record that stands
  untouched_record : (x : Cdr) → get s.rows.charged.cdrs (key x.id) ≡ Some x → ¬ Contains (map change_key e.changes) (key_of (row.Cdr x))
  untouched_record x has i =
      let (c, listed, same) = of_map change_key e.changes (key_of (row.Cdr x)) i in
      let (y, is) = of_each (λ c. (p k : List ℕ) → change_key c ≡ keys.Cdr p k → (y : Cdr) × (c ≡ Put (row.Cdr y))) s (λ c u party may p k is. of_record u c p k may is) e.changes s refl d.may c listed (key x.party)
      (key x.id) same in
      let key_is : keys.Cdr (key y.party) (key y.id) ≡ keys.Cdr (key x.party) (key x.id) = sym (ap change_key is) ∙ same in
      let id_is : key y.id ≡ key x.id = cc in
      not_both x (get s.rows.charged.cdrs (key y.id)) (d.cdrs y (subst (λ z. Contains e.changes z) is listed)) (ap (get s.rows.charged.cdrs) id_is ∙ has)

  record_stays : (id : List ℕ) (x : Cdr) → get s.rows.charged.cdrs id ≡ Some x → get t.rows.charged.cdrs id ≡ Some x
  record_stays id x has =
      let at : id ≡ key x.id = fine.sound.charged_keyed.cdrs id x has in
      let here = ap (get s.rows.charged.cdrs) (sym at) ∙ has in
      ap (get t.rows.charged.cdrs) at ∙ (d.rows (row.Cdr x)).1 (inr (here, untouched_record x here))

  -- a record that stands stood before, or the event put it
  pub record_from : (id : List ℕ) (x : Cdr) → get t.rows.charged.cdrs id ≡ Some x → (get s.rows.charged.cdrs id ≡ Some x) ⊎ Contains e.changes (Put (row.Cdr x))
  record_from id x has =
      let at : id ≡ key x.id = d.consistent.sound.charged_keyed.cdrs id x has in
      elim ((d.rows (row.Cdr x)).0 (ap (get t.rows.charged.cdrs) (sym at) ∙ has)) [ inl i ↦ inr i | inr was ↦ inl (ap (get s.rows.charged.cdrs) at ∙ was.0) ]

  record_stands : (x : Cdr) → Contains e.changes (Put (row.Cdr x)) → get t.rows.charged.cdrs (key x.id) ≡ Some x
  record_stands x i = (d.rows (row.Cdr x)).1 (inl i)

  -- and so for sessions
  pub session_from : (id : List ℕ) (v : Session) → stored t id ≡ Some v → (stored s id ≡ Some v) ⊎ Contains e.changes (Put (row.Session v))
  session_from id v has =
      let at : id ≡ key v.id = d.consistent.sound.charged_keyed.sessions id v has in
      elim ((d.rows (row.Session v)).0 (ap (get t.rows.charged.sessions) (sym at) ∙ has)) [ inl i ↦ inr i | inr was ↦ inl (ap (get s.rows.charged.sessions) at ∙ was.0) ]

  -- no version is put of a session that ended
  none_after : (id : List ℕ) (v w : Session) → stored s id ≡ Some v → IsFinal v.status → Contains e.changes (Put (row.Session w)) → key w.id ≢ id
  none_after id v w has final i at =
      let next : IsNextOf (price_at s.site) (stored s id) w = subst (λ k. IsNextOf (price_at s.site) (get s.rows.charged.sessions k) w) at (d.sessions w i) in
      let follows : MayFollow (price_at s.site) v w = subst (λ o. IsNextOf (price_at s.site) o w) has next in
      no_turn v.status w.status final follows.turn

  pub final_kept : (id : List ℕ) (v : Session) → stored s id ≡ Some v → IsFinal v.status → stored t id ≡ Some v
  final_kept id v has final = stays s t e d id fine (λ w i. none_after id v w has final i) ∙ has

  -- a bill of the event, and one from before, are of different sessions
  apart_bills : AreBilledOnce s → (x y : Cdr) (j : List ℕ) → Contains e.changes (Put (row.Cdr x)) → get s.rows.charged.cdrs j ≡ Some y → IsBill x → IsBill y → key x.session_id ≢ key y.session_id
  apart_bills h x y j i has bill_x bill_y same =
      let (v, put, r) = (puts_records s t e fine d).only x i bill_x in
      let (w, had, bills) = h.only j y has bill_y in
      none_after (key w.id) w v had (final_completed w.status bills.completed) put (ap key (sym r.bills.session) ∙ same ∙ ap key bills.session)

  -- and so are credits
  apart_credits : (x y : Cdr) (j : List ℕ) → Contains e.changes (Put (row.Cdr x)) → get s.rows.charged.cdrs j ≡ Some y → IsCredit x → IsCredit y → key x.session_id ≢ key y.session_id
  apart_credits x y j i has credit_x credit_y same =
      let f = (puts_records s t e fine d).credits x i credit_x in
      f.first j y has (sym same ∙ ap (λ (z : Cdr). key z.session_id) f.takes_back) credit_y

  apart_records : AreBilledOnce s → (x y : Cdr) (j : List ℕ) → Contains e.changes (Put (row.Cdr x)) → get s.rows.charged.cdrs j ≡ Some y → AreAlike x y → key x.session_id ≢ key y.session_id
  apart_records h x y j i has alike = elim (cases_Bool (is_credit x)) [
    | inl credit ↦ apart_credits x y j i has credit (sym alike ∙ credit)
    | inr bill ↦ apart_bills h x y j i has bill (sym alike ∙ bill)
  ]

  -- all bills of an event have one id
  bill_id : (x : Cdr) → Contains e.changes (Put (row.Cdr x)) → IsBill x → x.id ≡ own_id_text own.Cdr s.party (s.rows.charged.last_cdr + 1)
  bill_id x i bill = let (v, put, r) = (puts_records s t e fine d).only x i bill in ap (λ (z : Cdr). z.id) r.record_is

  -- and all its credits of one session, which has one bill
  same_credit_id : AreBilledOnce s → (x y : Cdr) → Contains e.changes (Put (row.Cdr x)) → Contains e.changes (Put (row.Cdr y)) → IsCredit x → IsCredit y → key x.session_id ≡ key y.session_id → x.id ≡ y.id
  same_credit_id h x y i j credit_x credit_y same =
      let f = (puts_records s t e fine d).credits x i credit_x in
      let g = (puts_records s t e fine d).credits y j credit_y in
      let session : key f.bill.session_id ≡ key g.bill.session_id = sym (ap (λ (z : Cdr). key z.session_id) f.takes_back) ∙ same ∙ ap (λ (z : Cdr). key z.session_id) g.takes_back in
      let ids : key f.bill.id ≡ key g.bill.id = h.once (key f.bill.id) (key g.bill.id) f.bill g.bill f.stands g.stands session (f.is_bill ∙ sym g.is_bill) in
      let both : Some f.bill ≡ Some g.bill = sym f.stands ∙ ap (get s.rows.charged.cdrs) ids ∙ g.stands in
      let one : f.bill ≡ g.bill = cc in
      ap (λ (z : Cdr). z.id) f.takes_back ∙ ap (λ (z : Cdr). credit_id z.id) one ∙ sym (ap (λ (z : Cdr). z.id) g.takes_back)

  same_id : AreBilledOnce s → (x y : Cdr) → Contains e.changes (Put (row.Cdr x)) → Contains e.changes (Put (row.Cdr y)) → key x.session_id ≡ key y.session_id → AreAlike x y → x.id ≡ y.id
  same_id h x y i j same alike = elim (cases_Bool (is_credit x)) [
    | inl credit ↦ same_credit_id h x y i j credit (sym alike ∙ credit) same
    | inr bill ↦ bill_id x i bill ∙ sym (bill_id y j (sym alike ∙ bill))
  ]

  pub billed_stays : AreBilledOnce s → AreBilledOnce t
  billed_stays h = record {
    each = λ id v has complete. elim (session_from id v has) [
      | inl old ↦ (let (x, had, bills) = h.each id v old complete in (x, record_stays (key x.id) x had, bills))
      | inr i ↦ (let (x, put, r) = (puts_records s t e fine d).each v i complete in (x, record_stands x put, r.bills))
    ];
    only = λ id x has bill. elim (record_from id x has) [
      | inl old ↦ (let (v, had, bills) = h.only id x old bill in (v, final_kept (key v.id) v had (final_completed v.status bills.completed), bills))
      | inr i ↦ (let (v, put, r) = (puts_records s t e fine d).only x i bill in (v, stands s t e d (key v.id) v put refl, r.bills))
    ];
    credits = λ id x has credit. elim (record_from id x has) [
      | inl old ↦ (let (y, had, bill, is) = h.credits id x old credit in (y, record_stays (key y.id) y had, bill, is))
      | inr i ↦ (let f = (puts_records s t e fine d).credits x i credit in (f.bill, record_stays (key f.bill.id) f.bill f.stands, f.is_bill, f.takes_back))
    ];
    once = λ i j x y has_x has_y same alike. elim (record_from i x has_x) [
      | inl old_x ↦ elim (record_from j y has_y) [
        | inl old_y ↦ h.once i j x y old_x old_y same alike
        | inr new_y ↦ absurd (apart_records h y x i new_y old_x (sym alike) (sym same))
      ]
      | inr new_x ↦ elim (record_from j y has_y) [
        | inl old_y ↦ absurd (apart_records h x y j new_x old_y alike same)
        | inr new_y ↦ d.consistent.sound.charged_keyed.cdrs i x has_x ∙ ap key (same_id h x y new_x new_y same alike) ∙ sym (d.consistent.sound.charged_keyed.cdrs j y has_y)
      ]
    ];
  }

none_billed : (line : SiteLine) → AreBilledOnce (opening line)
none_billed line = record {
  each = λ id v has complete. none_some v (sym (get-empty text_cmp id) ∙ has);
  only = λ id x has bill. none_some x (sym (get-empty text_cmp id) ∙ has);
  credits = λ id x has credit. none_some x (sym (get-empty text_cmp id) ∙ has);
  once = λ i j x y has_x has_y same alike. none_some x (sym (get-empty text_cmp i) ∙ has_x);
}

pub sessions_are_billed_once : SessionsAreBilledOnce
sessions_are_billed_once line es t own run =
    (kept_runs Happens (λ z. IsConsistent z × AreBilledOnce z) (λ a b e h before. let d = does a b e before.0 h in (d.consistent, billed_stays a b e before.0 d before.1)) (opening line) t es run
    (opening_consistent line own, none_billed line)).1

pub records_stay : RecordsStay
records_stay s t es fine run id x has =
    (kept_runs Happens (λ z. IsConsistent z × (get z.rows.charged.cdrs id ≡ Some x)) (λ a b e h before. let d = does a b e before.0 h in (d.consistent, record_stays a b e before.0 d id x before.1)) s t es run (fine, has)).1
