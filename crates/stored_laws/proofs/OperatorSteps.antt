-- An event of an operator, wherever the operator comes from: what is consistent and whole stays so.
use Rattle.std.proofs.Common.{◌≡◌, ◌≢◌, ◌+◌, ℕ, ℤ, Bool, true, false, List, [], ◌∷◌, inl, inr, refl, sym, ap, subst, ◌∙◌}
use Rattle.std.specs.Prelude.{Option, Some, None, Ok, Contains}
use Rattle.std.specs.FinMap.{get, get-empty}
use Rattle.tables.specs.Keys.{text_cmp}
use Rattle.tables.proofs.Options.{not_both}
use Rattle.ocpi_text.specs.OwnIds.{own_id_text}
use Rattle.ocpi_text.specs.Party.{party_at}
use Rattle.ocpi_text.specs.Text.{key}
use Rattle.ocpi_text.specs.declared.own_ids.OwnIdKind.TheVariants as own
use Rattle.ocpi_types.specs.Credits.{AreAlike, IsBill, IsCredit, credit_id, is_credit}
use Rattle.ocpi_types.specs.Prices.{price_at}
use Rattle.ocpi_types.specs.declared.cdrs.Cdr.{Cdr}
use Rattle.ocpi_types.specs.declared.events.ChargerEvent.{ChargerEvent}
use Rattle.ocpi_types.specs.declared.events.ChargerEvent.TheVariants as event
use Rattle.ocpi_types.specs.declared.rows.Change.TheVariants.{Put}
use Rattle.ocpi_types.specs.declared.rows.Row.TheVariants as row
use Rattle.ocpi_types.specs.declared.sessions.Session.{Session}
use Rattle.ocpi_types.specs.declared.setup.Node.{Node}
use Rattle.ocpi_types.specs.declared.setup.Node.TheVariants as node
use Rattle.ocpi_types.specs.declared.site.Site.{Site}
use Rattle.ocpi_types.specs.declared.site.SiteLine.{SiteLine}
use Rattle.ocpi_types.specs.declared.words.SessionStatus.{SessionStatus}
use Rattle.ocpi_types.specs.declared.words.SessionStatus.TheVariants.{Active, Completed, Invalid, Pending, Reservation}
use Rattle.session_state.proofs.PastLemmas.{never_pending}
use Rattle.session_state.specs.Pasts.{IsTurn, MayFollow}
use Rattle.session_state.specs.Resuming.{CannotResume}
use Rattle.session_tables.specs.Moves.{Ends, Makes}
use Rattle.stored_rows.specs.Given.{IsOwnId}
use Rattle.stored_rows.specs.Records.{IsCreditOfBill, IsRecordId, record_id_text}
use Rattle.stored_rows.proofs.RecordNumbers.{bill_made}
use Rattle.operator_rows.specs.State.{State, opening}
use Rattle.operator_rows.specs.Sound.{IsConsistent}
use Rattle.operator_rows.specs.Steps.{IsNextOf, MayReopen, reopened}
use Rattle.operator_rows.proofs.KeepingTimes.{opening_consistent}
use Rattle.operator_steps.specs.Events as events
use Rattle.operator_steps.specs.Events.{Event, Happens}
use Rattle.operator_steps.specs.Moves.{Out}
use Rattle.operator_stored.specs.Whole.{AreBilled, IsWhole}
use Rattle.operator_stored.proofs.BadRows.{bill_or_credit}
use Rattle.session_laws.specs.Bills.{IsFirstCredit}
use Rattle.session_laws.proofs.Billing.{puts_records, record_from, records_stay, session_from}
use Rattle.session_laws.proofs.Caused.{cdr_cause, session_cause}
use Rattle.session_laws.proofs.Causes.{Begun, Billed, CdrCause, Credited, Moved, SessionCause}
use Rattle.session_laws.proofs.Doing.{does}
use Rattle.operator_laws.specs.Laws.{setup_of}
use Rattle.world_laws.proofs.Steady.{asks_none, does_none, event_keeps}
use Rattle.session_laws.proofs.Versions.{stands, stays}
use Rattle.stored_laws.specs.Nodes.{CanStartAgain}
use Rattle.world_laws.specs.Laws.{IsSetup}
use Rattle.world_steps.specs.Steps as steps
use Rattle.world_steps.specs.Steps.{OperatorDoes}
use Rattle.world_steps.specs.World.{providers_of, Operates, opening_of}

-- no status turns to RESERVATION, and COMPLETED turns to none
never_reserved : (a : SessionStatus) → IsTurn a Reservation → ⊥
never_reserved Active turn = turn
never_reserved Completed turn = turn
never_reserved Invalid turn = turn
never_reserved Pending turn = turn
never_reserved Reservation turn = turn

completed_is_last : (b : SessionStatus) → IsTurn Completed b → ⊥
completed_is_last Active turn = turn
completed_is_last Completed turn = turn
completed_is_last Invalid turn = turn
completed_is_last Pending turn = turn
completed_is_last Reservation turn = turn

pending_differs : Pending ≡ Reservation → ⊥
pending_differs is = cc

-- a session can go on from a version that may come next
next_resumes : (price : ℕ → ℤ) (o : Option Session) (v : Session) → IsNextOf price o v → ¬ CannotResume (price v.start_date_time) v
next_resumes price None v next (inl reserved) = pending_differs (sym next.0 ∙ reserved)
next_resumes price None v next (inr (inl unpriced)) = unpriced next.1
next_resumes price None v next (inr (inr charged)) = charged next.2
next_resumes price (Some w) v next (inl reserved) = never_reserved w.status (subst (IsTurn w.status) reserved next.turn)
next_resumes price (Some w) v next (inr (inl unpriced)) = unpriced next.priced
next_resumes price (Some w) v next (inr (inr charged)) = charged (λ pending. absurd (never_pending w.status v.status next.turn pending))

-- a version that a report makes is of the session that it was
ended_of : (at : ℕ) (v w : Session) → Ends at v w → w.id ≡ v.id
ended_of at v w (inl completes) = ap (λ (z : Session). z.id) completes.1
ended_of at v w (inr voids) = ap (λ (z : Session). z.id) voids.1

made_of : (price : ℤ) (at : ℕ) (report : ChargerEvent) (v w : Session) → Makes price at report v w → w.id ≡ v.id
made_of price at (event.Starts evse) v w made = ap (λ (z : Session). z.id) made.1
made_of price at (event.Meter evse kwh) v w made = ap (λ (z : Session). z.id) made.2
made_of price at (event.Stops evse) v w made = ended_of at v w made
made_of price at (event.Fault evse) v w made = ended_of at v w made
made_of price at (event.Accepts provider number) v w made = absurd made
made_of price at (event.Refuses provider number) v w made = absurd made
made_of price at (event.Unlocked provider number) v w made = absurd made
made_of price at (event.Swipe evse connector uid type) v w made = absurd made

-- an event that is no start under another setup
module _ (s t : State) (e : Event) (steady : setup_of e.input ≡ []) (fine : IsConsistent s) (whole : IsWhole s) (happens : Happens s e t) where
  -- the ids of what the event puts are the operator's own
  own_session : (v : Session) → SessionCause s e.input (does s t e fine happens).acts v → (n : ℕ) × IsOwnId own.Session s.party v.id n
  own_session v (Begun at n b how above within is reference) = (n, record { is_number = within; made = ap (λ (z : Session). z.id) is })
  own_session v (Moved at report reports m is) =
      let made : v.id ≡ m.before.id = ap (λ (z : Session). z.id) is ∙ made_of (price_at s.site m.before.start_date_time) at report m.before m.after m.moves.makes in
      subst (λ (id : List ℕ). (n : ℕ) × IsOwnId own.Session s.party id n) (sym made) (whole.sessions (key m.before.id) m.before m.moves.here.stands)

  own_bill : (x : Cdr) → IsBill x → CdrCause s e.input (does s t e fine happens).acts x → (n : ℕ) × IsRecordId s.party x n
  own_bill x bill (Billed at report reports m complete l c k place within is) =
      let n = s.rows.charged.last_cdr + 1 in
      (n, subst (λ (z : Cdr). IsRecordId s.party z n) (sym is) (record { is_number = within; made = refl }))
  own_bill x bill (Credited at session orders y to takes is) = let never : true ≡ false = sym (ap is_credit is) ∙ bill in absurd (cc)

  first_credit : (x : Cdr) → Contains e.changes (Put (row.Cdr x)) → IsCredit x → IsFirstCredit s x
  first_credit x i credit = (puts_records s t e fine (does s t e fine happens)).credits x i credit

  -- a credit has the number of its bill
  own_credit : (x : Cdr) → IsCredit x → IsFirstCredit s x → (n : ℕ) × IsRecordId s.party x n
  own_credit x credit c =
      let (n, own) = whole.cdrs (key c.bill.id) c.bill c.stands in (
        n,
        record {
          is_number = own.is_number;
          made = ap (λ (z : Cdr). z.id) c.takes_back ∙ ap credit_id (bill_made s.party c.bill n own c.is_bill).made ∙ sym (ap (λ (b : Bool). record_id_text b s.party n) credit);
        },
      )

  own_cdr : (x : Cdr) → Contains e.changes (Put (row.Cdr x)) → (n : ℕ) × IsRecordId s.party x n
  own_cdr x i = elim (bill_or_credit x) [
    | inl bill ↦ own_bill x bill (cdr_cause s t e fine (does s t e fine happens) x i)
    | inr credit ↦ own_credit x credit (first_credit x i credit)
  ]

  sessions_stay : (id : List ℕ) (v : Session) → get t.rows.charged.sessions id ≡ Some v → (n : ℕ) × IsOwnId own.Session t.party v.id n
  sessions_stay id v has =
      let d = does s t e fine happens in
      subst (λ (p : List ℕ). (n : ℕ) × IsOwnId own.Session p v.id n) (sym d.party) (elim (session_from s t e fine d id v has) [
        | inl old ↦ whole.sessions id v old
        | inr i ↦ own_session v (session_cause s t e fine d v i)
      ])

  resumable_stay : (id : List ℕ) (v : Session) → get t.rows.charged.sessions id ≡ Some v → ¬ CannotResume (price_at t.site v.start_date_time) v
  resumable_stay id v has =
      let d = does s t e fine happens in
      subst (λ (z : Site). ¬ CannotResume (price_at z v.start_date_time) v) (sym (event_keeps s t e steady d.under).0) (elim (session_from s t e fine d id v has) [
        | inl old ↦ whole.resumable id v old
        | inr i ↦ next_resumes (price_at s.site) (get s.rows.charged.sessions (key v.id)) v (d.sessions v i)
      ])

  cdrs_stay : (id : List ℕ) (x : Cdr) → get t.rows.charged.cdrs id ≡ Some x → (n : ℕ) × IsRecordId t.party x n
  cdrs_stay id x has =
      let d = does s t e fine happens in
      subst (λ (p : List ℕ). (n : ℕ) × IsRecordId p x n) (sym d.party) (elim (record_from s t e fine d id x has) [
        | inl old ↦ whole.cdrs id x old
        | inr i ↦ own_cdr x i
      ])

  -- no version is put of a session that is COMPLETED, which stays
  none_after : (id : List ℕ) (v w : Session) → get s.rows.charged.sessions id ≡ Some v → v.status ≡ Completed → Contains e.changes (Put (row.Session w)) → key w.id ≢ id
  none_after id v w has complete i at =
      let next : IsNextOf (price_at s.site) (get s.rows.charged.sessions id) w =
      subst (λ (k : List ℕ). IsNextOf (price_at s.site) (get s.rows.charged.sessions k) w) at ((does s t e fine happens).sessions w i) in
      let follows : MayFollow (price_at s.site) v w = subst (λ (o : Option Session). IsNextOf (price_at s.site) o w) has next in
      completed_is_last w.status (subst (λ (a : SessionStatus). IsTurn a w.status) complete follows.turn)

  completed_stays : (id : List ℕ) (v : Session) → get s.rows.charged.sessions id ≡ Some v → v.status ≡ Completed → get t.rows.charged.sessions id ≡ Some v
  completed_stays id v has complete = stays s t e (does s t e fine happens) id fine (λ w i. none_after id v w has complete i) ∙ has

  -- a bill that the event puts is of a session that had none, and has one id
  no_bill_before : (x y : Cdr) (j : List ℕ) → IsBill x → Contains e.changes (Put (row.Cdr x)) → get s.rows.charged.cdrs j ≡ Some y → key x.session_id ≢ key y.session_id
  no_bill_before x y j bill i has same =
      let (v, put, r) = (puts_records s t e fine (does s t e fine happens)).only x i bill in
      let (w, had, complete) = whole.billed.only j y has in
      none_after (key y.session_id) w v had complete put (ap key (sym r.bills.session) ∙ same)

  next_id : (x : Cdr) → IsBill x → Contains e.changes (Put (row.Cdr x)) → x.id ≡ own_id_text own.Cdr s.party (s.rows.charged.last_cdr + 1)
  next_id x bill i = let (v, put, r) = (puts_records s t e fine (does s t e fine happens)).only x i bill in ap (λ (z : Cdr). z.id) r.record_is

  -- a credit is of its bill's session
  of_session : (x : Cdr) (c : IsFirstCredit s x) → x.session_id ≡ c.bill.session_id
  of_session x c = ap (λ (z : Cdr). z.session_id) c.takes_back

  -- a record that the event puts is of a session that had none that is alike
  had_none : (x y : Cdr) (j : List ℕ) → Contains e.changes (Put (row.Cdr x)) → get s.rows.charged.cdrs j ≡ Some y → AreAlike x y → key x.session_id ≢ key y.session_id
  had_none x y j i has alike same = elim (bill_or_credit x) [
    | inl bill ↦ no_bill_before x y j bill i has same
    | inr credit ↦ (let c = first_credit x i credit in c.first j y has (sym same ∙ ap key (of_session x c)) (sym alike ∙ credit))
  ]

  -- and two that are alike, of one session, have one id
  same_bills : (x y : Cdr) (c : IsFirstCredit s x) (d : IsFirstCredit s y) → key x.session_id ≡ key y.session_id → c.bill ≡ d.bill
  same_bills x y c d same =
      let one = whole.billed.once (key c.bill.id) (key d.bill.id) c.bill d.bill c.stands d.stands (c.is_bill ∙ sym d.is_bill)
      (ap key (sym (of_session x c)) ∙ same ∙ ap key (of_session y d)) in
      let both : Some c.bill ≡ Some d.bill = sym c.stands ∙ ap (get s.rows.charged.cdrs) one ∙ d.stands in
      cc

  same_id : (x y : Cdr) → Contains e.changes (Put (row.Cdr x)) → Contains e.changes (Put (row.Cdr y)) → AreAlike x y → key x.session_id ≡ key y.session_id → x.id ≡ y.id
  same_id x y i j alike same = elim (bill_or_credit x) [
    | inl bill ↦ next_id x bill i ∙ sym (next_id y (sym alike ∙ bill) j)
    | inr credit ↦
        (let c = first_credit x i credit in
        let d = first_credit y j (sym alike ∙ credit) in
        ap (λ (z : Cdr). z.id) c.takes_back ∙ ap (λ (z : Cdr). credit_id z.id) (same_bills x y c d same) ∙ sym (ap (λ (z : Cdr). z.id) d.takes_back))
  ]

  -- the session of a record that the event puts is COMPLETED
  ended : (x : Cdr) → Contains e.changes (Put (row.Cdr x)) → (v : Session) × (get t.rows.charged.sessions (key x.session_id) ≡ Some v) × (v.status ≡ Completed)
  ended x i = elim (bill_or_credit x) [
    | inl bill ↦
        (let d = does s t e fine happens in
        let (v, put, r) = (puts_records s t e fine d).only x i bill in
        (v, stands s t e d (key x.session_id) v put (ap key (sym r.bills.session)), r.bills.completed))
    | inr credit ↦
        (let c = first_credit x i credit in
        (c.version, completed_stays (key x.session_id) c.version (ap (λ (k : List ℕ). get s.rows.charged.sessions (key k)) (of_session x c) ∙ c.newest) c.completed, c.completed))
  ]

  record_stays : (id : List ℕ) (x : Cdr) → get s.rows.charged.cdrs id ≡ Some x → get t.rows.charged.cdrs id ≡ Some x
  record_stays id x had = records_stay s t (e ∷ []) fine (t, happens, refl) id x had

  its_bill : (x : Cdr) (c : IsFirstCredit s x) → (y : Cdr) × (get t.rows.charged.cdrs (key y.id) ≡ Some y) × IsCreditOfBill y x
  its_bill x c = (
    c.bill,
    record_stays (key c.bill.id) c.bill c.stands,
    record {
      is_bill = c.is_bill;
      reference = ap (λ (z : Cdr). z.credit_reference_id) c.takes_back;
      id = ap (λ (z : Cdr). z.id) c.takes_back;
      session = ap key (of_session x c);
    },
  )

  billed_stay : AreBilled t.rows
  billed_stay =
      let d = does s t e fine happens in
      record {
        each = λ id v has complete. elim (session_from s t e fine d id v has) [
          | inl old ↦ (let (x, had, bill, same) = whole.billed.each id v old complete in (x, record_stays (key x.id) x had, bill, same))
          | inr i ↦ (let (x, put, r) = (puts_records s t e fine d).each v i complete in (x, (d.rows (row.Cdr x)).1 (inl put), r.bills.bill, ap key r.bills.session))
        ];
        only = λ id x has. elim (record_from s t e fine d id x has) [
          | inl old ↦ (let (v, had, complete) = whole.billed.only id x old in (v, completed_stays (key x.session_id) v had complete, complete))
          | inr i ↦ ended x i
        ];
        once = λ i j x y has_x has_y alike same. elim (record_from s t e fine d i x has_x) [
          | inl old_x ↦ elim (record_from s t e fine d j y has_y) [
            | inl old_y ↦ whole.billed.once i j x y old_x old_y alike same
            | inr new_y ↦ absurd (had_none y x i new_y old_x (sym alike) (sym same))
          ]
          | inr new_x ↦ elim (record_from s t e fine d j y has_y) [
            | inl old_y ↦ absurd (had_none x y j new_x old_y alike same)
            | inr new_y ↦
                d.consistent.sound.charged_keyed.cdrs i x has_x ∙ ap key (same_id x y new_x new_y alike same) ∙ sym (d.consistent.sound.charged_keyed.cdrs j y has_y)
          ]
        ];
        credited = λ id x has credit. elim (record_from s t e fine d id x has) [
          | inl old ↦ (let (y, had, its) = whole.billed.credited id x old credit in (y, record_stays (key y.id) y had, its))
          | inr i ↦ its_bill x (first_credit x i credit)
        ];
      }

  pub happens_stays : IsConsistent t × IsWhole t
  happens_stays = (
    (does s t e fine happens).consistent,
    record { sessions = sessions_stay; resumable = resumable_stay; cdrs = cdrs_stay; billed = billed_stay },
  )

-- so it is after all that an operator of a world does
pub operators_stay : (s t : State) (e : Event) → IsConsistent s → IsWhole s → OperatorDoes s e t → IsConsistent t × IsWhole t
operators_stay s t e fine whole (steps.Done by) = happens_stays s t e (does_none s e t (steps.Done by)) fine whole (events.Done by)
operators_stay s t e fine whole (steps.Restarted restarts is) = happens_stays s t e (does_none s e t (steps.Restarted restarts is)) fine whole (events.Restarted restarts is)

-- and where it starts again under another setup
pub reopened_is_whole : (s : State) (line : SiteLine) → MayReopen s line → IsWhole s → IsWhole (reopened line s)
reopened_is_whole s line may whole = record { sessions = whole.sessions; resumable = may.resumable; cdrs = whole.cdrs; billed = whole.billed }

-- so it is after whatever happens to an operator
pub all_stay : (s t : State) (e : Event) → IsConsistent s → IsWhole s → Happens s e t → IsConsistent t × IsWhole t
all_stay s t e fine whole (events.Done by) = happens_stays s t e (asks_none s e.input by.work by.line) fine whole (events.Done by)
all_stay s t e fine whole (events.Restarted now is) = happens_stays s t e (ap setup_of now) fine whole (events.Restarted now is)
all_stay s t e fine whole (events.Reopened line now may is) =
    ((does s t e fine (events.Reopened line now may is)).consistent, subst (λ (o : Out). IsWhole o.state) (sym is) (reopened_is_whole s line may whole))
all_stay s t e fine whole (events.Refused same_setup is) = (subst (λ (o : Out). IsConsistent o.state) (sym is) fine, subst (λ (o : Out). IsWhole o.state) (sym is) whole)

-- and at the opening
pub opening_is_whole : (line : SiteLine) → party_at line.parties.operator ≡ Ok line.parties.operator → IsConsistent (opening line) × IsWhole (opening line)
opening_is_whole line party = (
  opening_consistent line party,
  record {
    sessions = λ id v has. absurd (not_both v _ (get-empty text_cmp id) has);
    resumable = λ id v has. absurd (not_both v _ (get-empty text_cmp id) has);
    cdrs = λ id x has. absurd (not_both x _ (get-empty text_cmp id) has);
    billed = record {
      each = λ id v has complete. absurd (not_both v _ (get-empty text_cmp id) has);
      only = λ id x has. absurd (not_both x _ (get-empty text_cmp id) has);
      once = λ i j x y has_x has_y alike same. absurd (not_both x _ (get-empty text_cmp i) has_x);
      credited = λ id x has credit. absurd (not_both x _ (get-empty text_cmp id) has);
    };
  },
)

-- an operator that can start again can after what it does, and so can each operator of a setup before its first event
pub operators_can_start_again : (s t : State) (e : Event) → CanStartAgain (Operates s) → OperatorDoes s e t → CanStartAgain (Operates t)
operators_can_start_again s t e can step = let h = operators_stay s t e can.sound can.whole step in record { sound = h.0; whole = h.1 }

pub operator_openings_can_start_again : (setup : List Node) → IsSetup setup → (party : List ℕ) (site : Site) → Contains setup (node.Operator party site) →
    CanStartAgain (opening_of setup (node.Operator party site))
operator_openings_can_start_again setup is_setup party site i =
    let line : SiteLine = record { at = 0; parties = record { operator = party; providers = providers_of setup }; site = site } in
    let h = opening_is_whole line (is_setup.parties (node.Operator party site) i) in
    record { sound = h.0; whole = h.1 }
