-- Bills and credits stay in the currency of their sessions.
use Rattle.std.proofs.Common.{◌≡◌, ℕ, Bool, true, false, List, [], ◌∷◌, inl, inr, refl, sym, ap, subst, ◌∙◌}
use Rattle.std.specs.Prelude.{Some, Contains}
use Rattle.std.specs.FinMap.{get}
use Rattle.std.proofs.lemmas.Bool.{cases_Bool}
use Rattle.tables.proofs.Elements.{in_none}
use Rattle.ocpi_text.specs.Text.{key}
use Rattle.ocpi_types.specs.Credits.{is_credit}
use Rattle.ocpi_types.specs.declared.cdrs.Cdr.{Cdr}
use Rattle.ocpi_types.specs.declared.rows.Change.TheVariants.{Put}
use Rattle.ocpi_types.specs.declared.rows.Row.TheVariants as row
use Rattle.ocpi_types.specs.declared.sessions.Session.{Session}
use Rattle.ocpi_types.specs.declared.site.SiteLine.{SiteLine}
use Rattle.ocpi_types.specs.declared.words.SessionStatus.{SessionStatus}
use Rattle.ocpi_types.specs.declared.words.SessionStatus.TheVariants.{Completed}
use Rattle.session_state.specs.Pasts.{IsFinal}
use Rattle.node_laws.proofs.Runs.{kept_runs}
use Rattle.operator_rows.specs.Sound.{IsConsistent}
use Rattle.operator_rows.specs.State.{Rows, State, opening}
use Rattle.operator_rows.proofs.KeepingTimes.{opening_consistent}
use Rattle.operator_steps.specs.Events.{Event, Happens}
use Rattle.operator_stored.proofs.RowsTell.{rows_tell}
use Rattle.operator_laws.specs.Laws.{IsOfParty, Run}
use Rattle.session_laws.specs.Bills.{AreBilledOnce, Bills}
use Rattle.session_laws.specs.Pasts.{stored}
use Rattle.session_laws.proofs.Billing.{billed_stays, final_kept, puts_records, record_from, sessions_are_billed_once}
use Rattle.session_laws.proofs.Doing.{Does, does}
use Rattle.session_laws.proofs.Versions.{stands}
use Rattle.session_laws.proofs.Currencies.{currencies_are_of_site}
use Rattle.currency_laws.specs.Currencies.{AreInOwnCurrency, CurrenciesStay, Serves, Service, StartsUnder}

final_of : (status : SessionStatus) → status ≡ Completed → IsFinal status
final_of status is = subst IsFinal (sym is) tt

same_stored : (s : State) (id : List ℕ) (v w : Session) → stored s id ≡ Some v → stored s id ≡ Some w → v ≡ w
same_stored s id v w has also = let both : Some v ≡ Some w = sym has ∙ also in cc

-- the session of a record, as it stands
record OfSession (s : State) (x : Cdr) : Type 0 where
  version : Session
  has : stored s (key x.session_id) ≡ Some version
  completed : version.status ≡ Completed

session_of : (s : State) → AreBilledOnce s → (id : List ℕ) (x : Cdr) → get s.rows.charged.cdrs id ≡ Some x → OfSession s x
session_of s once id x stands_there = by (is_credit x) refl
  where
    of : (y : Cdr) → x.session_id ≡ y.session_id → (v : Session) → stored s (key v.id) ≡ Some v → Bills v y → OfSession s x
    of y same v has b = record { version = v; has = ap (λ (k : List ℕ). stored s (key k)) (same ∙ b.session) ∙ has; completed = b.completed }

    by : (credit : Bool) → is_credit x ≡ credit → OfSession s x
    by false kind = let (v, has, b) = once.only id x stands_there kind in of x refl v has b
    by true kind =
        let (bill, there, is_bill, takes) = once.credits id x stands_there kind in
        let (v, has, b) = once.only (key bill.id) bill there is_bill in
        of bill (ap (λ (z : Cdr). z.session_id) takes) v has b

module _ (s t : State) (e : Event) (fine : IsConsistent s) (d : Does s e t) (h : AreInOwnCurrency s) where
  -- a record from before has its session, which ended
  old_in : (id : List ℕ) (x : Cdr) → get s.rows.charged.cdrs id ≡ Some x → (v : Session) → stored t (key x.session_id) ≡ Some v → x.currency ≡ v.currency
  old_in id x has v now =
      let of = session_of s h.billed id x has in
      let kept = final_kept s t e fine d (key x.session_id) of.version of.has (final_of of.version.status of.completed) in
      h.own id x has of.version of.has ∙ ap (λ (z : Session). z.currency) (same_stored t (key x.session_id) of.version v kept now)

  -- a record that the event puts
  new_in : (x : Cdr) → Contains e.changes (Put (row.Cdr x)) → (v : Session) → stored t (key x.session_id) ≡ Some v → x.currency ≡ v.currency
  new_in x i v now = elim (cases_Bool (is_credit x)) [
    | inl credit ↦ (
        let f = (puts_records s t e fine d).credits x i credit in
        let same : x.session_id ≡ f.bill.session_id = ap (λ (z : Cdr). z.session_id) f.takes_back in
        let kept = final_kept s t e fine d (key f.bill.session_id) f.version f.newest (final_of f.version.status f.completed) in
        ap (λ (z : Cdr). z.currency) f.takes_back
        ∙ h.own (key f.bill.id) f.bill f.stands f.version f.newest
        ∙ ap (λ (z : Session). z.currency) (same_stored t (key f.bill.session_id) f.version v kept (ap (λ (k : List ℕ). stored t (key k)) (sym same) ∙ now))
        )
    | inr bill ↦ (
        let (w, put, r) = (puts_records s t e fine d).only x i bill in
        let there : stored t (key w.id) ≡ Some w = stands s t e d (key w.id) w put refl in
        ap (λ (z : Cdr). z.currency) r.record_is
        ∙ ap (λ (z : Session). z.currency) (same_stored t (key w.id) w v there (ap (λ (k : List ℕ). stored t (key k)) (sym r.bills.session) ∙ now))
        )
  ]

  stays : AreInOwnCurrency t
  stays = record {
    billed = billed_stays s t e fine d h.billed;
    own = λ id x has v now. elim (record_from s t e fine d id x has) [
      | inl old ↦ old_in id x old v now
      | inr i ↦ new_in x i v now
    ];
  }

abbrev AtAnyTime : State → Type 0
AtAnyTime s = IsConsistent s × AreInOwnCurrency s

run_stays : (s t : State) (es : List Event) → Run s es t → AtAnyTime s → AtAnyTime t
run_stays s t es run h = kept_runs Happens AtAnyTime (λ a b e step before. let d = does a b e before.0 step in (d.consistent, stays a b e before.0 d before.1)) s t es run h

start_stays : (line : SiteLine) (s t : State) → StartsUnder line s t → AtAnyTime s → AtAnyTime t
start_stays line s t start h =
    let same : s.rows ≡ t.rows = rows_tell start.rows s t h.0.sound start.consistent.sound start.left start.made.has_rows in (
      start.consistent,
      record {
        billed = of_rows same h.1.billed;
        own = λ id x has v now. h.1.own id x (ap (λ (r : Rows). get r.charged.cdrs id) same ∙ has) v (ap (λ (r : Rows). get r.charged.sessions (key x.session_id)) same ∙ now);
      },
    )
  where
    of_rows : s.rows ≡ t.rows → AreBilledOnce s → AreBilledOnce t
    of_rows same before =
        let b = subst (λ (r : Rows). AreBilledOnce (record s { rows = r })) same before in
        record { each = b.each; only = b.only; credits = b.credits; once = b.once }

serves_stays : (s : State) (xs : List Service) (t : State) → Serves s xs t → AtAnyTime s → AtAnyTime t
serves_stays s [] t is h = subst AtAnyTime (sym is) h
serves_stays s (x ∷ xs) t (u, v, start, run, rest) h = serves_stays v xs t rest (run_stays u v x.events run (start_stays x.line s u start h))

at_first : (line : SiteLine) → IsOfParty line → AtAnyTime (opening line)
at_first line own = (
  opening_consistent line own,
  record {
    billed = sessions_are_billed_once line [] (opening line) own refl;
    own = λ id x has v now. let all = currencies_are_of_site line [] (opening line) own refl (λ other i. absurd (in_none other i)) in all.cdrs id x has ∙ sym (all.sessions (key x.session_id) v now);
  },
)

pub currencies_stay : CurrenciesStay
currencies_stay line es s xs t own run serves = (serves_stays s xs t serves (run_stays (opening line) s es run (at_first line own))).1
