-- The currency of sessions and charge detail records: a session begins in that of its site and keeps it, and a record
-- has its session's, or its bill's.
use Rattle.std.proofs.Common.{◌≡◌, ℕ, ℤ, List, [], ◌∷◌, inl, inr, refl, sym, ap, subst, ◌∙◌}
use Rattle.std.specs.Prelude.{Contains}
use Rattle.std.specs.FinMap.{get-empty}
use Rattle.std.proofs.lemmas.Bool.{cases_Bool}
use Rattle.tables.specs.Keys.{text_cmp}
use Rattle.tables.proofs.Options.{none_some}
use Rattle.ocpi_text.specs.Text.{key}
use Rattle.ocpi_types.specs.Credits.{is_credit}
use Rattle.ocpi_types.specs.Prices.{price_at}
use Rattle.ocpi_types.specs.declared.cdrs.Cdr.{Cdr}
use Rattle.ocpi_types.specs.declared.events.ChargerEvent.{ChargerEvent}
use Rattle.ocpi_types.specs.declared.events.ChargerEvent.TheVariants as event
use Rattle.ocpi_types.specs.declared.rows.Change.TheVariants.{Put}
use Rattle.ocpi_types.specs.declared.rows.Row.TheVariants as row
use Rattle.ocpi_types.specs.declared.sessions.Session.{Session}
use Rattle.ocpi_types.specs.declared.site.Site.{Site}
use Rattle.ocpi_types.specs.declared.site.SiteLine.{SiteLine}
use Rattle.session_tables.specs.Moves.{Ends, Makes}
use Rattle.std.proofs.lemmas.List.Elements.{Contains-append_left, Contains-append_right}
use Rattle.tables.proofs.Elements.{in_front}
use Rattle.operator_laws.specs.Laws.{Run, setup_of, setups_in}
use Rattle.operator_laws.proofs.events.Doing.{IsUnder, Same, Other}
use Rattle.operator_rows.specs.State.{State, opening}
use Rattle.operator_rows.specs.Sound.{IsConsistent}
use Rattle.operator_rows.proofs.KeepingTimes.{opening_consistent}
use Rattle.operator_steps.specs.Events.{Event}
use Rattle.session_laws.specs.Bills.{AreInCurrency, CurrenciesAreOfSite}
use Rattle.session_laws.proofs.Billing.{puts_records, record_from, session_from}
use Rattle.session_laws.proofs.Caused.{session_cause}
use Rattle.session_laws.proofs.Causes.{Begun, Moved, SessionCause}
use Rattle.session_laws.proofs.Doing.{Does, does}

abbrev currency_of : Session → List ℕ
currency_of v = v.currency

ends_keep : (at : ℕ) (v w : Session) → Ends at v w → w.currency ≡ v.currency
ends_keep at v w (inl (s, is)) = ap currency_of is
ends_keep at v w (inr (s, is)) = ap currency_of is

-- what a report makes of a version has its currency
makes_keep : (price : ℤ) (at : ℕ) (report : ChargerEvent) (v w : Session) → Makes price at report v w → w.currency ≡ v.currency
makes_keep price at (event.Starts e) v w (s, is) = ap currency_of is
makes_keep price at (event.Meter e kwh) v w (s, can, is) = ap currency_of is
makes_keep price at (event.Stops e) v w ends = ends_keep at v w ends
makes_keep price at (event.Fault e) v w ends = ends_keep at v w ends
makes_keep price at (event.Accepts p n) v w none = absurd none
makes_keep price at (event.Refuses p n) v w none = absurd none
makes_keep price at (event.Unlocked p n) v w none = absurd none
makes_keep price at (event.Swipe e k u t) v w none = absurd none

module _ (s t : State) (e : Event) (fine : IsConsistent s) (d : Does s e t) (h : AreInCurrency s) (site_is : s.site.currency ≡ t.site.currency) where
  -- a version that the event puts
  put_in : (v : Session) → SessionCause s e.input d.acts v → v.currency ≡ t.site.currency
  put_in v (Begun at n b how above within is only) = ap currency_of is ∙ site_is
  put_in v (Moved at report reports m is) =
      ap currency_of is ∙ makes_keep (price_at s.site m.before.start_date_time) at report m.before m.after m.moves.makes ∙ h.sessions (key m.before.id) m.before m.moves.here.stands ∙ site_is

  -- and a record
  record_in : (x : Cdr) → Contains e.changes (Put (row.Cdr x)) → x.currency ≡ t.site.currency
  record_in x i = elim (cases_Bool (is_credit x)) [
    | inl credit ↦ (let f = (puts_records s t e fine d).credits x i credit in ap (λ (z : Cdr). z.currency) f.takes_back ∙ h.cdrs (key f.bill.id) f.bill f.stands ∙ site_is)
    | inr bill ↦ (let (v, put, r) = (puts_records s t e fine d).only x i bill in ap (λ (z : Cdr). z.currency) r.record_is ∙ put_in v (session_cause s t e fine d v put))
  ]

  stays_in : AreInCurrency t
  stays_in = record {
    sessions = λ id v has. elim (session_from s t e fine d id v has) [
      | inl old ↦ h.sessions id v old ∙ site_is
      | inr i ↦ put_in v (session_cause s t e fine d v i)
    ];
    cdrs = λ id x has. elim (record_from s t e fine d id x has) [
      | inl old ↦ h.cdrs id x old ∙ site_is
      | inr i ↦ record_in x i
    ];
  }

none_in : (line : SiteLine) → AreInCurrency (opening line)
none_in line = record {
  sessions = λ id v has. none_some v (sym (get-empty text_cmp id) ∙ has);
  cdrs = λ id x has. none_some x (sym (get-empty text_cmp id) ∙ has);
}

-- the currency that an event leaves
currency_under : (c : List ℕ) (s u : State) (e : Event) → s.site.currency ≡ c → ((line : SiteLine) → Contains (setup_of e.input) line → line.site.currency ≡ c) → IsUnder s e.input u → u.site.currency ≡ c
currency_under c s u e is others (Same site same) = ap (λ (z : Site). z.currency) site ∙ is
currency_under c s u e is others (Other line now site same) = ap (λ (z : Site). z.currency) site ∙ others line (subst (λ i. Contains (setup_of i) line) (sym now) (in_front line []))

in_currency : (c : List ℕ) (es : List Event) (s t : State) → s.site.currency ≡ c → ((line : SiteLine) → Contains (setups_in es) line → line.site.currency ≡ c) → IsConsistent s → AreInCurrency s → Run s es t → AreInCurrency t
in_currency c [] s t is others fine h run = subst AreInCurrency (sym run) h
in_currency c (e ∷ es) s t is others fine h (u, first, rest) =
    let d = does s u e fine first in
    let now = currency_under c s u e is (λ line i. others line (Contains-append_left (setup_of e.input) (setups_in es) line i)) d.under in
    in_currency c es u t now (λ line i. others line (Contains-append_right (setup_of e.input) (setups_in es) line i)) d.consistent (stays_in s u e fine d h (is ∙ sym now)) rest

pub currencies_are_of_site : CurrenciesAreOfSite
currencies_are_of_site line es t own run one = in_currency line.site.currency es (opening line) t refl one (opening_consistent line own) (none_in line) run
