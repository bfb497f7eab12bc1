-- The charge detail records of an operator of a reached world: for whom they are, what a credit has of its bill, and what
-- an order comes to.
use Rattle.std.proofs.Common.{◌≡◌, ◌<◌, ◌++◌, ℕ, true, false, List, [], ◌∷◌, inl, inr, refl, sym, ap, subst, ◌∙◌}
use Rattle.std.specs.Prelude.{Bool, Option, Some, None, Contains, codes, is_some}
use Rattle.std.specs.Char.{to_ascii_uppercase}
use Rattle.std.specs.FinMap.{get, get-empty}
use Rattle.std.proofs.lemmas.List.{append_cancel_right, map-append}
use Rattle.tables.specs.Keys.{text_cmp}
use Rattle.tables.proofs.Options.{none_some}
use Rattle.ocpi_text.specs.Text.{key}
use Rattle.ocpi_text.specs.declared.own_ids.OwnIdKind.TheVariants as own
use Rattle.ocpi_types.specs.Credits.{IsBill, IsCredit, IsCreditOf}
use Rattle.ocpi_types.specs.declared.cdrs.Cdr.{Cdr}
use Rattle.ocpi_types.specs.declared.site.SiteLine.{SiteLine}
use Rattle.ocpi_types.specs.declared.stored.Push.TheVariants as push
use Rattle.stored_rows.specs.Records.{record_id_text}
use Rattle.stored_rows.proofs.CreditIds.{no_credit_id}
use Rattle.node_laws.proofs.Runs.{kept_runs}
use Rattle.node_steps.specs.Peers.{HasPeer}
use Rattle.operator_rows.specs.Sound.{IsConsistent}
use Rattle.operator_rows.specs.State.{State, opening}
use Rattle.operator_rows.proofs.KeepingTimes.{opening_consistent}
use Rattle.operator_steps.specs.Events.{Event, Happens}
use Rattle.operator_laws.specs.Laws.{IsOfParty, Run}
use Rattle.operator_laws.specs.Sessions.{IsPushStanding, WasTaken}
use Rattle.operator_laws.proofs.events.Doing.{does}
use Rattle.operator_laws.proofs.nodes.NodeLaws.{packets_are_addressed}
use Rattle.operator_laws.proofs.sessions.HandedOver.{versions_are_pushed}
use Rattle.operator_laws.proofs.sessions.Numbers.{ids_are_given}
use Rattle.operator_laws.proofs.standing.AtAllTimes.{always_consistent}
use Rattle.session_laws.proofs.Billing.{puts_records, record_from, records_stay}
use Rattle.session_laws.proofs.Doing as session_events
use Rattle.stored_laws.proofs.Operators.{operators_are_whole}
use Rattle.credit_laws.proofs.Orders.{orders_take_bills_back}
use Rattle.world_laws.specs.Laws.{IsReached}
use Rattle.world_laws.specs.Nodes.{OperatorOf}
use Rattle.operator_laws.specs.Laws.{setups_in}
use Rattle.world_laws.proofs.Steady.{of_first, setup_kept}
use Rattle.world_laws.proofs.NodeRuns.{line_of, operator_at}
use Rattle.world_steps.specs.World.{Place, World}
use Rattle.world_steps.proofs.Tracing.{traced}
use Rattle.reached_laws.specs.Records.{CreditIdsDiffer, CreditsAreOfBills, IsNumbered, OrdersTakeAnyBillBack, RecordsAreToPeers, bill_id, credit_id}

-- an operator of a reached world ran from its opening
record HasRun (s : State) : Type 0 where
  line : SiteLine
  by_form : IsOfParty line
  events : List Event
  run : Run (opening line) events s
  steady : setups_in events ≡ []

has_run : (w : World) → IsReached w → (o : List ℕ) (p : Place) (s : State) → OperatorOf w o p s → HasRun s
has_run w reached o p s of =
    let (hs, traces) = traced reached.setup reached.events w reached.run in
    let at = operator_at reached.setup reached.is_setup w hs traces o p s of in
    let line = line_of reached.setup at.trace.party at.trace.site in
    record {
      line = line;
      by_form = at.trace.by_form;
      events = at.trace.events;
      run = subst (λ (z : State). Run (opening line) at.trace.events z) at.state_is at.trace.run;
      steady = at.trace.steady;
    }

-- ---- for whom records are

module _ (s : State) (r : HasRun s) where
  consistent : IsConsistent s
  consistent = (always_consistent r.line r.events s r.by_form r.run).consistent

  -- the parties that it deals with are those of its opening
  same_providers : s.providers ≡ r.line.parties.providers
  same_providers = (setup_kept r.events (opening r.line) s r.run r.steady).1

  by_push : (x : Cdr) → IsPushStanding s (key x.cdr_token.party) (push.PostCdr x) → HasPeer s.providers (key x.cdr_token.party)
  by_push x h = subst (HasPeer s.providers) h.of_provider (consistent.sound.pushes h.number (record { to = h.to; push = push.PostCdr x }) h.stands)

  by_packet : (x : Cdr) → WasTaken r.events (key x.cdr_token.party) (push.PostCdr x) → HasPeer s.providers (key x.cdr_token.party)
  by_packet x h =
      let listed = of_first r.line r.events r.steady h.packet.to (packets_are_addressed r.line r.events s r.by_form r.run h.packet h.was_sent).1 in
      (h.packet.to, subst (λ (l : List (List ℕ)). Contains l h.packet.to) (sym same_providers) listed, h.of_provider)

  -- a record is pushed to such a party until that acknowledges it
  to_peer : (id : List ℕ) (x : Cdr) → get s.rows.charged.cdrs id ≡ Some x → HasPeer s.providers (key x.cdr_token.party)
  to_peer id x has = elim ((versions_are_pushed r.line r.events s r.by_form r.run).cdrs id x has) [
    | inl stands ↦ by_push x stands
    | inr taken ↦ by_packet x taken
  ]

pub records_are_to_peers : RecordsAreToPeers
records_are_to_peers w reached o p s of id x has = to_peer s (has_run w reached o p s of) id x has

pub orders_take_any_bill_back : OrdersTakeAnyBillBack
orders_take_any_bill_back w reached o p s of t e by at session input bill untaken =
    let r = has_run w reached o p s of in
    orders_take_bills_back s t e (record { sound = consistent s r; whole = operators_are_whole w reached o p s of }) by at session input bill untaken
    (to_peer s r (key bill.id) bill untaken.stands)

-- ---- credits

-- each credit is of a bill that stands, and later
record AreLater (s : State) : Type 0 where
  each : (id : List ℕ) (x : Cdr) → get s.rows.charged.cdrs id ≡ Some x → IsCredit x →
      (bill : Cdr) × (get s.rows.charged.cdrs (key bill.id) ≡ Some bill) × IsBill bill × IsCreditOf bill x × (bill.last_updated < x.last_updated)

none_later : (line : SiteLine) → AreLater (opening line)
none_later line = record { each = λ id x has credit. none_some x (sym (get-empty text_cmp id) ∙ has) }

later_stay : (s t : State) (e : Event) → IsConsistent s → Happens s e t → AreLater s → AreLater t
later_stay s t e fine happens h =
    let d = session_events.does s t e fine happens in
    let kept : (id : List ℕ) (x : Cdr) → get s.rows.charged.cdrs id ≡ Some x → get t.rows.charged.cdrs id ≡ Some x =
    λ id x had. records_stay s t (e ∷ []) fine (t, happens, refl) id x had in
    record {
      each = λ id x has credit. elim (record_from s t e fine d id x has) [
        | inl old ↦ (let (bill, had, is_bill, is, later) = h.each id x old credit in (bill, kept (key bill.id) bill had, is_bill, is, later))
        | inr i ↦ (let f = (puts_records s t e fine d).credits x i credit in (f.bill, kept (key f.bill.id) f.bill f.stands, f.is_bill, f.takes_back, f.later))
      ];
    }

are_later : (s : State) → HasRun s → AreLater s
are_later s r =
    (kept_runs Happens (λ (z : State). IsConsistent z × AreLater z) (λ a b e happens h. ((session_events.does a b e h.0 happens).consistent, later_stay a b e h.0 happens h.1))
    (opening r.line) s r.events r.run (opening_consistent r.line r.by_form, none_later r.line)).1

is_none : (o : Option (List ℕ)) → is_some o ≡ false → o ≡ None
is_none None bill = refl
is_none (Some named) bill = let never : true ≡ false = bill in absurd (cc)

-- a record that names another is a credit, and names its bill
names_bill : (bill x : Cdr) (named : List ℕ) → IsCreditOf bill x → x.credit_reference_id ≡ Some named → bill.id ≡ named
names_bill bill x named is names =
    let both : Some bill.id ≡ Some named = sym (ap (λ (z : Cdr). z.credit_reference_id) is) ∙ names in
    cc

pub credits_are_of_bills : CreditsAreOfBills
credits_are_of_bills w reached o p s of id x named has names =
    let (bill, stands, is_bill, is, later) = (are_later s (has_run w reached o p s of)).each id x has (ap is_some names) in
    let same : bill.id ≡ named = names_bill bill x named is names in (
      bill,
      subst (λ (k : List ℕ). get s.rows.charged.cdrs (key k) ≡ Some bill) same stands,
      record { is_bill = is_none bill.credit_reference_id is_bill; later = later; is = is },
    )

-- ---- ids

-- two ids that are followed by -C are one where they are one without it
same_key : (a b : List ℕ) → key (a ++ codes "-C") ≡ key (b ++ codes "-C") → key a ≡ key b
same_key a b same =
    append_cancel_right (key a) (key b) (key (codes "-C")) (sym (map-append to_ascii_uppercase a (codes "-C")) ∙ same ∙ map-append to_ascii_uppercase b (codes "-C"))

numbered : (s : State) (r : HasRun s) (id : List ℕ) (x : Cdr) (named : List ℕ) → get s.rows.charged.cdrs id ≡ Some x → x.credit_reference_id ≡ Some named → IsNumbered s x named
numbered s r id x named has names =
    let g = ((ids_are_given r.line r.events s r.by_form r.run).cdrs id x has).1 in
    let (bill, stands, is_bill, is, later) = (are_later s r).each id x has (ap is_some names) in
    let credit_is : x.id ≡ credit_id s g.number = g.id_is ∙ ap (λ (b : Bool). record_id_text b s.party g.number) (ap is_some names) in
    let its_bill : bill.id ≡ bill_id s g.number = append_cancel_right bill.id (bill_id s g.number) (codes "-C") (sym (ap (λ (z : Cdr). z.id) is) ∙ credit_is) in
    record {
      number = g.number;
      from_one = g.from_one;
      given = g.given;
      bill_is = sym (names_bill bill x named is names) ∙ its_bill;
      credit_is = credit_is;
    }

pub credit_ids_differ : CreditIdsDiffer
credit_ids_differ w reached o p s of =
    let r = has_run w reached o p s of in
    record {
      each = numbered s r;
      differ = λ m n first second same. (ids_are_given r.line r.events s r.by_form r.run).cdrs_differ m n first second (same_key (bill_id s m) (bill_id s n) same);
      apart = λ m n same. no_credit_id own.Cdr s.party m (bill_id s n) same;
    }
