-- What a provider owes an operator of a traced world: the costs of the sessions of which it holds a bill, each once, less
-- those of the sessions of which it holds a credit, each once.
use Rattle.std.proofs.Common.{◌≡◌, ◌≢◌, ℕ, ℤ, pos, List, Bool, true, false, cond, refl, sym, ap, subst, ◌∙◌, arith}
use Rattle.std.proofs.lemmas.Int.{ints}
use Rattle.std.specs.Prelude.{Option, Some, None, Contains, ◌-ℤ◌, neg_ℤ}
use Rattle.std.specs.List.{AllPairs, filter_map, last_or}
use Rattle.std.specs.Str.{bytes_eq}
use Rattle.std.specs.FinMap.{get, entries}
use Rattle.std.specs.Ordering.{eq_by_cmp}
use Rattle.std.specs.Cmp.{eq_by_cmp_equiv}
use Rattle.std.proofs.lemmas.Slice.Eq.{bytes_eq-Decides}
use Rattle.tables.specs.Keys.{text_pair_cmp, text_pair_exact, text_pair_total}
use Rattle.tables.proofs.Entries.{listed, listed_only}
use Rattle.tables.proofs.Maps.{equal_of_is_eq}
use Rattle.tables.proofs.Options.{none_some}
use Rattle.ocpi_text.specs.Text.{key}
use Rattle.ocpi_types.specs.Credits.{AreAlike, is_credit}
use Rattle.ocpi_types.specs.declared.cdrs.Cdr.{Cdr}
use Rattle.ocpi_types.specs.declared.sessions.Session.{Session}
use Rattle.ocpi_types.specs.declared.setup.Node.{Node}
use Rattle.handover.specs.Owed.{Account, account_of, cost_in, seen_by}
use Rattle.handover.proofs.Totals.{term_at}
use Rattle.operator_rows.specs.State as operator
use Rattle.provider_rows.specs.State as provider
use Rattle.world_laws.specs.Laws.{IsSetup}
use Rattle.world_laws.specs.Nodes.{HoldsCdr, OperatorOf, ProviderOf}
use Rattle.world_laws.specs.Safe.{AreOfHeld, Bills, BillsOnce, EndsAs, OwesForEach, cost_of}
use Rattle.world_laws.proofs.Billing.{billed, own_currency, own_keys, records, records_once}
use Rattle.world_laws.proofs.Gathering.{gathered_apart, gathered_difference, gathered_in, gathered_of, keys_apart, nothing_total}
use Rattle.world_laws.proofs.NodeRuns.{one_operator, one_provider}
use Rattle.world_steps.specs.Traces.{Histories, Traces}
use Rattle.world_steps.specs.World.{Place, World, past_of}

-- an amount as its own account sees it, and as another does
pub seen_same : (a b : Account) (z : ℤ) → a ≡ b → seen_by a b z ≡ z
seen_same a b z is = ap (λ (c : Bool). cond c z (pos 0)) (subst (λ (k : Account). eq_by_cmp text_pair_cmp a k ≡ true) is ((eq_by_cmp_equiv text_pair_total).refl a))

pub seen_other : (a b : Account) (z : ℤ) → a ≢ b → seen_by a b z ≡ pos 0
seen_other a b z apart = elim (eq_by_cmp text_pair_cmp a b) as (λ c. eq_by_cmp text_pair_cmp a b ≡ c → cond c z (pos 0) ≡ pos 0) [
  | true ↦ λ e. absurd (apart (text_pair_exact a b (equal_of_is_eq (text_pair_cmp a b) e)))
  | false ↦ λ e. refl
] refl

-- what is chosen by a test that may fail
pub chosen : {V : Type 0} (b : Bool) (x : Option V) (v : V) → cond b x None ≡ Some v → (b ≡ true) × (x ≡ Some v)
chosen true x v is = (refl, is)
chosen false x v is = none_some v is

pub same_some : {V : Type 0} (v w : V) (x : Option V) → x ≡ Some v → x ≡ Some w → v ≡ w
same_some v w x is also = let both : Some v ≡ Some w = sym is ∙ also in cc

abbrev pub Entry : Type 0
Entry = (List ℕ × List ℕ) × Cdr

-- what there is of a record that is a credit, or of one that is a bill, where just one kind is asked for
abbrev pub of_kind : {V : Type 0} → Bool → Bool → Option V → Option V
of_kind false credit x = cond credit None x
of_kind true credit x = cond credit x None

pub asked_kind : {V : Type 0} (asked credit : Bool) (x : Option V) (v : V) → of_kind asked credit x ≡ Some v → (credit ≡ asked) × (x ≡ Some v)
asked_kind false false x v is = (refl, is)
asked_kind false true x v is = none_some v is
asked_kind true false x v is = none_some v is
asked_kind true true x v is = (refl, is)

pub own_kind : {V : Type 0} (credit : Bool) (x : Option V) → of_kind credit credit x ≡ x
own_kind false x = refl
own_kind true x = refl

-- the last version of the session of a record
abbrev pub last_of : Place → Cdr → Option Session
last_of r x = last_or None (past_of (key x.session_id) r.versions)

-- the same, if the record is of that operator, and a credit or a bill as is asked for
abbrev version_of : Bool → List ℕ → Place → Entry → Option Session
version_of asked o r e = cond (bytes_eq e.0.0 o) (of_kind asked (is_credit e.1) (last_of r e.1)) None

-- what a record of either kind costs, of the cost of its session
abbrev pub counted : Bool → ℤ → ℤ
counted false cost = cost
counted true cost = neg_ℤ cost

-- it is what bills add, less what credits take off
pub counted_is : (credit : Bool) (x : Option Session) (v : Session) → x ≡ Some v → counted credit (cost_of v) ≡ term_at cost_of (of_kind false credit x) -ℤ term_at cost_of (of_kind true credit x)
counted_is false x v is = subst (λ (y : Option Session). cost_of v ≡ term_at cost_of y -ℤ pos 0) (sym is) (omega (arith, ints))
counted_is true x v is = subst (λ (y : Option Session). neg_ℤ (cost_of v) ≡ pos 0 -ℤ term_at cost_of y) (sym is) (omega (arith, ints))

-- the record is of the session of that version, and costs what it counts of that session's cost
pub record Counts (v : Session) (x : Cdr) : Type 0 where
  pub session : x.session_id ≡ v.id
  pub cost : x.total_cost.excl_vat ≡ counted (is_credit x) (cost_of v)

abbrev pub CountsLast : Place → Cdr → Type 0
CountsLast r x = (v : Session) × EndsAs r (key x.session_id) v × Counts v x

-- a bill has the cost of the version in which its session ended
pub bill_costs : (v : Session) (x : Cdr) → Bills v x → x.total_cost.excl_vat ≡ cost_of v
bill_costs v x b = sym (ap (λ z. elim z [ None ↦ pos 0 | Some cost ↦ cost.excl_vat ]) b.cost)

-- and a credit that negated
pub counts_last : (r : Place) (s : operator.State) → BillsOnce r s → (id : List ℕ) (x : Cdr) → get s.rows.charged.cdrs id ≡ Some x → CountsLast r x
counts_last r s once id x stands = by (is_credit x) refl
  where
    by : (credit : Bool) → is_credit x ≡ credit → CountsLast r x
    by false kind =
        let (v, ends, b) = once.only id x stands kind in
        (v, ends, record { session = b.session; cost = bill_costs v x b ∙ sym (ap (λ (c : Bool). counted c (cost_of v)) kind) })
    by true kind =
        let (bill, there, is_bill, takes) = once.credits id x stands kind in
        let (v, ends, b) = once.only (key bill.id) bill there is_bill in
        let same : x.session_id ≡ bill.session_id = ap (λ (z : Cdr). z.session_id) takes in
        let cost : x.total_cost.excl_vat ≡ neg_ℤ bill.total_cost.excl_vat = ap (λ (z : Cdr). z.total_cost.excl_vat) takes in (
          v,
          subst (λ (k : List ℕ). EndsAs r (key k) v) (sym same) ends,
          record { session = same ∙ b.session; cost = cost ∙ ap neg_ℤ (bill_costs v bill b) ∙ sym (ap (λ (c : Bool). counted c (cost_of v)) kind) },
        )

module _ (setup : List Node) (is_setup : IsSetup setup) (w : World) (hs : Histories) (traces : Traces setup w hs) where
  module _ (p o : List ℕ) (q r : Place) (t : provider.State) (s : operator.State) (of_provider : ProviderOf w p q t) (of_operator : OperatorOf w o r s) where
    abbrev held_entries : List Entry
    held_entries = entries t.rows.inbox.cdrs

    abbrev versions : Bool → List Session
    versions asked = filter_map (version_of asked o r) held_entries

    -- an entry is held of its operator
    holds : (e : Entry) → Contains held_entries e → HoldsCdr w p e.0.0 e.0.1 e.1
    holds e i = record { place = q; state = t; at = of_provider; held = listed_only text_pair_total text_pair_exact t.rows.inbox.cdrs e.0 e.1 i }

    holds_of : (e : Entry) → Contains held_entries e → e.0.0 ≡ o → HoldsCdr w p o e.0.1 e.1
    holds_of e i is = subst (λ (z : List ℕ). HoldsCdr w p z e.0.1 e.1) is (holds e i)

    -- what is held of the operator stands there
    stands : (id : List ℕ) (x : Cdr) → HoldsCdr w p o id x → get s.rows.charged.cdrs id ≡ Some x
    stands id x h =
        let c = records setup is_setup w hs traces p o id x h in
        let one = one_operator setup is_setup w hs traces o c.place r c.state s c.at of_operator in
        ap (λ (z : operator.State). get z.rows.charged.cdrs id) (sym one.1) ∙ c.stands

    -- and counts the last version of its session
    counts : (id : List ℕ) (x : Cdr) → HoldsCdr w p o id x → CountsLast r x
    counts id x h = counts_last r s (billed setup is_setup w hs traces o r s of_operator) id x (stands id x h)

    counts_that : (id : List ℕ) (x : Cdr) (v : Session) → HoldsCdr w p o id x → EndsAs r (key x.session_id) v → Counts v x
    counts_that id x v h ends =
        let (u, last, c) = counts id x h in
        subst (λ (z : Session). Counts z x) (same_some u v (last_of r x) last ends) c

    abbrev HeldAs : Bool → Session → Type 0
    HeldAs asked v = (id : List ℕ) × (x : Cdr) × HoldsCdr w p o id x × (is_credit x ≡ asked) × EndsAs r (key x.session_id) v

    -- whose version is gathered is of that operator and that kind
    record IsChosen (asked : Bool) (e : Entry) (v : Session) : Type 0 where
      mine : e.0.0 ≡ o
      kind : is_credit e.1 ≡ asked
      ends : EndsAs r (key e.1.session_id) v

    is_chosen : (asked : Bool) (e : Entry) (v : Session) → version_of asked o r e ≡ Some v → IsChosen asked e v
    is_chosen asked e v is =
        let (mine, rest) = chosen (bytes_eq e.0.0 o) (of_kind asked (is_credit e.1) (last_of r e.1)) v is in
        let (kind, ends) = asked_kind asked (is_credit e.1) (last_of r e.1) v rest in
        record { mine = (bytes_eq-Decides e.0.0 o).0 mine; kind = kind; ends = ends }

    gives_held : (asked : Bool) (v : Session) → Contains (versions asked) v → HeldAs asked v
    gives_held asked v i =
        let (e, j, is) = gathered_of (version_of asked o r) held_entries v i in
        let c = is_chosen asked e v is in
        (e.0.1, e.1, holds_of e j c.mine, c.kind, c.ends)

    is_given : (asked : Bool) (v : Session) → HeldAs asked v → Contains (versions asked) v
    is_given asked v (id, x, h, kind, ends) =
        let one = one_provider setup is_setup w hs traces p h.place q h.state t h.at of_provider in
        let had : get t.rows.inbox.cdrs (o, id) ≡ Some x = ap (λ (z : provider.State). get z.rows.inbox.cdrs (o, id)) (sym one.1) ∙ h.held in
        gathered_in (version_of asked o r) held_entries ((o, id), x) v (listed text_pair_total text_pair_exact t.rows.inbox.cdrs (o, id) x had)
        (ap (λ (b : Bool). cond b (of_kind asked (is_credit x) (last_of r x)) None) ((bytes_eq-Decides o o).1 refl)
        ∙ ap (λ (c : Bool). of_kind asked c (last_of r x)) kind
        ∙ own_kind asked (last_of r x)
        ∙ ends)

    versions_apart : (asked : Bool) → AllPairs (λ (v u : Session). key v.id ≢ key u.id) (versions asked)
    versions_apart asked = gathered_apart (version_of asked o r) (λ (e d : Entry). e.0 ≢ d.0) (λ (v u : Session). key v.id ≢ key u.id) held_entries
        (keys_apart text_pair_total text_pair_exact t.rows.inbox.cdrs)
        (λ e d v u i j differ v_is u_is same. apart e d v u i j differ (is_chosen asked e v v_is) (is_chosen asked d u u_is) same)
      where
        apart : (e d : Entry) (v u : Session) → Contains held_entries e → Contains held_entries d → e.0 ≢ d.0 → IsChosen asked e v → IsChosen asked d u → key v.id ≡ key u.id → ⊥
        apart e d v u i j differ v_of u_of same =
            let e_held = holds_of e i v_of.mine in
            let d_held = holds_of d j u_of.mine in
            let of_v = ap key (counts_that e.0.1 e.1 v e_held v_of.ends).session in
            let of_u = ap key (counts_that d.0.1 d.1 u d_held u_of.ends).session in
            let alike : AreAlike e.1 d.1 = v_of.kind ∙ sym u_of.kind in
            let ids = records_once setup is_setup w hs traces p o e.0.1 d.0.1 e.1 d.1 e_held d_held (of_v ∙ same ∙ sym of_u) alike in
            let operators = v_of.mine ∙ sym u_of.mine in
            differ (λ k. (operators k, ids k))

    are_of_held : (asked : Bool) → AreOfHeld asked w p o r (versions asked)
    are_of_held asked = record { each = λ v. (gives_held asked v, is_given asked v); once = versions_apart asked }

    -- a record of the operator has its currency
    in_currency : (e : Entry) → Contains held_entries e → e.0.0 ≡ o → account_of e.1 ≡ (o, s.site.currency)
    in_currency e i is =
        let h = holds_of e i is in
        let own = own_keys setup is_setup w hs traces p o e.0.1 e.1 h in
        let currency = own_currency setup is_setup w hs traces o r s of_operator e.0.1 e.1 (stands e.0.1 e.1 h) in
        λ k. ((sym own k).0, currency k)

    -- and one of another operator is of another account
    of_operator_only : (e : Entry) → Contains held_entries e → (currency : List ℕ) → ◌≡◌ {A = Account} (o, currency) (account_of e.1) → e.0.0 ≡ o
    of_operator_only e i currency same =
        let own = own_keys setup is_setup w hs traces p e.0.0 e.0.1 e.1 (holds e i) in
        ap (λ (k : List ℕ × List ℕ). k.0) own ∙ sym (ap (λ (k : Account). k.0) same)

    cost_is : (e : Entry) → Contains held_entries e → cost_in (o, s.site.currency) e.1 ≡ term_at cost_of (version_of false o r e) -ℤ term_at cost_of (version_of true o r e)
    cost_is e i = by (bytes_eq e.0.0 o) refl
      where
        by : (b : Bool) → bytes_eq e.0.0 o ≡ b →
            cost_in (o, s.site.currency) e.1 ≡ term_at cost_of (cond b (of_kind false (is_credit e.1) (last_of r e.1)) None) -ℤ term_at cost_of (cond b (of_kind true (is_credit e.1) (last_of r e.1)) None)
        by true mine =
            let is = (bytes_eq-Decides e.0.0 o).0 mine in
            let (v, ends, c) = counts e.0.1 e.1 (holds_of e i is) in
            seen_same (o, s.site.currency) (account_of e.1) e.1.total_cost.excl_vat (sym (in_currency e i is)) ∙ c.cost ∙ counted_is (is_credit e.1) (last_of r e.1) v ends
        by false other = seen_other (o, s.site.currency) (account_of e.1) e.1.total_cost.excl_vat
            (λ same. let bad : true ≡ false = sym ((bytes_eq-Decides e.0.0 o).1 (of_operator_only e i s.site.currency same)) ∙ other in cc)

    nothing_in : (currency : List ℕ) → currency ≢ s.site.currency → (e : Entry) → Contains held_entries e → cost_in (o, currency) e.1 ≡ pos 0
    nothing_in currency other e i = seen_other (o, currency) (account_of e.1) e.1.total_cost.excl_vat
        (λ same. other (ap (λ (k : Account). k.1) (same ∙ in_currency e i (of_operator_only e i currency same))))

    owes_for_each : OwesForEach w p o r s t
    owes_for_each = record {
      billed = versions false;
      are_billed = are_of_held false;
      credited = versions true;
      are_credited = are_of_held true;
      sum = gathered_difference (version_of false o r) (version_of true o r) cost_of (cost_in (o, s.site.currency)) (λ (e : Entry). e.1) held_entries cost_is;
      other = λ currency differs. nothing_total (cost_in (o, currency)) (λ (e : Entry). e.1) held_entries (nothing_in currency differs);
    }

  -- each session is owed once where its bill is held, and not before, and taken off once where its credit is held
  pub owed : (p o : List ℕ) (q r : Place) (t : provider.State) (s : operator.State) → ProviderOf w p q t → OperatorOf w o r s → OwesForEach w p o r s t
  owed p o q r t s of_provider of_operator = owes_for_each p o q r t s of_provider of_operator
