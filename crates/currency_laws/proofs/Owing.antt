-- What is owed to an operator in a currency: the records in that currency that are held of it are those of sessions in
-- that currency, and count their costs.
use Rattle.std.proofs.Common.{◌≡◌, ◌≢◌, ℕ, ℤ, pos, List, Bool, true, false, cond, refl, sym, ap, subst, ◌∙◌}
use Rattle.std.specs.Prelude.{Option, Some, None, Contains, ◌-ℤ◌, neg_ℤ}
use Rattle.std.specs.List.{AllPairs, filter_map}
use Rattle.std.specs.FinMap.{get, entries}
use Rattle.std.specs.Cmp.{eq_by_cmp_equiv}
use Rattle.tables.specs.Keys.{text_pair_cmp, text_pair_exact, text_pair_total}
use Rattle.tables.proofs.Entries.{listed, listed_only}
use Rattle.tables.proofs.Maps.{equal_of_is_eq}
use Rattle.tables.proofs.Options.{none_some}
use Rattle.ocpi_text.specs.Text.{key}
use Rattle.ocpi_types.specs.Credits.{is_credit}
use Rattle.ocpi_types.specs.declared.cdrs.Cdr.{Cdr}
use Rattle.ocpi_types.specs.declared.sessions.Session.{Session}
use Rattle.handover.specs.Owed.{Account, account_of, cost_in, is_account}
use Rattle.handover.proofs.Totals.{term_at}
use Rattle.operator_rows.specs.State.{State}
use Rattle.session_laws.specs.Bills.{Bills}
use Rattle.session_laws.specs.Pasts.{stored}
use Rattle.world_laws.specs.Safe.{cost_of}
use Rattle.world_laws.proofs.Gathering.{gathered_apart, gathered_difference, gathered_in, gathered_of, keys_apart}
use Rattle.world_laws.proofs.Owing.{chosen, counted, counted_is, of_kind, asked_kind, own_kind}
use Rattle.currency_laws.specs.Currencies.{AreInOwnCurrency}
use Rattle.currency_laws.specs.Owing.{AreOfHeld, Held, HoldsOf, OwedInEachCurrency, OwesIn}

abbrev Entry : Type 0
Entry = (List ℕ × List ℕ) × Cdr

-- the record is of the session of that version, and costs what it counts of that session's cost
record Counts (s : State) (x : Cdr) : Type 0 where
  version : Session
  has : stored s (key x.session_id) ≡ Some version
  session : x.session_id ≡ version.id
  cost : x.total_cost.excl_vat ≡ counted (is_credit x) (cost_of version)

-- a bill has the cost of its session
bill_cost : (v : Session) (x : Cdr) → Bills v x → x.total_cost.excl_vat ≡ cost_of v
bill_cost v x b = sym (ap (λ z. elim z [ None ↦ pos 0 | Some cost ↦ cost.excl_vat ]) b.cost)

module _ (o currency : List ℕ) (s : State) (held : Held) (own : AreInOwnCurrency s) (of_operator : HoldsOf o s held) where
  -- whether a record is of the operator, in the currency
  abbrev is_in : Cdr → Bool
  is_in x = is_account (o, currency) (account_of x)

  account_is : (x : Cdr) → is_in x ≡ true → ◌≡◌ {A = Account} (o, currency) (account_of x)
  account_is x is = text_pair_exact (o, currency) (account_of x) (equal_of_is_eq (text_pair_cmp (o, currency) (account_of x)) is)

  in_account : (x : Cdr) → ◌≡◌ {A = Account} (o, currency) (account_of x) → is_in x ≡ true
  in_account x same = subst (λ (k : Account). is_account (o, currency) k ≡ true) same ((eq_by_cmp_equiv text_pair_total).refl (o, currency))

  abbrev held_entries : List Entry
  held_entries = entries held

  -- the session of a record in the account that is a credit, or a bill, as is asked for
  abbrev version_of : Bool → Entry → Option Session
  version_of asked e = cond (is_in e.1) (of_kind asked (is_credit e.1) (stored s (key e.1.session_id))) None

  abbrev versions : Bool → List Session
  versions asked = filter_map (version_of asked) held_entries

  is_held : (e : Entry) → Contains held_entries e → get held e.0 ≡ Some e.1
  is_held e i = listed_only text_pair_total text_pair_exact held e.0 e.1 i

  mine : (e : Entry) → Contains held_entries e → is_in e.1 ≡ true → e.0.0 ≡ o
  mine e i is = sym (of_operator.keyed e.0.0 e.0.1 e.1 (is_held e i)) ∙ sym (ap (λ (k : Account). k.0) (account_is e.1 is))

  stands : (e : Entry) → Contains held_entries e → is_in e.1 ≡ true → get s.rows.charged.cdrs e.0.1 ≡ Some e.1
  stands e i is = of_operator.stands e.0.1 e.1 (subst (λ (p : List ℕ). get held (p, e.0.1) ≡ Some e.1) (mine e i is) (is_held e i))

  -- a record counts the cost of its session
  counts : (id : List ℕ) (x : Cdr) → get s.rows.charged.cdrs id ≡ Some x → Counts s x
  counts id x there = by (is_credit x) refl
    where
      by : (credit : Bool) → is_credit x ≡ credit → Counts s x
      by false kind =
          let (v, has, b) = own.billed.only id x there kind in
          record {
            version = v;
            has = ap (λ (k : List ℕ). stored s (key k)) b.session ∙ has;
            session = b.session;
            cost = bill_cost v x b ∙ sym (ap (λ (c : Bool). counted c (cost_of v)) kind);
          }
      by true kind =
          let (bill, bill_there, is_bill, takes) = own.billed.credits id x there kind in
          let (v, has, b) = own.billed.only (key bill.id) bill bill_there is_bill in
          let same : x.session_id ≡ bill.session_id = ap (λ (z : Cdr). z.session_id) takes in
          let cost : x.total_cost.excl_vat ≡ neg_ℤ bill.total_cost.excl_vat = ap (λ (z : Cdr). z.total_cost.excl_vat) takes in
          record {
            version = v;
            has = ap (λ (k : List ℕ). stored s (key k)) (same ∙ b.session) ∙ has;
            session = same ∙ b.session;
            cost = cost ∙ ap neg_ℤ (bill_cost v bill b) ∙ sym (ap (λ (c : Bool). counted c (cost_of v)) kind);
          }

  same_session : (x : Cdr) (v w : Session) → stored s (key x.session_id) ≡ Some v → stored s (key x.session_id) ≡ Some w → v ≡ w
  same_session x v w has also = let both : Some v ≡ Some w = sym has ∙ also in cc

  session_is : (id : List ℕ) (x : Cdr) (v : Session) → get s.rows.charged.cdrs id ≡ Some x → stored s (key x.session_id) ≡ Some v → x.session_id ≡ v.id
  session_is id x v there has =
      let c = counts id x there in c.session ∙ ap (λ (z : Session). z.id) (same_session x c.version v c.has has)

  record IsChosen (asked : Bool) (e : Entry) (v : Session) : Type 0 where
    inside : is_in e.1 ≡ true
    kind : is_credit e.1 ≡ asked
    has : stored s (key e.1.session_id) ≡ Some v

  is_chosen : (asked : Bool) (e : Entry) (v : Session) → version_of asked e ≡ Some v → IsChosen asked e v
  is_chosen asked e v is =
      let (inside, rest) = chosen (is_in e.1) (of_kind asked (is_credit e.1) (stored s (key e.1.session_id))) v is in
      let (kind, has) = asked_kind asked (is_credit e.1) (stored s (key e.1.session_id)) v rest in
      record { inside = inside; kind = kind; has = has }

  abbrev HeldAs : Bool → Session → Type 0
  HeldAs asked v = (id : List ℕ) × (x : Cdr) × (get held (o, id) ≡ Some x) × (is_credit x ≡ asked) × (stored s (key x.session_id) ≡ Some v) × (v.currency ≡ currency)

  gives_held : (asked : Bool) (v : Session) → Contains (versions asked) v → HeldAs asked v
  gives_held asked v i =
      let (e, j, is) = gathered_of (version_of asked) held_entries v i in
      let c = is_chosen asked e v is in
      let money : currency ≡ e.1.currency = ap (λ (k : Account). k.1) (account_is e.1 c.inside) in
      let has_money : e.1.currency ≡ v.currency = own.own e.0.1 e.1 (stands e j c.inside) v c.has in
      (e.0.1, e.1, subst (λ (p : List ℕ). get held (p, e.0.1) ≡ Some e.1) (mine e j c.inside) (is_held e j), c.kind, c.has, sym (money ∙ has_money))

  is_given : (asked : Bool) (v : Session) → HeldAs asked v → Contains (versions asked) v
  is_given asked v (id, x, had, kind, has, money) =
      let party : key x.party ≡ o = of_operator.keyed o id x had in
      let in_money : x.currency ≡ currency = own.own id x (of_operator.stands id x had) v has ∙ money in
      let inside : is_in x ≡ true = in_account x (λ k. (sym party k, sym in_money k)) in
      gathered_in (version_of asked) held_entries ((o, id), x) v (listed text_pair_total text_pair_exact held (o, id) x had)
      (ap (λ (b : Bool). cond b (of_kind asked (is_credit x) (stored s (key x.session_id))) None) inside
      ∙ ap (λ (c : Bool). of_kind asked c (stored s (key x.session_id))) kind
      ∙ own_kind asked (stored s (key x.session_id))
      ∙ has)

  versions_apart : (asked : Bool) → AllPairs (λ (v u : Session). key v.id ≢ key u.id) (versions asked)
  versions_apart asked = gathered_apart (version_of asked) (λ (e d : Entry). e.0 ≢ d.0) (λ (v u : Session). key v.id ≢ key u.id) held_entries
      (keys_apart text_pair_total text_pair_exact held)
      (λ e d v u i j differ v_is u_is same. apart e d v u i j differ (is_chosen asked e v v_is) (is_chosen asked d u u_is) same)
    where
      apart : (e d : Entry) (v u : Session) → Contains held_entries e → Contains held_entries d → e.0 ≢ d.0 → IsChosen asked e v → IsChosen asked d u → key v.id ≡ key u.id → ⊥
      apart e d v u i j differ v_of u_of same =
          let e_there = stands e i v_of.inside in
          let d_there = stands d j u_of.inside in
          let of_v = ap key (session_is e.0.1 e.1 v e_there v_of.has) in
          let of_u = ap key (session_is d.0.1 d.1 u d_there u_of.has) in
          let ids = own.billed.once e.0.1 d.0.1 e.1 d.1 e_there d_there (of_v ∙ same ∙ sym of_u) (v_of.kind ∙ sym u_of.kind) in
          let operators = mine e i v_of.inside ∙ sym (mine d j u_of.inside) in
          differ (λ k. (operators k, ids k))

  are_of_held : (asked : Bool) → AreOfHeld asked o currency s held (versions asked)
  are_of_held asked = record { each = λ v. (gives_held asked v, is_given asked v); once = versions_apart asked }

  cost_is : (e : Entry) → Contains held_entries e → cost_in (o, currency) e.1 ≡ term_at cost_of (version_of false e) -ℤ term_at cost_of (version_of true e)
  cost_is e i = by (is_in e.1) refl
    where
      by : (b : Bool) → is_in e.1 ≡ b →
          cond b e.1.total_cost.excl_vat (pos 0)
          ≡ term_at cost_of (cond b (of_kind false (is_credit e.1) (stored s (key e.1.session_id))) None) -ℤ term_at cost_of (cond b (of_kind true (is_credit e.1) (stored s (key e.1.session_id))) None)
      by true inside =
          let c = counts e.0.1 e.1 (stands e i inside) in
          c.cost ∙ counted_is (is_credit e.1) (stored s (key e.1.session_id)) c.version c.has
      by false outside = refl

  owes_in : OwesIn o currency s held
  owes_in = record {
    billed = versions false;
    are_billed = are_of_held false;
    credited = versions true;
    are_credited = are_of_held true;
    sum = gathered_difference (version_of false) (version_of true) cost_of (cost_in (o, currency)) (λ (e : Entry). e.1) held_entries cost_is;
  }

pub owed_in_each_currency : OwedInEachCurrency
owed_in_each_currency o currency s held own of_operator = owes_in o currency s held own of_operator
