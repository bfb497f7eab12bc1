-- What taking rows away and putting a row in does to the texts.
use Rattle.std.proofs.Common.{◌≡◌, ◌⊎◌, inl, inr, ℕ, ℤ, List, [], ◌∷◌, map, Bool, true, false, cond, not, None, Some, Option, refl, sym, ap, subst, ◌∙◌}
use Rattle.std.specs.Prelude.{◌&&◌, ◌||◌, filter}
use Rattle.std.specs.List.{list_any}
use Rattle.std.specs.Ordering.{eq_by_cmp, is_eq, match_ordering, int_cmp}
use Rattle.std.specs.declared.cmp.Ordering.TheVariants.{Less, Equal, Greater}
use Rattle.std.specs.Cmp.{eq_by_cmp_equiv, int_cmp_total}
use Rattle.std.specs.FinMap.{find, insert, remove, get-from_entries, get-insert, get-remove, same_map, int_cmp-IsAntisymmetric}
use Rattle.sqlite.specs.declared.types.Value.{Value}
use Rattle.sqlite.specs.declared.types.Value.TheVariants.{Int}
use Rattle.sqlite.specs.Order.{Row, value_cmp}
use Rattle.sqlite.specs.Tree.{rowid, has_rowid, without_rowid, put_row}
use Rattle.sqlite.specs.Edit.{without_all, is_taken}
use Rattle.sqlite_value.proofs.OrderLemmas.{value_cmp-Int}
use Rattle.sqlite_rules.specs.Lists.{Has}
use Rattle.sqlite_rules.proofs.ListLemmas.{has_filtered, some_from, some_has}
use Rattle.tables.specs.Keys.{text_pair_cmp, text_pair_total, text_pair_exact}
use Rattle.tables.proofs.Maps.{equal_of_is_eq}
use Rattle.row_table.specs.Texts.{Place, place_in, entry_in, texts_in, IsTextRow, AreTexts}

abbrev pub is_at : Place → Row → Bool
is_at p r = eq_by_cmp text_pair_cmp p (place_in r)

abbrev found : Place → List Row → Option (List ℕ)
found q rows = find text_pair_cmp q (map entry_in rows)

pub same_place : (p q : Place) → eq_by_cmp text_pair_cmp p q ≡ true → p ≡ q
same_place p q h = text_pair_exact p q (equal_of_is_eq (text_pair_cmp p q) h)

tied : (p : Place) → eq_by_cmp text_pair_cmp p p ≡ true
tied = (eq_by_cmp_equiv text_pair_total).refl

-- ---- rows are taken away

abbrev pub rest : Place → List Row → List Row
rest p rows = filter (λ r. not (is_at p r)) rows

found_rest : (p q : Place) (rows : List Row) → found q (rest p rows) ≡ cond (eq_by_cmp text_pair_cmp q p) None (found q rows)
found_rest p q [] = elim (eq_by_cmp text_pair_cmp q p) as (λ b. ◌≡◌ {A = Option (List ℕ)} None (cond b None None)) [ true ↦ refl | false ↦ refl ]
found_rest p q (r ∷ rows) =
    elim (is_at p r) as (λ b. is_at p r ≡ b → found q (cond (not b) (r ∷ rest p rows) (rest p rows)) ≡ cond (eq_by_cmp text_pair_cmp q p) None (cond (eq_by_cmp text_pair_cmp q (place_in r)) (Some (entry_in r).1) (found q rows))) [
      | true ↦ λ at. found_rest p q rows ∙ gone (eq_by_cmp text_pair_cmp q p) (eq_by_cmp text_pair_cmp q (place_in r)) (ap (eq_by_cmp text_pair_cmp q) (same_place p (place_in r) at))
      | false ↦ λ apart. ap (cond (eq_by_cmp text_pair_cmp q (place_in r)) (Some (entry_in r).1)) (found_rest p q rows)
          ∙ kept (eq_by_cmp text_pair_cmp q p) (eq_by_cmp text_pair_cmp q (place_in r)) refl refl apart
    ] refl
  where
    gone : (a b : Bool) → a ≡ b → cond a None (found q rows) ≡ cond a None (cond b (Some (entry_in r).1) (found q rows))
    gone true b e = refl
    gone false true e = cc
    gone false false e = refl

    kept : (a b : Bool) → eq_by_cmp text_pair_cmp q p ≡ a → eq_by_cmp text_pair_cmp q (place_in r) ≡ b → is_at p r ≡ false → cond b (Some (entry_in r).1) (cond a None (found q rows)) ≡ cond a None (cond b (Some (entry_in r).1) (found q rows))
    kept true true ea eb apart =
        let one : q ≡ p = same_place q p ea in
        let same : is_at p r ≡ true = subst (λ (z : Place). eq_by_cmp text_pair_cmp z (place_in r) ≡ true) one eb in
        absurd (let f : true ≡ false = sym same ∙ apart in cc)
    kept true false ea eb apart = refl
    kept false true ea eb apart = refl
    kept false false ea eb apart = refl

pub texts_rest : (p : Place) (rows : List Row) → texts_in (rest p rows) ≡ remove (texts_in rows) p
texts_rest p rows = same_map text_pair_total text_pair_exact _ _ (λ q. get-from_entries text_pair_total _ q ∙ found_rest p q rows ∙ sym (get-remove text_pair_total (texts_in rows) p q ∙ ap (cond (eq_by_cmp text_pair_cmp q p) None) (get-from_entries text_pair_total _ q)))

pub are_rest : (p : Place) (rows : List Row) → AreTexts rows → AreTexts (rest p rows)
are_rest p rows h = record {
  each = λ r i. h.each r (has_filtered _ rows r i).0;
  keyed = λ a b i j same. h.keyed a b (has_filtered _ rows a i).0 (has_filtered _ rows b j).0 same;
}

pub none_at : (p : Place) (rows : List Row) (r : Row) → Has (rest p rows) r → is_at p r ≡ false
none_at p rows r i = turned (is_at p r) (has_filtered _ rows r i).1
  where
    turned : (b : Bool) → not b ≡ true → b ≡ false
    turned true e = cc
    turned false e = refl

-- ---- rows are taken away by their rowids

abbrev is_among : List ℤ → Row → Bool
is_among ids r = list_any (λ id. has_rowid id r) ids

filtered_twice : {X : Type 0} (p q : X → Bool) (xs : List X) → filter p (filter q xs) ≡ filter (λ x. q x && p x) xs
filtered_twice p q [] = refl
filtered_twice {X = X} p q (x ∷ xs) = elim (q x) as (λ b. filter p (cond b (x ∷ filter q xs) (filter q xs)) ≡ cond (b && p x) (x ∷ filter (λ y. q y && p y) xs) (filter (λ y. q y && p y) xs)) [
  | true ↦ ap (λ (l : List X). cond (p x) (x ∷ l) l) (filtered_twice p q xs)
  | false ↦ filtered_twice p q xs
]

same_filter : {X : Type 0} (p q : X → Bool) (xs : List X) → ((x : X) → Has xs x → p x ≡ q x) → filter p xs ≡ filter q xs
same_filter p q [] h = refl
same_filter {X = X} p q (x ∷ xs) h =
    ap (λ (b : Bool). cond b (x ∷ filter p xs) (filter p xs)) (h x (inl refl)) ∙ ap (λ (l : List X). cond (q x) (x ∷ l) l) (same_filter p q xs (λ y i. h y (inr i)))

all_pass : {X : Type 0} (xs : List X) → filter (λ x. true) xs ≡ xs
all_pass [] = refl
all_pass {X = X} (x ∷ xs) = ap (λ (l : List X). x ∷ l) (all_pass xs)

neither : (a b : Bool) → (not a && not b) ≡ not (a || b)
neither true b = refl
neither false b = refl

without_each : (rows : List Row) (ids : List ℤ) → without_all rows ids ≡ filter (λ r. not (is_among ids r)) rows
without_each rows [] = sym (all_pass rows)
without_each rows (id ∷ ids) = without_each (without_rowid id rows) ids ∙ filtered_twice (λ r. not (is_among ids r)) (λ r. not (has_rowid id r)) rows ∙ same_filter _ _ rows (λ r i. neither (has_rowid id r) (is_among ids r))

-- a rowid is one integer
rowid_is : (r : Row) (id : ℤ) → IsTextRow r → has_rowid id r ≡ true → rowid r ≡ Int id
rowid_is r id is h =
    let compared : is_eq (int_cmp is.id id) ≡ true = ap is_eq (sym (value_cmp-Int is.id id)) ∙ subst (λ (v : Value). is_eq (value_cmp v (Int id)) ≡ true) is.has_id h in
    is.has_id ∙ ap Int (int_cmp-IsAntisymmetric is.id id (equal_of_is_eq (int_cmp is.id id) compared))

pub rowid_tied : (r : Row) (id : ℤ) → rowid r ≡ Int id → has_rowid id r ≡ true
rowid_tied r id same = subst (λ (v : Value). is_eq (value_cmp v (Int id)) ≡ true) (sym same) (ap is_eq (value_cmp-Int id id) ∙ (eq_by_cmp_equiv int_cmp_total).refl id)

-- The rowids are those of the rows at a place.
pub cleared : (p : Place) (rows : List Row) (ids : List ℤ) → AreTexts rows
    → ((id : ℤ) → Has ids id → (r : Row) × Has rows r × (is_at p r ≡ true) × (rowid r ≡ Int id))
    → ((r : Row) (id : ℤ) → Has rows r → is_at p r ≡ true → rowid r ≡ Int id → Has ids id)
    → without_all rows ids ≡ rest p rows
cleared p rows ids texts sound complete = without_each rows ids ∙ same_filter _ _ rows (λ r i. ap not (agrees r i))
  where
    agrees : (r : Row) → Has rows r → is_among ids r ≡ is_at p r
    agrees r i =
        let is = texts.each r i in
        elim (is_at p r) as (λ b. is_at p r ≡ b → is_among ids r ≡ b) [
          | true ↦ λ at. some_from (λ id. has_rowid id r) ids is.id (complete r is.id i at is.has_id) (rowid_tied r is.id is.has_id)
          | false ↦ λ apart. elim (is_among ids r) as (λ b. is_among ids r ≡ b → b ≡ false) [
            | true ↦ λ among.
                let some = some_has (λ id. has_rowid id r) ids among in
                let other = sound some.0 some.1 in
                let one : rowid other.0 ≡ rowid r = other.3 ∙ sym (rowid_is r some.0 is some.2) in
                let place : place_in other.0 ≡ place_in r = texts.keyed other.0 r other.1 i one in
                let f : true ≡ false = sym (subst (λ (z : Place). eq_by_cmp text_pair_cmp p z ≡ true) place other.2) ∙ apart in
                cc
            | false ↦ λ _. refl
          ] refl
        ] refl

-- the one row of a table is taken away by its rowid
pub cleared_one : (r : Row) (id : ℤ) → rowid r ≡ Int id → without_all (r ∷ []) (id ∷ []) ≡ []
cleared_one r id same = ap (λ (b : Bool). cond (not b) (r ∷ []) []) (rowid_tied r id same)

-- ---- a row is put in

module _ (new : Row) where
  has_put : (rows : List Row) (r : Row) → Has (put_row new rows) r → (r ≡ new) ⊎ Has rows r
  has_put [] r (inl same) = inl same
  has_put [] r (inr none) = absurd none
  has_put (x ∷ rows) r there = elim (value_cmp (rowid x) (rowid new)) as (λ o. Has (match_ordering o (x ∷ put_row new rows) (new ∷ rows) (new ∷ x ∷ rows)) r → (r ≡ new) ⊎ Has (x ∷ rows) r) [
    | Less ↦ λ h. elim h [ inl same ↦ inr (inl same) | inr later ↦ elim (has_put rows r later) [ inl same ↦ inl same | inr old ↦ inr (inr old) ] ]
    | Equal ↦ λ h. elim h [ inl same ↦ inl same | inr later ↦ inr (inr later) ]
    | Greater ↦ λ h. elim h [ inl same ↦ inl same | inr later ↦ inr later ]
  ] there

  found_put : (q : Place) (rows : List Row) → ((r : Row) → Has rows r → is_at (place_in new) r ≡ false) → is_taken rows new ≡ false
      → found q (put_row new rows) ≡ cond (eq_by_cmp text_pair_cmp q (place_in new)) (Some (entry_in new).1) (found q rows)
  found_put q [] apart free = refl
  found_put q (x ∷ rows) apart free =
      elim (value_cmp (rowid x) (rowid new)) as (λ o. value_cmp (rowid x) (rowid new) ≡ o → found q (match_ordering o (x ∷ put_row new rows) (new ∷ rows) (new ∷ x ∷ rows)) ≡ cond (eq_by_cmp text_pair_cmp q (place_in new)) (Some (entry_in new).1) (found q (x ∷ rows))) [
        | Less ↦ λ o. ap (cond (eq_by_cmp text_pair_cmp q (place_in x)) (Some (entry_in x).1)) (found_put q rows (λ r i. apart r (inr i)) (later (is_eq (value_cmp (rowid x) (rowid new))) free))
            ∙ swapped (eq_by_cmp text_pair_cmp q (place_in x)) (eq_by_cmp text_pair_cmp q (place_in new)) refl refl
        | Equal ↦ λ o. absurd (let taken : is_taken (x ∷ rows) new ≡ true = ap (λ z. is_eq z || is_taken rows new) o in let f : true ≡ false = sym taken ∙ free in cc)
        | Greater ↦ λ o. refl
      ] refl
    where
      later : (b : Bool) → (b || is_taken rows new) ≡ false → is_taken rows new ≡ false
      later true e = cc
      later false e = e

      swapped : (a b : Bool) → eq_by_cmp text_pair_cmp q (place_in x) ≡ a → eq_by_cmp text_pair_cmp q (place_in new) ≡ b
          → cond a (Some (entry_in x).1) (cond b (Some (entry_in new).1) (found q rows)) ≡ cond b (Some (entry_in new).1) (cond a (Some (entry_in x).1) (found q rows))
      swapped true true ea eb =
          let one : q ≡ place_in new = same_place q (place_in new) eb in
          let same : is_at (place_in new) x ≡ true = subst (λ (z : Place). eq_by_cmp text_pair_cmp z (place_in x) ≡ true) one ea in
          absurd (let f : true ≡ false = sym same ∙ apart x (inl refl) in cc)
      swapped true false ea eb = refl
      swapped false true ea eb = refl
      swapped false false ea eb = refl

  pub texts_put : (rows : List Row) → ((r : Row) → Has rows r → is_at (place_in new) r ≡ false) → is_taken rows new ≡ false
      → texts_in (put_row new rows) ≡ insert (texts_in rows) (place_in new) (entry_in new).1
  texts_put rows apart free = same_map text_pair_total text_pair_exact _ _ (λ q. get-from_entries text_pair_total _ q ∙ found_put q rows apart free
      ∙ sym (get-insert text_pair_total (texts_in rows) (place_in new) (entry_in new).1 q ∙ ap (cond (eq_by_cmp text_pair_cmp q (place_in new)) (Some (entry_in new).1)) (get-from_entries text_pair_total _ q)))

  pub are_put : (rows : List Row) → AreTexts rows → IsTextRow new → is_taken rows new ≡ false → AreTexts (put_row new rows)
  are_put rows h is free = record {
    each = λ r i. elim (has_put rows r i) [ inl same ↦ subst IsTextRow (sym same) is | inr old ↦ h.each r old ];
    keyed = λ a b i j same. elim (has_put rows a i) [
      | inl one ↦ elim (has_put rows b j) [
        | inl two ↦ ap place_in (one ∙ sym two)
        | inr old ↦ absurd (apart b old (sym same ∙ ap rowid one))
      ]
      | inr old ↦ elim (has_put rows b j) [
        | inl two ↦ absurd (apart a old (same ∙ ap rowid two))
        | inr also ↦ h.keyed a b old also same
      ]
    ];
  }
    where
      apart : (r : Row) → Has rows r → rowid r ≡ rowid new → ⊥
      apart r i same =
          let tie : has_rowid is.id r ≡ true = rowid_tied r is.id (same ∙ is.has_id) in
          let taken : is_taken rows new ≡ true = some_from (λ x. is_eq (value_cmp (rowid x) (rowid new))) rows r i (subst (λ (v : Value). is_eq (value_cmp (rowid r) v) ≡ true) (sym is.has_id) tie) in
          let f : true ≡ false = sym taken ∙ free in
          cc
