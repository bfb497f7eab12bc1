-- The rows of a content: each is what the text in the place of its key is read as.
use Rattle.std.proofs.Common.{◌≡◌, ◌≢◌, ℕ, List, [], ◌∷◌, ◌++◌, map, true, Option, Some, None, Result, Ok, Err, inl, inr, refl, sym, ap, subst, ◌∙◌}
use Rattle.std.specs.Prelude.{◌↔◌, Contains}
use Rattle.std.specs.List.{AllPairs}
use Rattle.std.specs.FinMap.{entries, get, remove}
use Rattle.std.proofs.lemmas.List.{append_assoc, append-nil}
use Rattle.std.proofs.lemmas.List.Elements.{All-contains}
use Rattle.std.proofs.lemmas.List.Kept.{AllPairs-cons}
use Rattle.std.proofs.lemmas.Option.{same_Some}
use Rattle.tables.specs.Keys.{text_pair_cmp, text_pair_total, text_pair_exact}
use Rattle.tables.proofs.Elements.{all_of, first_pairs, in_front, in_map, in_none, later_pairs, no_pairs}
use Rattle.tables.proofs.Entries.{all_apart, listed, listed_only}
use Rattle.tables.proofs.Maps.{get-remove_other, of_remove}
use Rattle.json_text.specs.Fault.{Read}
use Rattle.ocpi_types.specs.Rows.{key_of}
use Rattle.ocpi_types.specs.declared.rows.Row.{Row}
use Rattle.ocpi_json.specs.RowForms.{row_in}
use Rattle.ocpi_json.proofs.RowLemmas.{row_found}
use Rattle.node_store.specs.Contents.{AreRows, Content, RowPlace, after_row, is_row, line_place, place_of, rows_after, rows_of}
use Rattle.node_store.proofs.Numbered.{no_row_place}
use Rattle.operator_rows.proofs.RowChanges.{in_later, of_cons}

abbrev Entry : Type 0
Entry = RowPlace × List ℕ

-- what a text in that place is read as
abbrev pub read_at : RowPlace → List ℕ → Read Row
read_at p t = row_in p.0 p.1 t

-- the content has a text that is read as the row
pub record IsKept (c : Content) (r : Row) : Type 0 where
  pub text : List ℕ
  pub stands : get c (place_of (key_of r)) ≡ Some text
  pub is_read : read_at (place_of (key_of r)) text ≡ Ok r

-- a row that is read stands in the place of its key
pub read_place : (p : RowPlace) (t : List ℕ) (r : Row) → read_at p t ≡ Ok r → p ≡ place_of (key_of r)
read_place p t r is = let h = row_found p.0 p.1 t r is in λ i. (sym h.kind i, sym h.key_is i)

-- the rows are what the entries are read as, in turn
abbrev AreRead : List Entry → List Row → Type 0
AreRead [] [] = Unit {0}
AreRead [] (r ∷ rs) = ⊥
AreRead (e ∷ es) [] = ⊥
AreRead (e ∷ es) (r ∷ rs) = (read_at e.0 e.1 ≡ Ok r) × AreRead es rs

went_on : (read : Read Row) (f : Row → Option (List Row)) (rows : List Row) → after_row read f ≡ Some rows → (r : Row) × (read ≡ Ok r) × (f r ≡ Some rows)
went_on (Ok r) f rows e = (r, refl, e)
went_on (Err x) f rows e = absurd cc

read_after : (before : List Row) (es : List Entry) (rows : List Row) → rows_after before es ≡ Some rows → (rs : List Row) × (rows ≡ before ++ rs) × AreRead es rs
read_after before [] rows e = ([], sym (same_Some before rows e) ∙ sym (append-nil before), tt)
read_after before (x ∷ es) rows e =
    let (r, is, rest) = went_on (read_at x.0 x.1) (λ r. rows_after (before ++ r ∷ []) es) rows e in
    let (rs, all, read) = read_after (before ++ r ∷ []) es rows rest in
    (r ∷ rs, all ∙ append_assoc before (r ∷ []) rs, (is, read))

-- what stands at the places of rows
abbrev of_rows : Content → Content
of_rows c = remove c line_place

all_read : (c : Content) (rows : List Row) → rows_of c ≡ Some rows → AreRead (entries (of_rows c)) rows
all_read c rows e = let (rs, all, read) = read_after [] (entries (of_rows c)) rows e in subst (AreRead (entries (of_rows c))) (sym all) read

of_entry : (es : List Entry) (rs : List Row) → AreRead es rs → (r : Row) → Contains rs r → (e : Entry) × Contains es e × (read_at e.0 e.1 ≡ Ok r)
of_entry [] [] h r i = absurd (in_none r i)
of_entry [] (q ∷ rs) h r i = absurd h
of_entry (e ∷ es) [] h r i = absurd h
of_entry (e ∷ es) (q ∷ rs) h r i = elim (of_cons q rs r i) [
  | inl first ↦ (e, in_front e es, h.0 ∙ ap (λ z. Ok z) first)
  | inr later ↦ let (d, among, is) = of_entry es rs h.1 r later in (d, in_later e es d among, is)
]

to_row : (es : List Entry) (rs : List Row) → AreRead es rs → (e : Entry) → Contains es e → (r : Row) × Contains rs r × (read_at e.0 e.1 ≡ Ok r)
to_row [] rs h e i = absurd (in_none e i)
to_row (d ∷ es) [] h e i = absurd h
to_row (d ∷ es) (q ∷ rs) h e i = elim (of_cons d es e i) [
  | inl first ↦ (q, in_front q rs, subst (λ (z : Entry). read_at z.0 z.1 ≡ Ok q) first h.0)
  | inr later ↦ let (r, among, is) = to_row es rs h.1 e later in (r, in_later q rs r among, is)
]

-- ok values
pub same_ok : (r q : Row) → ◌≡◌ {A = Read Row} (Ok r) (Ok q) → r ≡ q
same_ok r q e = cc

abbrev place : Row → RowPlace
place r = place_of (key_of r)

same_places : (es : List Entry) (rs : List Row) → AreRead es rs → map (λ (e : Entry). e.0) es ≡ map place rs
same_places [] [] h = refl
same_places [] (r ∷ rs) h = absurd h
same_places (e ∷ es) [] h = absurd h
same_places (e ∷ es) (r ∷ rs) h = λ i. read_place e.0 e.1 r h.0 i ∷ same_places es rs h.1 i

abbrev Differ : RowPlace → RowPlace → Type 0
Differ p q = p ≢ q

keys_apart : (rs : List Row) → AllPairs Differ (map place rs) → AllPairs (λ a b. key_of a ≢ key_of b) rs
keys_apart [] h = no_pairs (λ a b. key_of a ≢ key_of b)
keys_apart (r ∷ rs) h =
    let first = first_pairs Differ (place r) (map place rs) h in
    AllPairs-cons (λ a b. key_of a ≢ key_of b) r rs
    (all_of (λ q. key_of r ≢ key_of q) rs (λ q i same. All-contains (Differ (place r)) (map place rs) (place q) first (in_map place rs q i) (ap place_of same)))
    (keys_apart rs (later_pairs Differ (place r) (map place rs) h))

-- the rows of a content are those that it keeps, each once
module _ (c : Content) (rows : List Row) (is : rows_of c ≡ Some rows) where
  -- of what stands at the place of a row one of them is read
  read_from : (p : RowPlace) (t : List ℕ) → p ≢ line_place → get c p ≡ Some t → (q : Row) × Contains rows q × (read_at p t ≡ Ok q)
  read_from p t other stands =
      to_row (entries (of_rows c)) rows (all_read c rows is) (p, t) (listed text_pair_total text_pair_exact (of_rows c) p t (get-remove_other text_pair_total text_pair_exact c line_place p other ∙ stands))

  pub rows_kept : (r : Row) → Contains rows r ↔ IsKept c r
  rows_kept r = (
    λ i.
        let (e, among, read) = of_entry (entries (of_rows c)) rows (all_read c rows is) r i in
        let here = listed_only text_pair_total text_pair_exact (of_rows c) e.0 e.1 among in
        let stands = (of_remove text_pair_total text_pair_exact c line_place e.0 e.1 here).1 in
        let place = read_place e.0 e.1 r read in
        record { text = e.1; stands = subst (λ p. get c p ≡ Some e.1) place stands; is_read = subst (λ p. read_at p e.1 ≡ Ok r) place read },
    λ h.
        let (q, among, read) = read_from (place_of (key_of r)) h.text (no_row_place (key_of r)) h.stands in
        subst (Contains rows) (same_ok q r (sym read ∙ h.is_read)) among,
  )

  pub texts_are_rows : AreRows c
  texts_are_rows p t other stands = let (q, among, read) = read_from p t other stands in ap is_row read

  pub rows_apart : AllPairs (λ a b. key_of a ≢ key_of b) rows
  rows_apart = keys_apart rows
      (subst (AllPairs Differ) (same_places (entries (of_rows c)) rows (all_read c rows is)) (all_apart text_pair_total text_pair_exact (λ (e : Entry). e.0) (of_rows c) Differ (λ a b x y differ. differ)))
