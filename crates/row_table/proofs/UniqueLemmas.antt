-- A row that was put in by itself has a place that no other row has, since the two columns are the table's key.
use Rattle.std.proofs.Common.{◌≡◌, inl, inr, ℕ, ℤ, Some, List, [], ◌∷◌, Bool, true, false, refl, sym, ap, subst, ◌∙◌}
use Rattle.std.specs.Prelude.{not, ◌&&◌, ◌||◌}
use Rattle.std.specs.List.{AllByRecursion, list_any}
use Rattle.std.specs.Ordering.{is_eq, is_ne, match_ordering, ordering_then}
use Rattle.std.specs.declared.cmp.Ordering.{Ordering}
use Rattle.std.specs.declared.cmp.Ordering.TheVariants.{Less, Equal, Greater}
use Rattle.sqlite.specs.declared.types.Value.{Value}
use Rattle.sqlite.specs.declared.types.Value.TheVariants.{Int, Text}
use Rattle.sqlite.specs.Order.{Row, bytes, column, value_cmp}
use Rattle.sqlite.specs.Collation.TheVariants.{Binary}
use Rattle.sqlite_sql.specs.Ops as ops
use Rattle.tables.specs.Keys.{text_cmp}
use Rattle.sqlite_trees.specs.Tree.{Trees, rowid, put_row}
use Rattle.sqlite_schema.specs.declared.schema.Constraint.TheVariants.{Unique}
use Rattle.sqlite_schema.specs.Rules.{Fits, agree, clashes, differ, equal, passes}
use Rattle.sqlite_rules.specs.Edit.{is_taken}
use Rattle.sqlite_rules.specs.Lists.{Has}
use Rattle.sqlite_value.specs.Keys.{plain, first_key}
use Rattle.row_table.specs.Layout.{both_tables, row_table}
use Rattle.row_table.specs.Texts.{AreTexts, IsTextRow, place_in}
use Rattle.row_table.proofs.RowLemmas.{is_at}
use Rattle.row_table.proofs.StatementLemmas.{both_tied, equal_texts}

each : {X : Type 0} (P : X → Type 0) (xs : List X) (x : X) → AllByRecursion P xs → Has xs x → P x
each P [] x all h = absurd h
each P (y ∷ xs) x all (inl same) = subst P (sym same) all.0
each P (y ∷ xs) x all (inr h) = each P xs x all.1 h

either : (a b : Bool) → (a || b) ≡ false → (a ≡ false) × (b ≡ false)
either true b e = absurd (let f = e in cc)
either false b e = (refl, e)

none : {X : Type 0} (p : X → Bool) (xs : List X) (x : X) → list_any p xs ≡ false → Has xs x → p x ≡ false
none p [] x e h = absurd h
none p (y ∷ xs) x e (inl same) = ap p same ∙ (either (p y) (list_any p xs) e).0
none p (y ∷ xs) x e (inr h) = none p xs x (either (p y) (list_any p xs) e).1 h

module _ (new : Row) where
  put_has : (rows : List Row) → Has (put_row new rows) new
  put_has [] = inl refl
  put_has (x ∷ rows) = elim (value_cmp (rowid x) (rowid new)) as (λ o. Has (match_ordering o (x ∷ put_row new rows) (new ∷ rows) (new ∷ x ∷ rows)) new) [
    | Less ↦ inr (put_has rows)
    | Equal ↦ inl refl
    | Greater ↦ inl refl
  ]

  old_has : (rows : List Row) (r : Row) → is_taken rows new ≡ false → Has rows r → Has (put_row new rows) r
  old_has [] r free h = absurd h
  old_has (x ∷ rows) r free h =
      elim (value_cmp (rowid x) (rowid new)) as (λ o. value_cmp (rowid x) (rowid new) ≡ o → Has (match_ordering o (x ∷ put_row new rows) (new ∷ rows) (new ∷ x ∷ rows)) r) [
        | Less ↦ λ o. elim h [ inl same ↦ inl same | inr later ↦ inr (old_has rows r (either _ _ free).1 later) ]
        | Equal ↦ λ o. absurd (let f : true ≡ false = sym (ap is_eq o) ∙ (either _ _ free).0 in cc)
        | Greater ↦ λ o. inr h
      ] refl

let_in : (b : Bool) → (not (true && b) && true) ≡ true → b ≡ false
let_in true e = absurd (let f = e in cc)
let_in false e = refl

one_not : (a b : Bool) → (a && b) ≡ false → b ≡ true → a ≡ false
one_not true b e f = absurd (let g = sym f ∙ e in cc)
one_not false b e f = refl

differs : (o : Ordering) → ops.is_true (ops.from_truth (Some (is_ne o))) ≡ not (is_eq o)
differs Less = refl
differs Equal = refl
differs Greater = refl

differ_ints : (m n : ℤ) → differ (Int m) (Int n) ≡ not (is_eq (value_cmp (Int m) (Int n)))
unfolding ops.binary
differ_ints m n = differs (value_cmp (Int m) (Int n))

apart_ids : (a b : Row) → IsTextRow a → IsTextRow b → is_eq (value_cmp (rowid a) (rowid b)) ≡ false → differ (rowid a) (rowid b) ≡ true
apart_ids a b is it e =
    let ids = ap (λ (v : Value). is_eq (value_cmp v (rowid b))) is.has_id ∙ ap (λ (v : Value). is_eq (value_cmp (Int is.id) v)) it.has_id in
    ap (λ (v : Value). differ v (rowid b)) is.has_id ∙ ap (differ (Int is.id)) it.has_id ∙ differ_ints is.id it.id ∙ ap not (sym ids ∙ e)

places_agree : (r new : Row) → IsTextRow r → IsTextRow new → agree plain (1 ∷ 2 ∷ []) r (1 ∷ 2 ∷ []) new ≡ is_at (place_in new) r
unfolding first_key
places_agree r new is it =
    let first = ap (λ (v : Value). equal Binary v (column new 1)) is.has_kind ∙ ap (equal Binary (Text is.kind)) it.has_kind ∙ equal_texts is.kind it.kind in
    let second = ap (λ (v : Value). equal Binary v (column new 2)) is.has_name ∙ ap (equal Binary (Text is.name)) it.has_name ∙ equal_texts is.name it.name in
    ap (λ (b : Bool). b && (equal Binary (column r 2) (column new 2) && true)) first
    ∙ ap (λ (b : Bool). is_eq (text_cmp it.kind is.kind) && (b && true)) second
    ∙ both_tied (text_cmp it.kind is.kind) (text_cmp it.name is.name)
    ∙ sym (ap (λ (k : List ℕ). is_eq (ordering_then (text_cmp k (bytes (column r 1))) (text_cmp (bytes (column new 2)) (bytes (column r 2))))) (ap bytes it.has_kind)
    ∙ ap (λ (k : List ℕ). is_eq (ordering_then (text_cmp it.kind k) (text_cmp (bytes (column new 2)) (bytes (column r 2))))) (ap bytes is.has_kind)
    ∙ ap (λ (n : List ℕ). is_eq (ordering_then (text_cmp it.kind is.kind) (text_cmp n (bytes (column r 2))))) (ap bytes it.has_name)
    ∙ ap (λ (n : List ℕ). is_eq (ordering_then (text_cmp it.kind is.kind) (text_cmp it.name n))) (ap bytes is.has_name))

pub alone : (next : Trees) (old : List Row) (new : Row) → Fits both_tables next → next 1 ≡ put_row new old → AreTexts old → IsTextRow new → is_taken old new ≡ false → (r : Row) → Has old r → is_at (place_in new) r ≡ false
alone next old new fits rows texts is free r h =
    let keeps = fits.rules Unique (λ e. absurd (let f = e in cc)) in
    let passed = each (λ row. passes Unique both_tables next row_table row ≡ true) (next 1) new keeps.1.0 (subst (λ l. Has l new) (sym rows) (put_has new old)) in
    let single : clashes plain (1 ∷ 2 ∷ []) (next 1) new ≡ false = let_in (clashes plain (1 ∷ 2 ∷ []) (next 1) new) passed in
    let test = λ (other : Row). agree plain (1 ∷ 2 ∷ []) other (1 ∷ 2 ∷ []) new && differ (rowid other) (rowid new) in
    let both = none test (next 1) r single (subst (λ l. Has l r) (sym rows) (old_has new old r free h)) in
    let ids = none (λ x. is_eq (value_cmp (rowid x) (rowid new))) old r free h in
    sym (places_agree r new (texts.each r h) is) ∙ one_not _ _ both (apart_ids r new (texts.each r h) is ids)
