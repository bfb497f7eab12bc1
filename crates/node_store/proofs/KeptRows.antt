-- A content of rows has rows, and stays one where rows that are read again are put.
use Rattle.std.proofs.Common.{◌≡◌, ◌≢◌, ℕ, Bool, true, false, cond, List, [], ◌∷◌, ◌++◌, get_or, All, IfSome, IsSome, OnOk, OnErr, Option, Some, None, Result, Ok, Err, refl, sym, ap, subst, ◌∙◌}
use Rattle.std.specs.FinMap.{entries, get, empty, remove, get-empty, get-insert, get-remove}
use Rattle.std.specs.Ordering.{eq_by_cmp, is_eq}
use Rattle.std.specs.declared.cmp.Ordering.{Ordering}
use Rattle.std.specs.declared.cmp.Ordering.TheVariants.{Less, Equal, Greater}
use Rattle.std.proofs.lemmas.List.Elements.{All-head, All-tail, Contains-get_or}
use Rattle.tables.specs.Keys.{text_pair_cmp, text_pair_total, text_pair_exact}
use Rattle.tables.proofs.Entries.{listed_only}
use Rattle.tables.proofs.Maps.{of_remove}
use Rattle.json_text.specs.Fault.{Read}
use Rattle.ocpi_types.specs.Rows.{key_of}
use Rattle.ocpi_types.specs.declared.rows.Change.{Change}
use Rattle.ocpi_types.specs.declared.rows.Change.TheVariants as change
use Rattle.ocpi_types.specs.declared.rows.Row.{Row}
use Rattle.ocpi_json.specs.RowForms.{row_in, row_text}
use Rattle.node_store.specs.Contents.{AreRows, Content, IsLineNumber, IsReadAgain, RowPlace, after_row, changed, changed_all, is_row, line_of, line_place, line_text, marked, number_kept, place_of, rows_after, rows_of}
use Rattle.node_store.proofs.Numbered.{get_set_other, line_marked, line_of_empty, line_stays}

abbrev Entry : Type 0
Entry = RowPlace × List ℕ

abbrev IsRowEntry : Entry → Type 0
IsRowEntry e = is_row (row_in e.0.0 e.0.1 e.1) ≡ true

goes_on : (read : Read Row) (f : Row → Option (List Row)) → is_row read ≡ true → ((r : Row) → IsSome (f r)) → IsSome (after_row read f)
goes_on (Ok r) f h some = some r
goes_on (Err e) f h some = absurd cc

each_read : (before : List Row) (es : List Entry) → All IsRowEntry es → IsSome (rows_after before es)
each_read before [] h = refl
each_read before (e ∷ es) h = goes_on (row_in e.0.0 e.0.1 e.1) (λ r. rows_after (before ++ r ∷ []) es) (All-head IsRowEntry e es h) (λ r. each_read (before ++ r ∷ []) es (All-tail IsRowEntry e es h))

pub rows_are : (c : Content) → AreRows c → IsSome (rows_of c)
rows_are c h = each_read [] (entries (remove c line_place)) (λ k d low.
    let e = get_or (entries (remove c line_place)) k d in
    let stands = listed_only text_pair_total text_pair_exact (remove c line_place) e.0 e.1 (Contains-get_or (entries (remove c line_place)) k d low) in
    let was = of_remove text_pair_total text_pair_exact c line_place e.0 e.1 stands in
    h e.0 e.1 was.0 was.1)

equal_of : (r : Ordering) → is_eq r ≡ true → r ≡ Equal
equal_of Less h = absurd cc
equal_of Equal h = refl
equal_of Greater h = absurd cc

put_row : (b : Bool) (p k : RowPlace) (v t : List ℕ) (rest : Option (List ℕ)) → (b ≡ true → p ≡ k) → is_row (row_in k.0 k.1 v) ≡ true → (rest ≡ Some t → is_row (row_in p.0 p.1 t) ≡ true)
    → cond b (Some v) rest ≡ Some t → is_row (row_in p.0 p.1 t) ≡ true
put_row true p k v t rest same own others e =
    let text : v ≡ t = cc in
    subst (λ (q : RowPlace). is_row (row_in q.0 q.1 t) ≡ true) (sym (same refl)) (subst (λ (u : List ℕ). is_row (row_in k.0 k.1 u) ≡ true) text own)
put_row false p k v t rest same own others e = others e

left_row : (b : Bool) (t : List ℕ) (rest : Option (List ℕ)) → cond b None rest ≡ Some t → rest ≡ Some t
left_row true t rest e = absurd cc
left_row false t rest e = e

read_again : (read : Read Row) (r : Row) → read ≡ Ok r → is_row read ≡ true
read_again read r e = ap is_row e

changed_rows : (c : Content) (x : Change) → IsReadAgain x → AreRows c → AreRows (changed c x)
changed_rows c (change.Put r) again h p t other found =
    let k = place_of (key_of r) in
    put_row (eq_by_cmp text_pair_cmp p k) p k (row_text r) t (get c p) (λ same. text_pair_exact p k (equal_of (text_pair_cmp p k) same)) (read_again (row_in k.0 k.1 (row_text r)) r again.0) (h p t other)
    (sym (get-insert text_pair_total c k (row_text r) p) ∙ found)
changed_rows c (change.Drop k) again h p t other found =
    h p t other (left_row (eq_by_cmp text_pair_cmp p (place_of k)) t (get c p) (sym (get-remove text_pair_total c (place_of k) p) ∙ found))

pub all_rows : (c : Content) (xs : List Change) → All IsReadAgain xs → AreRows c → AreRows (changed_all c xs)
all_rows c [] again h = h
all_rows c (x ∷ xs) again h = all_rows (changed c x) xs (All-tail IsReadAgain x xs again) (changed_rows c x (All-head IsReadAgain x xs again) h)

pub no_rows : AreRows empty
no_rows p t other found = absurd (let none : get {X = List ℕ} {R = text_pair_cmp} empty p ≡ None = get-empty text_pair_cmp p in cc)

marked_rows : (c : Content) (m : Option ℕ) → AreRows c → AreRows (marked m c)
marked_rows c None h p t other found = h p t other found
marked_rows c (Some n) h p t other found = h p t other (sym (get_set_other c line_place (Some (line_text n)) p other) ∙ found)

marked_number : (c : Content) (xs : List Change) (m : Option ℕ) → IfSome m IsLineNumber → IsSome (line_of c) → IsSome (line_of (marked m (changed_all c xs)))
marked_number c xs None fits h = subst IsSome (sym (ap number_kept (line_stays c xs))) h
marked_number c xs (Some n) fits h = subst IsSome (sym (line_marked (changed_all c xs) n fits.0 fits.1)) refl

-- rows, and a number where one is kept
abbrev pub AreKept : Content → Type 0
AreKept c = AreRows c × IsSome (line_of c)

pub none_kept : AreKept empty
none_kept = (no_rows, subst IsSome (sym line_of_empty) refl)

-- whether the changes were made or not
pub kept_rows : {X E : Type 0} (r : Result X E) (old new : Content) (xs : List Change) (m : Option ℕ) → OnOk r (new ≡ marked m (changed_all old xs)) → OnErr r (new ≡ old) → OnOk r (All IsReadAgain xs) → OnOk r (IfSome m IsLineNumber)
    → AreKept old → AreKept new
kept_rows (Ok x) old new xs m all none again fits h = subst AreKept (sym all) (marked_rows (changed_all old xs) m (all_rows old xs again h.0), marked_number old xs m fits h.1)
kept_rows (Err e) old new xs m all none again fits h = subst AreKept (sym none) h
