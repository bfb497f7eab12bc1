-- A store that is moved to layout 2 has the same rows.
use Rattle.std.proofs.Common.{◌≡◌, inl, inr, ℕ, pos, Bool, true, false, cond, ◌&&◌, T, List, [], ◌∷◌, ◌++◌, map, get_or, All, Option, Some, None, option_map, Ok, Err, refl, sym, ap, subst, ◌∙◌}
use Rattle.std.specs.Prelude.{◌≢◌, codes}
use Rattle.std.specs.FinMap.{entries, entries_sorted, entries-from_sorted, find, from_sorted, get, get-entries, get-from_sorted, is_sorted, remove, same_map}
use Rattle.std.specs.FinMap.Entries.{below_all}
use Rattle.std.specs.Ordering.{eq_by_cmp, is_lt}
use Rattle.std.proofs.lemmas.List.Elements.{All-head, All-tail, Contains-get_or}
use Rattle.tables.specs.Keys.{text_pair_cmp, text_pair_total, text_pair_exact}
use Rattle.tables.proofs.Entries.{listed_only}
use Rattle.tables.proofs.Maps.{equal_of_is_eq, told}
use Rattle.sqlite.specs.declared.types.Value.{Value}
use Rattle.sqlite.specs.declared.types.Value.TheVariants.{Int}
use Rattle.sqlite.specs.Tree.{Trees}
use Rattle.sqlite.specs.Effect.{Database}
use Rattle.json_text.specs.Fault.{Read}
use Rattle.ocpi_types.specs.Rows.{key_of}
use Rattle.ocpi_types.specs.declared.rows.Row.{Row}
use Rattle.ocpi_types.specs.declared.rows.Row.TheVariants as row
use Rattle.ocpi_json.specs.RowForms.{row_in, row_in_1, row_text}
use Rattle.ocpi_json.specs.RowKeys.{kind_of_key, row_kind_word}
use Rattle.ocpi_json.proofs.RowLemmas.{row_found_1}
use Rattle.row_table.specs.Layout.{both_tables}
use Rattle.row_table.specs.Texts.{texts_of}
use Rattle.row_table.specs.Contents.{content_of}
use Rattle.row_table.specs.Contents as table
use Rattle.node_store.specs.Contents.{Content, RowPlace, after_row, is_row, line_of, line_place, number_kept, rows_after, rows_of, rows_read}
use Rattle.node_store.specs.Moved.{HasRows, IsMoved, MayBecome, MovesTo, OpeningKeepsRows, OpensAs, is_cdr, moved_text, rows_of_1}
use Rattle.node_store.specs.Moving.{Entry}
use Rattle.node_store.proofs.Layouts.{numbered}
use Rattle.node_store.proofs.Numbered.{get_set_other, get_set_same}
use Rattle.node_store.proofs.Opening.{differ}

-- each place has a text in both or in neither
abbrev AllMoved : Content → Content → Type 0
AllMoved old new = (p : RowPlace) → MovesTo p (get old p) (get new p)

-- ---- the entries

abbrev moved_read : Read Row → List ℕ → List ℕ
moved_read (Ok r) text = moved_text r text
moved_read (Err fault) text = text

abbrev moved_entry : Entry → Entry
moved_entry e = (e.0, moved_read (row_in_1 e.0.0 e.0.1 e.1) e.1)

below_same : (x : RowPlace) (es : List Entry) → below_all text_pair_cmp x (map moved_entry es) ≡ below_all text_pair_cmp x es
below_same x [] = refl
below_same x (e ∷ es) = ap (λ (b : Bool). is_lt (text_pair_cmp x e.0) && b) (below_same x es)

sorted_same : (es : List Entry) → is_sorted text_pair_cmp (map moved_entry es) ≡ is_sorted text_pair_cmp es
sorted_same [] = refl
sorted_same (e ∷ es) = ap (λ (b : Bool). b && is_sorted text_pair_cmp (map moved_entry es)) (below_same e.0 es) ∙ ap (λ (b : Bool). below_all text_pair_cmp e.0 es && b) (sorted_same es)

abbrev moved_at : RowPlace → List ℕ → List ℕ
moved_at p text = moved_read (row_in_1 p.0 p.1 text) text

find_moved : (q : RowPlace) (es : List Entry) → find text_pair_cmp q (map moved_entry es) ≡ option_map (moved_at q) (find text_pair_cmp q es)
find_moved q [] = refl
find_moved q (e ∷ es) = by_place (eq_by_cmp text_pair_cmp q e.0) refl (find_moved q es)
  where
    by_place : (b : Bool) → eq_by_cmp text_pair_cmp q e.0 ≡ b → find text_pair_cmp q (map moved_entry es) ≡ option_map (moved_at q) (find text_pair_cmp q es)
        → cond b (Some (moved_entry e).1) (find text_pair_cmp q (map moved_entry es)) ≡ option_map (moved_at q) (cond b (Some e.1) (find text_pair_cmp q es))
    by_place true tied rest = ap (λ (p : RowPlace). Some (moved_at p e.1)) (sym (text_pair_exact q e.0 (equal_of_is_eq (text_pair_cmp q e.0) tied)))
    by_place false apart rest = rest

moves_at : (p : RowPlace) (old new : Option (List ℕ)) → MovesTo p old new → new ≡ option_map (moved_at p) old
moves_at p (Some t) (Some u) h = ap Some (h.text ∙ sym (ap (λ (read : Read Row). moved_read read t) h.was))
moves_at p (Some t) None h = absurd h
moves_at p None (Some u) h = absurd h
moves_at p None None h = refl

entries_moved : (old new : Content) → AllMoved old new → entries new ≡ map moved_entry (entries old)
entries_moved old new moved =
    let es = map moved_entry (entries old) in
    let sorted = subst T (sym (sorted_same (entries old))) (entries_sorted old) in
    ap entries (same_map text_pair_total text_pair_exact new (from_sorted es) (λ q.
    moves_at q (get old q) (get new q) (moved q) ∙ ap (option_map (moved_at q)) (get-entries old q) ∙ sym (find_moved q (entries old)) ∙ sym (get-from_sorted text_pair_cmp es q sorted)))
    ∙ entries-from_sorted text_pair_cmp es sorted

-- ---- the rows

abbrev ReadsAlike : Entry → Type 0
ReadsAlike e = row_in e.0.0 e.0.1 (moved_entry e).1 ≡ row_in_1 e.0.0 e.0.1 e.1

alike : (p : RowPlace) (t : List ℕ) (new : Option (List ℕ)) → MovesTo p (Some t) new → row_in p.0 p.1 (moved_at p t) ≡ row_in_1 p.0 p.1 t
alike p t (Some u) h = ap (row_in p.0 p.1) (ap (λ (read : Read Row). moved_read read t) h.was ∙ sym h.text) ∙ h.is ∙ sym h.was
alike p t None h = absurd h

goes_on : (read : Read Row) (f g : Row → Option (List Row)) → ((r : Row) → f r ≡ g r) → after_row read f ≡ after_row read g
goes_on (Ok r) f g same = same r
goes_on (Err fault) f g same = refl

read_alike : (before : List Row) (es : List Entry) → All ReadsAlike es → rows_after before (map moved_entry es) ≡ rows_read row_in_1 before es
read_alike before [] each = refl
read_alike before (e ∷ es) each =
    ap (λ (read : Read Row). after_row read (λ r. rows_after (before ++ r ∷ []) (map moved_entry es))) (All-head ReadsAlike e es each)
    ∙ goes_on (row_in_1 e.0.0 e.0.1 e.1) _ _ (λ r. read_alike (before ++ r ∷ []) es (All-tail ReadsAlike e es each))

all_rows : (old new : Content) → AllMoved old new → rows_after [] (entries new) ≡ rows_read row_in_1 [] (entries old)
all_rows old new moved =
    ap (rows_after []) (entries_moved old new moved)
    ∙ read_alike [] (entries old) (λ k d low.
    let e = get_or (entries old) k d in
    let stands = listed_only text_pair_total text_pair_exact old e.0 e.1 (Contains-get_or (entries old) k d low) in
    alike e.0 e.1 (get new e.0) (subst (λ (o : Option (List ℕ)). MovesTo e.0 o (get new e.0)) stands (moved e.0)))

none_moved : (p : RowPlace) (old new : Option (List ℕ)) → old ≡ None → new ≡ None → MovesTo p old new
none_moved p old new was is = subst (λ (o : Option (List ℕ)). MovesTo p o new) (sym was) (subst (MovesTo p None) (sym is) tt)

-- without the number all are rows
moved_without : (old new : Content) → IsMoved old new → AllMoved (remove old line_place) (remove new line_place)
moved_without old new moved p = elim (told text_pair_total text_pair_exact p line_place) [
  | inl at ↦ subst (λ (q : RowPlace). MovesTo q (get (remove old line_place) q) (get (remove new line_place) q)) (sym at)
      (none_moved line_place (get (remove old line_place) line_place) (get (remove new line_place) line_place) (get_set_same old line_place None) (get_set_same new line_place None))
  | inr other ↦ subst (λ (o : Option (List ℕ)). MovesTo p o (get (remove new line_place) p)) (sym (get_set_other old line_place None p other))
      (subst (MovesTo p (get old p)) (sym (get_set_other new line_place None p other)) (moved.rows p other))
]

same_rows : (old new : Content) → IsMoved old new → rows_of new ≡ rows_of_1 old
same_rows old new moved = all_rows (remove old line_place) (remove new line_place) (moved_without old new moved)

-- ---- the law

pub other_version : (vs : List Value) → vs ≡ Int (pos 1) ∷ [] → vs ≡ Int (pos 2) ∷ [] → ⊥
other_version vs one two = absurd (let h = sym one ∙ two in cc)

rows_of_two : (c : table.Content) (rows : List Row) → c.versions ≡ Int (pos 2) ∷ [] → HasRows c rows → rows_of c.texts ≡ Some rows
rows_of_two c rows two (inl h) = absurd (other_version c.versions h.0 two)
rows_of_two c rows two (inr h) = h.1

rows_of_one : (c : table.Content) (rows : List Row) → c.versions ≡ Int (pos 1) ∷ [] → HasRows c rows → rows_of_1 c.texts ≡ Some rows
rows_of_one c rows one (inl h) = h.1
rows_of_one c rows one (inr h) = absurd (other_version c.versions one h.0)

opened : (db : Database) (c : table.Content) (rows : List Row) → db.schema ≡ both_tables → HasRows (content_of db.trees) rows → OpensAs db c → rows_of c.texts ≡ Some rows
opened db c rows both has (inl (inl h)) = ap (λ (d : table.Content). rows_of d.texts) h.2 ∙ rows_of_two (content_of db.trees) rows (numbered 2 (db.trees 0) h.1) has
opened db c rows both has (inl (inr h)) = absurd (differ (sym both ∙ h.0))
opened db c rows both has (inr h) = same_rows (texts_of db.trees) c.texts h.1.1 ∙ rows_of_one (content_of db.trees) rows (numbered 1 (db.trees 0) h.0.1) has

stopped : (db : Database) (trees : Trees) (rows : List Row) → db.schema ≡ both_tables → HasRows (content_of db.trees) rows → MayBecome db trees → HasRows (content_of trees) rows
stopped db trees rows both has (inl h) = absurd (differ (sym both ∙ h.0))
stopped db trees rows both has (inr h) =
    inr (h.2.0, same_rows (texts_of db.trees) (texts_of trees) h.2.1 ∙ rows_of_one (content_of db.trees) rows (numbered 1 (db.trees 0) h.0.1) has)

opened_line : (db : Database) (c : table.Content) → db.schema ≡ both_tables → OpensAs db c → line_of c.texts ≡ line_of (texts_of db.trees)
opened_line db c both (inl (inl h)) = ap (λ (d : table.Content). line_of d.texts) h.2
opened_line db c both (inl (inr h)) = absurd (differ (sym both ∙ h.0))
opened_line db c both (inr h) = ap number_kept h.1.1.line

stopped_line : (db : Database) (trees : Trees) → db.schema ≡ both_tables → MayBecome db trees → line_of (texts_of trees) ≡ line_of (texts_of db.trees)
stopped_line db trees both (inl h) = absurd (differ (sym both ∙ h.0))
stopped_line db trees both (inr h) = ap number_kept h.2.1.line

none_bad : (p : RowPlace) (t : List ℕ) (new : Option (List ℕ)) → MovesTo p (Some t) new → is_row (row_in_1 p.0 p.1 t) ≡ false → ⊥
none_bad p t (Some u) h bad = absurd (let row : is_row (row_in_1 p.0 p.1 t) ≡ true = ap is_row h.was in cc)
none_bad p t None h bad = h

cdr_kind : (r : Row) → is_cdr r ≡ true → row_kind_word (kind_of_key (key_of r)) ≡ codes "cdr"
cdr_kind (row.Count counter last) is = absurd (let e = is in cc)
cdr_kind (row.Reply sender number reply) is = absurd (let e = is in cc)
cdr_kind (row.Token t) is = absurd (let e = is in cc)
cdr_kind (row.Push number to push) is = absurd (let e = is in cc)
cdr_kind (row.Service evse_uid) is = absurd (let e = is in cc)
cdr_kind (row.Spent provider reference) is = absurd (let e = is in cc)
cdr_kind (row.Mark provider reservation_id number) is = absurd (let e = is in cc)
cdr_kind (row.Reservation provider reservation_id r) is = absurd (let e = is in cc)
cdr_kind (row.Pending provider number open_command) is = absurd (let e = is in cc)
cdr_kind (row.Result provider number result) is = absurd (let e = is in cc)
cdr_kind (row.Session s) is = absurd (let e = is in cc)
cdr_kind (row.Cdr c) is = refl
cdr_kind (row.Command number command) is = absurd (let e = is in cc)

same_text : (r : Row) (t : List ℕ) (b : Bool) → is_cdr r ≡ b → (is_cdr r ≡ true → ⊥) → cond b (row_text r) t ≡ t
same_text r t true is other = absurd (other is)
same_text r t false is other = refl

-- a row that is read is of the kind under which it stands
stays : (p : RowPlace) (old new : Option (List ℕ)) → p.0 ≢ codes "cdr" → MovesTo p old new → new ≡ old
stays p (Some t) (Some u) other h =
    ap Some (h.text ∙ same_text h.row t (is_cdr h.row) refl (λ is. other (sym (row_found_1 p.0 p.1 t h.row h.was).kind ∙ cdr_kind h.row is)))
stays p (Some t) None other h = absurd h
stays p None (Some u) other h = absurd h
stays p None None other h = refl

pub opening_keeps_rows : OpeningKeepsRows
opening_keeps_rows = record {
  opened = opened;
  stopped = stopped;
  opened_line = opened_line;
  stopped_line = stopped_line;
  bad = λ old new h moved. none_bad h.place h.text (get new h.place) (subst (λ (o : Option (List ℕ)). MovesTo h.place o (get new h.place)) h.stands (moved.rows h.place h.other)) h.bad;
  others = λ old new moved p other. elim (told text_pair_total text_pair_exact p line_place) [
    | inl at ↦ subst (λ (q : RowPlace). get new q ≡ get old q) (sym at) moved.line
    | inr apart ↦ stays p (get old p) (get new p) other (moved.rows p apart)
  ];
}
