-- From what a statement does to what is then held.
use Rattle.std.proofs.Common.{◌≡◌, inl, inr, ℕ, pos, List, [], ◌∷◌, map, Bool, true, false, cond, IsTrue, Option, Some, None, Ok, Err, Result, OnErr, OnOk, refl, sym, ap, subst, ◌∙◌}
use Rattle.std.proofs.lemmas.Bool.{cases_Bool}
use Rattle.std.specs.FinMap.{get, insert, remove, get-insert, get-remove, same_map}
use Rattle.std.specs.Ordering.{eq_by_cmp}
use Rattle.tables.specs.Keys.{text_pair_cmp, text_pair_total, text_pair_exact}
use Rattle.sqlite.specs.declared.types.Value.{Value}
use Rattle.sqlite.specs.declared.types.Value.TheVariants.{Int, Text}
use Rattle.sqlite.specs.declared.error.Error.{Error}
use Rattle.sqlite.specs.Edit.{next_rowid}
use Rattle.sqlite.specs.Order.{Row, column}
use Rattle.sqlite.specs.Tree.{Trees}
use Rattle.sqlite_catalog.specs.Listing.{IsSound}
use Rattle.sqlite.specs.State.{State, Shows, KeepsCommit, ExecutesInside}
use Rattle.row_table.specs.Texts.{Place, Texts, texts_in, texts_of, text_row, IsTextRow, AreTexts}
use Rattle.row_table.specs.Layout.{both_tables}
use Rattle.row_table.specs.Contents.{Content, IsNumbered, at_version, content_of, versions, with_texts}
use Rattle.row_table.specs.Effects.{HasTables, HadTables, HasMade, HasNoVersion, HasNumbered, IsNotMade}
use Rattle.row_table.proofs.Meanings.{insert_text, delete_text, layout_delete, layout_insert}
use Rattle.row_table.proofs.RowLemmas.{texts_rest, are_rest, texts_put, are_put}
use Rattle.row_table.proofs.UniqueLemmas.{alone}
use Rattle.row_table.proofs.StatementLemmas.{deletes, inserts}
use Rattle.row_table.proofs.VersionLemmas.{deletes_version, inserts_version}

-- ---- what stays

abbrev pub content : List Value → Texts → Content
content vs ts = record { versions = vs; texts = ts }

pub same_content : (old new : Trees) → new 0 ≡ old 0 → (t : Texts) → texts_of new ≡ t → content_of new ≡ with_texts (content_of old) t
same_content old new same t is =
    ap (λ (rows : List Row). content (map (λ (r : Row). column r 1) rows) (texts_of new)) same ∙ ap (content (versions old)) is

-- the tables and the version stay
pub still : (old new : State) → new.now.schema ≡ both_tables → IsSound both_tables new.now.trees → HasTables old.now → new.now.trees 0 ≡ old.now.trees 0 → AreTexts (new.now.trees 1) → HasTables new.now
still old new schema listed it same texts = record {
  schema = schema;
  whole = record { listed = listed; version = it.whole.version; has_version = subst (IsNumbered it.whole.version) (sym same) it.whole.has_version; are_texts = texts };
}

-- ---- statements on `row_text`

pub clears : (old new : State) (kind name : List ℕ) (r : Result ℕ Error) → HadTables old → (old.in_transaction ≡ false → (e : Error) × (r ≡ Err e))
    → (IsTrue old.in_transaction → ExecutesInside 0 delete_text (Text kind ∷ Text name ∷ []) old new r) → OnOk r (HasMade old new (with_texts (content_of old.now.trees) (remove (texts_of old.now.trees) (kind, name))))
clears old new kind name (Err e) has ended runs = tt
clears old new kind name (Ok count) has ended runs = elim (cases_Bool old.in_transaction) [
  | inl within ↦
      let ran = runs within in
      let it = has ran.1.was_open in
      let after = deletes old new kind name (Ok count) it.schema it.whole.are_texts ran.0 in
      record {
        shown = ran.1;
        tables = still old new after.schema after.listed it after.layout_is (subst AreTexts (sym after.rows_are) (are_rest (kind, name) (old.now.trees 1) it.whole.are_texts));
        holds = same_content old.now.trees new.now.trees after.layout_is _ (ap texts_in after.rows_are ∙ texts_rest (kind, name) (old.now.trees 1));
      }
  | inr outside ↦ absurd (let e = (ended outside).1 in cc)
]

pub adds : (old new : State) (kind name body : List ℕ) (r : Result ℕ Error) → HadTables old → (old.in_transaction ≡ false → (e : Error) × (r ≡ Err e))
    → (IsTrue old.in_transaction → ExecutesInside 0 insert_text (Text kind ∷ Text name ∷ Text body ∷ []) old new r) → OnOk r (HasMade old new (with_texts (content_of old.now.trees) (insert (texts_of old.now.trees) (kind, name) body)))
adds old new kind name body (Err e) has ended runs = tt
adds old new kind name body (Ok count) has ended runs = elim (cases_Bool old.in_transaction) [
  | inl within ↦
      let ran = runs within in
      let it = has ran.1.was_open in
      let rows = old.now.trees 1 in
      let row = text_row (next_rowid rows) kind name body in
      let after = inserts old new kind name body (Ok count) it.schema ran.0 in
      let is : IsTextRow row = record { id = next_rowid rows; kind = kind; name = name; body = body; has_id = refl; has_kind = refl; has_name = refl; has_body = refl } in
      let apart = alone after.2 rows row after.3 after.4 it.whole.are_texts is after.1 in
      record {
        shown = ran.1;
        tables = still old new after.0.schema after.0.listed it after.0.layout_is (subst AreTexts (sym after.0.rows_are) (are_put row rows it.whole.are_texts is after.1));
        holds = same_content old.now.trees new.now.trees after.0.layout_is _ (ap texts_in after.0.rows_are ∙ texts_put row rows apart after.1);
      }
  | inr outside ↦ absurd (let e = (ended outside).1 in cc)
]

pub put_back : (t : Texts) (p : Place) (body : List ℕ) → insert (remove t p) p body ≡ insert t p body
put_back t p body = same_map text_pair_total text_pair_exact _ _ (λ q. get-insert text_pair_total (remove t p) p body q ∙ ap (cond (eq_by_cmp text_pair_cmp q p) (Some body)) (get-remove text_pair_total t p q)
    ∙ chosen (eq_by_cmp text_pair_cmp q p) (get t q) ∙ sym (get-insert text_pair_total t p body q))
  where
    chosen : (b : Bool) (x : Option (List ℕ)) → cond b (Some body) (cond b None x) ≡ cond b (Some body) x
    chosen true x = refl
    chosen false x = refl

-- an insert that failed
pub fails : (old new : State) (sql : List ℕ) (params : Row) (r : Result ℕ Error) → (old.in_transaction ≡ false → new.in_transaction ≡ false) → (IsTrue old.in_transaction → ExecutesInside 0 sql params old new r) → OnErr r (IsNotMade old new)
fails old new sql params (Ok count) ended runs = tt
fails old new sql params (Err e) ended runs = elim (cases_Bool old.in_transaction) [
  | inl within ↦ elim (runs within) [
    | inl ran ↦ elim ran.1 [ inl same ↦ inl same | inr back ↦ inr back.autocommit ]
    | inr escapes ↦ inl escapes.2
  ]
  | inr outside ↦ inr (ended outside)
]

pub shows_then : (a b c : State) → Shows a b b.now a.committed true → Shows b c c.now b.committed true → Shows a c c.now a.committed true
shows_then a b c p q = record { was_open = p.was_open; is_open = q.is_open; now_is = refl; committed_is = q.committed_is ∙ p.committed_is; mode = q.mode }

-- ---- the version

pub clears_version : (old new : State) (r : Result ℕ Error) → HadTables old → (old.in_transaction ≡ false → (e : Error) × (r ≡ Err e)) → (IsTrue old.in_transaction → ExecutesInside 0 layout_delete [] old new r)
    → OnOk r (HasNoVersion old new)
clears_version old new (Err e) has ended runs = tt
clears_version old new (Ok count) has ended runs = elim (cases_Bool old.in_transaction) [
  | inl within ↦
      let ran = runs within in
      let after = deletes_version old new count (has ran.1.was_open) ran.0 in
      record { shown = ran.1; schema = after.0; none = after.1; texts = after.2 }
  | inr outside ↦ absurd (let e = (ended outside).1 in cc)
]

pub adds_version : (old new : State) (version : ℕ) (r : Result ℕ Error) → old.now.schema ≡ both_tables → old.now.trees 0 ≡ [] → (old.in_transaction ≡ false → (e : Error) × (r ≡ Err e))
    → (IsTrue old.in_transaction → ExecutesInside 0 layout_insert (Int (pos version) ∷ []) old new r) → OnOk r (HasNumbered version old new)
adds_version old new version (Err e) schema none ended runs = tt
adds_version old new version (Ok count) schema none ended runs = elim (cases_Bool old.in_transaction) [
  | inl within ↦
      let ran = runs within in
      let after = inserts_version old new version count schema none ran.0 in
      record { shown = ran.1; schema = after.schema; listed = after.listed; has_version = after.has_version; texts = after.texts }
  | inr outside ↦ absurd (let e = (ended outside).1 in cc)
]

pub puts_version : (old mid new : State) (version : ℕ) → HadTables old → HasNoVersion old mid → HasNumbered version mid new → HasMade old new (at_version version (texts_of old.now.trees))
puts_version old mid new version had first second =
    let it = had first.shown.was_open in
    let texts : new.now.trees 1 ≡ old.now.trees 1 = second.texts ∙ first.texts in
    let v = second.has_version in
    record {
      shown = shows_then old mid new first.shown second.shown;
      tables = record {
        schema = second.schema;
        whole = record { listed = second.listed; version = version; has_version = v; are_texts = subst AreTexts (sym texts) it.whole.are_texts };
      };
      holds = ap (λ (rows : List Row). content (map (λ (r : Row). column r 1) rows) (texts_of new.now.trees)) v.only
          ∙ ap (λ (x : Value). content (x ∷ []) (texts_of new.now.trees)) v.has_version ∙ ap (λ (rows : List Row). content (Int (pos version) ∷ []) (texts_in rows)) texts;
    }

pub ok_then : {A E : Type 0} (r : Result A E) (P Q : Type 0) → (P → Q) → OnOk r P → OnOk r Q
ok_then (Ok a) P Q f p = f p
ok_then (Err e) P Q f p = tt

pub keeps_then : (a b c : State) → KeepsCommit a b → KeepsCommit b c → KeepsCommit a c
keeps_then a b c p q = record { was_open = λ h. p.was_open (q.was_open h); committed = λ h. q.committed h ∙ p.committed (q.was_open h) }
