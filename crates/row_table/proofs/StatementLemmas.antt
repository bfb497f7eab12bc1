-- What the statements on `row_text` do to its rows.
use Rattle.std.proofs.Common.{◌≡◌, ◌⊎◌, inl, inr, ℕ, List, [], ◌∷◌, map, Bool, true, false, cond, not, None, Some, Ok, Err, Result, OnOk, refl, sym, ap, subst, ◌∙◌, arith}
use Rattle.std.specs.Prelude.{◌&&◌, flat_map, ◌++◌}
use Rattle.std.specs.List.Sorted.{IsPermutation}
use Rattle.std.specs.List.{list_all}
use Rattle.std.specs.Ordering.{is_eq, ordering_then}
use Rattle.std.specs.declared.cmp.Ordering.{Ordering}
use Rattle.std.specs.declared.cmp.Ordering.TheVariants.{Less, Equal, Greater}
use Rattle.std.proofs.lemmas.List.Sorted.{IsPermutation-sym, IsPermutation-map}
use Rattle.sqlite.specs.declared.types.Value.{Value}
use Rattle.sqlite.specs.declared.types.Value.TheVariants.{Null, Int, Text}
use Rattle.sqlite_sql.specs.declared.ops.BinaryOp.TheVariants as binary
use Rattle.sqlite_sql.specs.declared.ops.CompareOp.TheVariants as compare
use Rattle.sqlite.specs.Collation.TheVariants as collation
use Rattle.sqlite_sql.specs.Ops as ops
use Rattle.sqlite.specs.Order.{Row, column, bytes, value_cmp}
use Rattle.sqlite_sql.specs.Term.{Term, holds, Env, op2, col}
use Rattle.sqlite.specs.Query.{inner, end, IsAnswer, output, Output, matches}
use Rattle.sqlite.specs.Program.{overlay}
use Rattle.sqlite.specs.Schema.{Schema}
use Rattle.sqlite.specs.Kind.TheVariants.{Integer}
use Rattle.sqlite.specs.Source.TheVariants.{Values}
use Rattle.sqlite.specs.Command.TheVariants.{Insert, Delete}
use Rattle.sqlite.specs.Edit.{id_in, put_all, edit_of, next_rowid, without_all, is_taken, are_fresh}
use Rattle.sqlite.specs.Cast.{cast}
use Rattle.sqlite.specs.Ops.{unary}
use Rattle.sqlite.specs.Rowids.TheVariants.{Chosen, Given}
use Rattle.sqlite.specs.Does.{Tally, Does}
use Rattle.sqlite.specs.Rows.{Written}
use Rattle.sqlite.specs.Tree.{Trees, rowid, put_row}
use Rattle.sqlite.specs.declared.error.Error.{Error}
use Rattle.sqlite.specs.Listing.{understood}
use Rattle.sqlite.specs.Effect.{Database, IsDatabase}
use Rattle.sqlite.specs.State.{State, mode_of, Executes, Shown}
use Rattle.sqlite.proofs.Callers.{statement_of, runs_as, reads_as, one_step}
use Rattle.sqlite_rules.specs.Calls.{ids_of}
use Rattle.sqlite_rules.specs.Lists.{Has}
use Rattle.sqlite_rules.proofs.ListLemmas.{has_right, has_contained, contains_had}
use Rattle.std.proofs.lemmas.List.Sorted.{Contains-permutation}
use Rattle.std.specs.Cmp.{eq_by_cmp_equiv}
use Rattle.sqlite_value.proofs.OrderLemmas.{value_cmp-Text}
use Rattle.sqlite_catalog.specs.Listing.{IsSound}
use Rattle.sqlite_schema.specs.Rules.{Fits}
use Rattle.tables.specs.Keys.{text_cmp, text_total}
use Rattle.row_table.specs.Layout.{both_tables, row_table}
use Rattle.row_table.specs.Texts.{text_row, IsTextRow, AreTexts}
use Rattle.row_table.proofs.Meanings.{insert_text, delete_text, select_text, whole_select, insert_terms, delete_tests, delete_query, select_query, whole_query, insert_is, insert_plain, delete_is, delete_plain, select_is, select_plain, whole_is, whole_plain}
use Rattle.row_table.proofs.RowLemmas.{is_at, rest, cleared}

-- ---- lists

pub has_matched : {X Y : Type 0} (p : X → Bool) (f : X → Y) (xs : List X) (y : Y) → Has (flat_map (λ x. cond (p x) (f x ∷ []) []) xs) y → (x : X) × Has xs x × (p x ≡ true) × (y ≡ f x)
has_matched p f [] y h = absurd h
has_matched {X} {Y} p f (x ∷ xs) y h = go (p x) refl h (has_matched p f xs y)
  where
    go : (b : Bool) → p x ≡ b → Has (cond b (f x ∷ []) [] ++ flat_map (λ z. cond (p z) (f z ∷ []) []) xs) y
        → (Has (flat_map (λ z. cond (p z) (f z ∷ []) []) xs) y → (z : X) × Has xs z × (p z ≡ true) × (y ≡ f z)) → (z : X) × Has (x ∷ xs) z × (p z ≡ true) × (y ≡ f z)
    go true is (inl same) later = (x, inl refl, is, same)
    go true is (inr there) later = let r = later there in (r.0, inr r.1, r.2, r.3)
    go false is there later = let r = later there in (r.0, inr r.1, r.2, r.3)

pub matched_has : {X Y : Type 0} (p : X → Bool) (f : X → Y) (xs : List X) (x : X) → Has xs x → p x ≡ true → Has (flat_map (λ z. cond (p z) (f z ∷ []) []) xs) (f x)
matched_has p f [] x h passes = absurd h
matched_has p f (z ∷ xs) x (inl same) passes = rw (← same, passes) (inl refl)
matched_has p f (z ∷ xs) x (inr later) passes = has_right (cond (p z) (f z ∷ []) []) (flat_map (λ w. cond (p w) (f w ∷ []) []) xs) (f x) (matched_has p f xs x later passes)

pub has_mapped : {X Y : Type 0} (f : X → Y) (xs : List X) (y : Y) → Has (map f xs) y → (x : X) × Has xs x × (y ≡ f x)
has_mapped f [] y h = absurd h
has_mapped f (x ∷ xs) y (inl same) = (x, inl refl, same)
has_mapped f (x ∷ xs) y (inr later) = let r = has_mapped f xs y later in (r.0, inr r.1, r.2)

pub mapped_has : {X Y : Type 0} (f : X → Y) (xs : List X) (x : X) → Has xs x → Has (map f xs) (f x)
mapped_has f [] x h = absurd h
mapped_has f (z ∷ xs) x (inl same) = inl (ap f same)
mapped_has f (z ∷ xs) x (inr later) = inr (mapped_has f xs x later)

pub has_permuted : {X : Type 0} (xs ys : List X) (x : X) → IsPermutation xs ys → Has xs x → Has ys x
has_permuted xs ys x same h = has_contained ys x (Contains-permutation xs ys x same (contains_had xs x h))

-- ---- a part of a statement that gave a value did not stop on the way

pub went : {B E R : Type 0} {b : B} {Stops : E → Type 0} → ((stop : E) × Stops stop × (Ok b ≡ Err stop)) ⊎ R → R
went (inl stopped) = absurd (let e = stopped.2 in cc)
went (inr on) = on

pub same_value : {B E : Type 0} {a b : B} → ◌≡◌ {A = Result B E} (Ok a) (Ok b) → a ≡ b
same_value e = cc

pub either : (b : Bool) (x : Value) → cond b x x ≡ x
either true x = refl
either false x = refl

cast_null : cast Integer Null ≡ Null
unfolding unary
cast_null = either _ Null

-- ---- DELETE

-- the tests pass where the row is at the place
tied : (r : Ordering) → ops.is_true (ops.from_truth (Some (is_eq r))) ≡ is_eq r
tied Less = refl
tied Equal = refl
tied Greater = refl

pub both_tied : (a b : Ordering) → (is_eq a && (is_eq b && true)) ≡ is_eq (ordering_then a b)
both_tied Less b = refl
both_tied Equal Less = refl
both_tied Equal Equal = refl
both_tied Equal Greater = refl
both_tied Greater b = refl

pub equal_texts : (s t : List ℕ) → ops.is_true (ops.binary (binary.Compare compare.Eq collation.Binary) (Text s) (Text t)) ≡ is_eq (text_cmp t s)
unfolding ops.binary value_cmp
equal_texts s t = tied (value_cmp (Text s) (Text t)) ∙ ap is_eq (value_cmp-Text s t) ∙ (eq_by_cmp_equiv text_total).symm s t

pub tests_are : (kind name : List ℕ) (more : Row) (r : Row) → IsTextRow r → list_all (holds ((Text kind ∷ Text name ∷ more) ∷ r ∷ [])) delete_tests ≡ is_at (kind, name) r
tests_are kind name more r is =
    let first = ap (λ (v : Value). ops.is_true (ops.binary (binary.Compare compare.Eq collation.Binary) v (Text kind))) is.has_kind ∙ equal_texts is.kind kind in
    let second = ap (λ (v : Value). ops.is_true (ops.binary (binary.Compare compare.Eq collation.Binary) v (Text name))) is.has_name ∙ equal_texts is.name name in
    ap (λ (b : Bool). b && (holds ((Text kind ∷ Text name ∷ more) ∷ r ∷ []) (op2 (binary.Compare compare.Eq collation.Binary) (col 1 2) (col 0 1)) && true)) first
    ∙ ap (λ (b : Bool). is_eq (text_cmp kind is.kind) && (b && true)) second
    ∙ both_tied (text_cmp kind is.kind) (text_cmp name is.name)
    ∙ sym (ap (λ (k : List ℕ). is_eq (ordering_then (text_cmp kind k) (text_cmp name (bytes (column r 2))))) (ap bytes is.has_kind) ∙ ap (λ (n : List ℕ). is_eq (ordering_then (text_cmp kind is.kind) (text_cmp name n))) (ap bytes is.has_name))

record AreFound (terms : List Term) (rows : List Row) (given : Row) (found : List Row) : Type 0 where
  sound : (x : Row) → Has found x → (r : Row) × Has rows r × (list_all (holds (given ∷ r ∷ [])) terms ≡ true) × (x ≡ rowid r ∷ [])
  complete : (r : Row) → Has rows r → list_all (holds (given ∷ r ∷ [])) terms ≡ true → Has found (rowid r ∷ [])

found_rowids : (db : Trees) (given : Row) (found : List Row) → IsAnswer delete_query db given found → AreFound delete_tests (db 1) given found
found_rowids db given found answer =
    let q = delete_query in
    let test = λ (r : Row). list_all (holds (given ∷ r ∷ [])) delete_tests in
    let env = λ (r : Row). given ∷ r ∷ [] in
    let all = matches db delete_tests (inner 1 end) (given ∷ []) in
    let kept : answer.kept ≡ map (output q) all = answer.distinct ∙ ap (map (output q)) answer.grouped in
    record {
      sound = λ x h.
          let o = has_mapped (λ (k : Output). k.1) answer.ordered x (subst (λ l. Has l x) answer.shown h) in
          let e = has_mapped (output q) all o.0 (subst (λ l. Has l o.0) kept (has_permuted answer.ordered answer.kept o.0 (IsPermutation-sym _ _ answer.same) o.1)) in
          let r = has_matched test env (db 1) e.0 e.1 in
          (r.0, r.1, r.2, o.2 ∙ ap (λ (k : Output). k.1) (e.2 ∙ ap (output q) r.3));
      complete = λ r h passes.
          let o = output q (env r) in
          let there = subst (λ l. Has l o) (sym kept) (mapped_has (output q) all (env r) (matched_has test env (db 1) r h passes)) in
          subst (λ l. Has l (rowid r ∷ [])) (sym answer.shown) (mapped_has (λ (k : Output). k.1) answer.ordered o (has_permuted answer.kept answer.ordered o answer.same there));
    }

deleted_ids : (kind name : List ℕ) (db : Trees) (rows : List Row) → IsAnswer delete_query db (Text kind ∷ Text name ∷ []) rows → AreTexts (db 1) → without_all (db 1) (ids_of rows) ≡ rest (kind, name) (db 1)
deleted_ids kind name db rows answer texts =
    let found = found_rowids db (Text kind ∷ Text name ∷ []) rows answer in
    cleared (kind, name) (db 1) (ids_of rows) texts
    (λ id i.
    let x = has_mapped (λ (x : Row). id_in (rowid x)) rows id i in
    let r = found.sound x.0 x.1 in
    let is = texts.each r.0 r.1 in
    let one : id ≡ is.id = x.2 ∙ ap (λ (y : Row). id_in (rowid y)) r.3 ∙ ap id_in is.has_id in
    (r.0, r.1, sym (tests_are kind name [] r.0 is) ∙ r.2, is.has_id ∙ ap Int (sym one)))
    (λ r id i at same.
    let there = found.complete r i (tests_are kind name [] r (texts.each r i) ∙ at) in
    subst (Has (ids_of rows)) (ap id_in same) (mapped_has (λ (x : Row). id_in (rowid x)) rows (rowid r ∷ []) there))

-- the tables and the version stay, and the rows are these
pub record HasRows (old : Trees) (db : Database) (rows : List Row) : Type 0 where
  pub schema : db.schema ≡ both_tables
  pub listed : IsSound both_tables db.trees
  pub layout_is : db.trees 0 ≡ old 0
  pub rows_are : db.trees 1 ≡ rows

-- what a statement leaves is listed as it shows
pub listed_as : (db : Database) (schema : Schema) → db.schema ≡ schema → IsDatabase db → IsSound schema db.trees
listed_as db schema same sound = subst (λ (s : Schema). IsSound s db.trees) same sound

pub deletes : (old new : State) (kind name : List ℕ) (r : Result ℕ Error) → old.now.schema ≡ both_tables → AreTexts (old.now.trees 1) → Executes delete_text (Text kind ∷ Text name ∷ []) old new r
    → OnOk r (HasRows old.now.trees new.now (rest (kind, name) (old.now.trees 1)))
deletes old new kind name (Err e) has texts h = tt
deletes old new kind name (Ok count) has texts h =
    let params = Text kind ∷ Text name ∷ [] in
    let db = old.now.trees in
    let command = Delete 1 (record { lets = []; body = delete_query }) in
    let w = runs_as delete_text params old new both_tables has command delete_is delete_plain count h in
    let text = statement_of delete_text (understood both_tables delete_text) in
    let done = went (subst (λ s. Does old.step_limit (mode_of old) params (record old.now { schema = s }) text None command (Ok (w.tally, new.now))) has w.changed) in
    let now = ap (λ (p : Tally × Database). p.1) (same_value (went (went done.2).2).2) in
    let given = went done.1 in
    let written = went given.2 in
    let trees : done.0.trees ≡ written.0 = ap (λ (it : Written). it.trees) (same_value written.2) in
    let step = one_step both_tables _ db written.0 (edit_of db row_table (ids_of given.0) Given 0 []) refl written.1 in
    let schema : new.now.schema ≡ both_tables = ap (λ (d : Database). d.schema) now in
    record {
      schema = schema;
      listed = listed_as new.now both_tables schema w.sound;
      layout_is = ap (λ (d : Database). d.trees 0) now ∙ ap (λ (t : Trees). t 0) trees ∙ step.tables.0 (λ e. let f = e in omega (arith, f));
      rows_are = ap (λ (d : Database). d.trees 1) now ∙ ap (λ (t : Trees). t 1) trees ∙ step.rows ∙ deleted_ids kind name (overlay db []) given.0 (given.1.answer Null) texts;
    }

-- ---- INSERT

pub inserts : (old new : State) (kind name body : List ℕ) (r : Result ℕ Error) → old.now.schema ≡ both_tables → Executes insert_text (Text kind ∷ Text name ∷ Text body ∷ []) old new r
    → OnOk r (HasRows old.now.trees new.now (put_row (text_row (next_rowid (old.now.trees 1)) kind name body) (old.now.trees 1)) × (is_taken (old.now.trees 1) (text_row (next_rowid (old.now.trees 1)) kind name body) ≡ false)
    × (next : Trees) × Fits both_tables next × (next 1 ≡ put_row (text_row (next_rowid (old.now.trees 1)) kind name body) (old.now.trees 1)))
inserts old new kind name body (Err e) has h = tt
inserts old new kind name body (Ok count) has h =
    let params = Text kind ∷ Text name ∷ Text body ∷ [] in
    let db = old.now.trees in
    let command = Insert 1 (Values insert_terms 4) in
    let w = runs_as insert_text params old new both_tables has command insert_is insert_plain count h in
    let text = statement_of insert_text (understood both_tables insert_text) in
    let done = went (subst (λ s. Does old.step_limit (mode_of old) params (record old.now { schema = s }) text None command (Ok (w.tally, new.now))) has w.changed) in
    let now = ap (λ (p : Tally × Database). p.1) (same_value (went (went done.2).2).2) in
    let given = went done.1 in
    let written = went (went given.2).2 in
    let counted = went written.2 in
    let trees : done.0.trees ≡ written.0 = ap (λ (it : Written). it.trees) (same_value counted.2) ∙ same_value counted.1 in
    let step = one_step both_tables _ db written.0 (edit_of db row_table [] Chosen 0 given.0) refl written.1 in
    let news : (edit_of db row_table [] Chosen 0 given.0).news ≡ text_row (next_rowid (db 1)) kind name body ∷ [] = ap (λ all. (edit_of db row_table [] Chosen 0 all).news) given.1.1 ∙ rw cast_null refl in
    let schema : new.now.schema ≡ both_tables = ap (λ (d : Database). d.schema) now in (
      record {
        schema = schema;
        listed = listed_as new.now both_tables schema w.sound;
        layout_is = ap (λ (d : Database). d.trees 0) now ∙ ap (λ (t : Trees). t 0) trees ∙ step.tables.0 (λ e. let f = e in omega (arith, f));
        rows_are = ap (λ (d : Database). d.trees 1) now ∙ ap (λ (t : Trees). t 1) trees ∙ step.rows ∙ ap (put_all (db 1)) news;
      },
      front_fresh (db 1) (text_row (next_rowid (db 1)) kind name body) (subst (λ (l : List Row). are_fresh (db 1) l ≡ true) news step.fresh),
      written.0,
      step.fits,
      step.rows ∙ ap (put_all (db 1)) news,
    )
  where
    turned : (a b : Bool) → (not a && b) ≡ true → a ≡ false
    turned true b e = cc
    turned false b e = refl

    front_fresh : (rows : List Row) (row : Row) → are_fresh rows (row ∷ []) ≡ true → is_taken rows row ≡ false
    front_fresh rows row e = turned (is_taken rows row) _ e

-- ---- SELECT

pub every : (given : Row) (f : Env → Output) (rows : List Row) → map (λ (o : Output). o.1) (map f (flat_map (λ r. (given ∷ r ∷ []) ∷ []) rows)) ≡ map (λ r. (f (given ∷ r ∷ [])).1) rows
every given f [] = refl
every given f (r ∷ rows) = ap (λ l. (f (given ∷ r ∷ [])).1 ∷ l) (every given f rows)

abbrev pub texts_shown : Row → Row
texts_shown r = column r 1 ∷ column r 2 ∷ column r 3 ∷ []

abbrev pub row_shown : Row → Row
row_shown r = column r 0 ∷ column r 1 ∷ column r 2 ∷ column r 3 ∷ []

pub selects : (old new : State) (rows : List Row) → old.now.schema ≡ both_tables → Shown select_text [] old new rows → IsPermutation (map texts_shown (old.now.trees 1)) rows
selects old new rows has h =
    let got = reads_as select_text [] old new both_tables has _ select_is.0 select_plain select_is.1 rows h in
    let a : IsAnswer select_query (overlay old.now.trees []) [] rows = got.answer Null in
    let kept : a.kept ≡ map (output select_query) (flat_map (λ r. ([] ∷ r ∷ []) ∷ []) (old.now.trees 1)) = a.distinct ∙ ap (map (output select_query)) a.grouped in
    let moved = IsPermutation-map (λ (o : Output). o.1) a.kept a.ordered a.same in
    subst (IsPermutation (map texts_shown (old.now.trees 1))) (sym a.shown) (subst (λ (l : List Row). IsPermutation l (map (λ (o : Output). o.1) a.ordered)) (ap (map (λ (o : Output). o.1)) kept ∙ every [] (output select_query) (old.now.trees 1)) moved)

pub selects_whole : (old new : State) (rows : List Row) → old.now.schema ≡ both_tables → Shown whole_select [] old new rows → IsPermutation (map row_shown (old.now.trees 1)) rows
selects_whole old new rows has h =
    let got = reads_as whole_select [] old new both_tables has _ whole_is.0 whole_plain whole_is.1 rows h in
    let a : IsAnswer whole_query (overlay old.now.trees []) [] rows = got.answer Null in
    let kept : a.kept ≡ map (output whole_query) (flat_map (λ r. ([] ∷ r ∷ []) ∷ []) (old.now.trees 1)) = a.distinct ∙ ap (map (output whole_query)) a.grouped in
    let moved = IsPermutation-map (λ (o : Output). o.1) a.kept a.ordered a.same in
    subst (IsPermutation (map row_shown (old.now.trees 1))) (sym a.shown) (subst (λ (l : List Row). IsPermutation l (map (λ (o : Output). o.1) a.ordered)) (ap (map (λ (o : Output). o.1)) kept ∙ every [] (output whole_query) (old.now.trees 1)) moved)
