-- What the statements on `layout` do to its rows.
use Rattle.std.proofs.Common.{◌≡◌, ◌⊎◌, inl, inr, ℕ, ℤ, pos, List, [], ◌∷◌, map, Bool, true, false, cond, None, Ok, Err}
use Rattle.std.proofs.Common.{Result, refl, sym, ap, subst, ◌∙◌, arith, flat_map}
use Rattle.std.specs.List.Sorted.{IsPermutation}
use Rattle.std.proofs.lemmas.List.Sorted.{IsPermutation-map}
use Rattle.sqlite.specs.declared.types.Value.{Value}
use Rattle.sqlite.specs.declared.types.Value.TheVariants.{Null, Int}
use Rattle.sqlite.specs.Order.{Row, column}
use Rattle.sqlite.specs.Term.{lit}
use Rattle.sqlite_sql.specs.Term.{col}
use Rattle.sqlite.specs.Ops.{unary}
use Rattle.sqlite.specs.Cast.{cast}
use Rattle.sqlite.specs.Kind.TheVariants.{Integer}
use Rattle.sqlite.specs.Query.{IsAnswer, output, Output}
use Rattle.sqlite.specs.Program.{overlay}
use Rattle.sqlite.specs.Source.TheVariants.{Values}
use Rattle.sqlite.specs.Command.TheVariants.{Insert, Delete}
use Rattle.sqlite.specs.Edit.{edit_of, next_rowid, put_all, without_all}
use Rattle.sqlite.specs.Rowids.TheVariants.{Chosen, Given}
use Rattle.sqlite.specs.Does.{Tally, Does}
use Rattle.sqlite.specs.Rows.{Written}
use Rattle.sqlite.specs.Tree.{Trees}
use Rattle.sqlite.specs.Listing.{understood}
use Rattle.sqlite.specs.Effect.{Database}
use Rattle.sqlite.specs.State.{State, mode_of, Executes}
use Rattle.sqlite.proofs.Callers.{statement_of, runs_as, one_step, one_permutation}
use Rattle.sqlite_catalog.specs.Listing.{IsSound}
use Rattle.sqlite_rules.specs.Calls.{ids_of}
use Rattle.row_table.specs.Layout.{both_tables, layout_table}
use Rattle.row_table.specs.Contents.{HasVersion, IsNumbered}
use Rattle.row_table.specs.Effects.{HasTables}
use Rattle.row_table.proofs.Meanings.{layout_insert, layout_delete, layout_query, first_is, first_plain, none_is, none_plain}
use Rattle.row_table.proofs.RowLemmas.{cleared_one}
use Rattle.row_table.proofs.StatementLemmas.{every, listed_as}

went : {B E R : Type 0} {b : B} {Stops : E → Type 0} → ((stop : E) × Stops stop × (Ok b ≡ Err stop)) ⊎ R → R
went (inl stopped) = absurd (let e = stopped.2 in cc)
went (inr on) = on

same_value : {B E : Type 0} {a b : B} → ◌≡◌ {A = Result B E} (Ok a) (Ok b) → a ≡ b
same_value e = cc

either : (b : Bool) (x : Value) → cond b x x ≡ x
either true x = refl
either false x = refl

cast_null : cast Integer Null ≡ Null
unfolding unary
cast_null = either _ Null

cast_whole : (n : ℤ) → cast Integer (Int n) ≡ Int n
unfolding unary
cast_whole n = either _ (Int n)

-- ---- DELETE

-- the one row is found by its rowid
one_found : (db : Trees) (version : ℕ) (found : List Row) (v : IsNumbered version (db 0)) → IsAnswer layout_query db [] found → found ≡ (Int v.id ∷ []) ∷ []
one_found db version found v a =
    let kept : a.kept ≡ map (output layout_query) (flat_map (λ r. ([] ∷ r ∷ []) ∷ []) (db 0)) = a.distinct ∙ ap (map (output layout_query)) a.grouped in
    let moved = IsPermutation-map (λ (o : Output). o.1) a.kept a.ordered a.same in
    let shown : IsPermutation (map (λ r. column r 0 ∷ []) (db 0)) found =
    subst (IsPermutation (map (λ r. column r 0 ∷ []) (db 0))) (sym a.shown) (subst (λ (l : List Row). IsPermutation l (map (λ (o : Output). o.1) a.ordered)) (ap (map (λ (o : Output). o.1)) kept ∙ every [] (output layout_query) (db 0)) moved) in
    one_permutation (Int v.id ∷ []) found
    (subst (λ (x : Value). IsPermutation ((x ∷ []) ∷ []) found) v.has_id (subst (λ (rows : List Row). IsPermutation (map (λ r. column r 0 ∷ []) rows) found) v.only shown))

one_gone : (rows found : List Row) (version : ℕ) (v : IsNumbered version rows) → found ≡ (Int v.id ∷ []) ∷ [] → without_all rows (ids_of found) ≡ []
one_gone rows found version v is =
    ap (λ (l : List Row). without_all rows (ids_of l)) is ∙ ap (λ (l : List Row). without_all l (v.id ∷ [])) v.only ∙ cleared_one v.row v.id v.has_id

pub deletes_version : (old new : State) (count : ℕ) → HasTables old.now → Executes layout_delete [] old new (Ok count) → (new.now.schema ≡ both_tables) × (new.now.trees 0 ≡ []) × (new.now.trees 1 ≡ old.now.trees 1)
deletes_version old new count has h =
    let db = old.now.trees in
    let command = Delete 0 (record { lets = []; body = layout_query }) in
    let w = runs_as layout_delete [] old new both_tables has.schema command none_is none_plain count h in
    let text = statement_of layout_delete (understood both_tables layout_delete) in
    let done = went (subst (λ s. Does old.step_limit (mode_of old) [] (record old.now { schema = s }) text None command (Ok (w.tally, new.now))) has.schema w.changed) in
    let now = ap (λ (p : Tally × Database). p.1) (same_value (went (went done.2).2).2) in
    let given = went done.1 in
    let written = went given.2 in
    let trees : done.0.trees ≡ written.0 = ap (λ (it : Written). it.trees) (same_value written.2) in
    let step = one_step both_tables _ db written.0 (edit_of db layout_table (ids_of given.0) Given 0 []) refl written.1 in
    let found = one_found (overlay db []) has.whole.version given.0 has.whole.has_version (given.1.answer Null) in (
      ap (λ (d : Database). d.schema) now,
      ap (λ (d : Database). d.trees 0) now ∙ ap (λ (t : Trees). t 0) trees ∙ step.rows ∙ one_gone (db 0) given.0 has.whole.version has.whole.has_version found,
      ap (λ (d : Database). d.trees 1) now ∙ ap (λ (t : Trees). t 1) trees ∙ step.tables.1.0 (λ e. let f = e in omega (arith, f)),
    )

-- ---- INSERT

pub record IsWritten (version : ℕ) (old : Trees) (db : Database) : Type 0 where
  pub schema : db.schema ≡ both_tables
  pub listed : IsSound both_tables db.trees
  pub has_version : HasVersion version db.trees
  pub texts : db.trees 1 ≡ old 1

pub inserts_version : (old new : State) (version : ℕ) (count : ℕ) → old.now.schema ≡ both_tables → old.now.trees 0 ≡ [] → Executes layout_insert (Int (pos version) ∷ []) old new (Ok count) → IsWritten version old.now.trees new.now
inserts_version old new version count has none h =
    let params = Int (pos version) ∷ [] in
    let db = old.now.trees in
    let command = Insert 0 (Values (lit Null ∷ col 0 0 ∷ []) 2) in
    let w = runs_as layout_insert params old new both_tables has command first_is first_plain count h in
    let text = statement_of layout_insert (understood both_tables layout_insert) in
    let done = went (subst (λ s. Does old.step_limit (mode_of old) params (record old.now { schema = s }) text None command (Ok (w.tally, new.now))) has w.changed) in
    let now = ap (λ (p : Tally × Database). p.1) (same_value (went (went done.2).2).2) in
    let given = went done.1 in
    let written = went (went given.2).2 in
    let counted = went written.2 in
    let trees : done.0.trees ≡ written.0 = ap (λ (it : Written). it.trees) (same_value counted.2) ∙ same_value counted.1 in
    let step = one_step both_tables _ db written.0 (edit_of db layout_table [] Chosen 0 given.0) refl written.1 in
    let row : Row = Int (next_rowid (db 0)) ∷ Int (pos version) ∷ [] in
    let news : (edit_of db layout_table [] Chosen 0 given.0).news ≡ row ∷ [] = ap (λ all. (edit_of db layout_table [] Chosen 0 all).news) given.1.1 ∙ rw (cast_null, cast_whole (pos version)) refl in
    let rows : new.now.trees 0 ≡ row ∷ [] = ap (λ (d : Database). d.trees 0) now ∙ ap (λ (t : Trees). t 0) trees ∙ step.rows ∙ ap (put_all (db 0)) news ∙ ap (λ l. put_all l (row ∷ [])) none in
    let schema : new.now.schema ≡ both_tables = ap (λ (d : Database). d.schema) now in
    record {
      schema = schema;
      listed = listed_as new.now both_tables schema w.sound;
      has_version = record { row = row; only = rows; id = next_rowid (db 0); has_id = refl; has_version = refl };
      texts = ap (λ (d : Database). d.trees 1) now ∙ ap (λ (t : Trees). t 1) trees ∙ step.tables.1.0 (λ e. let f = e in omega (arith, f));
    }
