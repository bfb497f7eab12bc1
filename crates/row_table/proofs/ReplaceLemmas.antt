-- What a statement that puts a text in place of another does.
use Rattle.std.proofs.Common.{◌≡◌, ◌⊎◌, inl, inr, ℕ, ℤ, List, [], ◌∷◌, map, length, Bool, true, false, cond, not, IsTrue, Option, Some, None, Ok, Err, Result, OnOk, IfOk, refl, sym, ap, subst, ◌∙◌, arith}
use Rattle.std.specs.Prelude.{◌&&◌, drop, unwrap_or}
use Rattle.std.proofs.lemmas.Bool.{cases_Bool}
use Rattle.std.specs.List.{list_all}
use Rattle.std.specs.FinMap.{insert, remove}
use Rattle.std.specs.Ordering.{eq_by_cmp}
use Rattle.std.proofs.lemmas.List.Sorted.{IsPermutation-sym}
use Rattle.sqlite.specs.declared.types.Value.{Value}
use Rattle.sqlite.specs.declared.types.Value.TheVariants.{Null, Int, Text}
use Rattle.sqlite.specs.declared.error.Error.{Error}
use Rattle.sqlite.specs.Order.{Row, bytes, column}
use Rattle.sqlite_sql.specs.Term.{holds, Env}
use Rattle.sqlite.specs.Query.{inner, end, IsAnswer, output, Output, matches}
use Rattle.sqlite.specs.Program.{overlay}
use Rattle.sqlite.specs.Schema.{Schema}
use Rattle.sqlite.specs.Kind.TheVariants.{Integer}
use Rattle.sqlite.specs.Command.TheVariants.{Update}
use Rattle.sqlite.specs.Edit.{id_in, edit_of, edited, left_by, without_all, is_taken, are_fresh}
use Rattle.sqlite.specs.Cast.{cast, cast_row}
use Rattle.sqlite.specs.Ops.{unary}
use Rattle.sqlite.specs.Rowids.TheVariants.{Given}
use Rattle.sqlite.specs.Does.{Tally, Does}
use Rattle.sqlite.specs.Rows.{Written}
use Rattle.sqlite.specs.Tree.{Trees, rowid, put_row}
use Rattle.sqlite.specs.Listing.{understood}
use Rattle.sqlite.specs.Effect.{Database}
use Rattle.sqlite.specs.State.{State, Shows, mode_of, Executes, ExecutesInside}
use Rattle.sqlite.proofs.Callers.{statement_of, runs_as, one_step}
use Rattle.sqlite_rules.specs.Calls.{ids_of}
use Rattle.sqlite_rules.specs.Lists.{Has}
use Rattle.tables.specs.Keys.{text_pair_cmp}
use Rattle.row_table.specs.Layout.{both_tables, row_table}
use Rattle.row_table.specs.Texts.{Place, Texts, place_in, texts_in, texts_of, text_row, IsTextRow, AreTexts}
use Rattle.row_table.specs.Contents.{Content, content_of, with_texts}
use Rattle.row_table.specs.Effects.{HadTables, HasMade, IsReplaced}
use Rattle.row_table.proofs.Meanings.{update_text, update_query, delete_tests, update_is, update_plain}
use Rattle.row_table.proofs.RowLemmas.{is_at, same_place, rest, cleared, texts_rest, are_rest, none_at, texts_put, are_put}
use Rattle.row_table.proofs.StatementLemmas.{has_matched, matched_has, has_mapped, mapped_has, has_permuted, went, same_value, either, tests_are, HasRows, listed_as}
use Rattle.row_table.proofs.EffectLemmas.{put_back, same_content, shows_then, still}

cast_id : (id : ℤ) → cast Integer (Int id) ≡ Int id
unfolding unary
cast_id id = either _ (Int id)

-- ---- the rows that are found, with the text that is to stand in them

abbrev renewed : Row → List ℕ → Row
renewed r body = rowid r ∷ rowid r ∷ column r 1 ∷ column r 2 ∷ Text body ∷ []

module _ (kind name body : List ℕ) where
  abbrev given : Row
  given = Text kind ∷ Text name ∷ Text body ∷ []

  record AreRenewed (rows found : List Row) : Type 0 where
    sound : (x : Row) → Has found x → (r : Row) × Has rows r × (list_all (holds (given ∷ r ∷ [])) delete_tests ≡ true) × (x ≡ renewed r body)
    complete : (r : Row) → Has rows r → list_all (holds (given ∷ r ∷ [])) delete_tests ≡ true → Has found (renewed r body)

  found_renewed : (db : Trees) (found : List Row) → IsAnswer update_query db given found → AreRenewed (db 1) found
  found_renewed db found answer =
      let q = update_query in
      let test = λ (r : Row). list_all (holds (given ∷ r ∷ [])) delete_tests in
      let env = λ (r : Row). given ∷ r ∷ [] in
      let all = matches db delete_tests (inner 1 end) (given ∷ []) in
      let kept : answer.kept ≡ map (output q) all = answer.distinct ∙ ap (map (output q)) answer.grouped in
      record {
        sound = λ x h.
            let o = has_mapped (λ (k : Output). k.1) answer.ordered x (subst (λ l. Has l x) answer.shown h) in
            let e = has_mapped (output q) all o.0 (subst (λ l. Has l o.0) kept (has_permuted answer.ordered answer.kept o.0 (IsPermutation-sym _ _ answer.same) o.1)) in
            let r = has_matched test env (db 1) e.0 e.1 in
            (r.0, r.1, r.2, o.2 ∙ ap (λ (k : Output). k.1) (e.2 ∙ ap (output q) r.3));
        complete = λ r h passes.
            let o = output q (env r) in
            let there = subst (λ l. Has l o) (sym kept) (mapped_has (output q) all (env r) (matched_has test env (db 1) r h passes)) in
            subst (λ l. Has l (renewed r body)) (sym answer.shown) (mapped_has (λ (k : Output). k.1) answer.ordered o (has_permuted answer.kept answer.ordered o answer.same there));
      }

  renewed_ids : (db : Trees) (rows : List Row) → IsAnswer update_query db given rows → AreTexts (db 1) → without_all (db 1) (ids_of rows) ≡ rest (kind, name) (db 1)
  renewed_ids db rows answer texts =
      let found = found_renewed db rows answer in
      cleared (kind, name) (db 1) (ids_of rows) texts
      (λ id i.
      let x = has_mapped (λ (x : Row). id_in (rowid x)) rows id i in
      let r = found.sound x.0 x.1 in
      let is = texts.each r.0 r.1 in
      let one : id ≡ is.id = x.2 ∙ ap (λ (y : Row). id_in (rowid y)) r.3 ∙ ap id_in is.has_id in
      (r.0, r.1, sym (tests_are kind name (Text body ∷ []) r.0 is) ∙ r.2, is.has_id ∙ ap Int (sym one)))
      (λ r id i at same.
      let there = found.complete r i (tests_are kind name (Text body ∷ []) r (texts.each r i) ∙ at) in
      subst (Has (ids_of rows)) (ap id_in same) (mapped_has (λ (x : Row). id_in (rowid x)) rows (renewed r body) there))

  -- the row that is put in place of the one that was found
  abbrev cast_of : Value → Value → Value → Row
  cast_of id k n = cast_row row_table (id ∷ k ∷ n ∷ Text body ∷ [])

  put_in : (db : Trees) (x : Row) → IsAnswer update_query db given (x ∷ []) → AreTexts (db 1) → (id : ℤ) × (cast_row row_table (drop 1 x) ≡ text_row id kind name body)
  put_in db x answer texts =
      let found = found_renewed db (x ∷ []) answer in
      let r = found.sound x (inl refl) in
      let is = texts.each r.0 r.1 in
      let at : is_at (kind, name) r.0 ≡ true = sym (tests_are kind name (Text body ∷ []) r.0 is) ∙ r.2 in
      let place : (kind, name) ≡ place_in r.0 = same_place (kind, name) (place_in r.0) at in
      let first : kind ≡ is.kind = ap (λ (p : Place). p.0) place ∙ ap bytes is.has_kind in
      let second : name ≡ is.name = ap (λ (p : Place). p.1) place ∙ ap bytes is.has_name in (
        is.id,
        ap (λ (y : Row). cast_row row_table (drop 1 y)) r.3
            ∙ ap (λ (v : Value). cast_of v (column r.0 1) (column r.0 2)) is.has_id
            ∙ ap (λ (v : Value). cast_of (Int is.id) v (column r.0 2)) (is.has_kind ∙ ap Text (sym first))
            ∙ ap (cast_of (Int is.id) (Text kind)) (is.has_name ∙ ap Text (sym second))
            ∙ ap (λ (v : Value). v ∷ Text kind ∷ Text name ∷ Text body ∷ []) (cast_id is.id),
      )

  -- a text that stood is this now, in a row of the same rowid
  record HasRenewed (old : Trees) (db : Database) : Type 0 where
    id : ℤ
    rows : HasRows old db (put_row (text_row id kind name body) (rest (kind, name) (old 1)))
    free : is_taken (rest (kind, name) (old 1)) (text_row id kind name body) ≡ false

  abbrev Replaced : Trees → Database → ℕ → Type 0
  Replaced old db count = (count ≡ 0 → HasRows old db (old 1)) × (count ≡ 1 → HasRenewed old db)

  updates : (old new : State) (r : Result ℕ Error) → old.now.schema ≡ both_tables → AreTexts (old.now.trees 1) → Executes update_text given old new r → IfOk r (Replaced old.now.trees new.now)
  updates old new (Err e) has texts h = tt
  updates old new (Ok count) has texts h =
      let db = old.now.trees in
      let command = Update 1 (record { lets = []; body = update_query }) in
      let w = runs_as update_text given old new both_tables has command update_is update_plain count h in
      let text = statement_of update_text (understood both_tables update_text) in
      let done = went (subst (λ s. Does old.step_limit (mode_of old) given (record old.now { schema = s }) text None command (Ok (w.tally, new.now))) has w.changed) in
      let end = same_value (went (went done.2).2).2 in
      let now = ap (λ (p : Tally × Database). p.1) end in
      let found = went done.1 in
      let written = went found.2 in
      let is = same_value written.2 in
      let trees : done.0.trees ≡ written.0 = ap (λ (it : Written). it.trees) is in
      let step = one_step both_tables _ db written.0 (edit_of db row_table (ids_of found.0) Given 1 found.0) refl written.1 in
      let schema : new.now.schema ≡ both_tables = ap (λ (d : Database). d.schema) now in
      let long : count ≡ length (edit_of db row_table (ids_of found.0) Given 1 found.0).news = w.counted ∙ ap (λ (p : Tally × Database). unwrap_or p.0.rows 0) end ∙ ap (λ (it : Written). length it.rows) is in
      let all : (rows : List Row) → edited db (edit_of db row_table (ids_of found.0) Given 1 found.0) ≡ rows → HasRows db new.now rows = λ rows same. record {
        schema = schema;
        listed = listed_as new.now both_tables schema w.sound;
        layout_is = ap (λ (d : Database). d.trees 0) now ∙ ap (λ (t : Trees). t 0) trees ∙ step.tables.0 (λ e. let f = e in omega (arith, f));
        rows_are = ap (λ (d : Database). d.trees 1) now ∙ ap (λ (t : Trees). t 1) trees ∙ step.rows ∙ same;
      } in
      split db new.now count found.0 (found.1.answer Null) texts long step.fresh all
    where
      turned : (a b : Bool) → (not a && b) ≡ true → a ≡ false
      turned true b e = cc
      turned false b e = refl

      split : (db : Trees) (after : Database) (count : ℕ) (found : List Row) → IsAnswer update_query (overlay db []) given found → AreTexts (db 1)
          → count ≡ length (edit_of db row_table (ids_of found) Given 1 found).news
          → are_fresh (left_by db (edit_of db row_table (ids_of found) Given 1 found)) (edit_of db row_table (ids_of found) Given 1 found).news ≡ true
          → ((rows : List Row) → edited db (edit_of db row_table (ids_of found) Given 1 found) ≡ rows → HasRows db after rows) → Replaced db after count
      split db after count [] answer texts long fresh all = (λ _. all (db 1) refl, λ one. absurd (omega (arith, long, one)))
      split db after count (x ∷ []) answer texts long fresh all =
          let put = put_in (overlay db []) x answer texts in
          let left = renewed_ids (overlay db []) (x ∷ []) answer texts in
          let row = text_row put.0 kind name body in (
            λ none. absurd (omega (arith, long, none)),
            λ _. record {
              id = put.0;
              rows = all (put_row row (rest (kind, name) (db 1))) (ap (λ (y : Row). put_row y (without_all (db 1) (ids_of (x ∷ [])))) put.1 ∙ ap (put_row row) left);
              free = subst (λ (l : List Row). is_taken l row ≡ false) left (turned (is_taken (without_all (db 1) (ids_of (x ∷ []))) row) _
                  (subst (λ (y : Row). are_fresh (without_all (db 1) (ids_of (x ∷ []))) (y ∷ []) ≡ true) put.1 fresh));
            },
          )
      split db after count (x ∷ y ∷ more) answer texts long fresh all = (λ none. absurd (omega (arith, long, none)), λ one. absurd (omega (arith, long, one)))

  pub replaces : (old new : State) (r : Result ℕ Error) → HadTables old → (old.in_transaction ≡ false → (e : Error) × (r ≡ Err e))
      → (IsTrue old.in_transaction → ExecutesInside 0 update_text given old new r) → IfOk r (IsReplaced kind name body old new)
  replaces old new (Err e) has ended runs = tt
  replaces old new (Ok count) has ended runs = elim (cases_Bool old.in_transaction) [
    | inl within ↦
        let ran = runs within in
        let it = has ran.1.was_open in
        let rows = old.now.trees 1 in
        let texts = it.whole.are_texts in
        let left = rest (kind, name) rows in
        let both = updates old new (Ok count) it.schema texts ran.0 in (
          λ none.
              let after = both.0 none in
              record {
                shown = ran.1;
                tables = still old new after.schema after.listed it after.layout_is (subst AreTexts (sym after.rows_are) texts);
                holds = same_content old.now.trees new.now.trees after.layout_is _ (ap texts_in after.rows_are);
              },
          λ one.
              let made = both.1 one in
              let after = made.rows in
              let row = text_row made.id kind name body in
              let is : IsTextRow row = record { id = made.id; kind = kind; name = name; body = body; has_id = refl; has_kind = refl; has_name = refl; has_body = refl } in
              record {
                shown = ran.1;
                tables = still old new after.schema after.listed it after.layout_is (subst AreTexts (sym after.rows_are) (are_put row left (are_rest (kind, name) rows texts) is made.free));
                holds = same_content old.now.trees new.now.trees after.layout_is _ (ap texts_in after.rows_are ∙ texts_put row left (none_at (kind, name) rows) made.free
                    ∙ ap (λ (t : Texts). insert t (kind, name) body) (texts_rest (kind, name) rows) ∙ put_back (texts_in rows) (kind, name) body);
              },
        )
    | inr outside ↦ absurd (let e = (ended outside).1 in cc)
  ]

-- nothing stood there, and then this is put
pub puts : (old mid new : State) (p : Place) (body : List ℕ) → HasMade old mid (content_of old.now.trees)
    → HasMade mid new (with_texts (content_of mid.now.trees) (insert (texts_of mid.now.trees) p body)) → HasMade old new (with_texts (content_of old.now.trees) (insert (texts_of old.now.trees) p body))
puts old mid new p body first second = record {
  shown = shows_then old mid new first.shown second.shown;
  tables = second.tables;
  holds = second.holds ∙ ap (λ (c : Content). with_texts c (insert c.texts p body)) first.holds;
}
