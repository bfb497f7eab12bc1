-- What the texts of the statements mean under the schema.
use Rattle.std.proofs.Common.{◌≡◌, ℕ, pos, negsuc, List, [], ◌∷◌, codes, false, None, Ok, refl}
use Rattle.sqlite.specs.declared.types.Value.TheVariants.{Null, Int}
use Rattle.sqlite_sql.specs.declared.ops.BinaryOp.TheVariants as binary
use Rattle.sqlite_sql.specs.declared.ops.CompareOp.TheVariants as compare
use Rattle.sqlite.specs.Collation.TheVariants as collation
use Rattle.sqlite_value.specs.declared.keys.Key.{Key}
use Rattle.sqlite.specs.Term.{Term, lit, col, op2}
use Rattle.sqlite.specs.Query.{Query, inner, end}
use Rattle.sqlite.specs.Source.TheVariants.{Values}
use Rattle.sqlite.specs.Command.TheVariants.{Insert, Update, Delete, Select, CreateTable}
use Rattle.sqlite.specs.Compile.{table_defined_by}
use Rattle.sqlite_tied.specs.Compute.{everything}
use Rattle.sqlite.specs.Listing.{understood, reads_listing}
use Rattle.sqlite.proofs.Callers.{IsPlain, command_of, statement_of}
use Rattle.row_table.specs.Layout.{layout_text, row_text, layout_table, row_table, both_tables, no_schema, layout_alone}

abbrev pub insert_text : List ℕ
insert_text = codes "INSERT INTO row_text(kind, name, body) VALUES (?1, ?2, ?3)"

abbrev pub delete_text : List ℕ
delete_text = codes "DELETE FROM row_text WHERE kind = ?1 AND name = ?2"

abbrev pub update_text : List ℕ
update_text = codes "UPDATE row_text SET body = ?3 WHERE kind = ?1 AND name = ?2"

abbrev pub select_text : List ℕ
select_text = codes "SELECT kind, name, body FROM row_text ORDER BY kind, name"

abbrev pub layout_insert : List ℕ
layout_insert = codes "INSERT INTO layout(version) VALUES (?1)"

abbrev pub layout_delete : List ℕ
layout_delete = codes "DELETE FROM layout"

abbrev pub layout_select : List ℕ
layout_select = codes "SELECT rowid, version FROM layout"

abbrev pub whole_select : List ℕ
whole_select = codes "SELECT rowid, kind, name, body FROM row_text ORDER BY rowid"

abbrev pub insert_terms : List Term
insert_terms = lit Null ∷ col 0 0 ∷ col 0 1 ∷ col 0 2 ∷ []

abbrev query_over : ℕ → List Term → List Term → List (Term × Key) → Query
query_over tree filter shown order =
    record { from = inner tree end; filter = filter; group = None; project = shown; distinct = false; collations = []; order = order; limit = lit (Int (negsuc 0)); offset = lit (Int (pos 0)) }

abbrev rising : Key
rising = record { collation = collation.Binary; descending = false }

abbrev pub delete_tests : List Term
delete_tests = op2 (binary.Compare compare.Eq collation.Binary) (col 1 1) (col 0 0) ∷ op2 (binary.Compare compare.Eq collation.Binary) (col 1 2) (col 0 1) ∷ []

abbrev pub delete_query : Query
delete_query = query_over 1 delete_tests (col 1 0 ∷ []) []

abbrev pub update_query : Query
update_query = query_over 1 delete_tests (col 1 0 ∷ col 1 0 ∷ col 1 1 ∷ col 1 2 ∷ col 0 2 ∷ []) []

abbrev pub select_query : Query
select_query = query_over 1 [] (col 1 1 ∷ col 1 2 ∷ col 1 3 ∷ []) ((col 1 1, rising) ∷ (col 1 2, rising) ∷ [])

abbrev pub whole_query : Query
whole_query = query_over 1 [] (col 1 0 ∷ col 1 1 ∷ col 1 2 ∷ col 1 3 ∷ []) ((col 1 0, rising) ∷ [])

abbrev pub version_query : Query
version_query = query_over 0 [] (col 1 0 ∷ col 1 1 ∷ []) []

abbrev pub layout_query : Query
layout_query = query_over 0 [] (col 1 0 ∷ []) []

pub insert_is : command_of (understood both_tables insert_text) ≡ Insert 1 (Values insert_terms 4)
unfolding understood everything
insert_is = refl

pub insert_plain : IsPlain (understood both_tables insert_text)
unfolding understood everything
insert_plain = (refl, refl)

pub delete_is : command_of (understood both_tables delete_text) ≡ Delete 1 (record { lets = []; body = delete_query })
unfolding understood everything
delete_is = refl

pub delete_plain : IsPlain (understood both_tables delete_text)
unfolding understood everything
delete_plain = (refl, refl)

pub update_is : command_of (understood both_tables update_text) ≡ Update 1 (record { lets = []; body = update_query })
unfolding understood everything
update_is = refl

pub update_plain : IsPlain (understood both_tables update_text)
unfolding understood everything
update_plain = (refl, refl)

pub select_is : (command_of (understood both_tables select_text) ≡ Select (record { lets = []; body = select_query }) (codes "kind" ∷ codes "name" ∷ codes "body" ∷ [])) × (reads_listing both_tables select_text ≡ false)
unfolding understood everything
select_is = (refl, refl)

pub select_plain : IsPlain (understood both_tables select_text)
unfolding understood everything
select_plain = (refl, refl)

pub whole_is : (command_of (understood both_tables whole_select) ≡ Select (record { lets = []; body = whole_query }) (codes "rowid" ∷ codes "kind" ∷ codes "name" ∷ codes "body" ∷ [])) × (reads_listing both_tables whole_select ≡ false)
unfolding understood everything
whole_is = (refl, refl)

pub whole_plain : IsPlain (understood both_tables whole_select)
unfolding understood everything
whole_plain = (refl, refl)

pub version_is : (command_of (understood both_tables layout_select) ≡ Select (record { lets = []; body = version_query }) (codes "rowid" ∷ codes "version" ∷ [])) × (reads_listing both_tables layout_select ≡ false)
unfolding understood everything
version_is = (refl, refl)

pub version_plain : IsPlain (understood both_tables layout_select)
unfolding understood everything
version_plain = (refl, refl)

pub first_is : command_of (understood both_tables layout_insert) ≡ Insert 0 (Values (lit Null ∷ col 0 0 ∷ []) 2)
unfolding understood everything
first_is = refl

pub first_plain : IsPlain (understood both_tables layout_insert)
unfolding understood everything
first_plain = (refl, refl)

pub none_is : command_of (understood both_tables layout_delete) ≡ Delete 0 (record { lets = []; body = layout_query })
unfolding understood everything
none_is = refl

pub none_plain : IsPlain (understood both_tables layout_delete)
unfolding understood everything
none_plain = (refl, refl)

pub layout_is : (command_of (understood no_schema layout_text) ≡ CreateTable) × (statement_of layout_text (understood no_schema layout_text) ≡ layout_text) × (table_defined_by layout_text ≡ Ok layout_table)
unfolding understood everything
layout_is = (refl, refl, refl)

pub layout_plain : IsPlain (understood no_schema layout_text)
unfolding understood everything
layout_plain = (refl, refl)

pub rows_are : (command_of (understood layout_alone row_text) ≡ CreateTable) × (statement_of row_text (understood layout_alone row_text) ≡ row_text) × (table_defined_by row_text ≡ Ok (record row_table { tree = 0 }))
unfolding understood everything
rows_are = (refl, refl, refl)

pub rows_plain : IsPlain (understood layout_alone row_text)
unfolding understood everything
rows_plain = (refl, refl)
