-- A store of layout 1 is moved to layout 2: each charge detail record is written anew, and all other texts stay.
use Rattle.std.specs.Prelude.{◌≡◌, ◌≢◌, ◌⊎◌, ℕ, codes, pos, Bool, true, false, cond, List, [], ◌∷◌, Option, Some, None, Ok}
use Rattle.std.specs.FinMap.{entries, get, remove}
use Rattle.sqlite.specs.declared.types.Value.TheVariants.{Int}
use Rattle.sqlite.specs.Tree.{Trees}
use Rattle.sqlite.specs.Effect.{Database}
use Rattle.sqlite.specs.State.{State}
use Rattle.row_table.specs.Layout.{both_tables, no_schema}
use Rattle.row_table.specs.Texts.{texts_of}
use Rattle.row_table.specs.Contents.{HasVersion, IsNewStore, IsWhole, content_of}
use Rattle.row_table.specs.Contents as table
use Rattle.row_table.specs.Opening.{Finds, ShowsTheSame}
use Rattle.ocpi_types.specs.declared.rows.Row.{Row}
use Rattle.ocpi_types.specs.declared.rows.Row.TheVariants as row
use Rattle.ocpi_json.specs.RowForms.{row_in, row_in_1, row_text}
use Rattle.node_store.specs.Contents.{Content, RowPlace, is_row, line_of, line_place, rows_of, rows_read}

-- ---- one text

abbrev pub is_cdr : Row → Bool
is_cdr (row.Count counter last) = false
is_cdr (row.Reply sender number reply) = false
is_cdr (row.Token t) = false
is_cdr (row.Push number to push) = false
is_cdr (row.Service evse_uid) = false
is_cdr (row.Spent provider reference) = false
is_cdr (row.Mark provider reservation_id number) = false
is_cdr (row.Reservation provider reservation_id r) = false
is_cdr (row.Pending provider number open_command) = false
is_cdr (row.Result provider number result) = false
is_cdr (row.Session s) = false
is_cdr (row.Cdr c) = true
is_cdr (row.Command number command) = false

-- the text of a row in layout 2 that had this one in layout 1
abbrev pub moved_text : Row → List ℕ → List ℕ
moved_text r text = cond (is_cdr r) (row_text r) text

-- the old text is a row by layout 1, and the new one is that very row by layout 2
pub record IsMovedText (p : RowPlace) (old new : List ℕ) : Type 0 where
  pub row : Row
  pub was : row_in_1 p.0 p.1 old ≡ Ok row
  pub is : row_in p.0 p.1 new ≡ Ok row
  pub text : new ≡ moved_text row old

-- ---- all texts

abbrev pub MovesTo : RowPlace → Option (List ℕ) → Option (List ℕ) → Type 0
MovesTo p (Some old) (Some new) = IsMovedText p old new
MovesTo p (Some old) None = ⊥
MovesTo p None (Some new) = ⊥
MovesTo p None None = Unit {0}

-- Each place has a text in both or in neither. What stands at the place of the number is no row, and stays.
pub record IsMoved (old new : Content) : Type 0 where
  pub rows : (p : RowPlace) → p ≢ line_place → MovesTo p (get old p) (get new p)
  pub line : get new line_place ≡ get old line_place

-- a text that is no row of its kind and key by layout 1, at another place than that of the number
pub record HasBadText (c : Content) : Type 0 where
  pub place : RowPlace
  pub other : place ≢ line_place
  pub text : List ℕ
  pub stands : get c place ≡ Some text
  pub bad : is_row (row_in_1 place.0 place.1 text) ≡ false

-- ---- a store

abbrev pub IsMovedTo : Content → table.Content → Type 0
IsMovedTo old c = (c.versions ≡ Int (pos 2) ∷ []) × IsMoved old c.texts

-- a database with the two tables, of layout 1
abbrev pub HasLayoutOne : Database → Type 0
HasLayoutOne db = (db.schema ≡ both_tables) × HasVersion 1 db.trees

-- what a keeper has of a store that it opens: what the store held in layout 2, or nothing where it was new, or what it
-- held in layout 1 and is moved to layout 2
abbrev pub OpensAs : Database → table.Content → Type 0
OpensAs db c = Finds 2 2 db c ⊎ (HasLayoutOne db × IsMovedTo (texts_of db.trees) c)

-- what an opening may have made of a store: a whole new one where there was nothing, or that to which it is moved
abbrev pub MayBecome : Database → Trees → Type 0
MayBecome db trees = ((db.schema ≡ no_schema) × IsNewStore 2 trees) ⊎ (HasLayoutOne db × IsWhole trees × IsMovedTo (texts_of db.trees) (content_of trees))

-- An opening was refused. The connection shows what it showed, if it is still open. A stop leaves what it left before,
-- or all that the opening would have made.
pub record SparesStore (old new : State) : Type 0 where
  pub shown : ShowsTheSame old new
  pub stops : (trees : Trees) → new.may_leave trees → old.may_leave trees ⊎ MayBecome old.now trees

-- a store of layout 1 with a text that is no row
abbrev pub WasBad : Database → Type 0
WasBad db = HasLayoutOne db × HasBadText (texts_of db.trees)

-- ---- its rows

-- the rows of a content by layout 1, ordered by kind and key
abbrev pub rows_of_1 : Content → Option (List Row)
rows_of_1 c = rows_read row_in_1 [] (entries (remove c line_place))

-- a store has these rows, by the layout of its version
abbrev pub HasRows : table.Content → List Row → Type 0
HasRows c rows = ((c.versions ≡ Int (pos 1) ∷ []) × (rows_of_1 c.texts ≡ Some rows)) ⊎ ((c.versions ≡ Int (pos 2) ∷ []) × (rows_of c.texts ≡ Some rows))

-- The keeper that opens a store has its rows, and so has what a refused opening may have made of it. Where a text is
-- no row by layout 1, there is neither. What stands under another kind than `cdr` is as it was, to the byte, and so is
-- the number of the last line that took hold.
pub record OpeningKeepsRows : Type 0 where
  pub opened : (db : Database) (c : table.Content) (rows : List Row) → db.schema ≡ both_tables → HasRows (content_of db.trees) rows → OpensAs db c → rows_of c.texts ≡ Some rows
  pub stopped : (db : Database) (trees : Trees) (rows : List Row) → db.schema ≡ both_tables → HasRows (content_of db.trees) rows → MayBecome db trees → HasRows (content_of trees) rows
  pub opened_line : (db : Database) (c : table.Content) → db.schema ≡ both_tables → OpensAs db c → line_of c.texts ≡ line_of (texts_of db.trees)
  pub stopped_line : (db : Database) (trees : Trees) → db.schema ≡ both_tables → MayBecome db trees → line_of (texts_of trees) ≡ line_of (texts_of db.trees)
  pub bad : (old new : Content) → HasBadText old → ¬ (IsMoved old new)
  pub others : (old new : Content) → IsMoved old new → (p : RowPlace) → p.0 ≢ codes "cdr" → get new p ≡ get old p
