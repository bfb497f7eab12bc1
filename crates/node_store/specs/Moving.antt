-- The edits that move a store of layout 1.
use Rattle.std.specs.Prelude.{◌≡◌, ◌≢◌, ◌<◌, ℕ, false, cond, List, [], ◌∷◌, length, get_or, Some, Ok, Err}
use Rattle.json_text.specs.Fault.{Read}
use Rattle.ocpi_types.specs.declared.rows.Row.{Row}
use Rattle.ocpi_json.specs.RowForms.{row_in, row_in_1, row_text}
use Rattle.row_table.specs.Effects.{Edit}
use Rattle.node_store.specs.Contents.{RowPlace, is_row, line_place}
use Rattle.node_store.specs.Moved.{is_cdr, moved_text}

-- a place, and the text there
abbrev pub Entry : Type 0
Entry = RowPlace × List ℕ

-- a charge detail record is written anew
abbrev pub edits_of_read : RowPlace → Read Row → List Edit
edits_of_read p (Ok r) = cond (is_cdr r) ((p, Some (row_text r)) ∷ []) []
edits_of_read p (Err fault) = []

abbrev pub text_edits : Entry → List Edit
text_edits e = edits_of_read e.0 (row_in_1 e.0.0 e.0.1 e.1)

-- it is a row by layout 1, and its text in layout 2 is that very row
pub record IsMovable (e : Entry) : Type 0 where
  pub row : Row
  pub was : row_in_1 e.0.0 e.0.1 e.1 ≡ Ok row
  pub is : row_in e.0.0 e.0.1 (moved_text row e.1) ≡ Ok row

-- what stands at the place of the number is passed over
abbrev pub MayMove : Entry → Type 0
MayMove e = e.0 ≢ line_place → IsMovable e

-- it is no row by layout 1
abbrev pub IsBadEntry : Entry → Type 0
IsBadEntry e = (e.0 ≢ line_place) × (is_row (row_in_1 e.0.0 e.0.1 e.1) ≡ false)

-- one of them is no row by layout 1
pub record HasBadEntry (es : List Entry) : Type 0 where
  pub at : ℕ
  pub entry : Entry
  pub within : at < length es
  pub is : entry ≡ get_or es at entry
  pub bad : IsBadEntry entry
