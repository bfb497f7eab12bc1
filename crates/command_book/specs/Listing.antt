-- The rows of a command book as a list.
use Rattle.std.specs.Prelude.{◌≡◌, ◌≢◌, ◌↔◌, List, [], ◌∷◌, ◌++◌, map, Contains}
use Rattle.std.specs.List.{AllPairs}
use Rattle.std.specs.FinMap.{FinMap}
use Rattle.tables.specs.Keys.{text_number_cmp}
use Rattle.tables.specs.Lookups.{IsListing}
use Rattle.ocpi_types.specs.Rows.{key_of}
use Rattle.ocpi_types.specs.declared.rows.Row.{Row}
use Rattle.ocpi_types.specs.declared.rows.Row.TheVariants as row
use Rattle.ocpi_types.specs.declared.stored.OpenCommand.{OpenCommand}
use Rattle.ocpi_types.specs.declared.stored.Reply.{Reply}
use Rattle.ocpi_types.specs.declared.words.CommandResultType.{CommandResultType}
use Rattle.command_book.specs.Stored.{Request, Rows, HasRow, put_row}

-- the list has exactly the rows that stand, each once
pub record AreRowsOf (list : List Row) (s : Rows) : Type 0 where
  pub exact : (r : Row) → Contains list r ↔ HasRow s r
  pub apart : AllPairs (λ a b. key_of a ≢ key_of b) list

-- both have the same rows
abbrev pub HaveSameRows : Rows → Rows → Type 0
HaveSameRows s t = (r : Row) → HasRow s r ↔ HasRow t r

-- rows are put one after the other
abbrev pub put_rows : List Row → Rows → Rows
put_rows [] s = s
put_rows (r ∷ rs) s = put_rows rs (put_row r s)

abbrev pub reply_row : Request × Reply → Row
reply_row e = row.Reply e.0.0 e.0.1 e.1

abbrev pub pending_row : Request × OpenCommand → Row
pending_row e = row.Pending e.0.0 e.0.1 e.1

abbrev pub result_row : Request × CommandResultType → Row
result_row e = row.Result e.0.0 e.0.1 e.1

-- the list has the rows that stand kind by kind, those of a kind in some order
pub record AreKindByKind (list : List Row) (s : Rows) : Type 0 where
  pub replies : List (Request × Reply)
  pub pending : List (Request × OpenCommand)
  pub results : List (Request × CommandResultType)
  pub list_replies : IsListing s.replies replies
  pub list_pending : IsListing s.pending pending
  pub list_results : IsListing s.results results
  pub joined : list ≡ map reply_row replies ++ map pending_row pending ++ map result_row results

-- rows of one kind are added to a list, in some order
abbrev pub AddsRows : {X : Type 0} → (Request × X → Row) → FinMap text_number_cmp X → List Row → List Row → Type 0
AddsRows {X} row_of m before after = (es : List (Request × X)) × IsListing m es × (after ≡ before ++ map row_of es)

-- the rows that stand are all that is stored
abbrev pub RowsAreAll : Type 0
RowsAreAll = (s t : Rows) → HaveSameRows s t → s ≡ t
