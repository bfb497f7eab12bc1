-- The number of the last line that took hold, beside the rows of a content.
use Rattle.std.specs.Prelude.{◌≡◌, ◌≤◌, ℕ, Bool, ◌&&◌, cond, codes, List, [], ◌∷◌, Option, Some, None}
use Rattle.std.specs.Str.{bytes_eq}
use Rattle.std.specs.FinMap.{empty}
use Rattle.ocpi_text.specs.Whole.{max_whole}
use Rattle.ocpi_types.specs.declared.rows.Change.{Change}
use Rattle.row_table.specs.Effects.{Edit}
use Rattle.node_store.specs.Contents.{Content, RowPlace, changed_all, line_of, line_place, line_text, marked, rows_of}
use Rattle.node_store.specs.declared.stored.Placed.{Placed}

-- whether a kind and a key are the place of the number
abbrev pub is_line_place : RowPlace → Bool
is_line_place p = bytes_eq p.0 (codes "count") && bytes_eq p.1 (codes "line")

-- the entries at all places but that of the number
abbrev pub others : List (RowPlace × List ℕ) → List (RowPlace × List ℕ)
others [] = []
others (e ∷ es) = cond (is_line_place e.0) (others es) (e ∷ others es)

-- the edit that keeps a number, where there is one
abbrev pub line_edits : Option ℕ → List Edit
line_edits None = []
line_edits (Some n) = (line_place, Some (line_text n)) ∷ []

-- the number in its place, where there is one
abbrev pub line_placed : Option ℕ → List Placed
line_placed None = []
line_placed (Some n) = record { place = line_place; row = Some (line_text n) } ∷ []

-- A number is no row, and changes of rows leave it as it is. The number that was kept last is read again.
pub record NumbersAreNoRows : Type 0 where
  pub rows : (c : Content) (m : Option ℕ) → rows_of (marked m c) ≡ rows_of c
  pub apart : (c : Content) (m : Option ℕ) (changes : List Change) → rows_of (changed_all (marked m c) changes) ≡ rows_of (changed_all c changes)
  pub stays : (c : Content) (changes : List Change) → line_of (changed_all c changes) ≡ line_of c
  pub is : (c : Content) (n : ℕ) → 2 ≤ n → n ≤ max_whole → line_of (marked (Some n) c) ≡ Some n
  pub none : (c : Content) → line_of (marked None c) ≡ line_of c
  pub first : line_of empty ≡ Some 1
