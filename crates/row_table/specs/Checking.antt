-- What is asked of a store that has the two tables.
use Rattle.std.specs.Prelude.{◌≡◌, ◌⊎◌, ℕ, ℤ, List, [], ◌∷◌, map, Option, Some, None}
use Rattle.std.specs.Ordering.{int_cmp}
use Rattle.std.specs.declared.cmp.Ordering.TheVariants.{Less}
use Rattle.sqlite.specs.declared.types.Value.TheVariants.{Text}
use Rattle.sqlite.specs.Order.{Row, column}
use Rattle.sqlite.specs.Schema.{Schema}
use Rattle.sqlite.specs.Table.{Table}
use Rattle.sqlite_rules.specs.Lists.{Has}
use Rattle.row_table.specs.Layout.{layout_table, row_table}
use Rattle.row_table.specs.Texts.{IsTextRow}

-- a column of a row has a text
abbrev pub HasText : Row → ℕ → Type 0
HasText r at = (text : List ℕ) × (column r at ≡ Text text)

-- the rows show a rowid and three texts, and no rowid twice
pub record AreWhole (rows : List Row) : Type 0 where
  pub each : (r : Row) → Has rows r → IsTextRow r
  pub once : (a b : Row) → Has rows a → Has rows b → column a 0 ≡ column b 0 → a ≡ b

-- the number is above the last one, if there is one
abbrev pub IsAbove : Option ℤ → ℤ → Type 0
IsAbove None id = Unit {0}
IsAbove (Some last) id = int_cmp last id ≡ Less

-- the number is at most the last one
abbrev pub IsUpTo : Option ℤ → ℤ → Type 0
IsUpTo None id = ⊥
IsUpTo (Some last) id = (id ≡ last) ⊎ (int_cmp id last ≡ Less)

-- a table's name, and the names of its columns
abbrev pub outline : Table → List ℕ × List (List ℕ)
outline t = (t.name, map (λ c. c.name) t.columns)

-- the two tables are there and no other, in either order, with just their columns
abbrev pub HasOurNames : Schema → Type 0
HasOurNames schema =
    (map outline schema.tables ≡ outline layout_table ∷ outline row_table ∷ []) ⊎ (map outline schema.tables ≡ outline row_table ∷ outline layout_table ∷ [])
