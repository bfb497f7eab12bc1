-- What a query shows of the tables.
use Rattle.std.specs.Prelude.{ℕ, true, List, []}
use Rattle.sqlite.specs.Order.{Row, bytes, column}
use Rattle.sqlite.specs.Store.{Ghosts}
use Rattle.sqlite.specs.State.{Shown}
use Rattle.sqlite.specs.Held.{Held, state}
use Rattle.row_table.specs.Texts.{Place}

-- the rows are the answer in a transaction of their own
pub record IsAnswered {S : Type 0} (g : Ghosts S) (old : Held S) (sql : List ℕ) (rows : List Row) : Type 0 where
  pub mid : Held S
  pub shown : Shown sql [] (state g (record old { in_transaction = true })) (state g mid) rows

-- a row that shows kind, name and text
abbrev pub entry_shown : Row → Place × List ℕ
entry_shown r = ((bytes (column r 0), bytes (column r 1)), bytes (column r 2))
