-- The rows of an operator that are of none of its books, as lists.
use Rattle.std.specs.Prelude.{◌≡◌, ℕ, nat_eq, cond, List, [], ◌∷◌, ◌++◌, map}
use Rattle.std.specs.FinMap.{FinMap, entries}
use Rattle.tables.specs.Keys.{text_pair_cmp}
use Rattle.tables.specs.Lookups.{IsListing}
use Rattle.ocpi_types.specs.declared.rows.Row.{Row}
use Rattle.ocpi_types.specs.declared.rows.Row.TheVariants as row
use Rattle.ocpi_types.specs.declared.rows.Counter.TheVariants.{Serial}
use Rattle.operator_rows.specs.State.{Rows}

-- the counter of packets, where it has given a number
abbrev pub serial_rows : ℕ → List Row
serial_rows last = cond (nat_eq last 0) [] (row.Count Serial last ∷ [])

-- a reference that is spent, as a map has it
abbrev pub SpentEntry : Type 0
SpentEntry = (List ℕ × List ℕ) × Unit {0}

abbrev pub spent_row : SpentEntry → Row
spent_row e = row.Spent e.0.0 e.0.1

abbrev pub service_row : List ℕ × Unit {0} → Row
service_row e = row.Service e.0

-- with the references that are spent in this order
abbrev pub other_rows : Rows → List SpentEntry → List Row
other_rows s spent = serial_rows s.serial ++ map spent_row spent ++ map service_row (entries s.out_of_service)

-- the references that are spent are added to a list, in some order
abbrev pub AddsSpent : FinMap text_pair_cmp (Unit {0}) → List Row → List Row → Type 0
AddsSpent m before after = (spent : List SpentEntry) × IsListing m spent × (after ≡ before ++ map spent_row spent)

-- the rows that are of none of the books are added to a list
abbrev pub AddsOthers : Rows → List Row → List Row → Type 0
AddsOthers s before after = (spent : List SpentEntry) × IsListing s.spent spent × (after ≡ before ++ other_rows s spent)
