-- The order in which rows are put when a node is made of them.
use Rattle.std.specs.Prelude.{ℕ, ◌+◌}
use Rattle.ocpi_types.specs.declared.rows.Row.{Row}
use Rattle.ocpi_types.specs.declared.rows.Row.TheVariants as row

-- what other rows are tested by comes first: the counters, and then the replies
abbrev pub turn_of : Row → ℕ
turn_of (row.Count c last) = 0
turn_of (row.Reply sender number reply) = 1
turn_of r = 2

-- the rank of a row among those that are put: by its turn, and pushes and commands, which have the last turn, by number
abbrev pub rank_of : Row → ℕ
rank_of (row.Push number to push) = 2 + number
rank_of (row.Command number command) = 2 + number
rank_of r = turn_of r
