use Rattle.std.proofs.Common.{take}
use Rattle.row_table.proofs.CheckLemmas.{IsChecked}
use Rattle.row_table.proofs.checking.are_whole.Given as goal

abbrev pub invariant-loop-row : goal.invariant-loop-row
invariant-loop-row l = IsChecked (take l.row-index l.rows) l.last
