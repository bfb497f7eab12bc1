use Rattle.std.proofs.Common.{◌≡◌, map, take}
use Rattle.weave.specs.Needs.{row_of, sent_in}
use Rattle.weave.proofs.needs.table_of.Given as goal

abbrev pub invariant-loop-history : goal.invariant-loop-history
invariant-loop-history l = map row_of l.table.items ≡ map sent_in (take l.history-index l.histories)
