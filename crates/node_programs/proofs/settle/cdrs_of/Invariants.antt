use Rattle.std.proofs.Common.{◌≡◌, take}
use Rattle.node_programs.specs.Settle.{cdrs_of}
use Rattle.node_programs.proofs.settle.cdrs_of.Given as goal

-- the records of the rows before this one
abbrev pub invariant-loop-row : goal.invariant-loop-row
invariant-loop-row l = l.cdrs.items ≡ cdrs_of (take l.row-index l.rows)
