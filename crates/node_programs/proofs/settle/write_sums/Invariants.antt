use Rattle.std.proofs.Common.{◌≡◌, ◌++◌, flat_map, string_bytes}
use Rattle.node_programs.specs.Settle.{account_line}
use Rattle.node_programs.proofs.settle.write_sums.Given as goal

-- the lines of the sums before this one are written, and those of the others follow
abbrev pub invariant-loop-account : goal.invariant-loop-account
invariant-loop-account l = string_bytes l.output ++ flat_map account_line l.account-iterator ≡ string_bytes l.fn.output ++ flat_map account_line l.initial.account-iterator
