use Rattle.std.proofs.Common.{◌≡◌, ◌++◌, flat_map, string_bytes}
use Rattle.node_programs.specs.ByProvider.{owing_line}
use Rattle.node_programs.proofs.by_provider.write_owings.Given as goal

-- the lines of the debts before this one are written, and those of the others follow
abbrev pub invariant-loop-debt : goal.invariant-loop-debt
invariant-loop-debt l = string_bytes l.output ++ flat_map owing_line l.debt-iterator ≡ string_bytes l.fn.output ++ flat_map owing_line l.initial.debt-iterator
