use Rattle.std.proofs.Common.{◌≡◌, ◌++◌, flat_map, take, string_bytes}
use Rattle.node_programs.specs.Play.{debt_lines}
use Rattle.node_programs.proofs.debts.write_debts.Given as goal

-- what is owed to the nodes before this one is written
abbrev pub invariant-loop-node : goal.invariant-loop-node
invariant-loop-node l =
    string_bytes l.output ≡ string_bytes l.fn.output ++ flat_map (debt_lines l.world.places l.provider) (take l.node-index l.setup)
