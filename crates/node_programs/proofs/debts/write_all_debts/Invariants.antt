use Rattle.std.proofs.Common.{◌≡◌, ◌++◌, flat_map, take, string_bytes}
use Rattle.node_programs.specs.Play.{debts_of}
use Rattle.node_programs.proofs.debts.write_all_debts.Given as goal

-- what the nodes before this one owe is written
abbrev pub invariant-loop-node : goal.invariant-loop-node
invariant-loop-node l =
    string_bytes l.output ≡ string_bytes l.fn.output ++ flat_map (debts_of l.world.places l.setup) (take l.node-index l.setup)
