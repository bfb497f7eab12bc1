use Rattle.node_desk.specs.Logs.{log_of}
use Rattle.node_harness.proofs.round.run_node.Given as goal

abbrev pub ghosts-in_desk-J-Naming : goal.ghosts-in_desk-J-Naming
ghosts-in_desk-J-Naming g a = record { before = log_of a.cell }

abbrev pub ghosts-in_desk-J-Ledger : goal.ghosts-in_desk-J-Ledger
ghosts-in_desk-J-Ledger g a = record { name = a.blank.name; parts = a.blank.parts }
