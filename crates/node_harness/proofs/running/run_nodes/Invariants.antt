use Rattle.node_harness.proofs.running.run_nodes.Given as goal

abbrev pub ghosts-run_members : goal.ghosts-run_members
ghosts-run_members g a = record { nodes = a.setup.now }
