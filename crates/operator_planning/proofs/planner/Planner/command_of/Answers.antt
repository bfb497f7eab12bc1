use Rattle.operator_planning.proofs.planner.Planner.command_of.Goals as goal

pub returns-in-Fault-clause-only : goal.returns-in-Fault-clause-only
returns-in-Fault-clause-only c = rw (c.in-Fault.is, ← c.key-in-Fault.ensures) c.open_start_at.ensures.only

pub returns-in-Fault-clause-none : goal.returns-in-Fault-clause-none
returns-in-Fault-clause-none c = rw (c.in-Fault.is, ← c.key-in-Fault.ensures) c.open_start_at.ensures.none
