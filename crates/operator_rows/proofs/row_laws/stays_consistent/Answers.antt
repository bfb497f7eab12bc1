use Rattle.operator_rows.proofs.KeepingTimes.{opening_consistent, follow_full_consistent, restarted_consistent}
use Rattle.operator_rows.proofs.row_laws.stays_consistent.Goals as goal

pub returns : goal.returns
returns c = record { at_first = opening_consistent; by_steps = follow_full_consistent; by_restarts = restarted_consistent }
