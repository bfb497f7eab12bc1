use Rattle.provider_rows.proofs.KeepingTimes.{opening_consistent, follow_consistent, restarted_consistent}
use Rattle.provider_rows.proofs.row_laws.stays_consistent.Goals as goal

pub returns : goal.returns
returns c = record { at_first = opening_consistent; by_steps = follow_consistent; by_restarts = restarted_consistent }
