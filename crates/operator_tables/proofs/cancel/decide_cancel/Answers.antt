use Rattle.std.proofs.Common.{rules, ap}
use Rattle.operator_tables.specs.declared.decision.Decision.TheVariants.{Cancelled}
use Rattle.operator_tables.specs.Cancel as lines
use Rattle.operator_tables.proofs.cancel.decide_cancel.Goals as goal

pub returns-in-Some : goal.returns-in-Some
returns-in-Some c = lines.Ended (search rules) c.in-Some.field-0 (cc) (ap Cancelled c.key-reservation_id.ensures)
