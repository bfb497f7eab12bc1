use Rattle.operator_steps.proofs.ReportSteps as planning
use Rattle.operator_steps.proofs.facts.reports_may_follow.Goals as goal

pub returns : goal.returns
returns c = planning.reports
