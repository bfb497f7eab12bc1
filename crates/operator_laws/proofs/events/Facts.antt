-- What each line asks for may be carried out, and a moment may be read from the state before it (`operator_steps`).
pub use Rattle.operator_steps.proofs.CreditSteps.{credits}
pub use Rattle.operator_steps.proofs.PacketSteps.{packets}
pub use Rattle.operator_steps.proofs.ReportSteps.{reports}
pub use Rattle.operator_steps.proofs.ServiceSteps.{services}
pub use Rattle.operator_steps.proofs.TickSteps.{ticks}
pub use Rattle.operator_steps.proofs.TickStages.{stages_see}
