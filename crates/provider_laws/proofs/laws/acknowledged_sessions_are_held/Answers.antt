use Rattle.provider_laws.proofs.held.Sessions as laws
use Rattle.provider_laws.proofs.laws.acknowledged_sessions_are_held.Goals as goal

pub returns : goal.returns
returns c = laws.acknowledged_sessions_are_held
