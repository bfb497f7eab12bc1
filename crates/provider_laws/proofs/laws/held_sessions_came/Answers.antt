use Rattle.provider_laws.proofs.held.Sessions as laws
use Rattle.provider_laws.proofs.laws.held_sessions_came.Goals as goal

pub returns : goal.returns
returns c = laws.held_sessions_came
