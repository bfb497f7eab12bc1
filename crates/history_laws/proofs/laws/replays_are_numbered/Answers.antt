use Rattle.history_laws.proofs.Replaying as laws
use Rattle.history_laws.proofs.laws.replays_are_numbered.Goals as goal

pub returns : goal.returns
returns c = laws.replays_are_numbered
