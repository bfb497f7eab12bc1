use Rattle.feeding_laws.proofs.Exactly as exactly
use Rattle.feeding_laws.proofs.laws.feeding_is_exact.Goals as goal

pub returns : goal.returns
returns c = exactly.feeding_is_exact c.restarts_are_held.ensures c.alike_are_classes.ensures
