use Rattle.replay_laws.proofs.ReadPlaces as laws
use Rattle.replay_laws.proofs.laws.setups_have_places.Goals as goal

pub returns : goal.returns
returns c = laws.setups_have_places
