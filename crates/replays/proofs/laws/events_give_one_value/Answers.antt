use Rattle.replays.proofs.OneValue as values
use Rattle.replays.proofs.laws.events_give_one_value.Goals as goal

pub returns : goal.returns
returns c = values.events_give_one_value
