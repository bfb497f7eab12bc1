use Rattle.replays.proofs.PrintedOnce as printed
use Rattle.replays.proofs.laws.printed_is_one.Goals as goal

pub returns : goal.returns
returns c = printed.printed_is_one
