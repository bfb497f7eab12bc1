use Rattle.token_desk.proofs.Numbers.{never_repeat}
use Rattle.token_desk.proofs.laws.references_never_repeat.Goals as goal

pub returns : goal.returns
returns c = never_repeat
