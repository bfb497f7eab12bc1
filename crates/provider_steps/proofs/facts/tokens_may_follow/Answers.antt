use Rattle.provider_steps.proofs.TokenSteps as planning
use Rattle.provider_steps.proofs.facts.tokens_may_follow.Goals as goal

pub returns : goal.returns
returns c = planning.tokens
