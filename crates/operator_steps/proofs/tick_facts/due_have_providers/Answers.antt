use Rattle.operator_steps.proofs.TimingOut as timing_out
use Rattle.operator_steps.proofs.tick_facts.due_have_providers.Goals as goal

pub returns : goal.returns
returns c = timing_out.due_have_providers
