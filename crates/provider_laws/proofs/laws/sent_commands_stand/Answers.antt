use Rattle.provider_laws.proofs.commands.Sent as laws
use Rattle.provider_laws.proofs.laws.sent_commands_stand.Goals as goal

pub returns : goal.returns
returns c = laws.sent_commands_stand
