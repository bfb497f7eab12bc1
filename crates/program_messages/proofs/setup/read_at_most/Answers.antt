use Rattle.program_messages.proofs.SetupLemmas.{read_part}
use Rattle.program_messages.proofs.setup.read_at_most.Goals as goal

pub returns-in-Ok : goal.returns-in-Ok
returns-in-Ok g c = read_part g.R.Read.remaining _ _ _ _ _ c.take-file.ensures.limit c.take-file.ensures.inner c.new-text.ensures.items c.in-Ok.ensures.bytes
