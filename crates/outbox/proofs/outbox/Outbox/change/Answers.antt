use Rattle.outbox.proofs.NewRequest.{changed}
use Rattle.outbox.proofs.outbox.Outbox.change.Goals as goal

pub returns-clause-ok : goal.returns-clause-ok
returns-clause-ok c = changed _ _ _ c.args.number c.args.command c.reserve_for.ensures.rows c.reserve_for.ensures.resend c.reserve_for.ensures.sending c.reserve_for.ensures.keeps c.put_command.ensures.rows c.put_command.ensures.resend c.put_command.ensures.sending c.put_command.ensures.keeps
