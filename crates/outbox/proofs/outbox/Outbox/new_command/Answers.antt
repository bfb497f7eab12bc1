use Rattle.outbox.proofs.NewRequest.{may_count_command, may_put_command, made_command}
use Rattle.outbox.proofs.outbox.Outbox.new_command.Goals as goal

pub count_to-requires : goal.count_to-requires
count_to-requires c = may_count_command _ c.args.command c.consistency.ensures.rows c.consistency.ensures.resend _ c.in_ok-number.ensures.ok.0
    _ c.reserve_command.ensures.rows c.reserve_command.ensures.resend c.reserve_command.ensures.sending c.reserve_command.ensures.keeps

pub put_command-requires-clause-may : goal.put_command-requires-clause-may
put_command-requires-clause-may c = may_put_command _ c.args.command c.consistency.ensures.rows c.consistency.ensures.resend _ c.in_ok-number.ensures.ok.0
    _ c.reserve_command.ensures.rows c.reserve_command.ensures.resend c.reserve_command.ensures.sending c.reserve_command.ensures.keeps
    _ c.count_to.ensures

pub returns-clause-ok : goal.returns-clause-ok
returns-clause-ok c = made_command _ c.args.command c.consistency.ensures.rows c.consistency.ensures.resend _ c.in_ok-number.ensures.ok.0
    _ c.reserve_command.ensures.rows c.reserve_command.ensures.resend c.reserve_command.ensures.sending c.reserve_command.ensures.keeps
    _ c.count_to.ensures _ c.put_command.ensures.rows c.put_command.ensures.resend c.put_command.ensures.sending c.put_command.ensures.keeps
