use Rattle.outbox.proofs.Held.{push_is_no_command}
use Rattle.outbox.proofs.outbox.Outbox.ack.Goals as goal

pub end_push-requires : goal.end_push-requires
end_push-requires c =
    let to = c.is_to.ensures.0 c.if-is_to.true in
    rw (← c.self.view_is) (push_is_no_command _ _ _ _ _ c.self.invariant c.args.number to.0 (rw (← c.self.view_is) at to.1))
