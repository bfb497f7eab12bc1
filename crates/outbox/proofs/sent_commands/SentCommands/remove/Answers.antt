use Rattle.outbox.proofs.Waiting.{waiting_out, keeps_others, other_slots, no_command_room}
use Rattle.outbox.proofs.sent_commands.SentCommands.remove.Goals as goal

pub invariant_of-self : goal.invariant_of-self
invariant_of-self c = rw (c.remove.ensures.shown, c.remove-2.ensures.shown) (waiting_out _ _ c.self.invariant c.args.number)

pub returns-clause-keeps : goal.returns-clause-keeps
returns-clause-keeps c = rw (← c.self.view_is) (keeps_others _ _ c.args.number (other_slots _ _ c.args.number c.remove-2.ensures.room) (other_slots _ _ c.args.number c.remove.ensures.room))

pub returns-clause-gives : goal.returns-clause-gives
returns-clause-gives c = no_command_room _ _ c.args.number c.remove-2.ensures.room
