use Rattle.std.proofs.Common.{sym, subst, ◌∙◌}
use Rattle.std.specs.Prelude.{IsTrue}
use Rattle.std.specs.FinMap.{contains_key}
use Rattle.ocpi_types.specs.declared.rows.RowKey.TheVariants as keys
use Rattle.command_book.specs.Queue.{Queue}
use Rattle.command_book.proofs.Queued.{apart_of_stale, unqueued_stale, queued_put}
use Rattle.command_book.proofs.Roomed.{keeps_other_room, still_queued}
use Rattle.command_book.proofs.book.CommandBook.put_open.Goals as goal

pub put-requires : goal.put-requires
put-requires c =
    let room = rw (← c.self.view_is) at c.requires in
    let found = rw c.deref-seen.ensures at c.stale-stale.ensures.found in
    rw c.deref-seen.ensures (subst (λ (m : Queue). IsTrue (contains_key m (c.args.command.deadline, (c.args.provider, c.args.number)))) (sym c.unqueue.ensures.room)
    (still_queued _ (c.args.provider, c.args.number) c.stale-stale.result c.args.command.deadline (c.args.provider, c.args.number) (apart_of_stale _ _ _ _ found) room.1))

pub invariant_of-self : goal.invariant_of-self
invariant_of-self c =
    rw (rw c.deref-seen.ensures at c.put.ensures.shown, c.unqueue.ensures.shown, c.put-2.ensures.shown)
    (queued_put _ _ (c.args.provider, c.args.number) c.args.command
    (unqueued_stale _ _ c.self.invariant (c.args.provider, c.args.number) c.args.command.deadline c.stale-stale.result (rw (← c.self.view_is, c.deref-seen.ensures) at c.stale-stale.ensures.found) (rw (← c.self.view_is, c.deref-seen.ensures) at c.stale-stale.ensures.none)))

pub returns-clause-room : goal.returns-clause-room
returns-clause-room c =
    let room = rw (← c.self.view_is) at c.requires in (
      rw c.put-2.ensures.room room.0,
      subst (λ (m : Queue). IsTrue (contains_key m (c.args.command.deadline, (c.args.provider, c.args.number)))) (sym (c.put.ensures.room ∙ c.unqueue.ensures.room))
          (still_queued _ (c.args.provider, c.args.number) c.stale-stale.result c.args.command.deadline (c.args.provider, c.args.number) (apart_of_stale _ _ _ _ (rw c.deref-seen.ensures at c.stale-stale.ensures.found)) room.1),
    )

pub returns-clause-keeps : goal.returns-clause-keeps
returns-clause-keeps c =
    rw (← c.self.view_is) (keeps_other_room _ _ _ (record {
      replies = λ q apart had. had;
      pending = λ q apart had. rw c.put-2.ensures.room had;
      results = λ q apart had. had;
      deadlines = λ d q apart had. subst (λ (m : Queue). IsTrue (contains_key m (d, q))) (sym (c.put.ensures.room ∙ c.unqueue.ensures.room))
          (still_queued _ (c.args.provider, c.args.number) c.stale-stale.result d q (λ e is same. apart (λ i. keys.Pending (same i).1.0 (same i).1.1)) had);
    }))
