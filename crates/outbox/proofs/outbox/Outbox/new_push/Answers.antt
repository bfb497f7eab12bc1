use Rattle.outbox.proofs.NewRequest.{older_free, may_count, may_put, room_to_put, made}
use Rattle.outbox.proofs.outbox.Outbox.new_push.Goals as goal

pub end_any-requires : goal.end_any-requires
end_any-requires c = rw c.reserve_push.ensures.rows (older_free _ c.consistency.ensures.rows _ c.in_ok-number.ensures.ok.0 _ _ (rw c.reserve_push.ensures.rows at c.replaced-older.ensures))

pub count_to-requires : goal.count_to-requires
count_to-requires c = may_count _ c.args.to c.args.push c.consistency.ensures.rows c.consistency.ensures.resend _ (rw c.reserve_push.ensures.rows at c.replaced-older.ensures) _ c.in_ok-number.ensures.ok.0
    _ c.reserve_push.ensures.rows c.reserve_push.ensures.resend c.reserve_push.ensures.sending c.reserve_push.ensures.keeps
    _ c.end_any.ensures.rows c.end_any.ensures.resend c.end_any.ensures.sending c.end_any.ensures.keeps

pub put_push-requires-clause-room : goal.put_push-requires-clause-room
put_push-requires-clause-room c = room_to_put _ c.args.to c.args.push c.consistency.ensures.rows c.consistency.ensures.resend _ (rw c.reserve_push.ensures.rows at c.replaced-older.ensures) _ c.in_ok-number.ensures.ok.0
    _ c.reserve_push.ensures.rows c.reserve_push.ensures.resend c.reserve_push.ensures.sending c.reserve_push.ensures.keeps
    _ c.end_any.ensures.rows c.end_any.ensures.resend c.end_any.ensures.sending c.end_any.ensures.keeps
    _ c.count_to.ensures c.in_ok-number.ensures.ok.1

pub put_push-requires-clause-may : goal.put_push-requires-clause-may
put_push-requires-clause-may c = may_put _ c.args.to c.args.push c.consistency.ensures.rows c.consistency.ensures.resend _ (rw c.reserve_push.ensures.rows at c.replaced-older.ensures) _ c.in_ok-number.ensures.ok.0
    _ c.reserve_push.ensures.rows c.reserve_push.ensures.resend c.reserve_push.ensures.sending c.reserve_push.ensures.keeps
    _ c.end_any.ensures.rows c.end_any.ensures.resend c.end_any.ensures.sending c.end_any.ensures.keeps
    _ c.count_to.ensures

pub returns-clause-ok : goal.returns-clause-ok
returns-clause-ok c = made _ c.args.to c.args.push c.consistency.ensures.rows c.consistency.ensures.resend _ (rw c.reserve_push.ensures.rows at c.replaced-older.ensures) _ c.in_ok-number.ensures.ok.0
    _ c.reserve_push.ensures.rows c.reserve_push.ensures.resend c.reserve_push.ensures.sending c.reserve_push.ensures.keeps
    _ c.end_any.ensures.rows c.end_any.ensures.resend c.end_any.ensures.sending c.end_any.ensures.keeps
    _ c.count_to.ensures _ c.put_push.ensures
