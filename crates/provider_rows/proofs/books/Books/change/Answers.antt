use Rattle.provider_rows.proofs.TimeRooms.{put_keeps_time, drop_keeps_time}
use Rattle.provider_rows.proofs.books.Books.change.Goals as goal

pub returns-in-Put-clause-sending : goal.returns-in-Put-clause-sending
returns-in-Put-clause-sending c =
    let s = c.args.self.now in
    rw c.in-Put.is (put_keeps_time c.in-Put.row s.state.resend s.sending c.put_row.new.self.sending c.put_row.ensures.sending)

pub returns-in-Drop-clause-sending : goal.returns-in-Drop-clause-sending
returns-in-Drop-clause-sending c =
    let s = c.args.self.now in
    rw c.in-Drop.is (drop_keeps_time c.in-Drop.key s.state.resend s.sending c.drop_row.new.self.sending c.drop_row.ensures.sending)
