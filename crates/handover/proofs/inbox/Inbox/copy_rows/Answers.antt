use Rattle.std.proofs.Common.{ap, ◌∙◌, ◌++◌}
use Rattle.handover.specs.InboxListing.{put_rows, rows_of}
use Rattle.handover.proofs.InboxListed.{put_rows_of}
use Rattle.handover.proofs.inbox.Inbox.copy_rows.Goals as goal

pub returns : goal.returns
returns c =
    c.in_ok-add_rows.ensures
    ∙ ap (put_rows c.push_rows.new.rows.items) c.new-copy.ensures
    ∙ ap (λ l. put_rows l _) (c.in_ok-push_rows.ensures ∙ ap (λ l. l ++ rows_of c.args.self.now.rows) c.new-rows.ensures.items)
    ∙ put_rows_of _ c.consistency.ensures
