use Rattle.std.proofs.Common.{ap, ◌∙◌}
use Rattle.command_book.specs.Listing.{put_rows}
use Rattle.command_book.proofs.Listed.{put_rows_of}
use Rattle.command_book.proofs.book.CommandBook.copy.Goals as goal

pub returns : goal.returns
returns c = c.in_ok-add_rows.ensures ∙ ap (put_rows c.in_ok-rows.rows.items) c.new-copy.ensures ∙ put_rows_of _ _ c.in_ok-rows.ensures.list
