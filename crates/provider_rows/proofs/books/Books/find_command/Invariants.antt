use Rattle.std.specs.Map.{keys_of}
use Rattle.provider_rows.proofs.Finding.{AreLeft}
use Rattle.provider_rows.proofs.books.Books.find_command.Given as goal

abbrev pub invariant-loop-key : goal.invariant-loop-key
invariant-loop-key l = AreLeft l.self.state.rows.outbox.commands l.url l.from (keys_of l.key-iterator)
