use Rattle.site_book.specs.Indexes.{AreAllSet}
use Rattle.site_book.proofs.indexes.all_set.Given as goal

abbrev pub invariant-loop-location : goal.invariant-loop-location
invariant-loop-location l = AreAllSet l.locations l.location-index l.flags.items
