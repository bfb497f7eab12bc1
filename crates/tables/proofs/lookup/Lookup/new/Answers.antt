use Rattle.tables.specs.Lookups.{slots_of}
use Rattle.tables.proofs.Looked.{none_up}
use Rattle.tables.proofs.Slots.{no_slot, no_room}
use Rattle.tables.proofs.lookup.Lookup.new.Goals as goal

pub returns-clause-shown : goal.returns-clause-shown
returns-clause-shown g c = no_slot g.K.Ord.cmp (slots_of g.K.Ord.cmp c.with_hasher.result.entries) (none_up g.K.Ord.cmp c.with_hasher.result.entries c.with_hasher.ensures.empty)

pub returns-clause-room : goal.returns-clause-room
returns-clause-room g c = no_room g.K.Ord.cmp (slots_of g.K.Ord.cmp c.with_hasher.result.entries) (none_up g.K.Ord.cmp c.with_hasher.result.entries c.with_hasher.ensures.empty)
