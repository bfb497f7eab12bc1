use Rattle.std.proofs.Common.{ap}
use Rattle.tables.proofs.Slots.{no_slot, no_room}
use Rattle.sorted_lists.specs.Slots.{seen}
use Rattle.sorted_lists.proofs.Parts.{sorted_nothing}
use Rattle.sorted_lists.proofs.list.SortedList.new.Goals as goal

pub invariant_of-result : goal.invariant_of-result
invariant_of-result g c = sorted_nothing g.K.Ord.cmp c.new.result.items c.new.ensures.items

pub returns-clause-shown : goal.returns-clause-shown
returns-clause-shown g c = no_slot g.K.Ord.cmp (seen c.new.result.items) (ap seen c.new.ensures.items)

pub returns-clause-room : goal.returns-clause-room
returns-clause-room g c = no_room g.K.Ord.cmp (seen c.new.result.items) (ap seen c.new.ensures.items)
