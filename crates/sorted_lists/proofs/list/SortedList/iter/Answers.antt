use Rattle.std.proofs.Common.{◌∙◌, ap, sym}
use Rattle.tables.specs.Tables.{shown}
use Rattle.tables.proofs.Slots.{listed_shown}
use Rattle.sorted_lists.specs.Slots.{seen}
use Rattle.sorted_lists.proofs.Seen.{sorted_seen}
use Rattle.sorted_lists.proofs.list.SortedList.iter.Goals as goal

pub returns : goal.returns
returns g c = rw (← c.self.view_is) (ap (λ es. shown (seen es)) c.iter.ensures.rest ∙ sym (listed_shown g.K.Ord.cmp (seen c.self.inside.slots.items) (sorted_seen g.met.K.Ord.total g.met.K.TableKey.exact c.self.inside.slots.items c.self.invariant)))
