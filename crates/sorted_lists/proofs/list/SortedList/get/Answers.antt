use Rattle.std.proofs.Common.{◌∙◌, ap, sym}
use Rattle.std.specs.Option.{option_flatten}
use Rattle.tables.proofs.Slots.{got}
use Rattle.sorted_lists.specs.Slots.{room_of, seen}
use Rattle.sorted_lists.proofs.Seen.{looked_seen, sorted_seen}
use Rattle.sorted_lists.proofs.list.SortedList.get.Goals as goal

pub returns-in-Some : goal.returns-in-Some
returns-in-Some g c = rw (← c.self.view_is) (c.value.ensures ∙ ap (λ o. option_flatten (room_of o)) c.in-Some.ensures ∙ ap option_flatten (sym (looked_seen g.met.K.Ord.total g.met.K.TableKey.exact c.args.key c.self.inside.slots.items c.self.invariant))
    ∙ sym (got g.met.K.TableKey.exact (seen c.self.inside.slots.items) c.args.key (sorted_seen g.met.K.Ord.total g.met.K.TableKey.exact c.self.inside.slots.items c.self.invariant)))

pub returns-in-None : goal.returns-in-None
returns-in-None g c = rw (← c.self.view_is) (ap (λ o. option_flatten (room_of o)) c.in-None.ensures ∙ ap option_flatten (sym (looked_seen g.met.K.Ord.total g.met.K.TableKey.exact c.args.key c.self.inside.slots.items c.self.invariant))
    ∙ sym (got g.met.K.TableKey.exact (seen c.self.inside.slots.items) c.args.key (sorted_seen g.met.K.Ord.total g.met.K.TableKey.exact c.self.inside.slots.items c.self.invariant)))
