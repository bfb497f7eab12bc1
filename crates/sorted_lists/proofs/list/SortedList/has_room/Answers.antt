use Rattle.std.proofs.Common.{◌∙◌, ap, sym}
use Rattle.std.specs.Prelude.{is_some}
use Rattle.tables.proofs.Slots.{has_room}
use Rattle.sorted_lists.specs.Slots.{room_of, seen}
use Rattle.sorted_lists.proofs.Seen.{looked_seen, roomy, sorted_seen}
use Rattle.sorted_lists.proofs.list.SortedList.has_room.Goals as goal

pub returns-in-Some : goal.returns-in-Some
returns-in-Some g c = rw (← c.self.view_is) (c.stands.ensures ∙ roomy c.in-Some.slot.now ∙ ap (λ o. is_some (room_of o)) c.in-Some.ensures ∙ ap is_some (sym (looked_seen g.met.K.Ord.total g.met.K.TableKey.exact c.args.key c.self.inside.slots.items c.self.invariant))
    ∙ sym (has_room g.K.Ord.cmp (seen c.self.inside.slots.items) c.args.key (sorted_seen g.met.K.Ord.total g.met.K.TableKey.exact c.self.inside.slots.items c.self.invariant)))

pub returns-in-None : goal.returns-in-None
returns-in-None g c = rw (← c.self.view_is) (ap (λ o. is_some (room_of o)) c.in-None.ensures ∙ ap is_some (sym (looked_seen g.met.K.Ord.total g.met.K.TableKey.exact c.args.key c.self.inside.slots.items c.self.invariant))
    ∙ sym (has_room g.K.Ord.cmp (seen c.self.inside.slots.items) c.args.key (sorted_seen g.met.K.Ord.total g.met.K.TableKey.exact c.self.inside.slots.items c.self.invariant)))
