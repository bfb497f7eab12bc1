use Rattle.std.proofs.Common.{◌≡◌, ◌∙◌, refl, subst, sym, true, false}
use Rattle.std.specs.Prelude.{Some, None}
use Rattle.std.specs.FinMap.{contains_key}
use Rattle.tables.specs.Tables.{rooms_of}
use Rattle.tables.proofs.Slots.{cleared, same_room, room_missing, nothing_to_clear}
use Rattle.sorted_lists.specs.Slots.{seen}
use Rattle.sorted_lists.specs.declared.slots.Slot.TheVariants.{Room}
use Rattle.sorted_lists.proofs.Seen.{changed_seen, nothing_seen, sorted_seen}
use Rattle.sorted_lists.proofs.list.SortedList.clear.Goals as goal

pub returns-then-not-has_room-clause-shown : goal.returns-then-not-has_room-clause-shown
returns-then-not-has_room-clause-shown g c = rw (← c.self.view_is)
    (nothing_to_clear g.met.K.Ord.total g.met.K.TableKey.exact (seen c.self.inside.slots.items) c.args.key (sorted_seen g.met.K.Ord.total g.met.K.TableKey.exact c.self.inside.slots.items c.self.invariant) (subst (λ es. contains_key (rooms_of g.K.Ord.cmp es) c.args.key ≡ false) (sym c.self.view_is) (sym c.has_room.ensures ∙ c.if-not-has_room.true)))

pub unreachable-requires : goal.unreachable-requires
unreachable-requires g c = room_missing g.met.K.Ord.total g.met.K.TableKey.exact (seen c.self.inside.slots.items) c.args.key (sorted_seen g.met.K.Ord.total g.met.K.TableKey.exact c.self.inside.slots.items c.self.invariant) (nothing_seen g.met.K.Ord.total g.met.K.TableKey.exact c.args.key c.self.inside.slots.items c.self.invariant c.in-Err.ensures.absent)
    (subst (λ es. contains_key (rooms_of g.K.Ord.cmp es) c.args.key ≡ true) (sym c.self.view_is) (sym c.has_room.ensures ∙ c.if-not-has_room.false))

pub returns-clause-shown : goal.returns-clause-shown
returns-clause-shown g c = rw (← c.self.view_is)
    (cleared g.met.K.Ord.total g.met.K.TableKey.exact (seen c.self.inside.slots.items) (seen c.set.new.slots.items) c.args.key (Some None) (sorted_seen g.met.K.Ord.total g.met.K.TableKey.exact c.self.inside.slots.items c.self.invariant) (sorted_seen g.met.K.Ord.total g.met.K.TableKey.exact c.set.new.slots.items c.set.ensures.ordered) (changed_seen g.met.K.Ord.total g.met.K.TableKey.exact c.self.inside.slots.items c.set.new.slots.items c.args.key Room c.self.invariant c.set.ensures.ordered c.in-Ok.ensures.updates) refl)

pub returns-clause-room : goal.returns-clause-room
returns-clause-room g c = rw (← c.self.view_is)
    (same_room g.met.K.Ord.total g.met.K.TableKey.exact (seen c.self.inside.slots.items) (seen c.set.new.slots.items) c.args.key (Some None) (sorted_seen g.met.K.Ord.total g.met.K.TableKey.exact c.self.inside.slots.items c.self.invariant) (sorted_seen g.met.K.Ord.total g.met.K.TableKey.exact c.set.new.slots.items c.set.ensures.ordered) (changed_seen g.met.K.Ord.total g.met.K.TableKey.exact c.self.inside.slots.items c.set.new.slots.items c.args.key Room c.self.invariant c.set.ensures.ordered c.in-Ok.ensures.updates) refl
    (subst (λ es. contains_key (rooms_of g.K.Ord.cmp es) c.args.key ≡ true) (sym c.self.view_is) (sym c.has_room.ensures ∙ c.if-not-has_room.false)))
