use Rattle.std.proofs.Common.{◌≡◌, ◌∙◌, ap, refl, subst, sym, true, false}
use Rattle.std.specs.Prelude.{None}
use Rattle.std.specs.FinMap.{contains_key}
use Rattle.std.specs.Option.{option_flatten}
use Rattle.tables.specs.Tables.{rooms_of}
use Rattle.tables.proofs.Maps.{remove_absent}
use Rattle.tables.proofs.Options.{is_none}
use Rattle.tables.proofs.Slots.{cleared, got, nothing_to_clear, room_missing, unroomed}
use Rattle.sorted_lists.specs.Slots.{room_of, seen}
use Rattle.sorted_lists.specs.declared.slots.Slot.TheVariants.{Out}
use Rattle.sorted_lists.proofs.Seen.{changed_seen, looked_seen, not_shown, nothing_seen, sorted_seen}
use Rattle.sorted_lists.proofs.list.SortedList.remove.Goals as goal

pub returns-then-not-has_room-clause-value : goal.returns-then-not-has_room-clause-value
returns-then-not-has_room-clause-value g c = rw (← c.self.view_is) (sym (is_none _ (not_shown g.met.K.Ord.total g.met.K.TableKey.exact (seen c.self.inside.slots.items) c.args.key (sorted_seen g.met.K.Ord.total g.met.K.TableKey.exact c.self.inside.slots.items c.self.invariant) (subst (λ es. contains_key (rooms_of g.K.Ord.cmp es) c.args.key ≡ false) (sym c.self.view_is) (sym c.has_room.ensures ∙ c.if-not-has_room.true)))))

pub returns-then-not-has_room-clause-shown : goal.returns-then-not-has_room-clause-shown
returns-then-not-has_room-clause-shown g c = rw (← c.self.view_is) (nothing_to_clear g.met.K.Ord.total g.met.K.TableKey.exact (seen c.self.inside.slots.items) c.args.key (sorted_seen g.met.K.Ord.total g.met.K.TableKey.exact c.self.inside.slots.items c.self.invariant) (subst (λ es. contains_key (rooms_of g.K.Ord.cmp es) c.args.key ≡ false) (sym c.self.view_is) (sym c.has_room.ensures ∙ c.if-not-has_room.true)))

pub returns-then-not-has_room-clause-room : goal.returns-then-not-has_room-clause-room
returns-then-not-has_room-clause-room g c = rw (← c.self.view_is) (sym (remove_absent g.met.K.Ord.total g.met.K.TableKey.exact (rooms_of g.K.Ord.cmp (seen c.self.inside.slots.items)) c.args.key (is_none _ (subst (λ es. contains_key (rooms_of g.K.Ord.cmp es) c.args.key ≡ false) (sym c.self.view_is) (sym c.has_room.ensures ∙ c.if-not-has_room.true)))))

pub unreachable-requires : goal.unreachable-requires
unreachable-requires g c = room_missing g.met.K.Ord.total g.met.K.TableKey.exact (seen c.self.inside.slots.items) c.args.key (sorted_seen g.met.K.Ord.total g.met.K.TableKey.exact c.self.inside.slots.items c.self.invariant) (nothing_seen g.met.K.Ord.total g.met.K.TableKey.exact c.args.key c.self.inside.slots.items c.self.invariant c.in-Err.ensures.absent)
    (subst (λ es. contains_key (rooms_of g.K.Ord.cmp es) c.args.key ≡ true) (sym c.self.view_is) (sym c.has_room.ensures ∙ c.if-not-has_room.false))

pub returns-clause-value : goal.returns-clause-value
returns-clause-value g c = rw (← c.self.view_is) (c.taken-value.ensures ∙ ap (λ o. option_flatten (room_of o)) c.in-Ok.ensures.value ∙ ap option_flatten (sym (looked_seen g.met.K.Ord.total g.met.K.TableKey.exact c.args.key c.self.inside.slots.items c.self.invariant))
    ∙ sym (got g.met.K.TableKey.exact (seen c.self.inside.slots.items) c.args.key (sorted_seen g.met.K.Ord.total g.met.K.TableKey.exact c.self.inside.slots.items c.self.invariant)))

pub returns-clause-shown : goal.returns-clause-shown
returns-clause-shown g c = rw (c.sweep_some.ensures, ← c.self.view_is) (cleared g.met.K.Ord.total g.met.K.TableKey.exact (seen c.self.inside.slots.items) (seen c.set.new.slots.items) c.args.key None (sorted_seen g.met.K.Ord.total g.met.K.TableKey.exact c.self.inside.slots.items c.self.invariant) (sorted_seen g.met.K.Ord.total g.met.K.TableKey.exact c.set.new.slots.items c.set.ensures.ordered) (changed_seen g.met.K.Ord.total g.met.K.TableKey.exact c.self.inside.slots.items c.set.new.slots.items c.args.key Out c.self.invariant c.set.ensures.ordered c.in-Ok.ensures.updates) refl)

pub returns-clause-room : goal.returns-clause-room
returns-clause-room g c = rw (c.sweep_some.ensures, ← c.self.view_is) (unroomed g.met.K.Ord.total g.met.K.TableKey.exact (seen c.self.inside.slots.items) (seen c.set.new.slots.items) c.args.key None (sorted_seen g.met.K.Ord.total g.met.K.TableKey.exact c.self.inside.slots.items c.self.invariant) (sorted_seen g.met.K.Ord.total g.met.K.TableKey.exact c.set.new.slots.items c.set.ensures.ordered) (changed_seen g.met.K.Ord.total g.met.K.TableKey.exact c.self.inside.slots.items c.set.new.slots.items c.args.key Out c.self.invariant c.set.ensures.ordered c.in-Ok.ensures.updates) refl)
