use Rattle.std.proofs.Common.{◌≡◌, ◌∙◌, refl, subst, sym, true, false}
use Rattle.std.specs.Prelude.{Some, None}
use Rattle.std.specs.FinMap.{contains_key}
use Rattle.tables.specs.Tables.{rooms_of}
use Rattle.tables.proofs.Slots.{still_hidden, roomed, taken, kept}
use Rattle.sorted_lists.specs.Slots.{seen}
use Rattle.sorted_lists.specs.declared.slots.Slot.TheVariants.{Room}
use Rattle.sorted_lists.proofs.Seen.{changed_seen, had_room, not_shown, sorted_seen}
use Rattle.sorted_lists.proofs.list.SortedList.reserve.Goals as goal

pub returns-clause-shown : goal.returns-clause-shown
returns-clause-shown g c = rw (← c.self.view_is)
    (still_hidden g.met.K.Ord.total g.met.K.TableKey.exact (seen c.self.inside.slots.items) (seen c.set.new.slots.items) c.args.key (Some None) (sorted_seen g.met.K.Ord.total g.met.K.TableKey.exact c.self.inside.slots.items c.self.invariant) (sorted_seen g.met.K.Ord.total g.met.K.TableKey.exact c.set.new.slots.items c.set.ensures.ordered) (changed_seen g.met.K.Ord.total g.met.K.TableKey.exact c.self.inside.slots.items c.set.new.slots.items c.args.key Room c.self.invariant c.set.ensures.ordered c.in_ok-set.ensures.updates) refl
    (not_shown g.met.K.Ord.total g.met.K.TableKey.exact (seen c.self.inside.slots.items) c.args.key (sorted_seen g.met.K.Ord.total g.met.K.TableKey.exact c.self.inside.slots.items c.self.invariant) (subst (λ es. contains_key (rooms_of g.K.Ord.cmp es) c.args.key ≡ false) (sym c.self.view_is) (sym c.has_room.ensures ∙ c.if-has_room.false))))

pub returns-clause-room : goal.returns-clause-room
returns-clause-room g c = rw (← c.self.view_is)
    (roomed g.met.K.Ord.total g.met.K.TableKey.exact (seen c.self.inside.slots.items) (seen c.set.new.slots.items) c.args.key (Some None) (sorted_seen g.met.K.Ord.total g.met.K.TableKey.exact c.self.inside.slots.items c.self.invariant) (sorted_seen g.met.K.Ord.total g.met.K.TableKey.exact c.set.new.slots.items c.set.ensures.ordered) (changed_seen g.met.K.Ord.total g.met.K.TableKey.exact c.self.inside.slots.items c.set.new.slots.items c.args.key Room c.self.invariant c.set.ensures.ordered c.in_ok-set.ensures.updates) refl)

pub returns-clause-ready : goal.returns-clause-ready
returns-clause-ready g c = subst (λ m. contains_key m c.args.key ≡ true) (sym (returns-clause-room g c)) (taken g.met.K.Ord.total (rooms_of g.K.Ord.cmp c.args.self.now) c.args.key)

pub returns-clause-keeps : goal.returns-clause-keeps
returns-clause-keeps g c = λ q had. subst (λ m. contains_key m q ≡ true) (sym (returns-clause-room g c)) (kept g.met.K.Ord.total (rooms_of g.K.Ord.cmp c.args.self.now) c.args.key q had)

pub returns-then-has_room-clause-room : goal.returns-then-has_room-clause-room
returns-then-has_room-clause-room g c = sym (had_room g.met.K.Ord.total g.met.K.TableKey.exact (rooms_of g.K.Ord.cmp c.args.self.now) c.args.key (sym c.has_room.ensures ∙ c.if-has_room.true))
