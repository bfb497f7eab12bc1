use Rattle.std.proofs.Common.{◌∙◌, ap, refl, sym}
use Rattle.std.specs.Prelude.{Some, None, is_some}
use Rattle.tables.specs.Lookups.{slots_of}
use Rattle.tables.proofs.Looked.{changed_up, looked_up, sorted_up}
use Rattle.tables.proofs.Slots.{cleared, has_room, same_room, nothing_to_clear}
use Rattle.tables.proofs.lookup.Lookup.clear.Goals as goal

pub returns-then-not-contains_key-clause-shown : goal.returns-then-not-contains_key-clause-shown
returns-then-not-contains_key-clause-shown g c = rw (← c.self.view_is)
    (nothing_to_clear g.met.K.Ord.total g.met.K.TableKey.exact (slots_of g.K.Ord.cmp c.self.inside.slots.entries) c.args.key (sorted_up g.met.K.Ord.total g.met.K.TableKey.exact c.self.inside.slots.entries)
    (has_room g.K.Ord.cmp (slots_of g.K.Ord.cmp c.self.inside.slots.entries) c.args.key (sorted_up g.met.K.Ord.total g.met.K.TableKey.exact c.self.inside.slots.entries)
    ∙ ap is_some (looked_up g.met.K.Ord.total g.K.PartialEq.eq g.met.K.Ord.matches_eq c.args.key c.self.inside.slots.entries) ∙ sym c.contains_key.ensures ∙ c.if-not-contains_key.true))

pub returns-clause-shown : goal.returns-clause-shown
returns-clause-shown g c = rw (← c.self.view_is)
    (cleared g.met.K.Ord.total g.met.K.TableKey.exact (slots_of g.K.Ord.cmp c.self.inside.slots.entries) (slots_of g.K.Ord.cmp c.insert.new.self.entries) c.args.key (Some None) (sorted_up g.met.K.Ord.total g.met.K.TableKey.exact c.self.inside.slots.entries) (sorted_up g.met.K.Ord.total g.met.K.TableKey.exact c.insert.new.self.entries)
    (changed_up g.met.K.Ord.total g.K.PartialEq.eq g.met.K.Ord.matches_eq c.self.inside.slots.entries c.insert.new.self.entries c.args.key (Some None) c.in-Ok.ensures.updates.0) refl)

pub returns-clause-room : goal.returns-clause-room
returns-clause-room g c = rw (← c.self.view_is)
    (same_room g.met.K.Ord.total g.met.K.TableKey.exact (slots_of g.K.Ord.cmp c.self.inside.slots.entries) (slots_of g.K.Ord.cmp c.insert.new.self.entries) c.args.key (Some None) (sorted_up g.met.K.Ord.total g.met.K.TableKey.exact c.self.inside.slots.entries) (sorted_up g.met.K.Ord.total g.met.K.TableKey.exact c.insert.new.self.entries)
    (changed_up g.met.K.Ord.total g.K.PartialEq.eq g.met.K.Ord.matches_eq c.self.inside.slots.entries c.insert.new.self.entries c.args.key (Some None) c.in-Ok.ensures.updates.0) refl
    (has_room g.K.Ord.cmp (slots_of g.K.Ord.cmp c.self.inside.slots.entries) c.args.key (sorted_up g.met.K.Ord.total g.met.K.TableKey.exact c.self.inside.slots.entries)
    ∙ ap is_some (looked_up g.met.K.Ord.total g.K.PartialEq.eq g.met.K.Ord.matches_eq c.args.key c.self.inside.slots.entries) ∙ sym c.contains_key.ensures ∙ c.if-not-contains_key.false))
