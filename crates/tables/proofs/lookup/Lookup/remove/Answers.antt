use Rattle.std.proofs.Common.{◌∙◌, refl, ap, sym}
use Rattle.std.specs.Prelude.{None}
use Rattle.std.specs.Option.{option_flatten}
use Rattle.tables.specs.Lookups.{slots_of}
use Rattle.tables.proofs.Looked.{changed_up, looked_up, sorted_up}
use Rattle.tables.proofs.Slots.{got, cleared, unroomed}
use Rattle.tables.proofs.lookup.Lookup.remove.Goals as goal

pub returns-clause-value : goal.returns-clause-value
returns-clause-value g c = rw (← c.self.view_is) (c.flatten.ensures ∙ ap option_flatten (c.remove.ensures.value ∙ sym (looked_up g.met.K.Ord.total g.K.PartialEq.eq g.met.K.Ord.matches_eq c.args.key c.self.inside.slots.entries))
    ∙ sym (got g.met.K.TableKey.exact (slots_of g.K.Ord.cmp c.self.inside.slots.entries) c.args.key (sorted_up g.met.K.Ord.total g.met.K.TableKey.exact c.self.inside.slots.entries)))

pub returns-clause-shown : goal.returns-clause-shown
returns-clause-shown g c = rw (← c.self.view_is)
    (cleared g.met.K.Ord.total g.met.K.TableKey.exact (slots_of g.K.Ord.cmp c.self.inside.slots.entries) (slots_of g.K.Ord.cmp c.remove.new.self.entries) c.args.key None (sorted_up g.met.K.Ord.total g.met.K.TableKey.exact c.self.inside.slots.entries) (sorted_up g.met.K.Ord.total g.met.K.TableKey.exact c.remove.new.self.entries)
    (changed_up g.met.K.Ord.total g.K.PartialEq.eq g.met.K.Ord.matches_eq c.self.inside.slots.entries c.remove.new.self.entries c.args.key None c.remove.ensures.updates.0) refl)

pub returns-clause-room : goal.returns-clause-room
returns-clause-room g c = rw (← c.self.view_is)
    (unroomed g.met.K.Ord.total g.met.K.TableKey.exact (slots_of g.K.Ord.cmp c.self.inside.slots.entries) (slots_of g.K.Ord.cmp c.remove.new.self.entries) c.args.key None (sorted_up g.met.K.Ord.total g.met.K.TableKey.exact c.self.inside.slots.entries) (sorted_up g.met.K.Ord.total g.met.K.TableKey.exact c.remove.new.self.entries)
    (changed_up g.met.K.Ord.total g.K.PartialEq.eq g.met.K.Ord.matches_eq c.self.inside.slots.entries c.remove.new.self.entries c.args.key None c.remove.ensures.updates.0) refl)
