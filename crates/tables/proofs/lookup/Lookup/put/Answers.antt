use Rattle.std.proofs.Common.{◌≡◌, ◌∙◌, refl, subst, sym, true}
use Rattle.std.specs.Prelude.{Some}
use Rattle.std.specs.FinMap.{contains_key}
use Rattle.tables.specs.Lookups.{slots_of}
use Rattle.tables.specs.Tables.{rooms_of}
use Rattle.tables.proofs.Looked.{changed_up, looked_up, sorted_up}
use Rattle.tables.proofs.Slots.{put_shown, same_room, room_missing}
use Rattle.tables.proofs.lookup.Lookup.put.Goals as goal

pub unreachable-requires : goal.unreachable-requires
unreachable-requires g c = room_missing g.met.K.Ord.total g.met.K.TableKey.exact (slots_of g.K.Ord.cmp c.self.inside.slots.entries) c.args.key (sorted_up g.met.K.Ord.total g.met.K.TableKey.exact c.self.inside.slots.entries) (looked_up g.met.K.Ord.total g.K.PartialEq.eq g.met.K.Ord.matches_eq c.args.key c.self.inside.slots.entries ∙ c.in-Err.ensures.absent)
    (subst (λ es. contains_key (rooms_of g.K.Ord.cmp es) c.args.key ≡ true) (sym c.self.view_is) c.requires)

pub returns-clause-shown : goal.returns-clause-shown
returns-clause-shown g c = rw (← c.self.view_is)
    (put_shown g.met.K.Ord.total g.met.K.TableKey.exact (slots_of g.K.Ord.cmp c.self.inside.slots.entries) (slots_of g.K.Ord.cmp c.insert.new.self.entries) c.args.key (Some (Some c.args.value)) (sorted_up g.met.K.Ord.total g.met.K.TableKey.exact c.self.inside.slots.entries) (sorted_up g.met.K.Ord.total g.met.K.TableKey.exact c.insert.new.self.entries)
    (changed_up g.met.K.Ord.total g.K.PartialEq.eq g.met.K.Ord.matches_eq c.self.inside.slots.entries c.insert.new.self.entries c.args.key (Some (Some c.args.value)) c.in-Ok.ensures.updates.0) c.args.value refl)

pub returns-clause-room : goal.returns-clause-room
returns-clause-room g c = rw (← c.self.view_is)
    (same_room g.met.K.Ord.total g.met.K.TableKey.exact (slots_of g.K.Ord.cmp c.self.inside.slots.entries) (slots_of g.K.Ord.cmp c.insert.new.self.entries) c.args.key (Some (Some c.args.value)) (sorted_up g.met.K.Ord.total g.met.K.TableKey.exact c.self.inside.slots.entries) (sorted_up g.met.K.Ord.total g.met.K.TableKey.exact c.insert.new.self.entries)
    (changed_up g.met.K.Ord.total g.K.PartialEq.eq g.met.K.Ord.matches_eq c.self.inside.slots.entries c.insert.new.self.entries c.args.key (Some (Some c.args.value)) c.in-Ok.ensures.updates.0) refl
    (subst (λ es. contains_key (rooms_of g.K.Ord.cmp es) c.args.key ≡ true) (sym c.self.view_is) c.requires))
