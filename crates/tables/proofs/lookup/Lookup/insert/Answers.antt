use Rattle.std.proofs.Common.{◌∙◌, ap, refl}
use Rattle.std.specs.Prelude.{Some}
use Rattle.tables.specs.Lookups.{slots_of}
use Rattle.tables.proofs.Looked.{changed_up, looked_up, sorted_up}
use Rattle.tables.proofs.Options.{on_err}
use Rattle.tables.proofs.Slots.{put_shown, roomed, room_missing}
use Rattle.tables.proofs.lookup.Lookup.insert.Goals as goal

pub returns-in_err-insert-clause-again : goal.returns-in_err-insert-clause-again
returns-in_err-insert-clause-again g c = rw (← c.self.view_is) (λ had.
    absurd (room_missing g.met.K.Ord.total g.met.K.TableKey.exact (slots_of g.K.Ord.cmp c.self.inside.slots.entries) c.args.key (sorted_up g.met.K.Ord.total g.met.K.TableKey.exact c.self.inside.slots.entries) (looked_up g.met.K.Ord.total g.K.PartialEq.eq g.met.K.Ord.matches_eq c.args.key c.self.inside.slots.entries ∙ c.in_err-insert.ensures.absent) had))

pub returns-in_err-insert-clause-err : goal.returns-in_err-insert-clause-err
returns-in_err-insert-clause-err g c = on_err c.from_residual.result (ap (slots_of g.K.Ord.cmp) c.in_err-insert.ensures.err ∙ c.self.view_is)

pub returns-clause-shown : goal.returns-clause-shown
returns-clause-shown g c = rw (← c.self.view_is)
    (put_shown g.met.K.Ord.total g.met.K.TableKey.exact (slots_of g.K.Ord.cmp c.self.inside.slots.entries) (slots_of g.K.Ord.cmp c.insert.new.self.entries) c.args.key (Some (Some c.args.value)) (sorted_up g.met.K.Ord.total g.met.K.TableKey.exact c.self.inside.slots.entries) (sorted_up g.met.K.Ord.total g.met.K.TableKey.exact c.insert.new.self.entries)
    (changed_up g.met.K.Ord.total g.K.PartialEq.eq g.met.K.Ord.matches_eq c.self.inside.slots.entries c.insert.new.self.entries c.args.key (Some (Some c.args.value)) c.in_ok-insert.ensures.updates.0) c.args.value refl)

pub returns-clause-room : goal.returns-clause-room
returns-clause-room g c = rw (← c.self.view_is)
    (roomed g.met.K.Ord.total g.met.K.TableKey.exact (slots_of g.K.Ord.cmp c.self.inside.slots.entries) (slots_of g.K.Ord.cmp c.insert.new.self.entries) c.args.key (Some (Some c.args.value)) (sorted_up g.met.K.Ord.total g.met.K.TableKey.exact c.self.inside.slots.entries) (sorted_up g.met.K.Ord.total g.met.K.TableKey.exact c.insert.new.self.entries)
    (changed_up g.met.K.Ord.total g.K.PartialEq.eq g.met.K.Ord.matches_eq c.self.inside.slots.entries c.insert.new.self.entries c.args.key (Some (Some c.args.value)) c.in_ok-insert.ensures.updates.0) refl)
