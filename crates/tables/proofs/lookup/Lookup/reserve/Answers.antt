use Rattle.std.proofs.Common.{◌≡◌, ◌∙◌, ap, subst, sym, true}
use Rattle.std.specs.Prelude.{None, Some}
use Rattle.std.specs.FinMap.{contains_key}
use Rattle.tables.specs.Lookups.{slots_of}
use Rattle.tables.specs.Tables.{rooms_of, shown_of}
use Rattle.tables.proofs.Looked.{found_up, looked_up, made_up, sorted_up}
use Rattle.tables.proofs.Options.{on_err}
use Rattle.tables.proofs.Slots.{made_shown, made_room, taken, kept, room_missing}
use Rattle.tables.proofs.lookup.Lookup.reserve.Goals as goal

pub returns-in_err-make_slot-clause-again : goal.returns-in_err-make_slot-clause-again
returns-in_err-make_slot-clause-again g c = rw (← c.self.view_is) (λ had.
    absurd (room_missing g.met.K.Ord.total g.met.K.TableKey.exact (slots_of g.K.Ord.cmp c.self.inside.slots.entries) c.args.key (sorted_up g.met.K.Ord.total g.met.K.TableKey.exact c.self.inside.slots.entries) (looked_up g.met.K.Ord.total g.K.PartialEq.eq g.met.K.Ord.matches_eq c.args.key c.self.inside.slots.entries ∙ c.in_err-make_slot.ensures.absent) had))

pub returns-in_err-make_slot-clause-shown : goal.returns-in_err-make_slot-clause-shown
returns-in_err-make_slot-clause-shown g c = ap (shown_of g.K.Ord.cmp) (ap (slots_of g.K.Ord.cmp) c.in_err-make_slot.ensures.err ∙ c.self.view_is)

pub returns-in_err-make_slot-clause-err : goal.returns-in_err-make_slot-clause-err
returns-in_err-make_slot-clause-err g c = on_err c.from_residual.result (ap (slots_of g.K.Ord.cmp) c.in_err-make_slot.ensures.err ∙ c.self.view_is)

pub returns-clause-shown : goal.returns-clause-shown
returns-clause-shown g c = rw (← c.self.view_is) (made_shown g.met.K.Ord.total g.met.K.TableKey.exact (slots_of g.K.Ord.cmp c.self.inside.slots.entries) (slots_of g.K.Ord.cmp c.make_slot.new.slots.entries) c.args.key (sorted_up g.met.K.Ord.total g.met.K.TableKey.exact c.self.inside.slots.entries)
    (found_up g.met.K.Ord.total g.K.PartialEq.eq g.met.K.Ord.matches_eq c.self.inside.slots.entries c.make_slot.new.slots.entries c.args.key c.in_ok-make_slot.ensures.found)
    (made_up g.met.K.Ord.total g.met.K.TableKey.exact g.K.PartialEq.eq g.met.K.Eq.laws g.met.K.Ord.matches_eq c.self.inside.slots.entries c.make_slot.new.slots.entries c.args.key (Some None) (λ none. (c.in_ok-make_slot.ensures.made none).0)))

pub returns-clause-room : goal.returns-clause-room
returns-clause-room g c = rw (← c.self.view_is) (made_room g.met.K.Ord.total g.met.K.TableKey.exact (slots_of g.K.Ord.cmp c.self.inside.slots.entries) (slots_of g.K.Ord.cmp c.make_slot.new.slots.entries) c.args.key (sorted_up g.met.K.Ord.total g.met.K.TableKey.exact c.self.inside.slots.entries)
    (found_up g.met.K.Ord.total g.K.PartialEq.eq g.met.K.Ord.matches_eq c.self.inside.slots.entries c.make_slot.new.slots.entries c.args.key c.in_ok-make_slot.ensures.found)
    (made_up g.met.K.Ord.total g.met.K.TableKey.exact g.K.PartialEq.eq g.met.K.Eq.laws g.met.K.Ord.matches_eq c.self.inside.slots.entries c.make_slot.new.slots.entries c.args.key (Some None) (λ none. (c.in_ok-make_slot.ensures.made none).0)))

pub returns-clause-ready : goal.returns-clause-ready
returns-clause-ready g c = subst (λ m. contains_key m c.args.key ≡ true) (sym (returns-clause-room g c)) (taken g.met.K.Ord.total (rooms_of g.K.Ord.cmp c.args.self.now) c.args.key)

pub returns-clause-keeps : goal.returns-clause-keeps
returns-clause-keeps g c = λ q had. subst (λ m. contains_key m q ≡ true) (sym (returns-clause-room g c)) (kept g.met.K.Ord.total (rooms_of g.K.Ord.cmp c.args.self.now) c.args.key q had)
