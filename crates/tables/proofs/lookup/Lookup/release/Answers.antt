use Rattle.std.proofs.Common.{◌≡◌, ◌∙◌, refl, subst, sym, false}
use Rattle.std.specs.Prelude.{None}
use Rattle.std.specs.FinMap.{contains_key}
use Rattle.tables.specs.Lookups.{slots_of}
use Rattle.tables.specs.Tables.{shown_of}
use Rattle.tables.proofs.Looked.{changed_up, sorted_up}
use Rattle.tables.proofs.Slots.{still_hidden, unroomed}
use Rattle.tables.proofs.lookup.Lookup.release.Goals as goal

pub returns-then-not-contains-clause-shown : goal.returns-then-not-contains-clause-shown
returns-then-not-contains-clause-shown g c = rw (← c.self.view_is)
    (still_hidden g.met.K.Ord.total g.met.K.TableKey.exact (slots_of g.K.Ord.cmp c.self.inside.slots.entries) (slots_of g.K.Ord.cmp c.remove.new.self.entries) c.args.key None (sorted_up g.met.K.Ord.total g.met.K.TableKey.exact c.self.inside.slots.entries) (sorted_up g.met.K.Ord.total g.met.K.TableKey.exact c.remove.new.self.entries)
    (changed_up g.met.K.Ord.total g.K.PartialEq.eq g.met.K.Ord.matches_eq c.self.inside.slots.entries c.remove.new.self.entries c.args.key None c.remove.ensures.updates.0) refl
    (subst (λ es. contains_key (shown_of g.K.Ord.cmp es) c.args.key ≡ false) (sym c.self.view_is) (sym c.contains.ensures ∙ c.if-not-contains.true)))

pub returns-then-not-contains-clause-unused : goal.returns-then-not-contains-clause-unused
returns-then-not-contains-clause-unused g c = rw (← c.self.view_is) (λ none.
    unroomed g.met.K.Ord.total g.met.K.TableKey.exact (slots_of g.K.Ord.cmp c.self.inside.slots.entries) (slots_of g.K.Ord.cmp c.remove.new.self.entries) c.args.key None (sorted_up g.met.K.Ord.total g.met.K.TableKey.exact c.self.inside.slots.entries) (sorted_up g.met.K.Ord.total g.met.K.TableKey.exact c.remove.new.self.entries)
    (changed_up g.met.K.Ord.total g.K.PartialEq.eq g.met.K.Ord.matches_eq c.self.inside.slots.entries c.remove.new.self.entries c.args.key None c.remove.ensures.updates.0) refl)
