use Rattle.std.proofs.Common.{◌∙◌, ap, sym}
use Rattle.std.specs.Option.{option_flatten}
use Rattle.tables.specs.Lookups.{slots_of}
use Rattle.tables.proofs.Looked.{looked_up, sorted_up}
use Rattle.tables.proofs.Slots.{got}
use Rattle.tables.proofs.lookup.Lookup.get.Goals as goal

pub returns-in-Some : goal.returns-in-Some
returns-in-Some g c = rw (← c.self.view_is) (c.as_ref.ensures.value ∙ ap option_flatten (c.in-Some.ensures.value ∙ sym (looked_up g.met.K.Ord.total g.K.PartialEq.eq g.met.K.Ord.matches_eq c.args.key c.self.inside.slots.entries))
    ∙ sym (got g.met.K.TableKey.exact (slots_of g.K.Ord.cmp c.self.inside.slots.entries) c.args.key (sorted_up g.met.K.Ord.total g.met.K.TableKey.exact c.self.inside.slots.entries)))

pub returns-in-None : goal.returns-in-None
returns-in-None g c = rw (← c.self.view_is) (ap option_flatten (c.in-None.ensures.value ∙ sym (looked_up g.met.K.Ord.total g.K.PartialEq.eq g.met.K.Ord.matches_eq c.args.key c.self.inside.slots.entries))
    ∙ sym (got g.met.K.TableKey.exact (slots_of g.K.Ord.cmp c.self.inside.slots.entries) c.args.key (sorted_up g.met.K.Ord.total g.met.K.TableKey.exact c.self.inside.slots.entries)))
