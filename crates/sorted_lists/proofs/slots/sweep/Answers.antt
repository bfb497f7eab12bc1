use Rattle.std.proofs.Common.{◌∙◌, ap, rules}
use Rattle.std.proofs.lemmas.List.Elements.{filter_from_retain}
use Rattle.sorted_lists.specs.Slots.{seen, stands}
use Rattle.sorted_lists.proofs.Parts.{sorted_swept, swept}
use Rattle.sorted_lists.proofs.slots.sweep.Goals as goal

pub returns-clause-ordered : goal.returns-clause-ordered
returns-clause-ordered g c = rw (filter_from_retain _ (λ e. stands e.1) (λ f x b h called. search rules) _ _ _ c.retain.ensures.filtered) (sorted_swept g.K.Ord.cmp c.args.slots.now.items c.requires)

pub returns-clause-seen : goal.returns-clause-seen
returns-clause-seen g c = ap seen (filter_from_retain _ (λ e. stands e.1) (λ f x b h called. search rules) _ _ _ c.retain.ensures.filtered) ∙ swept c.args.slots.now.items
