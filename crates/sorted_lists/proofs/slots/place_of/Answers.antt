use Rattle.std.proofs.Common.{rules, sym}
use Rattle.std.proofs.lemmas.List.Sorted.{answers_always}
use Rattle.sorted_lists.proofs.Search.{past, searched}
use Rattle.sorted_lists.proofs.slots.place_of.Goals as goal

pub returns-in-Less : goal.returns-in-Less
returns-in-Less g c = past g.met.K.Ord.total c.args.key c.args.slots.now.items c.in-Some.last.now c.len.result (search rules) c.requires (search rules) (sym (c.in-Less.ensures))

pub returns-in-Greater : goal.returns-in-Greater
returns-in-Greater g c =
    searched g.met.K.Ord.total g.met.K.TableKey.exact c.args.key c.args.slots.now.items c.requires c.binary_search_by_key.result (search rules)
    (c.binary_search_by_key.ensures.position (λ slot. slot.0) (answers_always _ _ _ (λ f a r g called. search rules)))
