use Rattle.std.proofs.Common.{◌≡◌, map, ap, ◌∙◌}
use Rattle.tables.proofs.Elements.{none_left}
use Rattle.node_store.specs.Placing.{kept}
use Rattle.node_store.proofs.Listed.{sorted_places}
use Rattle.node_store.proofs.list_keep.places_of.Goals as goal

pub returns : goal.returns
returns c =
    let at = c.loop-place in
    let list = c.iter-place-items.result in
    let given : c.into_iter-place-iterator.result ≡ list = cc in
    let are : at.places.items ≡ map (λ e. e.0) list = none_left at.places.items _ _ (ap (map (λ e. e.0)) c.in-None.ensures.steps.0) at.invariant ∙ ap (map (λ e. e.0)) given in
    sorted_places (kept c.args.stored.now) list c.iter-place-items.ensures at.places.items c.sort_unstable.new.self.items are c.sort_unstable.ensures.permutation c.sort_unstable.ensures.sorted
