use Rattle.std.proofs.Common.{List, ◌++◌, ap, ◌∙◌}
use Rattle.node_store.specs.Contents.{Content}
use Rattle.node_store.specs.Numbers.{line_placed}
use Rattle.node_store.specs.Placing.{kept, placed_all}
use Rattle.node_store.specs.declared.stored.Placed.{Placed}
use Rattle.node_store.proofs.Placed.{all_placed}
use Rattle.node_store.proofs.list_keep.change_several.Goals as goal

pub returns-clause-all : goal.returns-clause-all
returns-clause-all c =
    let line = c.args.line in
    let placed = c.place_number.new.placed in
    let old = kept c.args.stored.now in
    c.release_all.ensures ∙ c.put_all.ensures ∙ ap (λ (s : Content). placed_all s placed.items) c.reserve_all.ensures.same
    ∙ ap (placed_all old) (c.in_ok-place_number.ensures.placed ∙ ap (λ (ps : List Placed). ps ++ line_placed line) c.in_ok-placed.ensures.placed) ∙ all_placed old c.args.changes.now line
