use Rattle.std.proofs.Common.{◌∙◌, ◌++◌, ◌∷◌, List, [], ℕ, ap, arith}
use Rattle.world.proofs.Names.{names_more}
use Rattle.world.proofs.opening.keys_of.Goals as goal

pub loop-place-preserved : goal.loop-place-preserved
loop-place-preserved c =
    let before = c.loop-place.names.items in
    c.in_ok-push.ensures.items
    ∙ (ap (λ (name : List ℕ). before ++ name ∷ []) c.key.ensures
    ∙ names_more c.args.places.now before c.loop-place.place-index c.place-item.result (omega arith) c.place-item.is c.loop-place.invariant)
