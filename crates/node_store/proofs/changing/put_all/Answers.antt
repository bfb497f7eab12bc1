use Rattle.std.proofs.Common.{◌≡◌, ◌∷◌, All, IsTrue, length, slice_index_or, sym, ap, subst, ◌∙◌, arith}
use Rattle.std.specs.FinMap.{contains_key}
use Rattle.std.specs.Vec.Iter.{into_iter_items}
use Rattle.std.proofs.lemmas.List.Elements.{All-tail}
use Rattle.node_store.specs.Contents.{Content}
use Rattle.node_store.specs.Placing.{HasRoom, kept, placed_all}
use Rattle.node_store.proofs.changing.put_all.Goals as goal

pub loop-next-preserved : goal.loop-next-preserved
loop-next-preserved c =
    let at = c.loop-next in
    let one = c.in-Some.next in
    let rest = into_iter_items c.next.new.self in
    let steps : into_iter_items at.next-iterator ≡ one ∷ rest = c.in-Some.ensures.steps.0 in
    let ready = All-tail (HasRoom at.stored) one rest (subst (All (HasRoom at.stored)) steps at.invariant.ready) in
    record {
      rest = ap (λ (s : Content). placed_all s rest) c.put_one.ensures.shown ∙ sym (ap (placed_all (kept at.stored)) steps) ∙ at.invariant.rest;
      ready = λ k d low some. subst (λ r. IsTrue (contains_key r (slice_index_or rest k d).place)) (sym c.put_one.ensures.room) (ready k d low some);
      long =
          let was = at.invariant.long in
          let gone = c.in-Some.ensures.steps.1 in
          let short = ap length steps in
          omega arith;
    }
