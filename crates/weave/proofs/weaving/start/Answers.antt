use Rattle.std.proofs.Common.{[], length, sym, subst, subst₂}
use Rattle.weave.specs.Reached.{Reached}
use Rattle.weave.proofs.Reaching.{start_reached}
use Rattle.weave.proofs.Waiting.{waits_first}
use Rattle.weave.proofs.weaving.start.Goals as goal

pub returns : goal.returns
returns c =
    let places = c.in_ok-places.ensures in
    let newest = c.in_ok-newest.ensures in
    let zeros = places.items_if_clones_equal (λ y h. h) in
    record {
      reached = subst (λ l. Reached c.args._given.now c.args.histories.now c.in_ok-places.places.items c.in_ok-newest.newest.items l) (sym c.new.ensures.items)
          (subst₂ (λ a b. Reached c.args._given.now c.args.histories.now a b []) (sym zeros) (sym newest) (start_reached c.args._given.now c.args.histories.now));
      waits = waits_first c.args.needs.now (length c.args.histories.now) c.in_ok-places.places.items c.in_ok-waits.waits.items zeros c.in_ok-waits.ensures;
    }
