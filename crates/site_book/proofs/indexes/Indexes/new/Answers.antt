use Rattle.std.proofs.Common.{◌≡◌, ℕ, length, ap, subst, ◌∙◌, arith}
use Rattle.site_book.specs.Indexes.{HaveEvses}
use Rattle.site_book.specs.Positions.{IsBefore}
use Rattle.site_book.proofs.Indexing.{no_evse, all_evses}
use Rattle.site_book.proofs.Marking.{marks_all, none_claimed, all_work, all_free}
use Rattle.site_book.proofs.indexes.Indexes.new.Goals as goal

pub loop-i-init : goal.loop-i-init
loop-i-init c = record {
  ids = c.in_ok-ids_of.ensures;
  found = rw c.new.ensures.shown (no_evse c.args.locations.now _ _);
  unclaimed = c.new-2.ensures.shown;
  in_service = c.new-3.ensures.shown;
  working = c.in_ok-all_set.ensures;
  free = c.in_ok-all_set-2.ensures;
}

pub loop-i-preserved : goal.loop-i-preserved
loop-i-preserved c = record {
  ids = ap (λ s. s.keys) c.in_ok-add_evses.ensures.ids_stay ∙ c.loop-i.invariant.ids;
  found = c.in_ok-add_evses.ensures.found;
  unclaimed = c.in_ok-add_evses.ensures.unclaimed ∙ c.loop-i.invariant.unclaimed;
  in_service = c.in_ok-add_evses.ensures.in_service ∙ c.loop-i.invariant.in_service;
  working = rw c.in_ok-add_evses.ensures.working_stay c.loop-i.invariant.working;
  free = rw c.in_ok-add_evses.ensures.free_stay c.loop-i.invariant.free;
}

pub returns-clause-found : goal.returns-clause-found
returns-clause-found c =
    let end : c.loop-i.i ≡ length c.args.locations.now = omega arith in
    record {
      ids = c.loop-i.invariant.ids;
      evses_found = all_evses c.args.locations.now _ _ _ (subst (λ (n : ℕ). HaveEvses c.args.locations.now (IsBefore n 0) c.loop-i.indexes) end c.loop-i.invariant.found);
      claims_there = λ uid has. absurd (none_claimed _ uid c.loop-i.invariant.unclaimed has);
      working = marks_all c.args.locations.now _ _ c.loop-i.invariant.working (all_work _ c.loop-i.invariant.in_service);
      free = marks_all c.args.locations.now _ _ c.loop-i.invariant.free (all_free _ _ c.loop-i.invariant.unclaimed c.loop-i.invariant.in_service);
    }
