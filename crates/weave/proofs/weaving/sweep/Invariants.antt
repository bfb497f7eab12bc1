use Rattle.std.proofs.Common.{◌<◌, ◌≤◌, ◌-◌, ℕ, length}
use Rattle.std.specs.Bool.{OnFalse, OnTrue}
use Rattle.weave.specs.Progress.{IsStuckAt, IsUnderWay}
use Rattle.weave.specs.Reached.{total}
use Rattle.weave.proofs.weaving.sweep.Given as goal

abbrev pub invariant-loop-moved : goal.invariant-loop-moved
invariant-loop-moved l = record {
  under_way : IsUnderWay l.given l.histories l.needs l.weaving;
  grown : length l.fn.weaving.turns.items ≤ length l.weaving.turns.items;
  moved : OnTrue l.moved (length l.fn.weaving.turns.items < length l.weaving.turns.items);
  stuck : OnFalse l.moved ((k : ℕ) → k < l.i → IsStuckAt l.given l.histories l.weaving k);
}

abbrev pub decreases-loop-moved : goal.decreases-loop-moved
decreases-loop-moved l = total l.histories - length l.weaving.turns.items

abbrev pub invariant-loop-i : goal.invariant-loop-i
invariant-loop-i l = record {
  under_way : IsUnderWay l.given l.histories l.needs l.weaving;
  grown : length l.fn.weaving.turns.items ≤ length l.weaving.turns.items;
  moved : OnTrue l.moved (length l.fn.weaving.turns.items < length l.weaving.turns.items);
  stuck : OnFalse l.moved ((k : ℕ) → k < l.i → IsStuckAt l.given l.histories l.weaving k);
}
