use Rattle.std.proofs.Common.{◌<◌, length, subst, arith}
use Rattle.weave.proofs.Needing.{sent_there}
use Rattle.weave.proofs.Places.{got_by}
use Rattle.weave.proofs.needs.sending_entry.Goals as goal

pub returns-then-left-count : goal.returns-then-left-count
returns-then-left-count c =
    let at = got_by c.args.entries.now c.loop-place.place c.index-entries-place.result (omega arith) c.index-entries-place.is in
    let less : c.loop-place.left < length c.index-entries-place.result.packets = subst (λ l. c.loop-place.left < length l) c.as_slice-count.ensures c.if-left-count.true in
    let (q, has, there) = sent_there c.args.entries.now c.loop-place.place c.loop-place.left c.args.position c.index-entries-place.result at c.loop-place.invariant less in
    (c.index-entries-place.result, q, at, has, there)
