use Rattle.std.proofs.Common.{refl}
use Rattle.node_lines.proofs.ListLemmas.{one_more}
use Rattle.node_lines.proofs.list_lines.begins_list.Goals as goal

pub loop-byte-preserved : goal.loop-byte-preserved
loop-byte-preserved c = one_more c.args.text.now c.loop-byte.byte-index c.loop-byte-test.true (c.if-not-is_space.ensures.space.0 refl) c.loop-byte.invariant
