use Rattle.std.proofs.Common.{arith}
use Rattle.world.proofs.Lists.{is_among}
use Rattle.world.proofs.opening.open_all.Goals as goal

pub open-requires-clause-member : goal.open-requires-clause-member
open-requires-clause-member c = is_among c.args.nodes.now c.loop-member.member-index c.member-item.result (omega arith) c.member-item.is
