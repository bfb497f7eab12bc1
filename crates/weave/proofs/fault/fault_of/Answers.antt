use Rattle.std.proofs.Common.{[], subst}
use Rattle.weave.specs.TurnFaults.{ExplainsTurns}
use Rattle.weave.proofs.Telling.{all_of, block_of, told_otherwise, told_unsent}
use Rattle.weave.proofs.fault.fault_of.Goals as goal

pub returns-in-Some : goal.returns-in-Some
returns-in-Some c =
    let (q, came, none) = subst (ExplainsTurns [] c.args.histories.now) c.in-NeverSent.is c.requires.told in
    told_unsent c.args.histories.now c.requires.numbered c.in-NeverSent.came q came c.in-Some.packet.now c.never_sent.result c.in-Some.ensures.found none c.never_sent.ensures

pub returns-in-Some-packet_of : goal.returns-in-Some-packet_of
returns-in-Some-packet_of c =
    let (q, came, differs) = subst (ExplainsTurns [] c.args.histories.now) c.in-Differs.is c.requires.told in
    told_otherwise c.args.histories.now c.requires.numbered c.in-Differs.came q came c.in-Differs.field-1 c.in-Some-packet_of.packet.now c.differs.result c.in-Some-packet_of.ensures.found differs c.differs.ensures

pub returns-in-NoOrder : goal.returns-in-NoOrder
returns-in-NoOrder c =
    let (end, all) = subst (ExplainsTurns [] c.args.histories.now) c.in-NoOrder.is c.requires.told in
    (block_of c.args.histories.now c.requires.numbered c.in-NoOrder.places.items end.block, all_of c.args.histories.now c.requires.numbered all)
