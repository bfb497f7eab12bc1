use Rattle.std.proofs.Common.{refl, arith}
use Rattle.std.proofs.lemmas.Result.{IfOk-weaker, MatchResult-weaker}
use Rattle.histories.proofs.Lists.{stands}
use Rattle.weave.specs.Needs.{OfNothing, OfPacket}
use Rattle.weave.proofs.needs.need_of.Goals as goal

pub returns-in-Some-clause-need : goal.returns-in-Some-clause-need
returns-in-Some-clause-need c = IfOk-weaker c.need_of_packet.result _ _ (λ n by. OfPacket c.in-Some.packet.now c.in-Some.ensures.found by) c.need_of_packet.ensures.need

pub returns-in-Some-clause-gap : goal.returns-in-Some-clause-gap
returns-in-Some-clause-gap c = MatchResult-weaker c.need_of_packet.result c.need_of_packet.ensures.gap (λ n h. h) (λ g blames. (c.in-Some.packet.now, c.in-Some.ensures.found, blames))

pub returns-in-None-clause-need : goal.returns-in-None-clause-need
returns-in-None-clause-need c = let (h, here) = stands c.args.histories.now c.args.number (omega arith) in OfNothing c.in-None.ensures.none h here refl
