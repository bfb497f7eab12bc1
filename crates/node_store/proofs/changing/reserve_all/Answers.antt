use Rattle.std.proofs.Common.{All, take, ◌∙◌, subst, take_all, arith}
use Rattle.std.proofs.lemmas.List.Elements.{All-more, All-weaker}
use Rattle.node_store.specs.Placing.{HasRoom}
use Rattle.node_store.proofs.changing.reserve_all.Goals as goal

pub loop-next-preserved : goal.loop-next-preserved
loop-next-preserved c =
    let at = c.loop-next in
    let i = at.next-index in
    let placed = c.args.placed.now in
    let kept_rooms = All-weaker (HasRoom at.stored) (HasRoom c.reserve_one.new.stored) c.reserve_one.ensures.stay (take i placed) at.invariant.1 in
    let one = c.next-item.result in (
      c.reserve_one.ensures.same ∙ at.invariant.0,
      All-more (HasRoom c.reserve_one.new.stored) placed i one c.loop-next-test.true kept_rooms (subst (HasRoom c.reserve_one.new.stored) c.next-item.is c.in_ok-reserve_one.ensures.ready),
    )

pub returns-clause-ready : goal.returns-clause-ready
returns-clause-ready c =
    let at = c.loop-next in
    let past = c.loop-next-test.false in
    subst (All (HasRoom at.stored)) (take_all at.next-index c.args.placed.now (omega (arith, past))) at.invariant.1
