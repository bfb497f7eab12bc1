use Rattle.std.proofs.Common.{◌≡◌, true, false, sym, ◌∙◌}
use Rattle.node_steps.proofs.Spelling.{spelled_here, spelled_later}
use Rattle.node_steps.proofs.peers.spelling.Goals as goal

pub returns-then-is_same : goal.returns-then-is_same
returns-then-is_same c =
    let at = c.loop-peer in
    spelled_here c.args.peers.now c.args.party at.peer-index c.peer-item.result c.loop-peer-test.true c.peer-item.is at.invariant (c.is_same.ensures.0 c.if-is_same.true)

pub loop-peer-preserved : goal.loop-peer-preserved
loop-peer-preserved c =
    let at = c.loop-peer in
    spelled_later c.args.peers.now c.args.party at.peer-index c.peer-item.result c.loop-peer-test.true c.peer-item.is at.invariant
    (λ same. let bad : true ≡ false = sym (c.is_same.ensures.1 same) ∙ c.if-is_same.false in cc)
