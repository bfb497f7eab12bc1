use Rattle.std.proofs.Common.{subst}
use Rattle.node_core.specs.States.{state_of}
use Rattle.node_core.specs.Works.{IsPlanned}
use Rattle.node_core.specs.declared.work.NodePlan.{NodePlan}
use Rattle.node_replay.proofs.Leading.{leads}
use Rattle.node_replay.proofs.stepping.step.Goals as goal

pub returns-in-Ok-clause-ok : goal.returns-in-Ok-clause-ok
returns-in-Ok-clause-ok c =
    let is_work = subst (λ (p : NodePlan). IsPlanned (state_of c.args.node.now) c.in-Some.input p) c.in-Ok-Acts.field-0-is c.in-Ok-Acts.ensures in
    leads (state_of c.args.node.now) (state_of c.carry_out.new.node) c.args.event.now c.in-Some.input c.in-Ok-Acts.work c.in-Ok.done.packets c.in-Ok.done.changed c.in-Some.ensures.some is_work
    c.in-Ok.ensures.packets c.in-Ok.ensures.changed c.in-Ok.ensures.state
