use Rattle.std.proofs.Common.{subst}
use Rattle.stored_nodes.proofs.InMemory.{applied, failed}
use Rattle.stored_nodes.proofs.transaction.Transaction.apply.Goals as goal
use Rattle.node_core.specs.Works.{IsPlanned}
use Rattle.node_core.specs.declared.work.NodePlan.{NodePlan}

pub returns-in-Ok-Acts-clause-ok : goal.returns-in-Ok-Acts-clause-ok
returns-in-Ok-Acts-clause-ok g c =
    let is_work = subst (λ (p : NodePlan). IsPlanned c.args.self.now.state c.in-Some.input p) c.in-Ok-Acts.field-0-is c.in-Ok-Acts.ensures in
    applied c.args.self.now c.step.new.self c.args.kind.now c.in-Some.input c.in-Ok-Acts.work c.step.result c.in-Some.ensures.some is_work c.step.ensures.state c.step.ensures.ok c.step.ensures.keep

pub returns-in-Ok-Acts-clause-err : goal.returns-in-Ok-Acts-clause-err
returns-in-Ok-Acts-clause-err g c = failed c.args.self.now c.step.new.self c.args.kind.now c.step.result c.step.ensures.err
