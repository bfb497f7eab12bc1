use Rattle.std.proofs.Common.{subst}
use Rattle.stored_nodes.proofs.Carrying.{applied, failed}
use Rattle.stored_nodes.proofs.stored_node.StoredNode.apply.Goals as goal
use Rattle.stored_nodes.specs.Keepers.{keeper_of}
use Rattle.node_core.specs.Works.{IsPlanned}
use Rattle.node_core.specs.declared.work.NodePlan.{NodePlan}

pub returns-in-Ok-Acts-clause-ok : goal.returns-in-Ok-Acts-clause-ok
returns-in-Ok-Acts-clause-ok g c =
    let is_work = subst (λ (p : NodePlan). IsPlanned c.args.self.now.state c.in-Some.input p) c.in-Ok-Acts.field-0-is c.in-Ok-Acts.ensures in
    applied (keeper_of g.K.Keep.content g.K.Keep.is_honest g.K.Keep.refusals g.K.Keep.may_leave) c.args.line c.args.self.now c.carry_out.new.self c.args.kind.now c.in-Some.input c.in-Ok-Acts.work c.carry_out.result
    c.in-Some.ensures.some is_work c.carry_out.ensures.state c.carry_out.ensures.ok

pub returns-in-Ok-Acts-clause-err : goal.returns-in-Ok-Acts-clause-err
returns-in-Ok-Acts-clause-err g c =
    let is_work = subst (λ (p : NodePlan). IsPlanned c.args.self.now.state c.in-Some.input p) c.in-Ok-Acts.field-0-is c.in-Ok-Acts.ensures in
    failed (keeper_of g.K.Keep.content g.K.Keep.is_honest g.K.Keep.refusals g.K.Keep.may_leave) c.args.line c.args.self.now c.carry_out.new.self c.args.kind.now c.in-Some.input c.in-Ok-Acts.work c.carry_out.result
    c.in-Some.ensures.some is_work c.carry_out.ensures.same c.carry_out.ensures.err
