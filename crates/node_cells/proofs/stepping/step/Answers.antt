use Rattle.std.proofs.Common.{None, subst}
use Rattle.stored_nodes.proofs.Carrying.{failed}
use Rattle.stored_nodes.specs.Keepers.{keeper_of}
use Rattle.node_core.specs.Works.{IsPlanned}
use Rattle.node_core.specs.declared.work.NodePlan.{NodePlan}
use Rattle.node_cells.proofs.Doing.{done}
use Rattle.node_cells.proofs.stepping.step.Goals as goal

pub returns-in-Ok-Acts-clause-ok : goal.returns-in-Ok-Acts-clause-ok
returns-in-Ok-Acts-clause-ok g c =
    let is_work = subst (λ (p : NodePlan). IsPlanned c.args.stored.now.state c.in-Some.input p) c.in-Ok-Acts.field-0-is c.in-Ok-Acts.ensures in
    done (keeper_of g.K.Keep.content g.K.Keep.is_honest g.K.Keep.refusals g.K.Keep.may_leave) c.args.stored.now c.carry_out.new.stored c.args.event.now c.in-Some.input c.in-Ok-Acts.work c.carry_out.result
    c.in-Some.ensures.some is_work c.carry_out.ensures.state c.carry_out.ensures.entered c.carry_out.ensures.commits

pub returns-in-Ok-Acts-clause-err : goal.returns-in-Ok-Acts-clause-err
returns-in-Ok-Acts-clause-err g c =
    let is_work = subst (λ (p : NodePlan). IsPlanned c.args.stored.now.state c.in-Some.input p) c.in-Ok-Acts.field-0-is c.in-Ok-Acts.ensures in
    failed (keeper_of g.K.Keep.content g.K.Keep.is_honest g.K.Keep.refusals g.K.Keep.may_leave) None c.args.stored.now c.carry_out.new.stored c.args.event.now c.in-Some.input c.in-Ok-Acts.work c.carry_out.result
    c.in-Some.ensures.some is_work c.carry_out.ensures.same c.carry_out.ensures.err
