use Rattle.node_steps.specs.Drafts.{step_of}
use Rattle.operator_steps.specs.Acts.{decided_acts}
use Rattle.operator_steps.specs.Moves.{quiet}
use Rattle.operator_steps.specs.Steps.{Comes}
use Rattle.operator_planning.proofs.PacketLines.{decided_comes, due_faults}
use Rattle.operator_planning.proofs.PlannedActs.{all_planned}
use Rattle.operator_planning.proofs.planner.Planner.plan_command.Goals as goal

pub returns-clause-step : goal.returns-clause-step
returns-clause-step c =
    let s = c.args.self.now.state in
    let r = c.args.request.now in
    let command = c.args.command.now in
    let d = c.decide-decision.result in
    let line = decided_comes s c.args.packet.now r c.requires.request command c.requires.command c.requires.new d (rw (← c.self.view_is) c.decide-decision.ensures) in
    all_planned (Comes s r.at c.args.packet.now) s c.plan_decided.result step_of (decided_acts r.at s.rows.request r.from r.provider r.number command d) line c.plan_decided.ensures.in_range c.plan_decided.ensures.ok

pub returns-clause-fault : goal.returns-clause-fault
returns-clause-fault c =
    let s = c.args.self.now.state in
    let r = c.args.request.now in
    let command = c.args.command.now in
    let d = c.decide-decision.result in
    let line = decided_comes s c.args.packet.now r c.requires.request command c.requires.command c.requires.new d (rw (← c.self.view_is) c.decide-decision.ensures) in
    due_faults s c.args.packet.now r c.requires.request c.plan_decided.result (quiet (decided_acts r.at s.rows.request r.from r.provider r.number command d)) line c.plan_decided.ensures.err
