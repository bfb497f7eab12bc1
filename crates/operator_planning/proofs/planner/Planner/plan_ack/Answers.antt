use Rattle.std.proofs.Common.{[], ◌∷◌, refl}
use Rattle.std.proofs.lemmas.Result.{IfOk-weaker}
use Rattle.node_steps.specs.Acts.{acknowledged}
use Rattle.operator_steps.specs.Steps.{Acknowledges, Comes}
use Rattle.ocpi_types.specs.declared.rows.Change.TheVariants.{Drop}
use Rattle.ocpi_types.specs.declared.rows.RowKey.TheVariants as keys
use Rattle.operator_planning.proofs.PacketLines.{acknowledged_comes, idle_comes}
use Rattle.operator_planning.proofs.PlannedActs.{IsNoCount, change_in_range, may_step, none_in_range, planned_change, planned_none}
use Rattle.operator_planning.proofs.planner.Planner.plan_ack.Goals as goal

pub returns-then-not-acknowledges-clause-step : goal.returns-then-not-acknowledges-clause-step
returns-then-not-acknowledges-clause-step c =
    let s = c.args.self.now.state in
    let line = idle_comes s c.args.packet.now c.args.request.now c.requires.request c.args.ack.now c.requires.ack (λ h. let never = c.if-not-acknowledges.ensures.1 h in cc) in
    planned_none (Comes s c.args.request.now.at c.args.packet.now) s _ c.counters_in_range.ensures line c.nothing.ensures

pub returns-then-not-acknowledges-clause-memory : goal.returns-then-not-acknowledges-clause-memory
returns-then-not-acknowledges-clause-memory c =
    let s = c.args.self.now.state in
    let line = idle_comes s c.args.packet.now c.args.request.now c.requires.request c.args.ack.now c.requires.ack (λ h. let never = c.if-not-acknowledges.ensures.1 h in cc) in
    may_step (Comes s c.args.request.now.at c.args.packet.now) s [] line (none_in_range s c.counters_in_range.ensures)

pub returns-clause-step : goal.returns-clause-step
returns-clause-step c =
    let s = c.args.self.now.state in
    let done : Acknowledges s c.args.packet.now c.args.ack.now = c.if-not-acknowledges.ensures.0 refl in
    let line = acknowledged_comes s c.args.packet.now c.args.request.now c.requires.request c.args.ack.now c.requires.ack done in
    let none : IsNoCount (Drop (keys.Push c.args.request.now.number)) = λ k n e. cc in
    IfOk-weaker c.one.result _ _ (λ x is. planned_change (Comes s c.args.request.now.at c.args.packet.now) s _ (Drop (keys.Push c.args.request.now.number))
    c.counters_in_range.ensures none line is) c.one.ensures

pub returns-clause-memory : goal.returns-clause-memory
returns-clause-memory c =
    let s = c.args.self.now.state in
    let done : Acknowledges s c.args.packet.now c.args.ack.now = c.if-not-acknowledges.ensures.0 refl in
    let line = acknowledged_comes s c.args.packet.now c.args.request.now c.requires.request c.args.ack.now c.requires.ack done in
    let none : IsNoCount (Drop (keys.Push c.args.request.now.number)) = λ k n e. cc in
    may_step (Comes s c.args.request.now.at c.args.packet.now) s (acknowledged c.args.request.now.number ∷ []) line
    (change_in_range s (Drop (keys.Push c.args.request.now.number)) c.counters_in_range.ensures none)
