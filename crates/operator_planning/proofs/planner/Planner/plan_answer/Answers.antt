use Rattle.std.proofs.Common.{◌≡◌, List, [], ◌∷◌, sym, subst}
use Rattle.authorization_book.specs.declared.waiting.Waiting.{Waiting}
use Rattle.authorization_book.specs.declared.waiting.Waiting.TheVariants.{Ends}
use Rattle.node_steps.specs.Drafts.{step_of}
use Rattle.node_steps.specs.declared.fault.NodeFault.TheVariants.{Memory}
use Rattle.operator_steps.specs.Asking.{IsAwaited}
use Rattle.operator_steps.specs.Faults.{IsDue}
use Rattle.operator_steps.specs.Moves.{PlannedBy}
use Rattle.operator_steps.specs.Steps.{Comes}
use Rattle.operator_planning.proofs.PacketLines.{answer_fault, answer_may, answer_planned, unasked_comes}
use Rattle.operator_planning.proofs.Parts.{err_one}
use Rattle.operator_planning.proofs.PlannedActs.{planned_none}
use Rattle.operator_planning.proofs.planner.Planner.plan_answer.Goals as goal

-- nothing is awaited of it
pub returns-in_default-clause-step : goal.returns-in_default-clause-step
returns-in_default-clause-step c =
    let s = c.args.self.now.state in
    let r = c.args.request.now in
    let q = c.args.packet.now in
    subst (PlannedBy (Comes s r.at q) s) (sym c.quiet.ensures)
    (planned_none (Comes s r.at q) s _ c.counters_in_range.ensures (unasked_comes s q r c.requires.request c.args.answer.now c.requires.answer c.in_default.ensures.none) c.nothing.ensures)

-- what is awaited is of a provider of the site
pub plan_by_answer-requires : goal.plan_by_answer-requires
plan_by_answer-requires c =
    let stands : IsAwaited c.args.self.now.state c.args.packet.now c.in-Some.awaited.now = c.in-Some.ensures.some in
    (c.consistency.ensures.awaited c.args.packet.now.request c.in-Some.awaited.now stands.stands).provider

pub returns-in_err-plan-clause-fault : goal.returns-in_err-plan-clause-fault
returns-in_err-plan-clause-fault c =
    let s = c.args.self.now.state in
    let r = c.args.request.now in
    let q = c.args.packet.now in
    err_one (IsDue s r.at q) c.from_residual.result _ c.from_residual.ensures.1
    (answer_fault s q r c.requires.request c.args.answer.now c.requires.answer c.in-Some.awaited.now c.in-Some.ensures.some _ c.in_err-plan.ensures.err)

pub returns-in_err-waits-clause-fault : goal.returns-in_err-waits-clause-fault
returns-in_err-waits-clause-fault c =
    let s = c.args.self.now.state in
    let r = c.args.request.now in
    let q = c.args.packet.now in
    err_one (IsDue s r.at q) c.from_residual-in_err-waits.result Memory c.from_residual-in_err-waits.ensures.1
    (answer_may s q r c.requires.request c.args.answer.now c.requires.answer c.in-Some.awaited.now c.in-Some.ensures.some (step_of c.in_ok-plan.plan) c.in_ok-plan.ensures.ok)

-- the waiting ends, and what was planned is done
pub returns-clause-step : goal.returns-clause-step
returns-clause-step c =
    let s = c.args.self.now.state in
    let r = c.args.request.now in
    let q = c.args.packet.now in
    let one : c.in_ok-waits.waits.items ≡ Ends r.number ∷ [] = c.in_ok-waits.ensures.items in
    subst (λ (l : List Waiting). PlannedBy (Comes s r.at q) s (record { step = step_of c.in_ok-plan.plan; waits = l })) (sym one)
    (answer_planned s q r c.requires.request c.args.answer.now c.requires.answer c.in-Some.awaited.now c.in-Some.ensures.some (step_of c.in_ok-plan.plan) c.in_ok-plan.ensures.ok)
