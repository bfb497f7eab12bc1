use Rattle.std.proofs.Common.{ℕ, inl, inr, sym, subst}
use Rattle.std.specs.Prelude.{IfOk, IfErr}
use Rattle.node_steps.specs.declared.fault.NodeFault.TheVariants.{Memory}
use Rattle.operator_rows.specs.FullSteps.{full_step_of}
use Rattle.operator_rows.specs.Steps.{MayFollowFull}
use Rattle.operator_steps.specs.Faults.{IsDue}
use Rattle.operator_steps.specs.Moves.{PlannedBy}
use Rattle.operator_steps.specs.Steps.{Comes}
use Rattle.operator_steps.proofs.PacketSteps.{packets}
use Rattle.operator_planning.proofs.PacketLines.{request_at}
use Rattle.operator_planning.proofs.Parts.{err_none, err_one}
use Rattle.operator_planning.proofs.PlannedActs.{all_follow, planned_may}
use Rattle.operator_planning.proofs.planner.Planner.plan_packet.Goals as goal

-- the request is of the moment at which the packet comes
pub plan_ack-requires-clause-request : goal.plan_ack-requires-clause-request
plan_ack-requires-clause-request c = request_at c.args.self.now.state c.args.at c.args.packet.now c.in-Some.request c.in-Some.ensures.request

pub plan_answer-requires-clause-request : goal.plan_answer-requires-clause-request
plan_answer-requires-clause-request c = request_at c.args.self.now.state c.args.at c.args.packet.now c.in-Some.request c.in-Some.ensures.request

pub returns-in_err-plan_ack-in-Ack-clause-fault : goal.returns-in_err-plan_ack-in-Ack-clause-fault
returns-in_err-plan_ack-in-Ack-clause-fault c =
    let s = c.args.self.now.state in
    let q = c.args.packet.now in
    let moment = c.in-Some.ensures.request.moment in
    err_one (IsDue s c.args.at q) c.from_residual.result Memory c.from_residual.ensures.1 (subst (λ (t : ℕ). IsDue s t q Memory) moment c.plan_ack.ensures.memory)

pub returns-in_ok-plan_ack-in-Ack-clause-step : goal.returns-in_ok-plan_ack-in-Ack-clause-step
returns-in_ok-plan_ack-in-Ack-clause-step c =
    let s = c.args.self.now.state in
    let q = c.args.packet.now in
    let r = c.in-Some.request in
    let planned : PlannedBy (Comes s r.at q) s (full_step_of c.quiet.result) = subst (PlannedBy (Comes s r.at q) s) (sym c.quiet.ensures) c.in_ok-plan_ack-in-Ack.ensures.step in
    subst (λ (t : ℕ). PlannedBy (Comes s t q) s (full_step_of c.quiet.result)) c.in-Some.ensures.request.moment planned

pub returns-in_ok-plan_ack-in-Ack-clause-follows : goal.returns-in_ok-plan_ack-in-Ack-clause-follows
returns-in_ok-plan_ack-in-Ack-clause-follows c =
    let s = c.args.self.now.state in
    let q = c.args.packet.now in
    planned_may (Comes s c.args.at q) s _ (λ work line range. packets c.args.at q s work c.consistency.ensures line range) (returns-in_ok-plan_ack-in-Ack-clause-step c)

pub returns-in-Authorization-clause-step : goal.returns-in-Authorization-clause-step
returns-in-Authorization-clause-step c =
    let s = c.args.self.now.state in
    let q = c.args.packet.now in
    subst (λ (t : ℕ). IfOk c.plan_answer.result (λ x. PlannedBy (Comes s t q) s (full_step_of x))) c.in-Some.ensures.request.moment c.plan_answer.ensures.step

pub returns-in-Authorization-clause-follows : goal.returns-in-Authorization-clause-follows
returns-in-Authorization-clause-follows c =
    let s = c.args.self.now.state in
    let q = c.args.packet.now in
    all_follow (Comes s c.args.at q) s c.plan_answer.result full_step_of (λ work line range. packets c.args.at q s work c.consistency.ensures line range) (returns-in-Authorization-clause-step c)

pub returns-in-Authorization-clause-fault : goal.returns-in-Authorization-clause-fault
returns-in-Authorization-clause-fault c =
    let s = c.args.self.now.state in
    let q = c.args.packet.now in
    subst (λ (t : ℕ). IfErr c.plan_answer.result (IsDue s t q)) c.in-Some.ensures.request.moment c.plan_answer.ensures.fault

-- a body that is taken, and is neither an acknowledgement nor an answer, is a command or a token
pub plan_request-requires : goal.plan_request-requires
plan_request-requires c = record {
  request = request_at c.args.self.now.state c.args.at c.args.packet.now c.in-Some.request c.in-Some.ensures.request;
  body = elim c.in-Some.ensures.taken [
    | inl h ↦ h
    | inr (inl a) ↦ absurd (c.in_default-body.not-Ack a.0 a.1)
    | inr (inr a) ↦ absurd (c.in_default-body.not-Authorization a.0 a.1)
  ];
}

pub returns-in_err-plan_request-in_default-body : goal.returns-in_err-plan_request-in_default-body
returns-in_err-plan_request-in_default-body c =
    let s = c.args.self.now.state in
    let q = c.args.packet.now in
    let f = c.in_err-plan_request-in_default-body.field-0.0 in
    let r = c.from_residual-in_err-plan_request-in_default-body.result in
    let is = c.from_residual-in_err-plan_request-in_default-body.ensures.1 in
    record {
      step = err_none (λ x. PlannedBy (Comes s c.args.at q) s (full_step_of x)) r f is;
      follows = err_none (λ x. MayFollowFull s (full_step_of x)) r f is;
      fault = err_one (IsDue s c.args.at q) r f is (subst (λ (t : ℕ). IsDue s t q f) c.in-Some.ensures.request.moment c.in_err-plan_request-in_default-body.ensures.fault);
    }

pub returns-in_ok-plan_request-in_default-body : goal.returns-in_ok-plan_request-in_default-body
returns-in_ok-plan_request-in_default-body c =
    let s = c.args.self.now.state in
    let q = c.args.packet.now in
    let r = c.in-Some.request in
    let x = c.quiet-in_default-body.result in
    let own : PlannedBy (Comes s r.at q) s (full_step_of x) = subst (PlannedBy (Comes s r.at q) s) (sym c.quiet-in_default-body.ensures) c.in_ok-plan_request-in_default-body.ensures.step in
    let planned : PlannedBy (Comes s c.args.at q) s (full_step_of x) = subst (λ (t : ℕ). PlannedBy (Comes s t q) s (full_step_of x)) c.in-Some.ensures.request.moment own in
    record {
      step = planned;
      follows = planned_may (Comes s c.args.at q) s (full_step_of x) (λ work line range. packets c.args.at q s work c.consistency.ensures line range) planned;
      fault = tt;
    }
