use Rattle.std.proofs.Common.{sym, subst}
use Rattle.operator_steps.specs.Credits.{CreditLine, CreditsTo}
use Rattle.operator_steps.specs.Moves.{PlannedBy, Quietly, Work}
use Rattle.operator_steps.proofs.CreditSteps.{credits}
use Rattle.operator_planning.proofs.CountedDrafts.{returned}
use Rattle.operator_planning.proofs.Crediting.{credit_fault, credits_to, goes_nowhere, none_uncredited, taken_back}
use Rattle.operator_planning.proofs.PlannedActs.{planned_may, planned_none}
use Rattle.operator_planning.proofs.planner.Planner.plan_credit.Goals as goal

-- no bill is to be taken back
pub returns-in_default-clause-step : goal.returns-in_default-clause-step
returns-in_default-clause-step c =
    let s = c.args.self.now.state in
    let Line : Work → Type 0 = Quietly (CreditLine s c.args.at c.args.session) in
    subst (PlannedBy Line s) (sym c.quiet.ensures)
    (planned_none Line s _ c.counters_in_range.ensures (none_uncredited s c.args.session c.args.at c.in_default.ensures.none) c.nothing.ensures)

-- its credit may go to none
pub returns-in-None-clause-step : goal.returns-in-None-clause-step
returns-in-None-clause-step c =
    let s = c.args.self.now.state in
    let Line : Work → Type 0 = Quietly (CreditLine s c.args.at c.args.session) in
    let none = rw c.in-None.is at c.in_ok-to.ensures.none in
    subst (PlannedBy Line s) (sym c.quiet-in-None.ensures)
    (planned_none Line s _ c.counters_in_range.ensures (goes_nowhere s c.args.session c.args.at c.in-Some.bill.now c.in-Some.ensures.some none) c.nothing-in-None.ensures)

-- the bill is taken back
pub returns-in_err-plan_taken_back-in-Some-2-clause-fault : goal.returns-in_err-plan_taken_back-in-Some-2-clause-fault
returns-in_err-plan_taken_back-in-Some-2-clause-fault c =
    let s = c.args.self.now.state in
    let bill = c.in-Some.bill.now in
    let to = c.in-Some-2.to in
    let goes = rw c.in-Some-2.is at c.in_ok-to.ensures.some in
    let takes : CreditsTo s c.args.session bill to = credits_to s c.args.session bill to c.in-Some.ensures.some goes in
    let r = c.from_residual-in_err-plan_taken_back-in-Some-2 in
    returned (credit_fault s c.args.session c.args.at bill to takes) r.result _ r.ensures.1 c.in_err-plan_taken_back-in-Some-2.ensures.err

pub returns-in_ok-plan_taken_back-in-Some-2-clause-step : goal.returns-in_ok-plan_taken_back-in-Some-2-clause-step
returns-in_ok-plan_taken_back-in-Some-2-clause-step c =
    let s = c.args.self.now.state in
    let Line : Work → Type 0 = Quietly (CreditLine s c.args.at c.args.session) in
    let bill = c.in-Some.bill.now in
    let to = c.in-Some-2.to in
    let goes = rw c.in-Some-2.is at c.in_ok-to.ensures.some in
    let takes : CreditsTo s c.args.session bill to = credits_to s c.args.session bill to c.in-Some.ensures.some goes in
    subst (PlannedBy Line s) (sym c.quiet-in-Some-2.ensures) (taken_back s c.args.session c.args.at bill to takes _ c.in_ok-plan_taken_back-in-Some-2.ensures.ok)

pub returns-in_ok-plan_taken_back-in-Some-2-clause-follows : goal.returns-in_ok-plan_taken_back-in-Some-2-clause-follows
returns-in_ok-plan_taken_back-in-Some-2-clause-follows c =
    let s = c.args.self.now.state in
    let Line : Work → Type 0 = Quietly (CreditLine s c.args.at c.args.session) in
    planned_may Line s _ (λ work line range. credits c.args.at c.args.session s work c.consistency.ensures line range) (returns-in_ok-plan_taken_back-in-Some-2-clause-step c)
