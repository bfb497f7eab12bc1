use Rattle.std.proofs.Common.{arith}
use Rattle.node_steps.specs.Drafts.{step_of}
use Rattle.node_steps.specs.Peers.{IsPeer}
use Rattle.operator_steps.specs.Moves.{counters_of}
use Rattle.operator_planning.proofs.AskedDrafts.{ask_planned, ask_refused, ask_starved}
use Rattle.operator_planning.proofs.CountedDrafts.{opened_with}
use Rattle.operator_planning.proofs.planner.Planner.plan_asked.Goals as goal

pub returns-in_err-draft-clause-err : goal.returns-in_err-draft-clause-err
returns-in_err-draft-clause-err c =
    let s = c.args.self.now.state in
    let found : IsPeer s.providers c.args.token.now.party c.in-Some.to.now = rw (← c.self.view_is, ← c.providers.ensures) c.in-Some.ensures.found in
    ask_refused s c.args.at c.args.token.now c.args.location_id c.args.place.now c.in-Some.to.now found c.from_residual.result _ c.from_residual.ensures.1 c.in_err-draft.ensures.err

pub add_asked-requires : goal.add_asked-requires
add_asked-requires c = let s = c.args.self.now.state in opened_with s.party (counters_of s) 1 1 1 1 c.in_ok-draft.draft c.in_ok-draft.ensures.ok (omega arith) (omega arith)

pub returns-in_err-number-clause-err : goal.returns-in_err-number-clause-err
returns-in_err-number-clause-err c =
    let s = c.args.self.now.state in
    let found : IsPeer s.providers c.args.token.now.party c.in-Some.to.now = rw (← c.self.view_is, ← c.providers.ensures) c.in-Some.ensures.found in
    ask_starved s c.args.at c.args.token.now c.args.location_id c.args.place.now c.in-Some.to.now found c.from_residual-in_err-number.result c.from_residual-in_err-number.ensures.1 c.in_ok-draft.ensures.in_range

pub returns-in_err-waits-clause-err : goal.returns-in_err-waits-clause-err
returns-in_err-waits-clause-err c =
    let s = c.args.self.now.state in
    let found : IsPeer s.providers c.args.token.now.party c.in-Some.to.now = rw (← c.self.view_is, ← c.providers.ensures) c.in-Some.ensures.found in
    ask_starved s c.args.at c.args.token.now c.args.location_id c.args.place.now c.in-Some.to.now found c.from_residual-in_err-waits.result c.from_residual-in_err-waits.ensures.1 c.in_ok-draft.ensures.in_range

pub returns-clause-ok : goal.returns-clause-ok
returns-clause-ok c =
    let s = c.args.self.now.state in
    let found : IsPeer s.providers c.args.token.now.party c.in-Some.to.now = rw (← c.self.view_is, ← c.providers.ensures) c.in-Some.ensures.found in
    ask_planned s c.args.at c.args.token.now c.args.location_id c.args.place.now c.in-Some.to.now found c.in_ok-draft.draft c.add_asked.new.draft c.in_ok-number.number c.after.result
    (record { step = step_of c.into_plan.result; waits = c.in_ok-waits.waits.items }) c.in_ok-draft.ensures.ok c.in_ok-draft.ensures.in_range c.in_ok-number.ensures.0 c.in_ok-number.ensures.1 c.after.ensures c.into_plan.ensures c.in_ok-waits.ensures
