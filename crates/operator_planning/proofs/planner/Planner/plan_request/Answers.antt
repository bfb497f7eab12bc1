use Rattle.std.proofs.Common.{◌≡◌, [], ◌∷◌, ◌∙◌, ap, sym, inl, inr}
use Rattle.ocpi_types.specs.declared.packet.Body.TheVariants as body
use Rattle.std.specs.Prelude.{Some, None}
use Rattle.std.specs.FinMap.{get}
use Rattle.node_steps.specs.Acts.{repeated}
use Rattle.node_steps.specs.Drafts.{step_of}
use Rattle.operator_steps.specs.Moves.{quiet}
use Rattle.operator_steps.specs.Steps.{Comes, TokenLine}
use Rattle.operator_planning.proofs.PacketLines.{again_comes, due_faults, token_comes, token_faults}
use Rattle.operator_planning.proofs.PlannedActs.{all_planned, all_quiet}
use Rattle.operator_planning.proofs.planner.Planner.plan_request.Goals as goal

pub returns-in-Some-clause-step : goal.returns-in-Some-clause-step
returns-in-Some-clause-step c =
    let s = c.args.self.now.state in
    let r = c.args.request.now in
    let has : get s.rows.commands.replies (r.provider, r.number) ≡ Some c.in-Some.reply.now = rw (← c.self.view_is) (sym c.in-Some.ensures) in
    let line = again_comes s c.args.packet.now r c.requires.request c.requires.body c.in-Some.reply.now has in
    all_planned (Comes s r.at c.args.packet.now) s c.plan_again.result step_of (repeated r.from r.number c.in-Some.reply.now ∷ []) line c.plan_again.ensures.in_range c.plan_again.ensures.ok

pub returns-in-Some-clause-fault : goal.returns-in-Some-clause-fault
returns-in-Some-clause-fault c =
    let s = c.args.self.now.state in
    let r = c.args.request.now in
    let has : get s.rows.commands.replies (r.provider, r.number) ≡ Some c.in-Some.reply.now = rw (← c.self.view_is) (sym c.in-Some.ensures) in
    let line = again_comes s c.args.packet.now r c.requires.request c.requires.body c.in-Some.reply.now has in
    due_faults s c.args.packet.now r c.requires.request c.plan_again.result (quiet (repeated r.from r.number c.in-Some.reply.now ∷ [])) line c.plan_again.ensures.err

pub returns-in-PutToken-clause-step : goal.returns-in-PutToken-clause-step
returns-in-PutToken-clause-step c =
    let s = c.args.self.now.state in
    let r = c.args.request.now in
    let t = c.deref.result.now in
    let carries : c.args.packet.now.body ≡ body.PutToken t = c.in-PutToken.is ∙ ap body.PutToken (sym c.deref.ensures) in
    let none : get s.rows.commands.replies (r.provider, r.number) ≡ None = rw (← c.self.view_is) (sym c.in_default.ensures) in
    all_quiet (Comes s r.at c.args.packet.now) s (TokenLine s r.at r.from r.provider r.number t) (λ acts line. token_comes s c.args.packet.now r c.requires.request t carries none acts line)
    c.plan_put.result step_of c.plan_put.ensures.ok

pub returns-in-PutToken-clause-fault : goal.returns-in-PutToken-clause-fault
returns-in-PutToken-clause-fault c =
    let s = c.args.self.now.state in
    let r = c.args.request.now in
    let t = c.deref.result.now in
    let carries : c.args.packet.now.body ≡ body.PutToken t = c.in-PutToken.is ∙ ap body.PutToken (sym c.deref.ensures) in
    let none : get s.rows.commands.replies (r.provider, r.number) ≡ None = rw (← c.self.view_is) (sym c.in_default.ensures) in
    token_faults s c.args.packet.now r c.requires.request c.plan_put.result t carries none c.plan_put.ensures.err

-- a request carries a command or a token
pub unreachable-requires : goal.unreachable-requires
unreachable-requires c = elim c.requires.body [ inl h ↦ c.in_default-body.not-Command h.0 h.1 | inr h ↦ c.in_default-body.not-PutToken h.0 h.1 ]
