use Rattle.std.proofs.Common.{◌≡◌, ◌∙◌, ℕ, List, [], ◌∷◌, length, refl}
use Rattle.node_steps.specs.Acts.{Act}
use Rattle.node_steps.proofs.Gathering.{has_all, range_is, refused, starved, step_is}
use Rattle.provider_steps.specs.Moves.{counters_of}
use Rattle.provider_steps.specs.Tick.{all_resent}
use Rattle.provider_core.proofs.Resending.{resent_asks, resent_sends}
use Rattle.provider_core.proofs.provider.Provider.plan_resent.Goals as goal

-- what opens the draft is refused where the step is
pub returns-in_err-draft-clause-err : goal.returns-in_err-draft-clause-err
returns-in_err-draft-clause-err c =
    let s = c.args.self.now.state in
    let acts : ℕ → List Act = λ last. all_resent s.operators c.args.at s.rows.outbox c.args.due.now in
    refused s.party (counters_of s) acts (length c.args.due.now) 0 (resent_sends s c.args.at c.args.due.now c.requires) (resent_asks s c.args.at c.args.due.now) c.from_residual.result _ c.from_residual.ensures.1 c.in_err-draft.ensures.err

-- the draft has the numbers of all acts
pub add_all_resent-requires : goal.add_all_resent-requires
add_all_resent-requires c =
    let s = c.args.self.now.state in
    let acts : ℕ → List Act = λ last. all_resent s.operators c.args.at s.rows.outbox c.args.due.now in
    has_all s.party (counters_of s) acts (length c.args.due.now) 0 (resent_sends s c.args.at c.args.due.now c.requires) (resent_asks s c.args.at c.args.due.now) c.in_ok-draft.draft c.in_ok-draft.ensures.ok

-- want of memory comes only where the numbers are in range
pub returns-in_err-add_all_resent-clause-err : goal.returns-in_err-add_all_resent-clause-err
returns-in_err-add_all_resent-clause-err c =
    let s = c.args.self.now.state in
    let acts : ℕ → List Act = λ last. all_resent s.operators c.args.at s.rows.outbox c.args.due.now in
    starved s.party (counters_of s) acts (length c.args.due.now) 0 (resent_sends s c.args.at c.args.due.now c.requires) (resent_asks s c.args.at c.args.due.now) c.from_residual-in_err-add_all_resent.result c.from_residual-in_err-add_all_resent.ensures.1 c.in_ok-draft.ensures.in_range

-- what was gathered is the step
pub returns-clause-ok : goal.returns-clause-ok
returns-clause-ok c =
    let s = c.args.self.now.state in
    let acts : ℕ → List Act = λ last. all_resent s.operators c.args.at s.rows.outbox c.args.due.now in
    c.into_plan.ensures ∙ step_is s.party (counters_of s) acts (length c.args.due.now) 0 (resent_sends s c.args.at c.args.due.now c.requires) (resent_asks s c.args.at c.args.due.now) c.in_ok-draft.draft c.add_all_resent.new.draft c.in_ok-draft.ensures.ok c.in_ok-add_all_resent.ensures

pub returns-clause-in_range : goal.returns-clause-in_range
returns-clause-in_range c =
    let s = c.args.self.now.state in
    let acts : ℕ → List Act = λ last. all_resent s.operators c.args.at s.rows.outbox c.args.due.now in
    range_is s.party (counters_of s) acts (length c.args.due.now) 0 (resent_sends s c.args.at c.args.due.now c.requires) (resent_asks s c.args.at c.args.due.now) c.in_ok-draft.ensures.in_range
