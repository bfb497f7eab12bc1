use Rattle.std.proofs.Common.{[], refl, sym, subst, ◌∙◌}
use Rattle.std.specs.Prelude.{None}
use Rattle.ocpi_text.specs.Text.{key}
use Rattle.node_steps.specs.Drafts.{step_of}
use Rattle.node_steps.specs.Peers.{HasPeer}
use Rattle.node_steps.proofs.Gathering.{step_of_none}
use Rattle.operator_steps.specs.Moves.{counters_of}
use Rattle.session_tables.specs.Answers.{BeginsByAnswer, Decided}
use Rattle.session_tables.specs.declared.beginning.Beginning.{Beginning}
use Rattle.operator_planning.proofs.AnswerActs.{answer_plans, answer_stops}
use Rattle.operator_planning.proofs.PlannedActs.{none_in_range}
use Rattle.operator_planning.proofs.planner.Planner.plan_by_answer.Goals as goal

-- no session begins
pub returns-in-None-clause-ok : goal.returns-in-None-clause-ok
returns-in-None-clause-ok c =
    let s = c.args.self.now.state in
    let never : Decided (BeginsByAnswer s.site s.rows c.args.awaited.now c.args.answer.now) None = rw (← c.self.view_is) c.in-None.ensures in
    record {
      acts = [];
      line = record { begins = None; decided = never; acts_are = refl };
      in_range = none_in_range s c.counters_in_range.ensures;
      step_is = c.nothing.ensures ∙ sym (step_of_none s.party (counters_of s));
    }

-- the session is of the provider that was asked
pub plan_begun-requires-clause-provider : goal.plan_begun-requires-clause-provider
plan_begun-requires-clause-provider c =
    let s = c.args.self.now.state in
    let by : BeginsByAnswer s.site s.rows c.args.awaited.now c.args.answer.now c.in-Some.beginning = rw (← c.self.view_is) c.in-Some.ensures in
    subst (λ (b : Beginning). HasPeer s.providers (key b.token.party)) (sym by.there.begins_is) c.requires

pub returns-in-Some-clause-ok : goal.returns-in-Some-clause-ok
returns-in-Some-clause-ok c =
    let s = c.args.self.now.state in
    let by : BeginsByAnswer s.site s.rows c.args.awaited.now c.args.answer.now c.in-Some.beginning = rw (← c.self.view_is) c.in-Some.ensures in
    answer_plans s c.args.request.now.at c.args.awaited.now c.args.answer.now c.in-Some.beginning by c.plan_begun.result step_of c.plan_begun.ensures.ok

pub returns-in-Some-clause-err : goal.returns-in-Some-clause-err
returns-in-Some-clause-err c =
    let s = c.args.self.now.state in
    let by : BeginsByAnswer s.site s.rows c.args.awaited.now c.args.answer.now c.in-Some.beginning = rw (← c.self.view_is) c.in-Some.ensures in
    answer_stops s c.args.request.now.at c.args.awaited.now c.args.answer.now c.in-Some.beginning by c.plan_begun.result c.plan_begun.ensures.err
