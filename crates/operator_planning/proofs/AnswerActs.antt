-- A session that begins by an answer, and ends no command.
use Rattle.std.proofs.Common.{◌≡◌, ◌+◌, ℕ, List, [], length, arith, subst}
use Rattle.std.specs.Prelude.{Result, Ok, Err, Some, IfOk, IfErr}
use Rattle.ocpi_types.specs.declared.authorizations.Authorization.{Authorization}
use Rattle.authorization_book.specs.declared.awaited.Awaited.{Awaited}
use Rattle.node_steps.specs.Acts.{Act}
use Rattle.node_steps.specs.Drafts.{Step}
use Rattle.node_steps.specs.declared.fault.NodeFault.{NodeFault}
use Rattle.operator_rows.specs.State.{State}
use Rattle.operator_steps.specs.declared.ending.Ending.{Ending}
use Rattle.operator_steps.specs.Sessions.{IsBegun}
use Rattle.operator_planning.specs.Answering.{ByAnswer}
use Rattle.operator_planning.specs.Planned.{BeginsWith, PlansActs, StopsLine}
use Rattle.session_tables.specs.declared.beginning.Beginning.{Beginning}
use Rattle.session_tables.specs.Answers.{BeginsByAnswer}

module _ (s : State) (at : ℕ) (w : Awaited) (a : Authorization) (b : Beginning) (by : BeginsByAnswer s.site s.rows w a b) where
  abbrev Begins : List Act → Type 0
  Begins = BeginsWith s at [] b.authorization_reference b

  begins_by_it : (acts : List Act) → Begins acts → ByAnswer s at w a acts
  begins_by_it acts h =
      let none : List Ending = [] in
      let last : s.rows.request + length none ≡ s.rows.request = omega arith in
      record { begins = Some b; decided = by; acts_are = (h.begun, subst (λ (n : ℕ). IsBegun s at n (s.rows.charged.last_session + 1) b h.begun) last h.is_begun, h.acts_are) }

  pub answer_plans : {T : Type 0} → (r : Result T NodeFault) (step : T → Step) → IfOk r (λ x. PlansActs Begins s (step x)) → IfOk r (λ x. PlansActs (ByAnswer s at w a) s (step x))
  answer_plans (Ok x) step h = record { acts = h.acts; line = begins_by_it h.acts h.line; in_range = h.in_range; step_is = h.step_is }
  answer_plans (Err f) step h = tt

  pub answer_stops : {T : Type 0} → (r : Result T NodeFault) → IfErr r (StopsLine Begins s) → IfErr r (StopsLine (ByAnswer s at w a) s)
  answer_stops (Ok x) h = tt
  answer_stops (Err f) h = record { acts = h.acts; line = begins_by_it h.acts h.line; stops = h.stops }
