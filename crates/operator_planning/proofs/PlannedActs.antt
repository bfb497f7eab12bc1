-- From what is planned to what a line of an operator asks for, and to its refusals.
use Rattle.std.proofs.Common.{◌≡◌, ◌≢◌, ℕ, List, [], ◌∷◌, sym, ap, subst, ◌∙◌, arith}
use Rattle.std.specs.Prelude.{Result, Ok, Err, IfOk, IfErr, OnOk}
use Rattle.ocpi_types.specs.declared.rows.Change.{Change}
use Rattle.ocpi_types.specs.declared.rows.Change.TheVariants.{Put}
use Rattle.ocpi_types.specs.declared.rows.Counter.{Counter}
use Rattle.ocpi_types.specs.declared.rows.Row.TheVariants as row
use Rattle.tables.proofs.Elements.{in_none, in_single}
use Rattle.node_steps.specs.Acts.{Act, changed}
use Rattle.node_steps.specs.Drafts.{IsInRange, Step}
use Rattle.node_steps.specs.declared.fault.NodeFault.{NodeFault}
use Rattle.node_steps.specs.declared.fault.NodeFault.TheVariants.{NotForMe, UnknownOperator, UnknownToken, StampEnd, NumbersUsedUp, Memory}
use Rattle.node_steps.proofs.Gathering.{step_of_none, step_of_change}
use Rattle.operator_rows.specs.State.{State}
use Rattle.operator_rows.specs.Steps.{FullStep, MayFollowFull}
use Rattle.operator_steps.specs.Faults.{IsOwnFault, MayStep}
use Rattle.operator_steps.specs.Moves.{AreInRange, PlannedBy, Work, counters_of, quiet, step_of_acts, step_of_work}
use Rattle.operator_planning.specs.Planned.{PlansActs, StopsActs, quiet_step}

-- the change stores no counter
abbrev pub IsNoCount : Change → Type 0
IsNoCount change = (c : Counter) (n : ℕ) → change ≢ Put (row.Count c n)

-- no acts, and one change, take no number
pub none_in_range : (s : State) → IsInRange (counters_of s) → AreInRange s []
none_in_range s range = record {
  counters = record { serial = omega (arith, range.serial); request = omega (arith, range.request) };
  numbers = λ c n i. absurd (in_none _ i);
}

pub change_in_range : (s : State) (change : Change) → IsInRange (counters_of s) → IsNoCount change → AreInRange s (changed change ∷ [])
change_in_range s change range none = record {
  counters = record { serial = omega (arith, range.serial); request = omega (arith, range.request) };
  numbers = λ c n i. absurd (none c n (in_single change _ i));
}

module _ (Line : Work → Type 0) (s : State) where
  -- acts that the line asks for, and that stay in range, are planned
  pub planned_acts : (acts : List Act) (x : Step) → Line (quiet acts) → AreInRange s acts → x ≡ step_of_acts s acts → PlannedBy Line s (quiet_step x)
  planned_acts acts x line in_range is = record { work = quiet acts; line = line; in_range = in_range; step_is = ap quiet_step is }

  pub planned_none : (x : Step) → IsInRange (counters_of s) → Line (quiet []) → x ≡ record { changes = []; packets = []; volatile = [] } → PlannedBy Line s (quiet_step x)
  planned_none x range line is = planned_acts [] x line (none_in_range s range) (is ∙ sym (step_of_none s.party (counters_of s)))

  pub planned_change : (x : Step) (c : Change) → IsInRange (counters_of s) → IsNoCount c → Line (quiet (changed c ∷ [])) → x ≡ record { changes = c ∷ []; packets = []; volatile = [] } → PlannedBy Line s (quiet_step x)
  planned_change x c range none line is = planned_acts (changed c ∷ []) x line (change_in_range s c range none) (is ∙ sym (step_of_change s.party (counters_of s) c))

  -- why acts that the line asks for are refused
  pub own_fault : (work : Work) → Line work → (f : NodeFault) → StopsActs s work.acts f → IsOwnFault Line s f
  own_fault work line NotForMe h = h
  own_fault work line UnknownOperator h = h
  own_fault work line UnknownToken h = h
  own_fault work line StampEnd h = h
  own_fault work line NumbersUsedUp h = record { work = work; line = line; past = h }
  own_fault work line Memory h = tt

  pub own_faults : {T : Type 0} → (r : Result T NodeFault) (work : Work) → Line work → IfErr r (StopsActs s work.acts) → IfErr r (IsOwnFault Line s)
  own_faults (Ok x) work line h = tt
  own_faults (Err f) work line h = own_fault work line f h

  pub may_step : (acts : List Act) → Line (quiet acts) → AreInRange s acts → MayStep Line s
  may_step acts line in_range = record { work = quiet acts; line = line; in_range = in_range }

  -- what a call planned of acts that the line asks for
  pub all_planned : {T : Type 0} → (r : Result T NodeFault) (step : T → Step) (acts : List Act) → Line (quiet acts) → OnOk r (AreInRange s acts) → IfOk r (λ x. step x ≡ step_of_acts s acts) →
      IfOk r (λ x. PlannedBy Line s (quiet_step (step x)))
  all_planned (Ok x) step acts line range is = planned_acts acts (step x) line range is
  all_planned (Err f) step acts line range is = tt

  -- and of acts that a line of acts alone asks for
  pub all_quiet : {T : Type 0} → (Quiet : List Act → Type 0) → ((acts : List Act) → Quiet acts → Line (quiet acts)) → (r : Result T NodeFault) (step : T → Step) → IfOk r (λ x. PlansActs Quiet s (step x)) →
      IfOk r (λ x. PlannedBy Line s (quiet_step (step x)))
  all_quiet Quiet also (Ok x) step h = planned_acts h.acts (step x) (also h.acts h.line) h.in_range h.step_is
  all_quiet Quiet also (Err f) step h = tt

  -- what is planned may be carried out, where all that the line asks for may
  pub planned_may : (x : FullStep) → ((work : Work) → Line work → AreInRange s work.acts → MayFollowFull s (step_of_work s work)) → PlannedBy Line s x → MayFollowFull s x
  planned_may x may h = subst (MayFollowFull s) (sym h.step_is) (may h.work h.line h.in_range)

  pub all_follow : {T E : Type 0} → (r : Result T E) (step : T → FullStep) → ((work : Work) → Line work → AreInRange s work.acts → MayFollowFull s (step_of_work s work)) →
      IfOk r (λ x. PlannedBy Line s (step x)) → IfOk r (λ x. MayFollowFull s (step x))
  all_follow (Ok x) step may h = planned_may (step x) may h
  all_follow (Err e) step may h = tt
