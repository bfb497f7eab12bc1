-- Drafts of acts that may store counters of sessions and of charge detail records, whose numbers are within the last.
use Rattle.std.proofs.Common.{◌≡◌, ◌≤◌, ◌+◌, ◌++◌, ℕ, List, [], ◌∷◌, length, inl, inr, sym, subst, arith}
use Rattle.std.specs.Prelude.{Result, Ok, Err, IfOk, IfErr, OnOk, Contains, ⊤}
use Rattle.std.specs.Result.{IsErrAnd}
use Rattle.std.proofs.lemmas.Result.{err_from_is_err_and}
use Rattle.ocpi_text.specs.Whole.{max_whole}
use Rattle.ocpi_types.specs.declared.rows.Change.{Change}
use Rattle.ocpi_types.specs.declared.rows.Change.TheVariants.{Put}
use Rattle.ocpi_types.specs.declared.rows.Counter.{Counter}
use Rattle.ocpi_types.specs.declared.rows.Row.TheVariants as row
use Rattle.tables.proofs.Elements.{in_none}
use Rattle.node_steps.specs.Acts.{Act, all_changes, all_messages, all_requests}
use Rattle.node_steps.specs.Drafts.{Counters, Gathered, HasNumbers, IsInRange, Step, StopsBy, counted, later, opened, with_acts}
use Rattle.node_steps.specs.declared.fault.NodeFault.{NodeFault}
use Rattle.node_steps.specs.declared.fault.NodeFault.TheVariants.{NotForMe, UnknownOperator, UnknownToken, StampEnd, NumbersUsedUp, Memory}
use Rattle.node_steps.proofs.Gathering.{changes_append, range_is, refused, starved}
use Rattle.operator_rows.specs.State.{State}
use Rattle.operator_steps.specs.Moves.{AreInRange, counters_of, step_of_acts}
use Rattle.operator_steps.proofs.Orderly.{of_cons}
use Rattle.operator_planning.specs.Bills.{StopsEarly}
use Rattle.operator_planning.specs.Planned.{PlansActs, StopsActs, StopsLine}

-- a counter that is stored is within its last number
abbrev pub IsCountWithin : Change → Type 0
IsCountWithin (Put (row.Count c n)) = n ≤ max_whole
IsCountWithin other = ⊤

abbrev pub AreWithin : List Change → Type 0
AreWithin [] = ⊤
AreWithin (c ∷ cs) = IsCountWithin c × AreWithin cs

in_within : (cs : List Change) → AreWithin cs → (c : Counter) (n : ℕ) → Contains cs (Put (row.Count c n)) → n ≤ max_whole
in_within [] h c n i = absurd (in_none (Put (row.Count c n)) i)
in_within (x ∷ xs) h c n i = elim (of_cons x xs (Put (row.Count c n)) i) [ inl is ↦ subst IsCountWithin is h.0 | inr j ↦ in_within xs h.1 c n j ]

both_within : (xs ys : List Change) → AreWithin xs → AreWithin ys → AreWithin (xs ++ ys)
both_within [] ys h g = g
both_within (x ∷ xs) ys h g = (h.0, both_within xs ys h.1 g)

abbrev pub CountWithin : List Act → Type 0
CountWithin acts = AreWithin (all_changes acts)

pub within_both : (first rest : List Act) → CountWithin first → CountWithin rest → CountWithin (first ++ rest)
within_both first rest h g = subst AreWithin (sym (changes_append first rest)) (both_within (all_changes first) (all_changes rest) h g)

pub in_range : (s : State) (acts : List Act) → CountWithin acts → IsInRange (counted (counters_of s) acts) → AreInRange s acts
in_range s acts within range = record { counters = range; numbers = λ c n i. in_within (all_changes acts) within c n i }

stops : (s : State) (acts : List Act) → CountWithin acts → (f : NodeFault) → StopsBy (counted (counters_of s) acts) f → StopsActs s acts f
stops s acts within NotForMe h = h
stops s acts within UnknownOperator h = h
stops s acts within UnknownToken h = h
stops s acts within StampEnd h = h
stops s acts within NumbersUsedUp h = λ r. h r.counters
stops s acts within Memory h = in_range s acts within h

all_stop : {T : Type 0} → (s : State) (acts : List Act) → CountWithin acts → (r : Result T NodeFault) → IfErr r (StopsBy (counted (counters_of s) acts)) → IfErr r (StopsActs s acts)
all_stop s acts within (Ok x) h = tt
all_stop s acts within (Err f) h = stops s acts within f h

-- A draft that is opened for as many packets and requests as acts take; the acts are told the number of the last
-- request before them.
module _ (s : State) (acts : ℕ → List Act) (packets requests : ℕ) (sends : packets ≡ length (all_messages (acts s.rows.request))) (asks : requests ≡ all_requests (acts s.rows.request))
    (within : CountWithin (acts s.rows.request)) where
  pub counted_in_range : IsInRange (later (counters_of s) packets requests) → AreInRange s (acts s.rows.request)
  counted_in_range h = in_range s (acts s.rows.request) within (range_is s.party (counters_of s) acts packets requests sends asks h)

  -- what a `?` returns on what opened the draft,
  pub counted_refused : {T : Type 0} → (r : Result T NodeFault) (f : NodeFault) → IsErrAnd r (λ e. e ≡ f) → StopsBy (later (counters_of s) packets requests) f → IfErr r (StopsActs s (acts s.rows.request))
  counted_refused r f is h = all_stop s (acts s.rows.request) within r (refused s.party (counters_of s) acts packets requests sends asks r f is h)

  -- and on what wanted memory after that
  pub counted_starved : {T : Type 0} → (r : Result T NodeFault) → IsErrAnd r (λ e. e ≡ Memory) → IsInRange (later (counters_of s) packets requests) → IfErr r (StopsActs s (acts s.rows.request))
  counted_starved r is h = all_stop s (acts s.rows.request) within r (starved s.party (counters_of s) acts packets requests sends asks r is h)

-- From what was planned of acts that a line asks for to what is planned of the line, and from refusal to refusal.
module _ (Line : List Act → Type 0) (s : State) (acts : List Act) (line : Line acts) where
  pub line_planned : {T : Type 0} → (r : Result T NodeFault) (step : T → Step) → OnOk r (AreInRange s acts) → IfOk r (λ x. step x ≡ step_of_acts s acts) → IfOk r (λ x. PlansActs Line s (step x))
  line_planned (Ok x) step range is = record { acts = acts; line = line; in_range = range; step_is = is }
  line_planned (Err f) step range is = tt

  pub line_stops : {T : Type 0} → (r : Result T NodeFault) → IfErr r (StopsActs s acts) → IfErr r (StopsLine Line s)
  line_stops (Ok x) h = tt
  line_stops (Err f) h = record { acts = acts; line = line; stops = h }

  early : (f : NodeFault) → StopsActs s acts f → StopsEarly Line s f
  early NotForMe h = h
  early UnknownOperator h = h
  early UnknownToken h = h
  early StampEnd h = h
  early NumbersUsedUp h = record { acts = acts; line = line; past = h }
  early Memory h = tt

  pub line_stops_early : {T : Type 0} → (r : Result T NodeFault) → IfErr r (StopsActs s acts) → IfErr r (StopsEarly Line s)
  line_stops_early (Ok x) h = tt
  line_stops_early (Err f) h = early f h

-- want of memory may come at any time
pub starved_early : {T : Type 0} → (Line : List Act → Type 0) (s : State) (r : Result T NodeFault) → IsErrAnd r (λ e. e ≡ Memory) → IfErr r (StopsEarly Line s)
starved_early Line s r is =
    let p = err_from_is_err_and r is in
    rw (p.1, p.2) tt

-- a draft has the numbers that it was opened with, and those that acts leave of them
pub opened_with : (party : List ℕ) (c : Counters) (packets requests p q : ℕ) (d : Gathered) → d ≡ opened party c packets requests → p ≤ packets → q ≤ requests → HasNumbers p q d
opened_with party c packets requests p q d is h g =
    let at_start : HasNumbers p q (opened party c packets requests) = record { serials = omega (arith, h); requests = omega (arith, g) } in
    subst (HasNumbers p q) (sym is) at_start

pub left_after : (acts : List Act) (packets requests p q : ℕ) (d e : Gathered) → HasNumbers packets requests d → e ≡ with_acts acts d → p + length (all_messages acts) ≤ packets → q + all_requests acts ≤ requests → HasNumbers p q e
left_after acts packets requests p q d e h is k g =
    let after : HasNumbers p q (with_acts acts d) = record { serials = omega (arith, h.serials, k); requests = omega (arith, h.requests, g) } in
    subst (HasNumbers p q) (sym is) after

-- what a `?` returns of a refusal
pub returned : {T E : Type 0} {P Q : E → Type 0} → ((e : E) → P e → Q e) → (r : Result T E) (f : E) → IsErrAnd r (λ e. e ≡ f) → P f → IfErr r Q
returned {Q = Q} more r f is h =
    let p = err_from_is_err_and r is in
    rw (p.1, p.2) (more f h)
