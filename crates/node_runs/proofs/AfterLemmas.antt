-- What a line behind the setup left, from what its parts give, and how the program goes on with it.
use Rattle.std.proofs.Common.{◌≡◌, ◌⊎◌, ◌++◌, ◌∙◌, ◌≤◌, ℕ, suc, true, false, List, [], Option, Some, None, Result, Ok, Err, OnOk, refl, sym, ap, subst, inl, inr, arith}
use Rattle.std.proofs.lemmas.List.{append-nil}
use Rattle.ocpi_text.specs.Whole.{max_whole}
use Rattle.ocpi_types.specs.declared.node_events.NodeEvent.{NodeEvent}
use Rattle.ocpi_types.specs.declared.node_events.NodeEventKind.{NodeEventKind}
use Rattle.ocpi_types.specs.declared.rows.Change.{Change}
use Rattle.json_text.specs.Fault.{Read}
use Rattle.world_steps.specs.World.{NodeState}
use Rattle.node_lines.specs.NodeLines.{node_line_in}
use Rattle.node_lines.specs.declared.node_line.NodeLine.TheVariants.{Several}
use Rattle.line_runs.specs.declared.run.Turn.{Turn}
use Rattle.line_runs.specs.declared.run.Turn.TheVariants.{Refused, Taken}
use Rattle.stored_nodes.specs.Keepers.{Commits, Declines, Keeper}
use Rattle.stored_nodes.specs.Stored.{IsStored}
use Rattle.stored_nodes.specs.Transactions.{AppliesInMemory, FailsInMemory, Pending, changes_of_each}
use Rattle.stored_nodes.specs.declared.fault.StepFault.{StepFault}
use Rattle.stored_nodes.specs.declared.fault.StepFault.TheVariants as step
use Rattle.stored_nodes.specs.declared.stored_node.Applied.{Applied}
use Rattle.stored_nodes.specs.declared.stored_node.Applied.TheVariants.{Skipped, Stepped}
use Rattle.node_steps.specs.declared.fault.NodeFault.TheVariants.{NumbersUsedUp}
use Rattle.node_store.specs.Faults.{counted_fault}
use Rattle.node_store.specs.declared.fault.StoreFault.{StoreFault}
use Rattle.node_runs.specs.Afters.{CommitsAll, DoesAll, IfRuns, IsAfter, IsAnswered, IsCommitted, IsDeclinedFor, IsTold}
use Rattle.node_runs.specs.declared.event_lines.Answered.TheVariants.{Declined, Starved, Told, Untold}
use Rattle.std.specs.declared.alloc.AllocError.{AllocError}
use Rattle.std.specs.Prelude.{IsOk}
use Rattle.node_runs.specs.DoneLines.{known_line, refused_line}
use Rattle.node_runs.specs.LineAnswers.{Answers, CarriesOut, SeveralEvents}
use Rattle.node_runs.specs.NodeAnswers.{BehindTurn, LineTurn, LosesLine}
use Rattle.node_runs.specs.NodeAnswers as answers
use Rattle.node_runs.specs.NodeTurns.{Running, Stage}
use Rattle.node_runs.specs.Stages.{GoesOnWith}
use Rattle.node_runs.specs.declared.fault.NodeStop.{NodeStop}
use Rattle.node_runs.specs.declared.fault.NodeStop.TheVariants.{Memory, Store}
use Rattle.node_runs.specs.declared.list_lines.After.{After}
use Rattle.node_runs.specs.declared.list_lines.After.TheVariants.{Lost, Runs}

-- ---- an event in memory leaves the keeper alone

pub applies_keep : {K : Type 0} (old new : Pending K) (k : NodeEventKind) (a : Applied) → AppliesInMemory old k a new → new.keep ≡ old.keep
applies_keep {K} old new k Skipped passes = ap (λ (p : Pending K). p.keep) passes.same
applies_keep {K} old new k (Stepped packets changed) (inl does) = does.keep
applies_keep {K} old new k (Stepped packets changed) (inr none) = ap (λ (p : Pending K). p.keep) none.3

pub fails_keep : {K : Type 0} (old new : Pending K) (k : NodeEventKind) (f : StepFault) → FailsInMemory old k f new → new.keep ≡ old.keep
fails_keep {K} old new k (step.Core fault) refuses = ap (λ (p : Pending K). p.keep) refuses.same
fails_keep {K} old new k step.Memory same = ap (λ (p : Pending K). p.keep) same

-- ---- what is told of a line behind which the node runs on

-- it is told, or memory ran out for that
pub told_after : {K : Type 0} (keeper : Keeper K) (now next : Running K) (number : ℕ) (line : List ℕ) (turn : Turn) (text before after : List ℕ) (a : After K) →
    LineTurn keeper now number line turn text next → IsStored keeper now.node → IsStored keeper next.node → IsTold next turn text before after a → IsAfter keeper now number line before after a
told_after {K} keeper now next number line turn text before after (Runs other answered) is stored later told =
    (text, told.2, subst (λ (n : Running K). LineTurn keeper now number line answered text n) (sym told.0) (subst (λ (t : Turn). LineTurn keeper now number line t text next) (sym told.1) is))
told_after keeper now next number line turn text before after (Lost keep stop) is stored later told =
    (answers.WasUntold turn text next is later told.1 told.0, stored, told.2)

-- what was to be told is what was written, where that was written whole
pub told_as : {K : Type 0} (now : Running K) (turn : Turn) (text out before after : List ℕ) (written : Result (Unit {0}) AllocError) (a : After K) → IsTold now turn text before after a
    → IfRuns a (IsOk written) → OnOk written (text ≡ [] ++ out) → IsTold now turn out before after a
told_as now turn text out before after (Ok u) (Runs next answered) told whole is = (told.0, told.1, told.2 ∙ ap (λ (s : List ℕ). before ++ s) is)
told_as now turn text out before after (Err e) (Runs next answered) told whole is = absurd (let bad : false ≡ true = whole in cc bad)
told_as now turn text out before after written (Lost keep stop) told whole is = told

-- ---- a line of one event

module _ {K : Type 0} (keeper : Keeper K) (now next : Running K) (number : ℕ) (line text : List ℕ) (stored : IsStored keeper now.node) (later : IsStored keeper next.node) (before after : List ℕ) where
  pub one_told : (turn : Turn) (a : After K) → IsAnswered keeper now number line [] text (Told turn) next → IsTold next turn text before after a → IsAfter keeper now number line before after a
  one_told turn a is told =
      told_after keeper now next number line turn text before after a (subst (λ (out : List ℕ). LineTurn keeper now number line turn out next) (sym is.1) is.2) stored later told

  pub one_untold : IsAnswered keeper now number line [] text Untold next → IsAfter keeper now number line before before (Lost next.node.keep Memory)
  one_untold is = (answers.WasUntold is.0 is.1 next is.2 later refl refl, stored, refl)

  pub one_starved : IsAnswered keeper now number line [] text Starved next → IsAfter keeper now number line before before (Lost next.node.keep Memory)
  one_starved is = (answers.WasStarved refl (ap (λ (n : Running K). n.node.keep) is), stored, refl)

  pub one_declined : (fault : StoreFault) → IsAnswered keeper now number line [] text (Declined fault) next → IsAfter keeper now number line before before (Lost next.node.keep (Store fault))
  one_declined fault is = (is, stored, refl)

-- ---- a line of several events

module _ {K : Type 0} (keeper : Keeper K) (now : Running K) (number : ℕ) (line : List ℕ) (events : List (Read NodeEvent))
    (read : node_line_in line ≡ Ok (Several events)) (stored : IsStored keeper now.node) (before after : List ℕ)
    (party : List ℕ) (p : Pending K) (turn : Turn) (text : List ℕ) (party_is : party ≡ now.party) (kept : p.keep ≡ now.node.keep)
    (all : DoesAll party (record { state = now.node.state; keep = now.node.keep; changes = [] }) number events turn [] text p) where
  -- all its events were done, in this transaction
  carries : Answers now.party now.node.state number line turn all.out all.did p.state
  carries = SeveralEvents events read (subst (λ (name : List ℕ). CarriesOut name now.node.state number events turn all.out all.did p.state) party_is all.carries)

  commits : (k : K) → Commits keeper (Some number) p.changes p.keep k → Commits keeper (Some number) (changes_of_each all.did) now.node.keep k
  commits k is =
      subst (λ (cs : List Change). Commits keeper (Some number) cs now.node.keep k) all.gathers (subst (λ (from : K). Commits keeper (Some number) p.changes from k) kept is)

  declines : (fault : StoreFault) (k : K) → Declines keeper (Some number) p.changes (counted_fault fault) p.keep k
      → Declines keeper (Some number) (changes_of_each all.did) (counted_fault fault) now.node.keep k
  declines fault k is =
      subst (λ (cs : List Change). Declines keeper (Some number) cs (counted_fault fault) now.node.keep k) all.gathers
      (subst (λ (from : K). Declines keeper (Some number) p.changes (counted_fault fault) from k) kept is)

  runs : (next : Running K) (answered : Turn) → CommitsAll keeper party number p turn text before after next answered → IsAfter keeper now number line before after (Runs next answered)
  runs next answered done =
      let is : LineTurn keeper now number line turn all.out next = record {
        did = all.did;
        answers = subst (λ (n : NodeState). Answers now.party now.node.state number line turn all.out all.did n) (sym done.state) carries;
        commits = commits next.node.keep done.commits;
        party = done.party_is ∙ party_is;
      } in
      let wrote : after ≡ before ++ all.out = done.written ∙ ap (λ (s : List ℕ). before ++ s) all.written in
      (all.out, wrote, subst (λ (t : Turn). LineTurn keeper now number line t all.out next) (sym done.answers) is)

  loses : (keep : K) (stop : NodeStop) → ((stop ≡ Memory) × (keep ≡ p.keep)) ⊎ IsDeclinedFor keeper number p stop keep → LosesLine keeper now number line stop keep
  loses keep stop (inl want) = answers.WasStarved want.0 (want.1 ∙ kept)
  loses keep stop (inr not) =
      answers.WasDeclined turn all.out all.did p.state carries (λ none. not.some (all.gathers ∙ none)) not.fault not.is (declines not.fault keep not.declines) not.told

  pub committed : (a : After K) → IsCommitted keeper party number p turn text before after a → IsAfter keeper now number line before after a
  committed (Runs next answered) done = runs next answered done
  committed (Lost keep stop) not = (loses keep stop not.why, stored, not.written)

-- ---- the program goes on

module _ {K : Type 0} (keeper : Keeper K) (now : Running K) (s : Stage K) (line : List ℕ) (before after : List ℕ) (stored : IsStored keeper now.node) where
  -- the stage with this number, without its node
  abbrev Bare : ℕ → Stage K
  Bare number = record { wanted = s.wanted; opened = s.opened; running = None; spare = s.spare; stop = s.stop; number = number; known = s.known }

  abbrev Turns : Turn → Stage K → Type 0
  Turns turn t = (out : List ℕ) × (after ≡ before ++ out) × BehindTurn keeper now s line turn out t

  ended : (number : ℕ) (keep : K) (stop : NodeStop) (turn : Turn) (t : Stage K) → LosesLine keeper now (suc s.number) line stop keep → (suc s.number ≤ s.known → (stop ≡ Memory) × (keep ≡ now.node.keep))
      → after ≡ before → GoesOnWith (Bare number) (Lost keep stop) turn t → Turns turn t
  ended number keep stop turn t loses known written goes = ([], written ∙ sym (append-nil before), answers.Ends stop keep loses known stored number goes.0 refl goes.1)

  -- a line that was read
  pub read_on : suc s.known ≤ suc s.number → suc s.number ≤ max_whole → (a : After K) (turn : Turn) (t : Stage K) → IsAfter keeper now (suc s.number) line before after a
      → GoesOnWith (Bare (suc s.number)) a turn t → Turns turn t
  read_on new few (Runs next answered) turn t is goes =
      (is.0, is.1, answers.GoesOn new few next (subst (λ (u : Turn). LineTurn keeper now (suc s.number) line u is.0 next) (sym goes.0) is.2) goes.1)
  read_on new few (Lost keep stop) turn t is goes = ended (suc s.number) keep stop turn t is.0 (λ low. absurd (omega (arith, new, low))) is.2 goes

  -- one that had taken hold
  pub known_on : suc s.number ≤ s.known → (a : After K) (turn : Turn) (t : Stage K) → IsTold now Taken (known_line (suc s.number)) before after a
      → GoesOnWith (Bare (suc s.number)) a turn t → Turns turn t
  known_on is (Runs next answered) turn t told goes =
      (known_line (suc s.number), told.2, answers.WasKnown is (goes.0 ∙ told.1) refl (goes.1 ∙ ap (λ (n : Running K). answers.next_stage s n (suc s.number)) told.0))
  known_on is (Lost keep stop) turn t told goes = ended (suc s.number) keep stop turn t (answers.WasStarved told.1 told.0) (λ low. (told.1, told.0)) told.2 goes

  -- one behind the last number
  pub beyond_on : s.number ≡ max_whole → (a : After K) (turn : Turn) (t : Stage K) → IsTold now Refused (refused_line max_whole None NumbersUsedUp) before after a
      → GoesOnWith (Bare s.number) a turn t → Turns turn t
  beyond_on is (Runs next answered) turn t told goes = (
    refused_line max_whole None NumbersUsedUp,
    told.2,
    answers.WasBeyond is (goes.0 ∙ told.1) refl
        (goes.1 ∙ ap (λ (n : Running K). answers.next_stage s n s.number) told.0 ∙ ap (λ (n : ℕ). answers.next_stage s now n) is),
  )
  beyond_on is (Lost keep stop) turn t told goes = ended s.number keep stop turn t (answers.WasStarved told.1 told.0) (λ low. (told.1, told.0)) told.2 goes

-- what a line gives does not depend on which node stood in the stage
pub with_running : {K : Type 0} (keeper : Keeper K) (now : Running K) (s : Stage K) (q : Option (Running K)) (line : List ℕ) (turn : Turn) (out : List ℕ) (t : Stage K) → BehindTurn keeper now s line turn out t
    → BehindTurn keeper now (record { wanted = s.wanted; opened = s.opened; running = q; spare = s.spare; stop = s.stop; number = s.number; known = s.known }) line turn out t
with_running keeper now s q line turn out t (answers.WasKnown is taken written left) = answers.WasKnown is taken written left
with_running keeper now s q line turn out t (answers.WasBeyond is refused written left) = answers.WasBeyond is refused written left
with_running keeper now s q line turn out t (answers.GoesOn new few next is left) = answers.GoesOn new few next is left
with_running keeper now s q line turn out t (answers.Ends stop keep loses known stored number ended written left) = answers.Ends stop keep loses known stored number ended written left

-- what is said where a text was written whole
pub of_ok : {P : Type 0} (written : Result (Unit {0}) AllocError) → IsOk written → OnOk written P → P
of_ok (Ok u) whole p = p
of_ok (Err e) whole p = absurd (let bad : false ≡ true = whole in cc bad)
