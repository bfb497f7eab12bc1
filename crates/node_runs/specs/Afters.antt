-- What a line behind the setup left, and how the program goes on with it.
use Rattle.std.specs.Prelude.{◌≡◌, ◌≢◌, ◌⊎◌, ℕ, List, [], ◌++◌, Bool, true, false, None, Some, Result, Ok, Err}
use Rattle.std.specs.declared.alloc.AllocError.{AllocError}
use Rattle.line_runs.specs.declared.run.Turn.{Turn}
use Rattle.line_runs.specs.declared.run.Turn.TheVariants.{Refused, Taken}
use Rattle.json_text.specs.Fault.{Read}
use Rattle.ocpi_types.specs.declared.node_events.NodeEvent.{NodeEvent}
use Rattle.world_steps.specs.Steps.{NodeEvent as Deed}
use Rattle.stored_nodes.specs.Keepers.{Commits, Declines, Keeper}
use Rattle.stored_nodes.specs.Stored.{IsStored}
use Rattle.stored_nodes.specs.Transactions.{Pending, changes_of_each}
use Rattle.stored_nodes.specs.declared.fault.ApplyFault.{ApplyFault}
use Rattle.stored_nodes.specs.declared.fault.ApplyFault.TheVariants as apply
use Rattle.stored_nodes.specs.declared.fault.StepFault.{StepFault}
use Rattle.stored_nodes.specs.declared.fault.StepFault.TheVariants as step
use Rattle.node_store.specs.Faults.{IsCommitFault, counted_fault}
use Rattle.node_store.specs.declared.fault.StoreFault.{StoreFault}
use Rattle.node_runs.specs.DoneLines.{refused_line}
use Rattle.node_runs.specs.LineAnswers.{CarriesOut, PlacedTurn}
use Rattle.node_runs.specs.NodeAnswers.{LineTurn, LosesLine}
use Rattle.node_runs.specs.NodeTurns.{Running}
use Rattle.node_runs.specs.declared.event_lines.Answered.{Answered}
use Rattle.node_runs.specs.declared.event_lines.Answered.TheVariants.{Declined, Starved, Told, Untold}
use Rattle.node_runs.specs.declared.fault.NodeStop.{NodeStop}
use Rattle.node_runs.specs.declared.fault.NodeStop.TheVariants.{Memory, Store}
use Rattle.node_runs.specs.declared.list_lines.After.{After}
use Rattle.node_runs.specs.declared.list_lines.After.TheVariants.{Lost, Runs}

-- what a line left, beside what was written before and behind it: it is answered behind that; or nothing of it is
-- written, and the node has ended
abbrev pub IsAfter : {K : Type 0} → Keeper K → Running K → ℕ → List ℕ → List ℕ → List ℕ → After K → Type 0
IsAfter keeper now number line before after (Runs next turn) = (out : List ℕ) × (after ≡ before ++ out) × LineTurn keeper now number line turn out next
IsAfter keeper now number line before after (Lost keep stop) = LosesLine keeper now number line stop keep × IsStored keeper now.node × (after ≡ before)

-- This text is told behind what was written before, and the node runs on; or memory ran out for that, and it has ended.
abbrev pub IsTold : {K : Type 0} → Running K → Turn → List ℕ → List ℕ → List ℕ → After K → Type 0
IsTold now turn text before after (Runs next answered) = (next ≡ now) × (answered ≡ turn) × (after ≡ before ++ text)
IsTold now turn text before after (Lost keep stop) = (keep ≡ now.node.keep) × (stop ≡ Memory) × (after ≡ before)

-- where the node runs on
abbrev pub IfRuns : {K : Type 0} → After K → Type 0 → Type 0
IfRuns (Runs next answered) P = P
IfRuns (Lost keep stop) P = Unit {0}

-- ---- a line of one event

-- it was told, unless memory ran out for that
abbrev pub told : Result (Unit {0}) AllocError → Turn → Answered
told (Ok written) turn = Told turn
told (Err starved) turn = Untold

-- this is told behind what was written before, unless memory ran out for that
abbrev pub IsToldAs : Turn → List ℕ → List ℕ → List ℕ → Answered → Type 0
IsToldAs turn out before after answered = (answered ≡ Untold) ⊎ ((answered ≡ Told turn) × (after ≡ before ++ out))

-- why an event was not done is told where the node refuses it
abbrev pub IsFaultTold : ℕ → ApplyFault → List ℕ → List ℕ → Answered → Type 0
IsFaultTold number (apply.Store fault) before after answered = answered ≡ Declined fault
IsFaultTold number (apply.Core fault) before after answered = IsToldAs Refused (refused_line number None fault) before after answered
IsFaultTold number apply.Memory before after answered = answered ≡ Starved

-- What became of the event of a line: it is told behind what was written before; memory ran out for telling it; or it
-- was not done, for want of memory or because the keeper did not take its changes.
abbrev pub IsAnswered : {K : Type 0} → Keeper K → Running K → ℕ → List ℕ → List ℕ → List ℕ → Answered → Running K → Type 0
IsAnswered keeper now number line before after (Told turn) next = (out : List ℕ) × (after ≡ before ++ out) × LineTurn keeper now number line turn out next
IsAnswered keeper now number line before after Untold next = (turn : Turn) × (out : List ℕ) × LineTurn keeper now number line turn out next
IsAnswered keeper now number line before after Starved next = next ≡ now
IsAnswered keeper now number line before after (Declined fault) next = LosesLine keeper now number line (Store fault) next.node.keep

-- ---- the parts of a line of several events

abbrev pub turn_of : Bool → Turn
turn_of true = Taken
turn_of false = Refused

-- how the line is answered whose events before were answered so, and one more was taken or not
abbrev pub turn_behind : Turn → Bool → Turn
turn_behind turn true = turn
turn_behind turn false = Refused

-- why the node refused the event at one place stands behind what was written before; want of memory is not told
abbrev pub TellsRefusal : ℕ → ℕ → StepFault → List ℕ → List ℕ → Type 0
TellsRefusal number place (step.Core fault) before after = after ≡ before ++ refused_line number (Some place) fault
TellsRefusal number place step.Memory before after = ⊥

-- the event at one place was carried out in memory, and what became of it stands behind what was written before
pub record DoesPlaced {K : Type 0} (party : List ℕ) (old : Pending K) (number place : ℕ) (read : Read NodeEvent) (taken : Bool)
    (before after : List ℕ) (new : Pending K) : Type 0 where
  pub did : List Deed
  pub out : List ℕ
  pub is : PlacedTurn party old.state number (Some place) read (turn_of taken) out did new.state
  pub gathers : new.changes ≡ old.changes ++ changes_of_each did
  pub written : after ≡ before ++ out

-- and so were all
pub record DoesAll {K : Type 0} (party : List ℕ) (old : Pending K) (number : ℕ) (events : List (Read NodeEvent)) (turn : Turn)
    (before after : List ℕ) (new : Pending K) : Type 0 where
  pub did : List Deed
  pub out : List ℕ
  pub carries : CarriesOut party old.state number events turn out did new.state
  pub gathers : new.changes ≡ old.changes ++ changes_of_each did
  pub written : after ≡ before ++ out

-- the changes were committed, and the lines are written behind what was written before
pub record CommitsAll {K : Type 0} (keeper : Keeper K) (party : List ℕ) (number : ℕ) (p : Pending K) (turn : Turn) (lines before after : List ℕ)
    (next : Running K) (answered : Turn) : Type 0 where
  pub answers : answered ≡ turn
  pub written : after ≡ before ++ lines
  pub party_is : next.party ≡ party
  pub state : next.node.state ≡ p.state
  pub commits : Commits keeper (Some number) p.changes p.keep next.node.keep

-- they were not, since the keeper did not take them
pub record IsDeclinedFor {K : Type 0} (keeper : Keeper K) (number : ℕ) (p : Pending K) (stop : NodeStop) (keep : K) : Type 0 where
  pub fault : StoreFault
  pub told : stop ≡ Store fault
  pub some : p.changes ≢ []
  pub is : IsCommitFault fault
  pub declines : Declines keeper (Some number) p.changes (counted_fault fault) p.keep keep

-- or for want of memory before the keeper was asked; and nothing is written
pub record CommitsNone {K : Type 0} (keeper : Keeper K) (number : ℕ) (p : Pending K) (before after : List ℕ) (stop : NodeStop) (keep : K) : Type 0 where
  pub written : after ≡ before
  pub why : ((stop ≡ Memory) × (keep ≡ p.keep)) ⊎ IsDeclinedFor keeper number p stop keep

abbrev pub IsCommitted : {K : Type 0} → Keeper K → List ℕ → ℕ → Pending K → Turn → List ℕ → List ℕ → List ℕ → After K → Type 0
IsCommitted keeper party number p turn lines before after (Runs next answered) = CommitsAll keeper party number p turn lines before after next answered
IsCommitted keeper party number p turn lines before after (Lost keep stop) = CommitsNone keeper number p before after stop keep
