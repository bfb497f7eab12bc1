-- What the program `node` gives for each line that it reads, and at the end of its input.
use Rattle.std.specs.Prelude.{◌≡◌, ◌≢◌, ◌≤◌, ℕ, suc, List, [], Option, None, Some}
use Rattle.ocpi_text.specs.Whole.{max_whole}
use Rattle.json_text.specs.declared.fault.JsonFault.TheVariants.{Syntax}
use Rattle.line_runs.specs.declared.outcome.Ran.{Ran}
use Rattle.line_runs.specs.declared.outcome.Ran.TheVariants.{Whole, WithRefusals}
use Rattle.line_runs.specs.declared.run.Turn.{Turn}
use Rattle.line_runs.specs.declared.run.Turn.TheVariants.{Ended, Refused, Taken}
use Rattle.node_keepers.specs.Opening.{Source}
use Rattle.node_steps.specs.declared.fault.NodeFault.TheVariants.{NumbersUsedUp}
use Rattle.node_store.specs.Faults.{IsCommitFault, counted_fault}
use Rattle.node_store.specs.declared.fault.StoreFault.{StoreFault}
use Rattle.stored_nodes.specs.Keepers.{Commits, Declines, Keeper}
use Rattle.stored_nodes.specs.Stored.{IsStored}
use Rattle.stored_nodes.specs.Transactions.{changes_of_each}
use Rattle.world_steps.specs.Steps.{NodeEvent as Deed}
use Rattle.world_steps.specs.World.{NodeState}
use Rattle.node_runs.specs.DoneLines.{known_line, malformed_line, refused_line}
use Rattle.node_runs.specs.LineAnswers.{Answers}
use Rattle.node_runs.specs.NodeTurns.{Running, SetupTurn, Stage}
use Rattle.node_runs.specs.declared.fault.NodeStop.{NodeStop}
use Rattle.node_runs.specs.declared.fault.NodeStop.TheVariants.{Memory, Store}

-- ---- each line behind the setup that is read

-- A line behind which the node runs on. What it changed was committed at once with its number, or nothing was changed and
-- the keeper was not asked; and then what became of it is written.
pub record LineTurn {K : Type 0} (keeper : Keeper K) (now : Running K) (number : ℕ) (line : List ℕ)
    (turn : Turn) (out : List ℕ) (next : Running K) : Type 0 where
  pub did : List Deed
  pub answers : Answers now.party now.node.state number line turn out did next.node.state
  pub commits : Commits keeper (Some number) (changes_of_each did) now.node.keep next.node.keep
  pub party : next.party ≡ now.party

-- Of a line nothing is written, and the node has ended. This is why, and its keeper then.
pub data LosesLine {K : Type 0} (keeper : Keeper K) (now : Running K) (number : ℕ) (line : List ℕ) (stop : NodeStop) (keep : K) : Type 0 where
  -- memory ran out for it before the keeper was asked
  WasStarved : stop ≡ Memory → keep ≡ now.node.keep → LosesLine keeper now number line stop keep
  -- it was carried out, and what it changed was committed; memory ran out for what was to be written
  WasUntold : (turn : Turn) (out : List ℕ) (next : Running K) → LineTurn keeper now number line turn out next → IsStored keeper next.node
      → stop ≡ Memory → keep ≡ next.node.keep → LosesLine keeper now number line stop keep
  -- the keeper did not take what it changes, whatever the fault of its commit
  WasDeclined : (turn : Turn) (out : List ℕ) (did : List Deed) (after : NodeState) → Answers now.party now.node.state number line turn out did after
      → changes_of_each did ≢ [] → (fault : StoreFault) → IsCommitFault fault → Declines keeper (Some number) (changes_of_each did) (counted_fault fault) now.node.keep keep
      → stop ≡ Store fault → LosesLine keeper now number line stop keep

-- ---- each line behind the setup, by its number

-- the node runs on, and what else is left of the stage is as before, but for the number
abbrev pub next_stage : {K : Type 0} → Stage K → Running K → ℕ → Stage K
next_stage s next number = record { wanted = s.wanted; opened = s.opened; running = Some next; spare = s.spare; stop = s.stop; number = number; known = s.known }

-- the node has ended, for this reason; what is left is its keeper
abbrev pub lost_stage : {K : Type 0} → Stage K → K → NodeStop → ℕ → Stage K
lost_stage s keep stop number = record { wanted = s.wanted; opened = s.opened; running = None; spare = Some keep; stop = Some stop; number = number; known = s.known }

-- What becomes of the line of the next number. One that had taken hold before the run is not read, and neither is one
-- behind the last number that there is. So where the node ends at such a line, nothing was carried out.
pub data BehindTurn {K : Type 0} (keeper : Keeper K) (now : Running K) (s : Stage K) (line : List ℕ) (turn : Turn) (out : List ℕ) (t : Stage K) : Type 0 where
  WasKnown : suc s.number ≤ s.known → turn ≡ Taken → out ≡ known_line (suc s.number) → t ≡ next_stage s now (suc s.number)
      → BehindTurn keeper now s line turn out t
  WasBeyond : s.number ≡ max_whole → turn ≡ Refused → out ≡ refused_line max_whole None NumbersUsedUp → t ≡ next_stage s now max_whole
      → BehindTurn keeper now s line turn out t
  GoesOn : suc s.known ≤ suc s.number → suc s.number ≤ max_whole → (next : Running K) → LineTurn keeper now (suc s.number) line turn out next
      → t ≡ next_stage s next (suc s.number) → BehindTurn keeper now s line turn out t
  Ends : (stop : NodeStop) (keep : K) → LosesLine keeper now (suc s.number) line stop keep → (suc s.number ≤ s.known → (stop ≡ Memory) × (keep ≡ now.node.keep))
      → IsStored keeper now.node → (number : ℕ)
      → turn ≡ Ended → out ≡ [] → t ≡ lost_stage s keep stop number → BehindTurn keeper now s line turn out t

-- ---- any line

-- one line, with no node before the first
abbrev pub NodeTurn : {K : Type 0} → Keeper K → Source K → Option (Running K) → Stage K → List ℕ → Turn → List ℕ → Stage K → Type 0
NodeTurn keeper source None s line turn out next = SetupTurn keeper source s line turn out next
NodeTurn keeper source (Some now) s line turn out next = BehindTurn keeper now s line turn out next

-- Lines are counted by the stage, and not by their place among those of the run.
abbrev pub NodeLineGives : {K : Type 0} → Keeper K → Source K → Stage K → ℕ → List ℕ → Turn → List ℕ → Stage K → Type 0
NodeLineGives keeper source s place line turn out next = NodeTurn keeper source s.running s line turn out next

-- ---- the end

-- An input with no line is refused as one with a line that is no JSON. Otherwise nothing is written at the end.
abbrev pub NodeEnd : {K : Type 0} → Option (Running K) → Ran → List ℕ → Type 0
NodeEnd None ran out = (ran ≡ WithRefusals) × (out ≡ malformed_line 0 None Syntax)
NodeEnd (Some now) ran out = (ran ≡ Whole) × (out ≡ [])

abbrev pub NodeEndGives : {K : Type 0} → Stage K → Ran → List ℕ → Type 0
NodeEndGives s ran out = NodeEnd s.running ran out
