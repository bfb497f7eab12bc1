-- What a run of one node writes, and what it leaves.
use Rattle.std.specs.Prelude.{◌≡◌, ◌∷◌, [], ℕ, Bool, List, Option, None, Some, Result, Ok, Err, cond, take}
use Rattle.std.specs.Io.KnownBytes.{Appends}
use Rattle.ocpi_text.specs.Party.{party_at}
use Rattle.ocpi_text.specs.declared.fault.TextFault.{TextFault}
use Rattle.line_runs.specs.Numbered.{NumberedBegins, NumberedOutputs, NumberedStops}
use Rattle.line_runs.specs.declared.outcome.Ran.{Ran}
use Rattle.line_runs.specs.declared.outcome.RunFault.{RunFault}
use Rattle.node_keepers.specs.Opening.{Source}
use Rattle.stored_nodes.specs.Keepers.{Keeper}
use Rattle.stored_nodes.specs.Stored.{IsStored}
use Rattle.node_runs.specs.NodeAnswers.{NodeEndGives, NodeLineGives}
use Rattle.node_runs.specs.NodeTurns.{Running, Stage, keep_in, opening}
use Rattle.node_runs.specs.declared.fault.NodeStop.{NodeStop}

abbrev pub found : Result (List ℕ) TextFault → Option (List ℕ)
found (Ok party) = Some party
found (Err fault) = None

-- the party that a word spells, where it spells one
abbrev pub asked_for : List ℕ → Option (List ℕ)
asked_for word = found (party_at word)

-- what an echo begins with: two line feeds, so that an empty line stands between two runs of a file, wherever the first
-- of them was stopped, and nowhere else
abbrev pub begin_bytes : Bool → List ℕ
begin_bytes echo = cond echo (10 ∷ 10 ∷ []) []

-- What the keeper of the node that runs keeps is the rows of the node, and a stop leaves that, or what one event more
-- would have made of it.
abbrev pub IsKept : {K : Type 0} → Keeper K → Option (Running K) → Type 0
IsKept keeper None = Unit {0}
IsKept keeper (Some now) = IsStored keeper now.node

-- Where a reader tells its bytes, and a writer what it holds: what was written is an output of the input. `opened` are
-- the places whose keepers were to be opened before. `stop` is why
-- the node did not begin or did not go on, where that ended the run. `kept` is the keeper as the lines that were
-- answered left it, where one was opened; where a node runs, it has just the rows of that. Where the node ended at a line
-- of several events, that line says what became of the keeper (`Ends`).
pub record NodeOutputs {K : Type 0} (keeper : Keeper K) (source : Source K) (opened : List ℕ) (word : List ℕ) (echo : Bool)
    (text : Option (List ℕ)) (ran : Ran) (stop : Option NodeStop) (old new : Option (List ℕ)) (kept : Option K) : Type 0 where
  pub begun : Option (List ℕ)
  pub begins : Appends old begun (begin_bytes echo)
  pub last : Stage K
  pub outputs : NumberedOutputs (NodeLineGives keeper source) NodeEndGives echo (opening (asked_for word) opened) text ran begun new last
  pub stopped_by : last.stop ≡ stop
  pub left : keep_in last.running last.spare ≡ kept
  pub stored : IsKept keeper last.running

-- this is so behind what an echo begins with
abbrev pub IsBehind : Bool → Option (List ℕ) → (Option (List ℕ) → Type 0) → Type 0
IsBehind echo old P = (begun : Option (List ℕ)) × Appends old begun (begin_bytes echo) × P begun

-- A run began to write so: a beginning of its two line feeds, before any line was read; or these, and then as this says.
pub data BeginsSo {S : Type 0} (Begins : Option (List ℕ) → Option (List ℕ) → S → Type 0) (first : S) (echo : Bool) (old new : Option (List ℕ)) (last : S) : Type 0 where
  Cut : (n : ℕ) → Appends old new (take n (begin_bytes echo)) → last ≡ first → BeginsSo Begins first echo old new last
  Whole : (begun : Option (List ℕ)) → Appends old begun (begin_bytes echo) → Begins begun new last → BeginsSo Begins first echo old new last

-- The same of a run that reading or writing stopped: what was written is a beginning of an output. The keeper is as the
-- lines that were answered left it; where the answer to one was not written whole, as that one left it.
pub record NodeBegins {K : Type 0} (keeper : Keeper K) (source : Source K) (opened : List ℕ) (word : List ℕ) (echo : Bool)
    (text old new : Option (List ℕ)) (kept : Option K) : Type 0 where
  pub last : Stage K
  pub begins : BeginsSo (NumberedBegins (NodeLineGives keeper source) NodeEndGives echo (opening (asked_for word) opened) text) (opening (asked_for word) opened) echo old new last
  pub left : keep_in last.running last.spare ≡ kept
  pub stored : IsKept keeper last.running

-- the same of one that reading stopped: what was written, and what the keeper keeps, is what exactly the lines that were
-- read whole give
pub record NodeStops {K : Type 0} (keeper : Keeper K) (source : Source K) (opened : List ℕ) (word : List ℕ) (echo : Bool) (fault : RunFault)
    (text rest old new : Option (List ℕ)) (kept : Option K) : Type 0 where
  pub begun : Option (List ℕ)
  pub begins : Appends old begun (begin_bytes echo)
  pub last : Stage K
  pub stops : NumberedStops (NodeLineGives keeper source) echo (opening (asked_for word) opened) fault text rest begun new last
  pub left : keep_in last.running last.spare ≡ kept
  pub stored : IsKept keeper last.running
