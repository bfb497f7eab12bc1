-- What runs of the program `node` with an echo print, by what its contract says of each: over what a store has, a run
-- prints what `Printed` says, and leaves what the next is opened over.
use Rattle.std.specs.Prelude.{◌≡◌, ℕ, true, List, [], ◌∷◌, ◌++◌, Option, None, Some, IfSome, take}
use Rattle.std.specs.FinMap.{empty}
use Rattle.std.specs.Str.Lines.{lines}
use Rattle.line_runs.specs.Numbered.{IsNumberedBegun, IsNumberedRun}
use Rattle.line_runs.specs.declared.outcome.Ran.{Ran}
use Rattle.node_keepers.specs.Opening.{Source}
use Rattle.node_runs.specs.NodeAnswers.{NodeEndGives, NodeLineGives}
use Rattle.node_runs.specs.NodeHistories.{IsLeftBy}
use Rattle.node_runs.specs.NodeOutputs.{NodeBegins, NodeOutputs, asked_for}
use Rattle.node_runs.specs.NodeTurns.{Stage, keep_in, opening}
use Rattle.node_runs.specs.declared.fault.NodeStop.{NodeStop}
use Rattle.node_store.specs.Contents.{Content, line_of, rows_of}
use Rattle.ocpi_types.specs.declared.rows.Row.{Row}
use Rattle.stored_nodes.specs.Keepers.{Keeper}
use Rattle.replays.specs.Cutting.{HasNoEmptyLine}
use Rattle.replays.specs.Happenings.{Happening}
use Rattle.replays.specs.LineTurns.{Held, Lists, Store, held_in, nothing_held}
use Rattle.replays.specs.Printed.{ArePrinted, Prints}
use Rattle.replays.specs.Reading.{IsOther}
use Rattle.replays.specs.Transcripts.{PrintedBy}

-- ---- what a store has

-- the content is read as those rows, and as that number of the last line that took hold
pub record Has (c : Content) (held : Held) : Type 0 where
  pub rows : List Row
  pub read : rows_of c ≡ Some rows
  pub lists : Lists held.kept rows
  pub line : line_of c ≡ Some held.line

-- ---- a run

-- How a run over these lines ended, by the text that it wrote and the stage that it left: its input ended, or a line ended
-- it; or it was stopped, by a failure of reading or writing or from outside; or that came before its two line feeds were
-- whole.
pub data Ended {K : Type 0} (keeper : Keeper K) (source : Source K) (first : Stage K) (all : List (List ℕ)) : List ℕ → Stage K → Type 0 where
  Went : {ran : Ran} {out : List ℕ} {last : Stage K} → IsNumberedRun (NodeLineGives keeper source) NodeEndGives true first all ran out last → Ended keeper source first all (10 ∷ 10 ∷ out) last
  Stopped : {out : List ℕ} {last : Stage K} → IsNumberedBegun (NodeLineGives keeper source) NodeEndGives true first all out last → Ended keeper source first all (10 ∷ 10 ∷ out) last
  AtOnce : (n : ℕ) → Ended keeper source first all (take n (10 ∷ 10 ∷ [])) first

-- A run for that party, or for a word that spells none, wrote that text with an echo, whatever was fed. `kept` is the
-- keeper as the run left it, where one was opened, and that is honest.
pub record Wrote {K : Type 0} (keeper : Keeper K) (source : Source K) (wanted text : List ℕ) (kept : Option K) : Type 0 where
  pub word : List ℕ
  pub asked : (party : List ℕ) → asked_for word ≡ Some party → party ≡ wanted
  pub places : List ℕ
  pub input : List ℕ
  pub last : Stage K
  pub ended : Ended keeper source (opening (asked_for word) places) (lines input) text last
  pub left : keep_in last.running last.spare ≡ kept
  pub honest : IfSome kept keeper.is_honest

-- What the contract of `run_node` says of what was written with an echo: it is such a run. One that is killed has
-- written, and leaves, what one does that is stopped so.
pub record IsOfContract {K : Type 0} (keeper : Keeper K) (source : Source K) : Type 0 where
  pub went : (wanted places word input before : List ℕ) (ran : Ran) (stop : Option NodeStop) (new : Option (List ℕ)) (kept : Option K)
      → ((party : List ℕ) → asked_for word ≡ Some party → party ≡ wanted) → IfSome kept keeper.is_honest
      → NodeOutputs keeper source places word true (Some input) ran stop (Some before) new kept
      → (text : List ℕ) × ((new ≡ Some (before ++ text)) × Wrote keeper source wanted text kept)
  pub stopped : (wanted places word input before : List ℕ) (new : Option (List ℕ)) (kept : Option K)
      → ((party : List ℕ) → asked_for word ≡ Some party → party ≡ wanted) → IfSome kept keeper.is_honest
      → NodeBegins keeper source places word true (Some input) (Some before) new kept
      → (text : List ℕ) × ((new ≡ Some (before ++ text)) × Wrote keeper source wanted text kept)

-- ---- what it printed

-- what a run prints in all, of which it may have been stopped behind none or one of its two line feeds
pub data PrintsAll (wanted : List ℕ) (found : Held) : List ℕ → List Happening → Held → Type 0 where
  Nothing : PrintsAll wanted found [] [] found
  OneFeed : PrintsAll wanted found (10 ∷ []) [] found
  Both : {text : List ℕ} {told : List Happening} {left : Held} → Prints wanted found text told left → HasNoEmptyLine text
      → PrintsAll wanted found (10 ∷ 10 ∷ text) told left

-- Over that content the text is printed, and the next is left: whatever the one has, the other has what is left of it.
abbrev pub IsRun : List ℕ → Content → List ℕ → Content → Type 0
IsRun wanted c text next = (held : Held) → Has c held → (told : List Happening) × ((left : Held) × (PrintsAll wanted held text told left × Has next left))

-- the keeper that was opened, where one was, had that content
abbrev pub HadContent : {K : Type 0} → Keeper K → Option K → Content → Type 0
HadContent keeper opened c = IfSome opened (λ k. keeper.is_honest k → keeper.content k ≡ c)

-- what the store may have behind the run: what the keeper keeps, or what a stop leaves of it; where none was opened,
-- what it had
abbrev pub MayLeave : {K : Type 0} → Keeper K → Content → Option K → Content → Type 0
MayLeave keeper c None next = next ≡ c
MayLeave keeper c (Some k) next = IsLeftBy keeper k next

-- What a run wrote is printed over what its keeper had as that was opened.
pub record OutputsArePrinted {K : Type 0} (keeper : Keeper K) (source : Source K) : Type 0 where
  pub contract : IsOfContract keeper source
  pub printed : (wanted text : List ℕ) (kept : Option K) → Wrote keeper source wanted text kept
      → (opened : Option K) × (IfSome opened (source.found 1)
      × ((c next : Content) → HadContent keeper opened c → MayLeave keeper c kept next → IsRun wanted c text next))

-- ---- runs over one store, one behind the other

-- each over what the one before left
pub data AreRuns (wanted : List ℕ) : Content → List ℕ → Type 0 where
  no_run : {c : Content} → AreRuns wanted c []
  one_run : {c next : Content} {text rest : List ℕ} → IsRun wanted c text next → AreRuns wanted next rest → AreRuns wanted c (text ++ rest)

-- What they print is told as a history, and a file of it is one of a node that is none of earlier ones.
pub record ArePrintedRuns (wanted : List ℕ) (start : Store) (text : List ℕ) : Type 0 where
  pub told : List Happening
  pub printed : ArePrinted wanted (held_in start) text told
  pub by : (earlier : List (List ℕ)) → IsOther earlier wanted → PrintedBy earlier start text told

-- So it is of all runs over one store. A new one has no rows, and no line took hold in it.
pub record RunsArePrinted : Type 0 where
  pub new_store : Has empty (held_in nothing_held)
  pub printed : (wanted : List ℕ) (c : Content) (text : List ℕ) (start : Store) → Has c (held_in start) → AreRuns wanted c text → ArePrintedRuns wanted start text
