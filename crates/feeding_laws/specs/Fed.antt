-- Runs of the command `node` that are fed lines by their numbers: what each leaves in its store, and what it writes.
use Rattle.std.specs.Prelude.{◌≡◌, ◌≤◌, ℕ, suc, ◌+◌, Bool, List, [], ◌∷◌, ◌++◌, Option, None, Some, Ok, Err, Contains, length, take}
use Rattle.std.specs.Str.Lines.{lines as lines_of}
use Rattle.json_text.specs.declared.fault.JsonFault.{JsonFault}
use Rattle.line_runs.specs.Numbered.{echo_of}
use Rattle.line_runs.specs.declared.outcome.Ran.{Ran as How}
use Rattle.node_keepers.specs.Opening.{Source}
use Rattle.node_lines.specs.NodeLines.{node_line_in}
use Rattle.node_rows.specs.Holds.{HoldsRows}
use Rattle.node_runs.specs.DoneLines.{malformed_line, opened_line, refused_line}
use Rattle.node_runs.specs.NodeHistories.{IsLeftBy, some_lines}
use Rattle.node_runs.specs.NodeOutputs.{NodeBegins, NodeOutputs, asked_for, begin_bytes}
use Rattle.node_runs.specs.NodeTurns.{IsMember}
use Rattle.node_runs.specs.NumberedRuns.{Takes}
use Rattle.node_runs.specs.SetupLines.{numbered_setup_in}
use Rattle.node_runs.specs.declared.fault.NodeStop.{NodeStop}
use Rattle.node_steps.specs.declared.fault.NodeFault.TheVariants.{NumbersUsedUp}
use Rattle.node_store.specs.Contents.{Content, line_of}
use Rattle.ocpi_text.specs.Whole.{max_whole}
use Rattle.ocpi_types.specs.declared.setup.Node.{Node}
use Rattle.stored_laws.specs.Nodes.{CanStartAgain}
use Rattle.stored_nodes.specs.Keepers.{Keeper}
use Rattle.world_steps.specs.Steps.{NodeEvent as Deed}
use Rattle.world_steps.specs.World.{NodeState}
use Rattle.feeding_laws.specs.Feeding.{AreBehind, AreRuns, Held, IsExact, Ran, all_did, did_in}

-- ---- what is fed

-- The last line of an input counts without its line feed. So where its feeder stopped within a line, a beginning of
-- that stands there: it is read as the line is, or is no line.
pub data IsPart (line part : List ℕ) : Type 0 where
  Same : node_line_in part ≡ node_line_in line → IsPart line part
  No_line : (fault : JsonFault) → node_line_in part ≡ Err fault → IsPart line part

-- nothing of that line, or a beginning of it
pub data IsCut (line : List ℕ) : List (List ℕ) → Type 0 where
  Between : IsCut line []
  Within : (part : List ℕ) → IsPart line part → IsCut line (part ∷ [])

-- The lines of an input that hold something: none; or a beginning of the setup, which is none; or the setup, which
-- tells that number, and then lines that stand behind the one of that number, up to the one of the number `most`, and
-- maybe a beginning of the next.
pub data IsFed (setup : List Node) (lines : ℕ → List ℕ) (base most : ℕ) (all : List (List ℕ)) : Type 0 where
  Nothing : some_lines all ≡ [] → IsFed setup lines base most all
  No_setup : (part : List ℕ) (fault : JsonFault) → some_lines all ≡ part ∷ [] → numbered_setup_in part ≡ Err fault → IsFed setup lines base most all
  By_number : (first : List ℕ) (fed cut : List (List ℕ)) → some_lines all ≡ first ∷ (fed ++ cut) → numbered_setup_in first ≡ Ok (setup, Some base) → AreBehind lines base fed
      → most ≡ base + length fed → IsCut (lines (suc most)) cut → IsFed setup lines base most all

-- A run ended as `run_node` says: by the end of its input or by the node; or by reading or writing.
pub data Ended {K : Type 0} (keeper : Keeper K) (source : Source K) (opened word : List ℕ) (echo : Bool) (text old new : Option (List ℕ)) (kept : Option K) : Type 0 where
  Went : (how : How) (stop : Option NodeStop) → NodeOutputs keeper source opened word echo text how stop old new kept
      → Ended keeper source opened word echo text old new kept
  Broke : NodeBegins keeper source opened word echo text old new kept → Ended keeper source opened word echo text old new kept

-- ---- what is written

-- What a run writes of one thing, with an echo or without. (With one, any line may be one of its input. So of what a node
-- did this says something where a run has none.) What became of a line behind the setup is told with its number. That is at most
-- `last`, or above `most`, where no line was fed to its end; so of no other line a `done` was seen. Whatever the node did
-- for it, of which the packets there tell, is among what is `done`.
pub data IsPiece (echo : Bool) (done : List Deed) (last most : ℕ) : List ℕ → Type 0 where
  Beginning : IsPiece echo done last most (begin_bytes echo)
  Echo : (line : List ℕ) → IsPiece echo done last most (echo_of echo line)
  NoSetup : (number : ℕ) → number ≤ 1 → (fault : JsonFault) → IsPiece echo done last most (malformed_line number None fault)
  Opening : (number : ℕ) (party : List ℕ) (rows serial : ℕ) → IsPiece echo done last most (opened_line number party rows serial)
  Answer : (party : List ℕ) (known number : ℕ) (line : List ℕ) (now next : NodeState) (out : List ℕ) (did : List Deed) → (number ≤ most → number ≤ last)
      → ((x : Deed) → Contains did x → Contains done x) → Takes party known number line now out did next → IsPiece echo done last most out
  Beyond : (max_whole ≤ most → max_whole ≤ last) → IsPiece echo done last most (refused_line max_whole None NumbersUsedUp)

-- a text is of such pieces, each whole or a beginning of it
pub data TellsTo (echo : Bool) (done : List Deed) (last most : ℕ) : List ℕ → Type 0 where
  nothing_told : TellsTo echo done last most []
  piece_told : {text piece : List ℕ} → TellsTo echo done last most text → IsPiece echo done last most piece → (n : ℕ) → TellsTo echo done last most (text ++ take n piece)

-- ---- what is left

-- what is kept are the rows of that node, which can start again, and that number
pub record Holds (c : Content) (h : Held) : Type 0 where
  pub starts : CanStartAgain h.state
  pub rows : HoldsRows c h.state
  pub line : line_of c ≡ Some h.line

-- The content is what such a run leaves that answered these lines, and did this for them.
pub record IsLeft (setup : List Node) (member : Node) (lines : ℕ → List ℕ) (found : Held) (base : ℕ) (read : List (List ℕ)) (done : List Deed) (c : Content) : Type 0 where
  pub changed : List ℕ
  pub left : Held
  pub holds : Holds c left
  pub ran : Ran setup member lines found base read changed left
  pub did : did_in ran ≡ done

-- A run over a store, by its keeper as it was opened and as it was left. Whatever rows of a node the store had, under
-- whatever setup it had run, and whatever number, what it has at the end, or what a stop leaves of that, is what a run
-- leaves that answered these lines, and did for them what is `done`. What it wrote tells of nothing else that a node did,
-- and of no line behind them that was fed to its end.
pub record FedRun {K : Type 0} (keeper : Keeper K) (source : Source K) (setup : List Node) (member : Node) (lines : ℕ → List ℕ) (base most : ℕ) (echo : Bool) (text : List ℕ) (kept : K) : Type 0 where
  pub fresh : K
  pub found : source.found 1 fresh
  pub earlier : keeper.is_honest kept → keeper.is_honest fresh
  pub read : List (List ℕ)
  pub done : List Deed
  pub tells : TellsTo echo done (base + length read) most text
  pub leaves : keeper.is_honest kept → (held : Held) → Holds (keeper.content fresh) held → (c : Content) → IsLeftBy keeper kept c
      → IsLeft setup member lines held base read done c

-- the same of any run: where no keeper was opened, no line was answered
pub data WasFed {K : Type 0} (keeper : Keeper K) (source : Source K) (setup : List Node) (member : Node) (lines : ℕ → List ℕ) (base most : ℕ) (echo : Bool) (text : List ℕ) : Option K → Type 0 where
  Unopened : TellsTo echo [] base most text → WasFed keeper source setup member lines base most echo text None
  Opened : (kept : K) → FedRun keeper source setup member lines base most echo text kept → WasFed keeper source setup member lines base most echo text (Some kept)

-- So it is of each run of `run_node` that is fed so, wherever it ended. (What a reader has, and what a writer holds, is
-- known where these tell it.)
abbrev pub RunsAreFed : {K : Type 0} → Keeper K → Source K → Type 0
RunsAreFed {K} keeper source =
    (setup : List Node) (member : Node) (lines : ℕ → List ℕ) (base most : ℕ) (opened word : List ℕ) (echo : Bool) (input before : List ℕ) (new : Option (List ℕ)) (kept : Option K)
    → IsMember setup (asked_for word) member → IsFed setup lines base most (lines_of input) → Ended keeper source opened word echo (Some input) (Some before) new kept
    → (text : List ℕ) × (new ≡ Some (before ++ text)) × WasFed keeper source setup member lines base most echo text kept

-- ---- runs one after another

-- Runs of a node over one store, each under one of these setups, as that member of it, and over what the one before
-- left: what its keeper kept at the end, or what a stop left of that. The first is told 1; each other is told at most
-- the number of the last line that the one before answered.
pub data AreFedRuns {K : Type 0} (keeper : Keeper K) (source : Source K) (setups : List (List Node × Node)) (lines : ℕ → List ℕ) (first : Content) : ℕ → Content → Type 0 where
  none_fed : AreFedRuns keeper source setups lines first 1 first
  one_fed : {seen base most : ℕ} {before after : Content} {echo : Bool} {text : List ℕ} {kept : K} (setup : List Node) (member : Node) → Contains setups (setup, member)
      → AreFedRuns keeper source setups lines first seen before → 1 ≤ base → base ≤ seen → (run : FedRun keeper source setup member lines base most echo text kept)
      → keeper.is_honest kept → keeper.content run.fresh ≡ before → IsLeftBy keeper kept after → AreFedRuns keeper source setups lines first (base + length run.read) after
  one_unopened : {seen base : ℕ} {before : Content} (setup : List Node) (member : Node) → Contains setups (setup, member)
      → AreFedRuns keeper source setups lines first seen before → 1 ≤ base → base ≤ seen → AreFedRuns keeper source setups lines first base before

-- what the node did for the lines that the runs answered, of which alone they wrote
abbrev pub told_in : {K : Type 0} {keeper : Keeper K} {source : Source K} {setups : List (List Node × Node)} {lines : ℕ → List ℕ} {first : Content} {seen : ℕ} {last : Content}
    → AreFedRuns keeper source setups lines first seen last → List Deed
told_in none_fed = []
told_in (one_fed setup member of_them runs some within run honest same over) = told_in runs ++ run.done
told_in (one_unopened setup member of_them runs some within) = told_in runs

-- what is kept at the end is exact
pub record AreExact (setups : List (List Node × Node)) (lines : ℕ → List ℕ) (first : Held) (seen : ℕ) (c : Content) : Type 0 where
  pub changed : List ℕ
  pub left : Held
  pub holds : Holds c left
  pub exact : IsExact setups lines first seen changed left

-- so it is of each node whose store had no line at first
abbrev pub FedRunsAreExact : {K : Type 0} → Keeper K → Source K → Type 0
FedRunsAreExact {K} keeper source =
    (setups : List (List Node × Node)) (lines : ℕ → List ℕ) (first last : Content) (held : Held) (seen : ℕ) → Holds first held → held.line ≡ 1
    → AreFedRuns keeper source setups lines first seen last → AreExact setups lines held seen last

-- They are runs of one node, and that is what it did in them.
pub record AreTold {K : Type 0} {keeper : Keeper K} {source : Source K} {setups : List (List Node × Node)} {lines : ℕ → List ℕ} {first last : Content} {seen : ℕ} (held : Held)
    (fed : AreFedRuns keeper source setups lines first seen last) : Type 0 where
  pub changed : List ℕ
  pub left : Held
  pub holds : Holds last left
  pub runs : AreRuns setups lines held seen changed left
  pub told : all_did runs ≡ told_in fed

-- so it is whatever rows of a node the store had at first
abbrev pub FedRunsAreTold : {K : Type 0} → Keeper K → Source K → Type 0
FedRunsAreTold {K} keeper source =
    (setups : List (List Node × Node)) (lines : ℕ → List ℕ) (first last : Content) (held : Held) (seen : ℕ) → Holds first held
    → (fed : AreFedRuns keeper source setups lines first seen last) → AreTold held fed
