-- The history that a transcript tells: the runs that were opened, and the events that were entered in them.
use Rattle.std.specs.Prelude.{◌≡◌, ℕ, List, [], ◌∷◌, ◌++◌, Option, None, Some, length, slice_get}
use Rattle.histories.specs.declared.entry.Entry.{Entry}
use Rattle.json_text.specs.Fault.{Read}
use Rattle.line_runs.specs.declared.run.Turn.{Turn}
use Rattle.node_lines.specs.ElementTexts.{AreElementsOf}
use Rattle.node_replay.specs.Replayed.{restart_entry}
use Rattle.node_runs.specs.LineAnswers as answer
use Rattle.node_runs.specs.LineAnswers.{Answers, AreDone, PlacedTurn}
use Rattle.ocpi_types.specs.declared.node_events.NodeEvent.{NodeEvent}
use Rattle.ocpi_types.specs.declared.setup.Node.{Node}
use Rattle.world_steps.specs.Steps.{NodeEvent as Deed, packets_of}
use Rattle.world_steps.specs.World.{NodeState}

-- ---- what of a line is entered

-- an event that was stepped or idle, with its packets, and its place in a line of several
pub record Placed : Type 0 where
  pub place : Option ℕ
  pub entry : Entry

-- of an event that one was read as: that it was done, or that its storing was refused; else nothing
abbrev pub entries_of_turn : {party : List ℕ} {now : NodeState} {number : ℕ} {place : Option ℕ} {read : Read NodeEvent} {turn : Turn} {out : List ℕ} {did : List Deed} {next : NodeState}
    → PlacedTurn party now number place read turn out did next → List Placed
entries_of_turn {place = place} (answer.WasDone x own deed brings step changed tells taken out did) =
    record { place = place; entry = record { event = x.kind; packets = packets_of deed } } ∷ []
entries_of_turn {place = place} (answer.WasUnstored x own unstored taken out did next) = record { place = place; entry = record { event = x.kind; packets = [] } } ∷ []
entries_of_turn (answer.IsElsewhere x read other taken out did next) = []
entries_of_turn (answer.IsOfOtherRole x own stored nothing taken out did next) = []
entries_of_turn (answer.IsMalformed fault read other refused out did next) = []
entries_of_turn (answer.IsRefused x own input brings fault refuses other refused out did next) = []

abbrev pub entries_of_done : {party : List ℕ} {first : NodeState} {number : ℕ} {events : List (Read NodeEvent)} {turn : Turn} {out : List ℕ} {did : List Deed} {next : NodeState}
    → AreDone party first number events turn out did next → List Placed
entries_of_done answer.none_done = []
entries_of_done (answer.one_taken before turns) = entries_of_done before ++ entries_of_turn turns
entries_of_done (answer.one_refused before turns) = entries_of_done before ++ entries_of_turn turns

-- those of its events, in their order
abbrev pub entries_of_line : {party : List ℕ} {now : NodeState} {number : ℕ} {line : List ℕ} {turn : Turn} {out : List ℕ} {did : List Deed} {next : NodeState}
    → Answers party now number line turn out did next → List Placed
entries_of_line (answer.OneEvent read is turns) = entries_of_turn turns
entries_of_line (answer.SeveralEvents events is carries) = entries_of_done carries.done

-- ---- a history

-- a run whose node was opened: its setup line, the setup, the node, how many rows it had, and the serial of the last
-- packet that it had sent
pub record OpenedRun : Type 0 where
  pub line : List ℕ
  pub setup : List Node
  pub member : Node
  pub rows : ℕ
  pub serial : ℕ

-- what a transcript tells, one after another: a run was opened, or an event was entered that came in that line
pub data Happening : Type 0 where
  Opened : OpenedRun → Happening
  Came : (line : List ℕ) → Placed → Happening

-- the events that were entered of a line
abbrev pub came_by : List ℕ → List Placed → List Happening
came_by line [] = []
came_by line (x ∷ xs) = Came line x ∷ came_by line xs

-- the runs
abbrev pub openings_in : List Happening → List OpenedRun
openings_in [] = []
openings_in (Opened o ∷ hs) = o ∷ openings_in hs
openings_in (Came line x ∷ hs) = openings_in hs

-- the entries behind an opening: each later one is a restart
abbrev pub entries_behind : List Happening → List Entry
entries_behind [] = []
entries_behind (Opened o ∷ hs) = restart_entry ∷ entries_behind hs
entries_behind (Came line x ∷ hs) = x.entry ∷ entries_behind hs

-- the entries of the node: all behind the first opening
abbrev pub entries_in : List Happening → List Entry
entries_in [] = []
entries_in (Opened o ∷ hs) = entries_behind hs
entries_in (Came line x ∷ hs) = x.entry ∷ entries_behind hs

-- the text at a place of a line: the line itself, or one of the elements of an array
abbrev pub IsTextAt : List ℕ → Option ℕ → List ℕ → Type 0
IsTextAt line None text = text ≡ line
IsTextAt line (Some place) text = (texts : List (List ℕ)) × AreElementsOf line texts × (slice_get texts place ≡ Some text)
