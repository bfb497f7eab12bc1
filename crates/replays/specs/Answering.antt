-- How a line is carried out, event by event, and what is entered of it.
use Rattle.std.specs.Prelude.{◌≡◌, ◌≢◌, ℕ, suc, List, [], ◌∷◌, ◌++◌, Bool, true, false, cond, Option, length}
use Rattle.histories.specs.declared.entry.Entry.{Entry}
use Rattle.json_text.specs.Fault.{Read}
use Rattle.line_runs.specs.declared.run.Turn.{Turn}
use Rattle.line_runs.specs.declared.run.Turn.TheVariants.{Refused, Taken}
use Rattle.node_replay.specs.declared.outcome.Replayed.{Replayed}
use Rattle.node_replay.specs.declared.outcome.Replayed.TheVariants.{Skipped, Stepped}
use Rattle.node_runs.specs.LineAnswers.{Answers, AreDone, PlacedTurn, step_line}
use Rattle.node_runs.specs.DoneLines.{all_line, skipped_line}
use Rattle.ocpi_types.specs.declared.node_events.NodeEvent.{NodeEvent}
use Rattle.program_lines.specs.Writing.{packet_lines}
use Rattle.stored_nodes.specs.Transactions.{changes_of_each}
use Rattle.world_steps.specs.Steps.{NodeEvent as Deed}
use Rattle.replays.specs.Happenings.{Happening, IsTextAt, Placed, came_by, entries_behind, entries_of_done, entries_of_line, entries_of_turn}
use Rattle.replays.specs.LineTurns.{Held, IsLeftBy, LineGives, Running, last_behind}
use Rattle.replays.specs.Reading.{Doubt, Doubts, Story}
use Rattle.replays.specs.Telling.{AreSourcesOf}
use Rattle.replays.specs.declared.answering.Happened.{Happened}
use Rattle.replays.specs.declared.answering.Running.{Running as RunningOf}
use Rattle.replays.specs.declared.cutting.EchoedLine.{EchoedLine}
use Rattle.replays.specs.declared.transcript.Source.{Source}
use Rattle.replays.specs.declared.transcript.Source.TheVariants.{Echoed}

-- a node that runs, but for the place of its run
abbrev pub shown : RunningOf → Running
shown r = record { party = r.party; state = r.node; known = r.known; last = r.last; number = r.number }

-- what is entered of a history, each with where it comes from, in the run of that place
pub record Enters (place : ℕ) (told : List Happening) (before after : Happened) : Type 0 where
  pub entries : after.entries.items ≡ before.entries.items ++ entries_behind told
  pub added : List Source
  pub sources : after.sources.items ≡ before.sources.items ++ added
  pub from : AreSourcesOf place told added

-- what a node's party, its numbers and the place of its run stay
pub record IsSameRun (before after : RunningOf) : Type 0 where
  pub party : after.party ≡ before.party
  pub known : after.known ≡ before.known
  pub number : after.number ≡ before.number
  pub opening : after.opening ≡ before.opening

-- how an event is answered
abbrev pub turn_of : Bool → Turn
turn_of true = Taken
turn_of false = Refused

-- An event at a place of the line of a number was carried out: what was read of it, what is written and what is entered.
pub record EventDone (before after : RunningOf) (number : ℕ) (place : Option ℕ) (read : Read NodeEvent) (element : List ℕ)
    (text_before text_after : List ℕ) (entered_before entered_after : Happened) : Type 0 where
  pub taken : Bool
  pub out : List ℕ
  pub did : List Deed
  pub turns : (party : List ℕ) → party ≡ before.party → PlacedTurn party before.node number place read (turn_of taken) out did after.node
  pub written : text_after ≡ text_before ++ out
  pub last : after.last ≡ last_behind (changes_of_each did) before.last number
  pub same : IsSameRun before after
  pub enters : (party : List ℕ) (is : party ≡ before.party) (line : List ℕ) → IsTextAt line place element
      → Enters (suc before.opening) (came_by line (entries_of_turn (turns party is))) entered_before entered_after

-- The first events of a line were.
pub record EventsDone (before after : RunningOf) (number : ℕ) (line : List ℕ) (reads : List (Read NodeEvent))
    (text_before text_after : List ℕ) (entered_before entered_after : Happened) : Type 0 where
  pub turn : Turn
  pub out : List ℕ
  pub did : List Deed
  pub done : AreDone before.party before.node number reads turn out did after.node
  pub written : text_after ≡ text_before ++ out
  pub last : after.last ≡ last_behind (changes_of_each did) before.last number
  pub same : IsSameRun before after
  pub enters : Enters (suc before.opening) (came_by line (entries_of_done done)) entered_before entered_after

-- A line was carried out: what is written, and what is entered.
pub record LineDone (before after : RunningOf) (line : List ℕ) (text : List ℕ) (entered_before entered_after : Happened) : Type 0 where
  pub entered : List Placed
  pub did : List Deed
  pub gives : LineGives (shown before) line text entered did (shown after)
  pub enters : Enters (suc before.opening) (came_by line entered) entered_before entered_after
  pub opening : after.opening ≡ before.opening

-- ---- within a line

-- a line of a number, which is read
pub record IsLineRead (before after : RunningOf) (number : ℕ) (line : List ℕ) (text : List ℕ) (entered_before entered_after : Happened) : Type 0 where
  pub turn : Turn
  pub out : List ℕ
  pub did : List Deed
  pub answers : Answers before.party before.node number line turn out did after.node
  pub written : text ≡ out
  pub last : after.last ≡ last_behind (changes_of_each did) before.last number
  pub same : IsSameRun before after
  pub enters : Enters (suc before.opening) (came_by line (entries_of_line answers)) entered_before entered_after

-- all events of a line of several, and behind them that all are done
pub record AreAllDone (before after : RunningOf) (number : ℕ) (line : List ℕ) (reads : List (Read NodeEvent)) (text : List ℕ) (entered_before entered_after : Happened) : Type 0 where
  pub lines : List ℕ
  pub done : EventsDone before after number line reads [] lines entered_before entered_after
  pub written : text ≡ lines ++ all_line number (length reads)

-- the last entry has its source, and what was sent for it is written
pub record IsStepTold (before after : RunningOf) (changed : Bool) (number : ℕ) (place : Option ℕ) (line : EchoedLine) (text_before text_after : List ℕ)
    (entered_before entered_after : Happened) : Type 0 where
  pub node : after.node ≡ before.node
  pub last : after.last ≡ cond changed number before.last
  pub same : IsSameRun before after
  pub entries : entered_after.entries ≡ entered_before.entries
  pub sources : entered_after.sources.items ≡ entered_before.sources.items ++ Echoed before.opening line ∷ []
  pub written : (entries : List Entry) (entry : Entry) → entered_before.entries.items ≡ entries ++ entry ∷ []
      → text_after ≡ text_before ++ (packet_lines entry.packets ++ step_line number place entry.packets changed)

-- what became of an event is told
abbrev pub IsReplayTold : Replayed → RunningOf → RunningOf → ℕ → Option ℕ → EchoedLine → List ℕ → List ℕ → Happened → Happened → Type 0
IsReplayTold Skipped before after number place line text_before text_after entered_before entered_after =
    (text_after ≡ text_before ++ skipped_line number place) × (after ≡ before) × (entered_after ≡ entered_before)
IsReplayTold (Stepped changed) before after number place line text_before text_after entered_before entered_after =
    IsStepTold before after changed number place line text_before text_after entered_before entered_after

-- ---- in a history

-- what a line made, where it took hold
pub record IsDoubtOf (now : RunningOf) (line : ℕ) (happened : Happened) (d : Doubt) : Type 0 where
  pub moved : now.last ≢ line
  pub left : IsLeftBy (shown now) d.held
  pub entries : d.entries ≡ happened.entries.items
  pub sources : d.sources ≡ happened.sources.items

-- what is told is as it was
pub record IsOtherwise (s t : Story) : Type 0 where
  pub openings : t.openings ≡ s.openings
  pub entries : t.entries ≡ s.entries
  pub sources : t.sources ≡ s.sources

-- a line was carried out, and what it entered is told
pub record IsEntered (before after : RunningOf) (line : List ℕ) (text : List ℕ) (s t : Story) : Type 0 where
  pub entered : List Placed
  pub did : List Deed
  pub gives : LineGives (shown before) line text entered did (shown after)
  pub opening : after.opening ≡ before.opening
  pub held : t.held ≡ s.held
  pub doubt : t.doubt ≡ s.doubt
  pub openings : t.openings ≡ s.openings
  pub entries : t.entries ≡ s.entries ++ entries_behind (came_by line entered)
  pub added : List Source
  pub sources : t.sources ≡ s.sources ++ added
  pub from : AreSourcesOf (suc before.opening) (came_by line entered) added

-- a run ended at a line of that node, which is in doubt where it would have taken hold
abbrev pub MayHaveTaken : RunningOf → Held → List ℕ → Option Doubt → Type 0
MayHaveTaken now held line doubt = held.line ≡ now.last → Doubts (shown now) line (suc now.opening) doubt
