-- The lines of a woven run, and what they stand for.
use Rattle.std.specs.Prelude.{◌≡◌, ◌≢◌, ◌≤◌, ◌<◌, ◌⊎◌, ℕ, suc, List, [], ◌∷◌, ◌++◌, Contains, Ok, Some, flat_map, length, slice_get}
use Rattle.json_text.specs.Line.{max_line}
use Rattle.ocpi_json.specs.EventForms.{event_in}
use Rattle.ocpi_json.specs.NodeEventForms.{node_event_in}
use Rattle.ocpi_text.specs.Text.{key}
use Rattle.ocpi_types.specs.declared.events.Event.{Event}
use Rattle.ocpi_types.specs.declared.events.EventKind.TheVariants as kind
use Rattle.ocpi_types.specs.declared.node_events.NodeEvent.{NodeEvent}
use Rattle.ocpi_types.specs.declared.node_events.NodeEventKind.TheVariants as event
use Rattle.ocpi_types.specs.declared.packet.Packet.{Packet}
use Rattle.ocpi_types.specs.declared.setup.Node.{Node}
use Rattle.histories.specs.declared.entry.Entry.{Entry}
use Rattle.histories.specs.declared.history.NodeHistory.{NodeHistory}
use Rattle.histories.specs.Weaving.{Woven, event_of, kind_of}
use Rattle.node_replay.specs.Replayed.{restart_entry}
use Rattle.transcript_lines.specs.EventLines.{delivery_text, restart_text}
use Rattle.replays.specs.Transcripts.{Transcript, opening_of, party_opened, teller}
use Rattle.replays.specs.declared.transcript.Opening.{Opening}
use Rattle.replays.specs.declared.transcript.Source.{Source}
use Rattle.replays.specs.declared.transcript.Source.TheVariants as origin
use Rattle.weave.specs.Given.{IsFrom, WasBefore}
use Rattle.weave.specs.declared.turn.Turn.{Turn}
use Rattle.weave_runs.specs.Refusals.{spelled}

-- ---- one line

-- an entry, the node as the setup of its run spells it, the nodes of that setup, the setup lines before it, the line that
-- is written of it, and the event that the line tells
pub record Step : Type 0 where
  pub entry : Woven
  pub node : List ℕ
  pub nodes : List Node
  pub setups : List (List ℕ)
  pub event : Event
  pub line : List ℕ

-- the packet is from a given party, or was sent before
abbrev pub IsTakenAsItCame : List (List ℕ) → List NodeHistory → Packet → Type 0
IsTakenAsItCame given hs q = IsFrom given q ⊎ WasBefore hs q

-- the text is that event, of the node of that party
pub record IsEventLine (party : List ℕ) (e : Entry) (line : List ℕ) : Type 0 where
  pub event : NodeEvent
  pub reads : node_event_in line ≡ Ok event
  pub own : key event.node ≡ key party
  pub same : event.kind ≡ e.event

-- where an entry of a run comes from: the text of an event of its node, or the opening of the run, behind another
abbrev pub IsSourceIn : Opening → Entry → Source → Type 0
IsSourceIn x e (origin.Echoed at line) = IsEventLine (party_opened x) e line.bytes.now
IsSourceIn x e (origin.Restarted at) = e ≡ restart_entry

-- each entry comes from its source, each restart is a later run, and all runs are of one party, in whichever case
pub record HasSources (t : Transcript) : Type 0 where
  pub each : (i : ℕ) (e : Entry) (s : Source) (x : Opening) → slice_get t.entries i ≡ Some e → slice_get t.sources i ≡ Some s → slice_get t.openings (opening_of s) ≡ Some x
      → IsSourceIn x e s
  pub later : (at : ℕ) → Contains t.sources (origin.Restarted at) → at ≢ 0
  pub parties : (x : Opening) → Contains t.openings x → key (party_opened x) ≡ key (teller t)

abbrev pub AreSourced : List Transcript → Type 0
AreSourced told = (t : Transcript) → Contains told t → HasSources t

-- The event is that of the entry, in whichever case the line spells the node; and the line tells it. What is written of a
-- delivery, with its sender as the setup spells it, or of a start between runs is read so where it is no longer than a line
-- may be. A delivery that is taken as it came stands as it came, with its packet: one node reads it as what came to it.
pub data IsStep (given : List (List ℕ)) (hs : List NodeHistory) (s : Step) : Type 0 where
  Came : event_in s.line ≡ Ok s.event → key s.event.node ≡ key s.node → s.event.kind ≡ kind_of s.entry.entry.event → IsStep given hs s
  Delivered : (at : ℕ) (q : Packet) → s.entry.entry.event ≡ event.Deliver at q → (IsTakenAsItCame given hs q → ⊥)
      → s.line ≡ delivery_text at (spelled s.nodes q.from) s.node q.serial
      → s.event ≡ record { node = s.node; kind = kind.Deliver at (spelled s.nodes q.from) q.serial } → (length s.line ≤ max_line → event_in s.line ≡ Ok s.event) → IsStep given hs s
  Restarted : s.entry.entry ≡ restart_entry → s.line ≡ restart_text s.node → s.event ≡ record { node = s.node; kind = kind.Restart }
      → (length s.line ≤ max_line → event_in s.line ≡ Ok s.event) → IsStep given hs s
  Given : (at : ℕ) (q : Packet) → s.entry.entry.event ≡ event.Deliver at q → IsTakenAsItCame given hs q → IsEventLine s.node s.entry.entry s.line → s.event ≡ event_of s.entry
      → IsStep given hs s

-- a line with its end
abbrev pub ended : List ℕ → List ℕ
ended line = line ++ 10 ∷ []

abbrev pub lines_text : List (List ℕ) → List ℕ
lines_text lines = flat_map ended lines

abbrev pub step_text : Step → List ℕ
step_text s = ended s.line

abbrev pub steps_text : List Step → List ℕ
steps_text steps = flat_map step_text steps

-- the same, behind its setup lines
abbrev pub step_with_setups : Step → List ℕ
step_with_setups s = lines_text s.setups ++ step_text s

abbrev pub steps_with_setups : List Step → List ℕ
steps_with_setups steps = flat_map step_with_setups steps

abbrev pub entry_of : Step → Woven
entry_of s = s.entry

abbrev pub event_told : Step → Event
event_told s = s.event

-- ---- the entries that turns name

-- the turn names that entry of what is told, which is of that run
pub record Names (told : List Transcript) (t : Turn) (x : Woven) : Type 0 where
  pub teller_of : Transcript
  pub here : slice_get told t.history ≡ Some teller_of
  pub party : teller teller_of ≡ x.party
  pub stands : slice_get teller_of.entries t.entry ≡ Some x.entry
  pub source : Source
  pub comes_from : slice_get teller_of.sources t.entry ≡ Some source
  pub opening : Opening
  pub of_run : slice_get teller_of.openings (opening_of source) ≡ Some opening

-- it names some entry
abbrev pub IsNamed : List Transcript → Turn → Type 0
IsNamed told t = (x : Woven) × Names told t x

abbrev pub AreNamed : List Transcript → List Turn → Type 0
AreNamed told turns = (k : ℕ) (t : Turn) → slice_get turns k ≡ Some t → IsNamed told t

-- Before a file's first entry stands the setup line of its first run; before that a run was opened under another setup
-- than the one before, that of this run.
pub data HasFirstSetup (openings : List Opening) (place : ℕ) : List (List ℕ) → Type 0 where
  IsFirst : (x : Opening) → place ≡ 0 → slice_get openings 0 ≡ Some x → HasFirstSetup openings place (x.line.bytes.now ∷ [])
  IsLater : place ≢ 0 → HasFirstSetup openings place []

pub data HasNewSetup (openings : List Opening) (source : Source) : List (List ℕ) → Type 0 where
  IsNew : (n : ℕ) (x y : Opening) → source ≡ origin.Restarted (suc n) → slice_get openings n ≡ Some x → slice_get openings (suc n) ≡ Some y → x.setup ≢ y.setup
      → HasNewSetup openings source (y.line.bytes.now ∷ [])
  IsSame : (n : ℕ) (x y : Opening) → source ≡ origin.Restarted (suc n) → slice_get openings n ≡ Some x → slice_get openings (suc n) ≡ Some y → x.setup ≡ y.setup
      → HasNewSetup openings source []
  IsNone : ((at : ℕ) → source ≢ origin.Restarted at) → HasNewSetup openings source []

-- the step is that of the entry
pub record IsStepOf (given : List (List ℕ)) (hs : List NodeHistory) (told : List Transcript) (t : Turn) (s : Step) : Type 0 where
  pub names : Names told t s.entry
  pub node : s.node ≡ party_opened names.opening
  pub nodes : s.nodes ≡ names.opening.setup
  pub first : List (List ℕ)
  pub has_first : HasFirstSetup names.teller_of.openings t.entry first
  pub later : List (List ℕ)
  pub has_new : HasNewSetup names.teller_of.openings names.source later
  pub setups : s.setups ≡ first ++ later
  pub is_step : IsStep given hs s

-- ---- the lines of turns

-- the steps of the entries that turns name, in this order
abbrev pub AreStepsOf : List (List ℕ) → List NodeHistory → List Transcript → List Turn → List Step → Type 0
AreStepsOf given hs told [] [] = Unit {0}
AreStepsOf given hs told [] (s ∷ steps) = ⊥
AreStepsOf given hs told (t ∷ turns) [] = ⊥
AreStepsOf given hs told (t ∷ turns) (s ∷ steps) = IsStepOf given hs told t s × AreStepsOf given hs told turns steps

-- ---- what is added to what was written

abbrev pub AddsLine : List ℕ → List ℕ → List ℕ → Type 0
AddsLine line before after = after ≡ before ++ ended line

-- a line that is read as that event where it is no longer than a line may be
pub record AddsText (line : List ℕ) (e : Event) (before after : List ℕ) : Type 0 where
  pub reads : length line ≤ max_line → event_in line ≡ Ok e
  pub added : AddsLine line before after

-- that a packet comes to the node of a party, its sender as the setup spells it
abbrev pub AddsDelivery : List Node → List ℕ → ℕ → Packet → List ℕ → List ℕ → Type 0
AddsDelivery nodes party at q before after =
    AddsText (delivery_text at (spelled nodes q.from) party q.serial) (record { node = party; kind = kind.Deliver at (spelled nodes q.from) q.serial }) before after

-- that the node of a party starts again
abbrev pub AddsRestart : List ℕ → List ℕ → List ℕ → Type 0
AddsRestart party before after = AddsText (restart_text party) (record { node = party; kind = kind.Restart }) before after

-- the step of an entry of that run, behind these setup lines
pub record IsStepIn (given : List (List ℕ)) (hs : List NodeHistory) (w : Woven) (x : Opening) (setups : List (List ℕ)) (s : Step) : Type 0 where
  pub entry : s.entry ≡ w
  pub node : s.node ≡ party_opened x
  pub nodes : s.nodes ≡ x.setup
  pub setups_are : s.setups ≡ setups
  pub is_step : IsStep given hs s

-- the line of such a step, whoever tells the entry
abbrev pub AddsStep : List (List ℕ) → List NodeHistory → Opening → Entry → List ℕ → List ℕ → Type 0
AddsStep given hs x e before after =
    (party : List ℕ) (setups : List (List ℕ)) → (s : Step) × IsStepIn given hs (record { party = party; entry = e }) x setups s × AddsLine s.line before after

-- and that of the entry that a turn names
abbrev pub AddsTurn : List (List ℕ) → List NodeHistory → List Transcript → Turn → List ℕ → List ℕ → Type 0
AddsTurn given hs told t before after =
    (w : Woven) (names : Names told t w) (setups : List (List ℕ)) → (s : Step) × IsStepIn given hs w names.opening setups s × AddsLine s.line before after

-- the setup lines that are to stand before it
abbrev pub AddsSetups : List Transcript → Turn → List ℕ → List ℕ → Type 0
AddsSetups told t before after = (w : Woven) (names : Names told t w) → (first : List (List ℕ)) × HasFirstSetup names.teller_of.openings t.entry first
    × ((later : List (List ℕ)) × HasNewSetup names.teller_of.openings names.source later × (after ≡ before ++ lines_text (first ++ later)))

-- those before a first entry; and those before a run, in one case by its place
abbrev pub AddsFirst : List Opening → ℕ → List ℕ → List ℕ → Type 0
AddsFirst openings place before after = (first : List (List ℕ)) × HasFirstSetup openings place first × (after ≡ before ++ lines_text first)

abbrev pub AddsNew : List Opening → Source → List ℕ → List ℕ → Type 0
AddsNew openings s before after = (later : List (List ℕ)) × HasNewSetup openings s later × (after ≡ before ++ lines_text later)

abbrev pub AddsOtherSetup : List Opening → ℕ → List ℕ → List ℕ → Type 0
AddsOtherSetup openings place before after = (n : ℕ) (x y : Opening) → place ≡ suc n → slice_get openings n ≡ Some x → slice_get openings (suc n) ≡ Some y
    → ((x.setup ≡ y.setup) × (after ≡ before)) ⊎ ((x.setup ≢ y.setup) × AddsLine y.line.bytes.now before after)

-- where the source is the opening of a run, that stands behind another
abbrev pub IsOfRuns : List Opening → Source → Type 0
IsOfRuns openings (origin.Echoed at line) = Unit {0}
IsOfRuns openings (origin.Restarted at) = (at ≢ 0) × (at < length openings)

-- behind that text stand the steps of the entries that turns name; or these behind their setup lines
abbrev pub HasSteps : List (List ℕ) → List NodeHistory → List Transcript → List Turn → List ℕ → List ℕ → Type 0
HasSteps given hs told turns front text = (steps : List Step) × AreStepsOf given hs told turns steps × (text ≡ front ++ steps_text steps)

abbrev pub HasStepsAndSetups : List (List ℕ) → List NodeHistory → List Transcript → List Turn → List ℕ → List ℕ → Type 0
HasStepsAndSetups given hs told turns front text = (steps : List Step) × AreStepsOf given hs told turns steps × (text ≡ front ++ steps_with_setups steps)
