-- What the program `node` writes for a line behind the setup, and what that makes of the node. Nothing here is of its
-- keeper.
use Rattle.std.specs.Prelude.{◌≡◌, ◌≢◌, ◌↔◌, ℕ, List, [], ◌∷◌, ◌++◌, Bool, true, false, IsTrue, Option, None, Some, Ok, Err, length}
use Rattle.ocpi_text.specs.Text.{key}
use Rattle.ocpi_types.specs.declared.node_events.NodeEvent.{NodeEvent}
use Rattle.ocpi_types.specs.declared.node_events.NodeEventKind.TheVariants as event
use Rattle.ocpi_types.specs.declared.packet.Packet.{Packet}
use Rattle.json_text.specs.declared.fault.JsonFault.{JsonFault}
use Rattle.json_text.specs.declared.fault.JsonFault.TheVariants.{Memory as LineMemory}
use Rattle.json_text.specs.Fault.{Read}
use Rattle.node_lines.specs.NodeLines.{node_line_in, one_of}
use Rattle.node_lines.specs.declared.node_line.NodeLine.TheVariants.{Several}
use Rattle.node_steps.specs.declared.fault.NodeFault.{NodeFault}
use Rattle.node_steps.specs.declared.fault.NodeFault.TheVariants.{Memory as NodeMemory}
use Rattle.world_steps.specs.Network.{Input}
use Rattle.world_steps.specs.Steps.{NodeEvent as Deed, NodeRefuses, NodeStep, changes_of, input_of, packets_of}
use Rattle.world_steps.specs.World.{NodeState}
use Rattle.history_laws.specs.Replays.{Brings}
use Rattle.line_runs.specs.declared.run.Turn.{Turn}
use Rattle.line_runs.specs.declared.run.Turn.TheVariants.{Taken, Refused}
use Rattle.stored_nodes.specs.declared.stored_node.Applied.{Applied}
use Rattle.stored_nodes.specs.declared.stored_node.Applied.TheVariants.{Skipped, Stepped}
use Rattle.program_lines.specs.Writing.{packet_lines}
use Rattle.node_runs.specs.DoneLines.{all_line, idle_line, malformed_line, refused_line, skipped_line, stepped_line}

-- ---- what is written

-- the line behind the packets that a node sent for an event, by whether rows were changed
abbrev pub step_line : ℕ → Option ℕ → List Packet → Bool → List ℕ
step_line number place [] false = idle_line number place
step_line number place [] true = stepped_line number place 0
step_line number place (p ∷ ps) changed = stepped_line number place (length (p ∷ ps))

-- what is written of an event that was not refused
abbrev pub applied_lines : ℕ → Option ℕ → Applied → List ℕ
applied_lines number place Skipped = skipped_line number place
applied_lines number place (Stepped packets changed) = packet_lines packets.items ++ step_line number place packets.items changed

-- ---- each event

-- what was read is an event of this node
pub record IsOwn (party : List ℕ) (read : Read NodeEvent) (x : NodeEvent) : Type 0 where
  pub is : read ≡ Ok x
  pub same : key x.node ≡ key party

-- What becomes of the event at one place of a line, or of the one that a line is, by what was read there: what is written
-- of it, whether it was taken, and what the node did, which is nothing or one step. Want of memory is no answer.
pub data PlacedTurn (party : List ℕ) (now : NodeState) (number : ℕ) (place : Option ℕ) (read : Read NodeEvent)
    (turn : Turn) (out : List ℕ) (did : List Deed) (next : NodeState) : Type 0 where
  -- the node did it; `changed` is whether rows changed
  WasDone : (x : NodeEvent) → IsOwn party read x → (deed : Deed) → Brings now x.kind (input_of deed) → NodeStep now deed next
      → (changed : Bool) → (IsTrue changed ↔ (changes_of deed ≢ []))
      → turn ≡ Taken → out ≡ packet_lines (packets_of deed) ++ step_line number place (packets_of deed) changed → did ≡ deed ∷ []
      → PlacedTurn party now number place read turn out did next
  -- the storing of the event was refused, where it was carried out
  WasUnstored : (x : NodeEvent) → IsOwn party read x → x.kind ≡ event.Refused
      → turn ≡ Taken → out ≡ idle_line number place → did ≡ [] → next ≡ now
      → PlacedTurn party now number place read turn out did next
  -- it is another node's
  IsElsewhere : (x : NodeEvent) → read ≡ Ok x → key x.node ≢ key party
      → turn ≡ Taken → out ≡ skipped_line number place → did ≡ [] → next ≡ now
      → PlacedTurn party now number place read turn out did next
  -- it is one of the other role
  IsOfOtherRole : (x : NodeEvent) → IsOwn party read x → x.kind ≢ event.Refused → ((i : Input) → Brings now x.kind i → ⊥)
      → turn ≡ Taken → out ≡ skipped_line number place → did ≡ [] → next ≡ now
      → PlacedTurn party now number place read turn out did next
  -- no event stands there
  IsMalformed : (fault : JsonFault) → read ≡ Err fault → fault ≢ LineMemory
      → turn ≡ Refused → out ≡ malformed_line number place fault → did ≡ [] → next ≡ now
      → PlacedTurn party now number place read turn out did next
  -- the node refuses it
  IsRefused : (x : NodeEvent) → IsOwn party read x → (input : Input) → Brings now x.kind input
      → (fault : NodeFault) → NodeRefuses now input fault → fault ≢ NodeMemory
      → turn ≡ Refused → out ≡ refused_line number place fault → did ≡ [] → next ≡ now
      → PlacedTurn party now number place read turn out did next

-- The events of a line were carried out one after another, from the front, each at its place, from 0. These bytes are to
-- be written; the line is taken where each of them was; the node did these, and was left so.
pub data AreDone (party : List ℕ) (first : NodeState) (number : ℕ) : List (Read NodeEvent) → Turn → List ℕ → List Deed → NodeState → Type 0 where
  none_done : AreDone party first number [] Taken [] [] first
  one_taken : {before : List (Read NodeEvent)} {turn : Turn} {out more : List ℕ} {did also : List Deed} {now next : NodeState} {read : Read NodeEvent}
      → AreDone party first number before turn out did now → PlacedTurn party now number (Some (length before)) read Taken more also next
      → AreDone party first number (before ++ read ∷ []) turn (out ++ more) (did ++ also) next
  one_refused : {before : List (Read NodeEvent)} {turn : Turn} {out more : List ℕ} {did also : List Deed} {now next : NodeState} {read : Read NodeEvent}
      → AreDone party first number before turn out did now → PlacedTurn party now number (Some (length before)) read Refused more also next
      → AreDone party first number (before ++ read ∷ []) Refused (out ++ more) (did ++ also) next

-- ---- a line

-- all that becomes of the events of a line, in order, and behind it that all are done
pub record CarriesOut (party : List ℕ) (first : NodeState) (number : ℕ) (events : List (Read NodeEvent)) (turn : Turn) (out : List ℕ)
    (did : List Deed) (after : NodeState) : Type 0 where
  pub lines : List ℕ
  pub done : AreDone party first number events turn lines did after
  pub written : out ≡ lines ++ all_line number (length events)

-- What becomes of a line of that number at a node of that party: it is one event, or none; or it is several, which are
-- carried out one after another.
pub data Answers (party : List ℕ) (now : NodeState) (number : ℕ) (line : List ℕ) (turn : Turn) (out : List ℕ) (did : List Deed) (next : NodeState) : Type 0 where
  OneEvent : (read : Read NodeEvent) → node_line_in line ≡ one_of read → PlacedTurn party now number None read turn out did next
      → Answers party now number line turn out did next
  SeveralEvents : (events : List (Read NodeEvent)) → node_line_in line ≡ Ok (Several events) → CarriesOut party now number events turn out did next
      → Answers party now number line turn out did next
