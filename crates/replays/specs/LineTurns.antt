-- What a node prints for a line behind the setup, by the number of the line, and what that makes of it. Nothing here is
-- of its keeper.
use Rattle.std.specs.Prelude.{◌≡◌, ◌≢◌, ◌≤◌, ◌<◌, ℕ, suc, List, [], ◌∷◌, ◌++◌, All, Contains, None, length}
use Rattle.ocpi_text.specs.Whole.{max_whole}
use Rattle.ocpi_types.specs.declared.rows.Change.{Change}
use Rattle.ocpi_types.specs.declared.rows.Row.{Row}
use Rattle.ocpi_types.specs.declared.rows.Row.TheVariants as row
use Rattle.ocpi_types.specs.declared.stored.SentCommand.{SentCommand}
use Rattle.line_runs.specs.declared.run.Turn.{Turn}
use Rattle.node_runs.specs.DoneLines.{known_line, refused_line}
use Rattle.node_runs.specs.LineAnswers.{Answers}
use Rattle.node_steps.specs.declared.fault.NodeFault.TheVariants.{NumbersUsedUp}
use Rattle.stored_laws.specs.Nodes.{AreNodeRows}
use Rattle.stored_nodes.specs.Transactions.{changes_of_each}
use Rattle.world_steps.specs.Steps.{NodeEvent as Deed}
use Rattle.world_steps.specs.World.{NodeState}
use Rattle.replays.specs.Happenings.{Placed, entries_of_line}

-- ---- what a store has

-- rows that are listed, or those of a node
pub data Kept : Type 0 where
  Listed : List Row → Kept
  OfNode : NodeState → Kept

-- these are they, in whatever order
abbrev pub Lists : Kept → List Row → Type 0
Lists (Listed given) rows = rows ≡ given
Lists (OfNode n) rows = AreNodeRows rows n

-- they are those of the node
abbrev pub AreOf : Kept → NodeState → Type 0
AreOf (Listed rows) n = AreNodeRows rows n
AreOf (OfNode m) n = m ≡ n

-- rows, and the number of the last line that took hold
pub record Held : Type 0 where
  pub kept : Kept
  pub line : ℕ

-- the same, of which the rows were read
pub record Store : Type 0 where
  pub rows : List Row
  pub line : ℕ

-- Its numbers are such as lines and requests may have, which their types keep.
pub record IsNumbered (s : Store) : Type 0 where
  pub line : s.line ≤ max_whole
  pub requests : (n : ℕ) (c : SentCommand) → Contains s.rows (row.Command n c) → n ≤ max_whole

abbrev pub held_in : Store → Held
held_in s = record { kept = Listed s.rows; line = s.line }

-- no rows, and no line took hold
abbrev pub nothing_held : Store
nothing_held = record { rows = []; line = 1 }

-- ---- a node that runs

-- Its party as the setup spells it, and its state; the number of the last line that had taken hold as it was opened, that
-- of the last line that took hold, and that of the last line.
pub record Running : Type 0 where
  pub party : List ℕ
  pub state : NodeState
  pub known : ℕ
  pub last : ℕ
  pub number : ℕ

-- the store has the rows of the node, and the number of the last line that took hold
pub record IsLeftBy (now : Running) (h : Held) : Type 0 where
  pub rows : AreOf h.kept now.state
  pub line : h.line ≡ now.last

-- ---- a line

-- a line that can be fed: it holds something, and ends where it ends
pub record IsLine (line : List ℕ) : Type 0 where
  pub some : 0 < length line
  pub plain : All (λ b. b ≢ 10) line

-- it is echoed so
abbrev pub echo_of : List ℕ → List ℕ
echo_of line = line ++ 10 ∷ []

-- the number of the last line that took hold behind one of that number, by what it changed
abbrev pub last_behind : List Change → ℕ → ℕ → ℕ
last_behind [] last number = last
last_behind (c ∷ cs) last number = number

abbrev pub counted : Running → ℕ → Running
counted now number = record { party = now.party; state = now.state; known = now.known; last = now.last; number = number }

abbrev pub behind : Running → ℕ → List Deed → NodeState → Running
behind now number did after =
    record { party = now.party; state = after; known = now.known; last = last_behind (changes_of_each did) now.last number; number = number }

-- What the node prints for the line of the next number, the events that it entered, what it did, and what it is then. A
-- line that had taken hold before the run is not read, and neither is one behind the last number that there is.
pub data LineGives (now : Running) (line : List ℕ) (out : List ℕ) (entered : List Placed) (did : List Deed) (next : Running) : Type 0 where
  WasKnown : suc now.number ≤ now.known → out ≡ known_line (suc now.number) → entered ≡ [] → did ≡ [] → next ≡ counted now (suc now.number)
      → LineGives now line out entered did next
  WasBeyond : now.known ≤ now.number → now.number ≡ max_whole → out ≡ refused_line max_whole None NumbersUsedUp → entered ≡ [] → did ≡ [] → next ≡ now
      → LineGives now line out entered did next
  WasRead : now.known ≤ now.number → suc now.number ≤ max_whole → (turn : Turn) (after : NodeState)
      → (answers : Answers now.party now.state (suc now.number) line turn out did after) → entered ≡ entries_of_line answers → next ≡ behind now (suc now.number) did after
      → LineGives now line out entered did next
