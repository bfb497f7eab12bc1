-- What runs of one node over one store print with an echo, one behind the other: each may be stopped anywhere, and goes on
-- where the one before left the store.
use Rattle.std.specs.Prelude.{◌≡◌, ◌≢◌, ◌<◌, ℕ, List, [], ◌∷◌, ◌++◌, None, length}
use Rattle.json_text.specs.Fault.{Fails as FailsToRead}
use Rattle.json_text.specs.declared.fault.JsonFault.{JsonFault}
use Rattle.json_text.specs.declared.fault.JsonFault.TheVariants.{Memory}
use Rattle.node_runs.specs.DoneLines.{malformed_line}
use Rattle.node_runs.specs.SetupLines.{numbered_setup_in}
use Rattle.stored_nodes.specs.Transactions.{changes_of_each}
use Rattle.world_steps.specs.Steps.{NodeEvent as Deed}
use Rattle.replays.specs.Cutting.{ArePrintedBy}
use Rattle.replays.specs.Happenings.{Happening, Opened, Placed, came_by}
use Rattle.replays.specs.LineTurns.{Held, IsLeftBy, IsLine, LineGives, Running, echo_of}
use Rattle.replays.specs.Openings.{Opens, begun, opened_by, opening_of}

-- ---- behind an opening

-- What a node that runs prints from some line on, what of that is told, and what it may leave. A line of which nothing is
-- printed but its echo, whole, may have taken hold nevertheless: a stop came then, memory ran out, or the commit was
-- refused. One whose echo was cut was not carried out, and one of which more is printed was.
pub data GoesOn : Running → List ℕ → List Happening → Held → Type 0 where
  -- it was stopped between lines, or within an echo or behind one; or its input ended
  Stopped : {now : Running} → (line : List ℕ) → IsLine line → (front more : List ℕ) → echo_of line ≡ front ++ more → (left : Held) → IsLeftBy now left
      → GoesOn now front [] left
  -- it was stopped behind an echo, and the line had taken hold
  TookHold : {now : Running} → (line : List ℕ) → IsLine line → (out : List ℕ) (entered : List Placed) (did : List Deed) (next : Running)
      → LineGives now line out entered did next → changes_of_each did ≢ []
      → (left : Held) → IsLeftBy next left → GoesOn now (echo_of line) (came_by line entered) left
  -- it was stopped within what the line gives
  Cut : {now : Running} → (line : List ℕ) → IsLine line → (out : List ℕ) (entered : List Placed) (did : List Deed) (next : Running)
      → LineGives now line out entered did next → (front more : List ℕ) → out ≡ front ++ more → 0 < length front
      → (left : Held) → IsLeftBy next left → GoesOn now (echo_of line ++ front) (came_by line entered) left
  -- it went on
  Whole : {now : Running} → (line : List ℕ) → IsLine line → (out : List ℕ) (entered : List Placed) (did : List Deed) (next : Running)
      → LineGives now line out entered did next → (text : List ℕ) (told : List Happening) (left : Held) → GoesOn next text told left
      → GoesOn now (echo_of line ++ (out ++ text)) (came_by line entered ++ told) left

-- ---- a run

-- What a run prints behind its two line feeds, what of that is told, and what it leaves of what it found. A run without
-- lines prints what reads as a first line of which nothing more is printed.
pub data Prints (wanted : List ℕ) (found : Held) : List ℕ → List Happening → Held → Type 0 where
  -- nothing more than its first line, which may be cut: no node began, or nothing is known of it
  NotBegun : (line : List ℕ) → IsLine line → (front more : List ℕ) → echo_of line ≡ front ++ more → Prints wanted found front [] found
  -- the first line is no setup
  NoSetup : (line : List ℕ) → IsLine line → (fault : JsonFault) → FailsToRead fault (numbered_setup_in line) → fault ≢ Memory
      → (front more : List ℕ) → malformed_line 1 None fault ≡ front ++ more → 0 < length front → Prints wanted found (echo_of line ++ front) [] found
  -- the node was opened, and a stop cut the line that says so: that counts as none
  CutOpening : (line : List ℕ) → IsLine line → (o : Opens wanted found line)
      → (front more : List ℕ) → opening_of o ≡ front ++ more → 0 < length front → 1 < length more → Prints wanted found (echo_of line ++ front) [] found
  -- a stop cut no more of it than its line feed
  BareOpening : (line : List ℕ) → IsLine line → (o : Opens wanted found line)
      → (front : List ℕ) → opening_of o ≡ front ++ 10 ∷ [] → (left : Held) → IsLeftBy (begun o) left → Prints wanted found (echo_of line ++ front) (Opened (opened_by o) ∷ []) left
  Begun : (line : List ℕ) → IsLine line → (o : Opens wanted found line)
      → (text : List ℕ) (told : List Happening) (left : Held) → GoesOn (begun o) text told left
      → Prints wanted found (echo_of line ++ (opening_of o ++ text)) (Opened (opened_by o) ∷ told) left

-- ---- runs, one behind the other

-- what runs print over a store, each behind two line feeds, and what of that is told, one behind the other
abbrev pub ArePrinted : List ℕ → Held → List ℕ → List Happening → Type 0
ArePrinted wanted = ArePrintedBy (Prints wanted)
