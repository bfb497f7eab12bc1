-- A node that is carried through the lines of a run.
use Rattle.std.specs.Prelude.{ℕ, List, [], ◌++◌}
use Rattle.world_steps.specs.Steps.{NodeEvent as Deed}
use Rattle.replays.specs.Happenings.{Happening, Placed, came_by}
use Rattle.replays.specs.LineTurns.{IsLine, LineGives, Running, echo_of}

-- a node that was carried through the lines of a text, each of which gave what stands behind it, and what is told of that
pub data Walks (first : Running) : List ℕ → List Happening → Running → Type 0 where
  no_line : Walks first [] [] first
  one_line : {text : List ℕ} {told : List Happening} {now : Running} → Walks first text told now → (line : List ℕ) → IsLine line
      → (out : List ℕ) (entered : List Placed) (did : List Deed) (next : Running) → LineGives now line out entered did next
      → Walks first (text ++ (echo_of line ++ out)) (told ++ came_by line entered) next
