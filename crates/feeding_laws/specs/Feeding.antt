-- A node that is fed lines by their numbers, in runs over one store that may stop anywhere, each under a setup of its
-- own: each line takes hold once, and in order.
use Rattle.std.specs.Prelude.{◌≡◌, ◌≢◌, ◌≤◌, ◌<◌, ℕ, suc, ◌+◌, List, [], ◌∷◌, ◌++◌, Option, None, Some, Contains, length, slice_get}
use Rattle.line_runs.specs.declared.run.Turn.{Turn}
use Rattle.node_core.specs.Members.{IsMadeOfRows}
use Rattle.node_runs.specs.LineAnswers.{Answers}
use Rattle.node_runs.specs.NumberedRuns.{Carries, Changed, Numbered, all_done}
use Rattle.ocpi_types.specs.Setups.{party_of}
use Rattle.ocpi_types.specs.declared.rows.Row.{Row}
use Rattle.ocpi_types.specs.declared.setup.Node.{Node}
use Rattle.stored_laws.specs.Nodes.{AreNodeRows, CanStartAgain, restarted}
use Rattle.stored_nodes.specs.Transactions.{changes_of_each}
use Rattle.world_steps.specs.Steps.{NodeEvent as Deed}
use Rattle.world_steps.specs.World.{NodeState}

-- what a store has: the rows of this node, and the number of the last line that took hold, 1 where none did
pub record Held : Type 0 where
  pub state : NodeState
  pub line : ℕ

-- the lines that stand behind the one of that number
abbrev pub AreBehind : (ℕ → List ℕ) → ℕ → List (List ℕ) → Type 0
AreBehind lines base read = (i : ℕ) (line : List ℕ) → slice_get read i ≡ Some line → line ≡ lines (suc (base + i))

-- What a run leaves that answered lines up to the number `last`, and then had this node: its rows, and the number of
-- the last line that changed any; or those behind the whole of the next line, which was carried out, or may have
-- been.
pub data Leaves (party : List ℕ) (lines : ℕ → List ℕ) (known last : ℕ) (did : List Numbered) (now : NodeState) (left : Held) : List ℕ → Type 0 where
  Behind : (changed : List ℕ) → Changed known did changed left.line → restarted left.state ≡ restarted now → Leaves party lines known last did now left changed
  One_more : (changed : List ℕ) (before : ℕ) → Changed known did changed before → suc known ≤ suc last
      → (turn : Turn) (out : List ℕ) (more : List Deed) (after : NodeState) → Answers party now (suc last) (lines (suc last)) turn out more after → changes_of_each more ≢ []
      → restarted left.state ≡ restarted after → left.line ≡ suc last → Leaves party lines known last did now left (changed ++ suc last ∷ [])

-- The second node was made of the rows of the first, as that member of a setup. So the node starts again: under the
-- setup of before, or under another.
pub record StartsAgain (setup : List Node) (member : Node) (now next : NodeState) : Type 0 where
  pub rows : List Row
  pub are : AreNodeRows rows now
  pub made : IsMadeOfRows setup member rows next
  pub again : CanStartAgain next

-- One run of a node over its store, as that member of a setup. No node was made of what the store had; or one was,
-- which is told a number, is fed the lines behind that one, and answers some of them.
pub data Ran (setup : List Node) (member : Node) (lines : ℕ → List ℕ) (found : Held) (base : ℕ) : List (List ℕ) → List ℕ → Held → Type 0 where
  NotBegun : Ran setup member lines found base [] [] found
  Began : {read : List (List ℕ)} {changed : List ℕ} {left : Held} (start : NodeState) → StartsAgain setup member found.state start → AreBehind lines base read
      → (did : List Numbered) (now : NodeState) → Carries (party_of member) found.line base start read did now
      → Leaves (party_of member) lines found.line (base + length read) did now left changed → Ran setup member lines found base read changed left

-- what a node did in a run for the lines that it answered
abbrev pub did_in : {setup : List Node} {member : Node} {lines : ℕ → List ℕ} {found : Held} {base : ℕ} {read : List (List ℕ)} {changed : List ℕ} {left : Held}
    → Ran setup member lines found base read changed left → List Deed
did_in NotBegun = []
did_in (Began start again are did now carries leaves) = all_done did

-- Runs of a node one after another, each over what the one before left, and each under one of these setups, as that
-- member of it. The first is told 1; each other is told at most the number of the last line that the one before
-- answered, which is that of the last `done` that its feeder can have seen. The numbers are those of the lines by which
-- rows were changed, in the order in which that was done.
pub data AreRuns (setups : List (List Node × Node)) (lines : ℕ → List ℕ) (first : Held) : ℕ → List ℕ → Held → Type 0 where
  none_ran : AreRuns setups lines first 1 [] first
  one_ran : {seen base : ℕ} {before changed : List ℕ} {found left : Held} {read : List (List ℕ)} (setup : List Node) (member : Node) → Contains setups (setup, member)
      → AreRuns setups lines first seen before found → 1 ≤ base → base ≤ seen → Ran setup member lines found base read changed left
      → AreRuns setups lines first (base + length read) (before ++ changed) left

-- what it did in all of them, in order
abbrev pub all_did : {setups : List (List Node × Node)} {lines : ℕ → List ℕ} {first : Held} {seen : ℕ} {changed : List ℕ} {left : Held}
    → AreRuns setups lines first seen changed left → List Deed
all_did none_ran = []
all_did (one_ran setup member of_them runs some within ran) = all_did runs ++ did_in ran

-- ---- what is so of them

-- To a node the lines of the numbers from 2 on came, each once and in their order, up to that number. Between some of
-- them the node started again, under one of these setups: it is then that member of it; before it first did, of none.
pub data CameOnce (setups : List (List Node × Node)) (lines : ℕ → List ℕ) (first : NodeState) : Option Node → ℕ → NodeState → Type 0 where
  none_came : CameOnce setups lines first None 1 first
  next_came : {member : Node} {number : ℕ} {now next : NodeState} {turn : Turn} {out : List ℕ} {did : List Deed} → CameOnce setups lines first (Some member) number now
      → Answers (party_of member) now (suc number) (lines (suc number)) turn out did next → CameOnce setups lines first (Some member) (suc number) next
  starts : {was : Option Node} {number : ℕ} {now next : NodeState} (setup : List Node) (member : Node) → Contains setups (setup, member)
      → CameOnce setups lines first was number now → StartsAgain setup member now next → CameOnce setups lines first (Some member) number next

-- each of these numbers is above the one before it, and the first above `low`; the last is `high`, or it is `low`
pub data Rise (low : ℕ) : List ℕ → ℕ → Type 0 where
  none_rises : Rise low [] low
  one_rises : {numbers : List ℕ} {last number : ℕ} → Rise low numbers last → last < number → Rise low (numbers ++ number ∷ []) number

-- The rows that are kept at the end are those of a node to which each line came once, in order, up to the last that was
-- answered, and up to the last that took hold. No line changed rows twice.
pub record IsExact (setups : List (List Node × Node)) (lines : ℕ → List ℕ) (first : Held) (seen : ℕ) (changed : List ℕ) (left : Held) : Type 0 where
  pub last : ℕ
  pub member : Option Node
  pub now : NodeState
  pub came : CameOnce setups lines first.state member last now
  pub kept : restarted left.state ≡ restarted now
  pub answered : seen ≤ last
  pub held : left.line ≤ last
  pub once : Rise 1 changed left.line

-- so it is of each node whose store had no line at first, however often it was stopped, wherever, and under whatever
-- setups it ran
abbrev pub FeedingIsExact : Type 0
FeedingIsExact = (setups : List (List Node × Node)) (lines : ℕ → List ℕ) (first left : Held) (seen : ℕ) (changed : List ℕ) → first.line ≡ 1
    → AreRuns setups lines first seen changed left → IsExact setups lines first seen changed left
