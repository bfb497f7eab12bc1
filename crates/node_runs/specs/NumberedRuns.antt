-- The lines behind a setup, one after another, by their numbers, and what the node did for each. Nothing here is of its
-- keeper.
use Rattle.std.specs.Prelude.{◌≡◌, ◌≢◌, ◌≤◌, ℕ, suc, ◌+◌, List, [], ◌∷◌, ◌++◌, length}
use Rattle.std.specs.List.{flat_map}
use Rattle.line_runs.specs.declared.run.Turn.{Turn}
use Rattle.stored_nodes.specs.Transactions.{changes_of_each}
use Rattle.world_steps.specs.Steps.{NodeEvent as Deed}
use Rattle.world_steps.specs.World.{NodeState}
use Rattle.node_runs.specs.DoneLines.{known_line}
use Rattle.node_runs.specs.LineAnswers.{Answers}

-- What becomes of the line of that number, and what is written of it. `known` is the number of the last line that had
-- taken hold as the node was opened: up to there no line is read.
pub data Takes (party : List ℕ) (known number : ℕ) (line : List ℕ) (now : NodeState) (out : List ℕ) (did : List Deed) (next : NodeState) : Type 0 where
  IsKnown : number ≤ known → out ≡ known_line number → did ≡ [] → next ≡ now → Takes party known number line now out did next
  IsRead : suc known ≤ number → (turn : Turn) → Answers party now number line turn out did next → Takes party known number line now out did next

-- a number, and what the node did for the line of it
abbrev pub Numbered : Type 0
Numbered = ℕ × List Deed

-- what was done for all of them
abbrev pub all_done : List Numbered → List Deed
all_done xs = flat_map (λ (x : Numbered). x.1) xs

-- These lines came to a node one after another, counted on from a number, and left it so.
pub data Carries (party : List ℕ) (known base : ℕ) (first : NodeState) : List (List ℕ) → List Numbered → NodeState → Type 0 where
  none_carried : Carries party known base first [] [] first
  one_carried : {before : List (List ℕ)} {xs : List Numbered} {now next : NodeState} {line out : List ℕ} {did : List Deed}
      → Carries party known base first before xs now → Takes party known (suc (base + length before)) line now out did next
      → Carries party known base first (before ++ line ∷ []) (xs ++ (suc (base + length before), did) ∷ []) next

-- The numbers of those for which rows were changed, in order, and the last of them, or `known` where there are none.
pub data Changed (known : ℕ) : List Numbered → List ℕ → ℕ → Type 0 where
  none_changed : Changed known [] [] known
  one_quiet : {xs : List Numbered} {changed : List ℕ} {last : ℕ} (number : ℕ) (did : List Deed) → Changed known xs changed last → changes_of_each did ≡ []
      → Changed known (xs ++ (number, did) ∷ []) changed last
  one_changed : {xs : List Numbered} {changed : List ℕ} {last : ℕ} (number : ℕ) (did : List Deed) → Changed known xs changed last → changes_of_each did ≢ []
      → Changed known (xs ++ (number, did) ∷ []) (changed ++ number ∷ []) number
