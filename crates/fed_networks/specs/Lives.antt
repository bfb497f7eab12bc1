-- The life of a node: all that happened at it in runs that were fed lines by their numbers.
use Rattle.std.specs.Prelude.{ℕ, List, [], ◌∷◌, ◌++◌, Option}
use Rattle.feeding_laws.specs.Feeding.{AreRuns, Began, Behind, CameOnce, Held, Leaves, NotBegun, One_more, Ran, next_came, none_came, none_ran, one_ran, starts}
use Rattle.node_runs.specs.NumberedRuns.{Numbered, all_done}
use Rattle.ocpi_types.specs.declared.setup.Node.{Node}
use Rattle.reopening_laws.specs.Nodes.{start_of}
use Rattle.world_steps.specs.Steps.{NodeEvent}
use Rattle.world_steps.specs.World.{NodeState, opening_of}

-- all that happened at a node to which lines came
abbrev pub events_of : {setups : List (List Node × Node)} {lines : ℕ → List ℕ} {first : NodeState} {member : Option Node} {number : ℕ} {now : NodeState}
    → CameOnce setups lines first member number now → List NodeEvent
events_of none_came = []
events_of (next_came {did = did} before answers) = events_of before ++ did
events_of (starts setup member of_them before again) = events_of before ++ start_of setup member ∷ []

-- A node: the member of a setup that it is at first, and the setups under which it may run since then, each with the
-- member of it that the node then is.
pub record NodeSetups : Type 0 where
  pub setup : List Node
  pub member : Node
  pub setups : List (List Node × Node)

-- A node, with the lines that came to it. Before the first one it had no rows.
pub record Life : Type 0 where
  pub of : NodeSetups
  pub lines : ℕ → List ℕ
  pub last : Option Node
  pub number : ℕ
  pub now : NodeState
  pub came : CameOnce of.setups lines (opening_of of.setup of.member) last number now

-- ---- what happened at a node

-- a node, all that happened at it, and what that made of it
pub record History : Type 0 where
  pub of : NodeSetups
  pub events : List NodeEvent
  pub now : NodeState

abbrev pub history_of : Life → History
history_of l = record { of = l.of; events = events_of l.came; now = l.now }

-- ---- all that happened at it in runs, where lines that changed no row may have come again

-- for a line that was carried out, or may have been, of which nothing was written
abbrev pub events_behind : {party : List ℕ} {lines : ℕ → List ℕ} {known last : ℕ} {did : List Numbered} {now : NodeState} {left : Held} {changed : List ℕ}
    → Leaves party lines known last did now left changed → List NodeEvent
events_behind (Behind changed are same) = []
events_behind (One_more changed before are new turn out more after answers some same is) = more

-- in one run: that it started, and what it did
abbrev pub events_in : {setup : List Node} {member : Node} {lines : ℕ → List ℕ} {found : Held} {base : ℕ} {read : List (List ℕ)} {changed : List ℕ} {left : Held}
    → Ran setup member lines found base read changed left → List NodeEvent
events_in NotBegun = []
events_in {setup = setup} {member = member} (Began start again are did now carries leaves) = start_of setup member ∷ (all_done did ++ events_behind leaves)

abbrev pub events_of_runs : {setups : List (List Node × Node)} {lines : ℕ → List ℕ} {first : Held} {seen : ℕ} {changed : List ℕ} {left : Held}
    → AreRuns setups lines first seen changed left → List NodeEvent
events_of_runs none_ran = []
events_of_runs (one_ran setup member of_them runs some within ran) = events_of_runs runs ++ events_in ran
