-- What a run made of its node, told by the steps that the node did: each run is a chain of them, and two runs over one
-- store are one chain with a restart between.
use Rattle.std.specs.Prelude.{◌≡◌, ◌≢◌, ◌⊎◌, ℕ, ◌+◌, Bool, List, [], ◌∷◌, ◌++◌, Option, Some, Ok, length}
use Rattle.std.specs.List.{flat_map}
use Rattle.ocpi_text.specs.Whole.{max_whole}
use Rattle.line_runs.specs.declared.run.Turn.{Turn}
use Rattle.node_laws.specs.Runs.{Run}
use Rattle.ocpi_types.specs.Setups.{party_of}
use Rattle.ocpi_types.specs.declared.setup.Node.{Node}
use Rattle.operator_steps.specs.Events as operator
use Rattle.provider_steps.specs.Events as provider
use Rattle.world_steps.specs.Steps.{AtOperator, AtProvider, NodeEvent, NodeStep}
use Rattle.world_steps.specs.World.{NodeState, Operates, Provides}
use Rattle.line_runs.specs.Numbered.{AreNumbered}
use Rattle.line_runs.specs.declared.outcome.Ran.{Ran}
use Rattle.node_keepers.specs.Opening.{Source}
use Rattle.node_store.specs.Contents.{Content, line_of}
use Rattle.stored_nodes.specs.Keepers.{IsSettled, Keeper}
use Rattle.stored_nodes.specs.Stored.{IsStored, Stored}
use Rattle.stored_nodes.specs.Transactions.{changes_of_each}
use Rattle.stored_laws.specs.Nodes.{restarted}
use Rattle.node_runs.specs.LineAnswers.{Answers}
use Rattle.node_runs.specs.NodeAnswers.{LosesLine, NodeLineGives}
use Rattle.node_runs.specs.NodeTurns.{IsMember, Running, Stage, Starts, number_from, opening}
use Rattle.node_runs.specs.NumberedRuns.{Carries, Changed, Numbered, all_done}
use Rattle.node_runs.specs.SetupLines.{numbered_setup_in}
use Rattle.node_runs.specs.declared.fault.NodeStop.{NodeStop}

-- The node of that member of the setup was made of what a keeper kept, where `last` was the number of the last line that
-- had taken hold. Then it did these one after another, and nothing else. A stop leaves just what its keeper keeps.
pub record WasRun {K : Type 0} (keeper : Keeper K) (setup : List Node) (member : Node) (xs : List NodeEvent) (now : Running K) : Type 0 where
  pub rows : ℕ
  pub last : ℕ
  pub start : Stored K
  pub starts : Starts keeper setup member rows last start
  pub did : Run NodeStep start.state xs now.node.state
  pub settled : IsSettled keeper now.node.keep
  pub party : now.party ≡ party_of member

-- the lines that hold something
abbrev pub kept_line : List ℕ → List (List ℕ)
kept_line [] = []
kept_line (c ∷ cs) = (c ∷ cs) ∷ []

abbrev pub some_lines : List (List ℕ) → List (List ℕ)
some_lines all = flat_map kept_line all

-- What the lines of a run up to any one made of its node. The first that holds something is the setup, and the others are
-- counted on from the number that it tells, else from that of the last line that had taken hold; so they are numbered, as
-- long as there are numbers. The keeper has that of the last line that changed rows.
pub record HasHistory {K : Type 0} (keeper : Keeper K) (source : Source K) (wanted : Option (List ℕ)) (all : List (List ℕ)) (s : Stage K) (now : Running K) : Type 0 where
  pub first : List ℕ
  pub setup : List Node
  pub base : Option ℕ
  pub reads : numbered_setup_in first ≡ Ok (setup, base)
  pub member : Node
  pub asked : IsMember setup wanted member
  pub did : List Numbered
  pub was : WasRun keeper setup member (all_done did) now
  pub found : source.found 1 was.starts.fresh
  pub numbered : List (List ℕ)
  pub others : List (List ℕ)
  pub carries : Carries now.party was.last (number_from base was.last) was.start.state numbered did now.node.state
  pub are : some_lines all ≡ first ∷ (numbered ++ others)
  pub number : s.number ≡ number_from base was.last + length numbered
  pub beyond : others ≢ [] → s.number ≡ max_whole
  pub known : s.known ≡ was.last
  pub changed : List ℕ
  pub last_change : ℕ
  pub changes : Changed was.last did changed last_change
  pub marked : keeper.is_honest now.node.keep → line_of (keeper.content now.node.keep) ≡ Some last_change

abbrev pub RunsAreHistories : {K : Type 0} → Keeper K → Source K → Type 0
RunsAreHistories {K} keeper source =
    (echo : Bool) (wanted : Option (List ℕ)) (opened : List ℕ) (all : List (List ℕ)) (ran : Ran) (out : List ℕ) (s : Stage K) (now : Running K)
    → AreNumbered (NodeLineGives keeper source) echo (opening wanted opened) all ran out s → s.running ≡ Some now → HasHistory keeper source wanted all s now

-- ---- two runs

-- that a node of either role starts again, which changes no row and sends nothing
abbrev pub restart_of : NodeState → NodeEvent
restart_of (Operates s) = AtOperator (record { input = operator.Restarts; changes = []; packets = [] })
restart_of (Provides s) = AtProvider (record { input = provider.Restarts; changes = []; packets = [] })

-- what is found of a keeper later is what it keeps, or what a stop left of it
abbrev pub IsLeftBy : {K : Type 0} → Keeper K → K → Content → Type 0
IsLeftBy keeper k c = (c ≡ keeper.content k) ⊎ keeper.may_leave k c

-- the second run goes on where the first ended, as after a restart, and knows the last line that took hold
pub record GoesOnFrom {K : Type 0} (keeper : Keeper K) (setup : List Node) (member : Node) (xs ys : List NodeEvent) (ended now : Running K)
    (first : WasRun keeper setup member xs ended) (second : WasRun keeper setup member ys now) : Type 0 where
  pub state : second.start.state ≡ restarted ended.node.state
  pub line : line_of (keeper.content ended.node.keep) ≡ Some second.last
  pub one : Run NodeStep first.start.state (xs ++ restart_of ended.node.state ∷ ys) now.node.state

-- Of two runs of one node of a setup, the second of which was made of what the keeper of the first kept at its end, or of
-- what a stop between two lines left of it: the node of the second goes on where that of the first ended.
abbrev pub TwoRunsAreOne : {K : Type 0} → Keeper K → Type 0
TwoRunsAreOne {K} keeper =
    (setup : List Node) (member : Node) (xs ys : List NodeEvent) (ended now : Running K) (first : WasRun keeper setup member xs ended) (second : WasRun keeper setup member ys now)
    → IsStored keeper ended.node → keeper.is_honest ended.node.keep → keeper.is_honest second.start.keep
    → IsLeftBy keeper ended.node.keep (keeper.content second.starts.fresh)
    → GoesOnFrom keeper setup member xs ys ended now first second

-- ---- a line at which a run ended

-- The node starts again where the other stood before the line, with the number of before; or behind the whole of a line
-- that changed rows, with its number. A part of it is never had alone.
pub data GoesOnAtLine {K : Type 0} (keeper : Keeper K) (left : Running K) (number : ℕ) (line : List ℕ) (start : NodeState) (last : ℕ) : Type 0 where
  Before_line : start ≡ restarted left.node.state → line_of (keeper.content left.node.keep) ≡ Some last → GoesOnAtLine keeper left number line start last
  Behind_line : (turn : Turn) (out : List ℕ) (did : List NodeEvent) (after : NodeState) → Answers left.party left.node.state number line turn out did after
      → changes_of_each did ≢ [] → start ≡ restarted after → last ≡ number → GoesOnAtLine keeper left number line start last

-- Of two runs of one node of a setup, the first of which ended at a line of which nothing was written, and the second of
-- which was made of what its keeper kept then, or of what a stop left of that.
abbrev pub LostLinesGoOn : {K : Type 0} → Keeper K → Type 0
LostLinesGoOn {K} keeper =
    (setup : List Node) (member : Node) (xs ys : List NodeEvent) (left now : Running K) (first : WasRun keeper setup member xs left) (second : WasRun keeper setup member ys now)
    (number : ℕ) (line : List ℕ) (stop : NodeStop) (keep : K) → LosesLine keeper left number line stop keep
    → IsStored keeper left.node → keeper.is_honest keep → keeper.is_honest second.start.keep
    → IsLeftBy keeper keep (keeper.content second.starts.fresh)
    → GoesOnAtLine keeper left number line second.start.state second.last
