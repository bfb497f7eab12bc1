-- What the program `node` has behind its lines, and what it writes for the first one: a setup, which names the node
-- among others.
use Rattle.std.specs.Prelude.{◌≡◌, ◌≢◌, ℕ, List, [], ◌∷◌, ◌++◌, Option, None, Some, Ok, Contains}
use Rattle.ocpi_text.specs.Text.{key}
use Rattle.ocpi_types.specs.Setups.{party_of}
use Rattle.ocpi_types.specs.declared.setup.Node.{Node}
use Rattle.json_text.specs.declared.fault.JsonFault.{JsonFault}
use Rattle.json_text.specs.declared.fault.JsonFault.TheVariants.{Memory as LineMemory}
use Rattle.json_text.specs.Fault.{Fails as FailsToRead}
use Rattle.line_runs.specs.declared.run.Turn.{Turn}
use Rattle.line_runs.specs.declared.run.Turn.TheVariants.{Taken, Ended}
use Rattle.node_store.specs.declared.fault.StoreFault.{StoreFault}
use Rattle.node_keepers.specs.Opening.{Source}
use Rattle.stored_nodes.specs.Keepers.{IsSettled, Keeper, KeepsOn}
use Rattle.stored_nodes.specs.Stored.{IsKeptFor, IsNotBad, IsReopenFault, IsStored, Reopens, Stored}
use Rattle.stored_nodes.specs.declared.fault.ReopenFault.{ReopenFault}
use Rattle.stored_laws.specs.Nodes.{last_serial, restarted}
use Rattle.world_steps.specs.World.{NodeState}
use Rattle.node_runs.specs.SetupLines.{numbered_setup_in}
use Rattle.node_runs.specs.DoneLines.{malformed_line, opened_line}
use Rattle.node_runs.specs.Stops.{stop_of}
use Rattle.node_runs.specs.declared.fault.NodeStop.{NodeStop}
use Rattle.node_runs.specs.declared.fault.NodeStop.TheVariants.{UnknownParty, Store, Memory}

-- a node over its keeper, which is of type K, and its party as the setup spells it
pub record Running (K : Type 0) : Type 0 where
  pub party : List ℕ
  pub node : Stored K

-- What the lines so far have made: the node that runs, from the first on, or a keeper that was opened and of which no
-- node was made; the party that was asked for, where the word is one; the places whose keepers were to be opened; and
-- what stopped the run, where the node did. `number` is the number of the last line that was read, or that from which
-- lines are counted on, and `known` that of the last line that had taken hold as the node was opened; both 0 before.
pub record Stage (K : Type 0) : Type 0 where
  pub wanted : Option (List ℕ)
  pub opened : List ℕ
  pub running : Option (Running K)
  pub spare : Option K
  pub stop : Option NodeStop
  pub number : ℕ
  pub known : ℕ

-- before the first line
abbrev pub opening : {K : Type 0} → Option (List ℕ) → List ℕ → Stage K
opening wanted opened = record { wanted = wanted; opened = opened; running = None; spare = None; stop = None; number = 0; known = 0 }

-- the keeper then, where one was opened
abbrev pub keep_in : {K : Type 0} → Option (Running K) → Option K → Option K
keep_in None spare = spare
keep_in (Some now) spare = Some now.node.keep

-- ---- the first line

-- the setup has this node, which is of the party that was asked for; parties are compared without case
pub record IsMember (setup : List Node) (wanted : Option (List ℕ)) (member : Node) : Type 0 where
  pub party : List ℕ
  pub asked : wanted ≡ Some party
  pub within : Contains setup member
  pub same : key (party_of member) ≡ key party

-- what is known of a node that was made of what a keeper keeps, from which a stop leaves just that: it is stored there, so
-- it can start again
pub record Starts {K : Type 0} (keeper : Keeper K) (setup : List Node) (member : Node) (rows line : ℕ) (node : Stored K) : Type 0 where
  pub fresh : K
  pub settled : IsSettled keeper fresh
  pub reopens : Reopens keeper setup member fresh rows line node
  pub stored : IsStored keeper node
  pub again : keeper.is_honest node.keep → (s : NodeState) → IsKeptFor setup member (keeper.content fresh) s → node.state ≡ restarted s

-- the same, of a keeper that is made of what was found for the node at the first place
pub record Begins {K : Type 0} (keeper : Keeper K) (source : Source K) (setup : List Node) (member : Node) (rows line : ℕ) (node : Stored K) : Type 0 where
  pub starts : Starts keeper setup member rows line node
  pub found : source.found 1 starts.fresh

-- what is known where none was made of it
pub record Unmade {K : Type 0} (keeper : Keeper K) (setup : List Node) (member : Node) (fault : ReopenFault) (k : K) : Type 0 where
  pub fresh : K
  pub settled : IsSettled keeper fresh
  pub is : IsReopenFault keeper setup member fresh fault k
  pub keeps : KeepsOn keeper fresh k
  pub good : keeper.is_honest k → (s : NodeState) → IsKeptFor setup member (keeper.content fresh) s → IsNotBad fault

-- the place whose keeper is opened, once
abbrev pub first_place : List ℕ
first_place = 1 ∷ []

-- Why a node did not begin, the places whose keepers were to be opened, and the keeper, where one was opened: the setup
-- has no such party, and then none was; none could be had; or no node was made of its rows.
pub data IsUnbegun {K : Type 0} (keeper : Keeper K) (source : Source K) (setup : List Node) (wanted : Option (List ℕ))
    (asked : List ℕ) (spare : Option K) (stop : NodeStop) : Type 0 where
  Unknown : ((member : Node) → IsMember setup wanted member → ⊥)
      → asked ≡ [] → spare ≡ None → stop ≡ UnknownParty → IsUnbegun keeper source setup wanted asked spare stop
  Unkept : (member : Node) → IsMember setup wanted member → (fault : StoreFault) → source.may_refuse 1 fault
      → asked ≡ first_place → spare ≡ None → stop ≡ Store fault → IsUnbegun keeper source setup wanted asked spare stop
  NotMade : (member : Node) → IsMember setup wanted member → (fault : ReopenFault) (k : K) (unmade : Unmade keeper setup member fault k) → source.found 1 unmade.fresh
      → asked ≡ first_place → spare ≡ Some k → stop ≡ stop_of fault → IsUnbegun keeper source setup wanted asked spare stop

-- The line is a setup, and the node that was asked for was opened: `line` is the number of the last line that had taken
-- hold.
pub record OpensNode {K : Type 0} (keeper : Keeper K) (source : Source K) (wanted : Option (List ℕ)) (line : List ℕ) : Type 0 where
  pub setup : List Node
  pub base : Option ℕ
  pub reads : numbered_setup_in line ≡ Ok (setup, base)
  pub member : Node
  pub asked : IsMember setup wanted member
  pub rows : ℕ
  pub last : ℕ
  pub node : Stored K
  pub begins : Begins keeper source setup member rows last node

-- the number from which the lines behind the setup are counted on: the one that it tells, else that of the last line that
-- had taken hold
abbrev pub number_from : Option ℕ → ℕ → ℕ
number_from None last = last
number_from (Some base) last = base

-- the node runs
abbrev pub opened_stage : {K : Type 0} {keeper : Keeper K} {source : Source K} {line : List ℕ} → (s : Stage K) → OpensNode keeper source s.wanted line → Option NodeStop → Stage K
opened_stage s o stop = record {
  wanted = s.wanted;
  opened = s.opened ++ first_place;
  running = Some (record { party = party_of o.member; node = o.node });
  spare = s.spare;
  stop = stop;
  number = number_from o.base o.last;
  known = o.last;
}

-- what is left of the stage where the first line ends the run, and no node runs
abbrev pub ended_stage : {K : Type 0} → Stage K → List ℕ → Option K → Option NodeStop → Stage K
ended_stage s asked spare stop =
    record { wanted = s.wanted; opened = s.opened ++ asked; running = None; spare = spare; stop = stop; number = s.number; known = s.known }

abbrev pub starved_stage : {K : Type 0} → Stage K → Stage K
starved_stage s = record { wanted = s.wanted; opened = s.opened; running = None; spare = s.spare; stop = Some Memory; number = s.number; known = s.known }

-- The first line opens the keeper and the node, and says so. Where it is no setup, or the node does not begin, it is
-- the last line; so it is where memory runs out for reading it or for what is to be written, of which nothing is.
pub data SetupTurn {K : Type 0} (keeper : Keeper K) (source : Source K) (s : Stage K)
    (line : List ℕ) (turn : Turn) (out : List ℕ) (next : Stage K) : Type 0 where
  Opened : (o : OpensNode keeper source s.wanted line)
      → turn ≡ Taken → out ≡ opened_line o.last (party_of o.member) o.rows (last_serial o.node.state) → next ≡ opened_stage s o s.stop
      → SetupTurn keeper source s line turn out next
  Untold : (o : OpensNode keeper source s.wanted line)
      → turn ≡ Ended → out ≡ [] → next ≡ opened_stage s o (Some Memory)
      → SetupTurn keeper source s line turn out next
  Unbegun : (setup : List Node) (base : Option ℕ) → numbered_setup_in line ≡ Ok (setup, base)
      → (asked : List ℕ) (spare : Option K) (stop : NodeStop) → IsUnbegun keeper source setup s.wanted asked spare stop
      → turn ≡ Ended → out ≡ [] → next ≡ ended_stage s asked spare (Some stop)
      → SetupTurn keeper source s line turn out next
  NoSetup : (fault : JsonFault) → FailsToRead fault (numbered_setup_in line) → fault ≢ LineMemory
      → turn ≡ Ended → out ≡ malformed_line 1 None fault → next ≡ s
      → SetupTurn keeper source s line turn out next
  Unread : turn ≡ Ended → out ≡ [] → next ≡ starved_stage s
      → SetupTurn keeper source s line turn out next
