-- What is said of what stopped a run of one node, and the exit status.
use Rattle.std.specs.Prelude.{ℕ, List, ◌++◌, Result, Ok, Err, codes}
use Rattle.line_runs.specs.Outcome as run
use Rattle.line_runs.specs.declared.outcome.Ran.{Ran}
use Rattle.line_runs.specs.declared.outcome.RunFault.{RunFault}
use Rattle.stored_nodes.specs.declared.fault.ReopenFault.{ReopenFault}
use Rattle.stored_nodes.specs.declared.fault.ReopenFault.TheVariants as reopen
use Rattle.node_runs.specs.declared.fault.NodeRunFault.{NodeRunFault}
use Rattle.node_runs.specs.declared.fault.NodeRunFault.TheVariants.{Run, Stop}
use Rattle.node_runs.specs.declared.fault.NodeStop.{NodeStop}
use Rattle.node_runs.specs.declared.fault.NodeStop.TheVariants.{UnknownParty, Store, BadRows, Memory}
use Rattle.node_store.specs.Faults as store
use Rattle.node_store.specs.declared.fault.StoreFault.TheVariants.{Memory as StoreMemory}

-- what standard error says of what stopped a node
abbrev pub stop_text : NodeStop → List ℕ
stop_text UnknownParty = codes "node: no such party in the setup"
stop_text (Store fault) = codes "store: " ++ store.fault_text fault
stop_text (BadRows bad) = codes "store: 4 Core(BadRows)"
stop_text Memory = codes "memory: 4 Memory"

-- what it says of what stopped its run
abbrev pub fault_text : NodeRunFault → List ℕ
fault_text (Run fault) = run.fault_text fault
fault_text (Stop stop) = stop_text stop

-- 2 where the setup has no such party, 3 where the store, its rows or want of memory stopped the run; else 0 where no line was refused,
-- and 1 where one was, or where reading or writing failed
abbrev pub node_status : Result Ran NodeRunFault → ℕ
node_status (Ok ran) = run.exit_status (Ok ran)
node_status (Err (Run fault)) = run.exit_status (Err fault)
node_status (Err (Stop UnknownParty)) = 2
node_status (Err (Stop (Store fault))) = 3
node_status (Err (Stop (BadRows bad))) = 3
node_status (Err (Stop Memory)) = 3

-- why no node was made of what is kept: want of memory is told as that of the store
abbrev pub stop_of : ReopenFault → NodeStop
stop_of (reopen.Store fault) = Store fault
stop_of (reopen.BadRows bad) = BadRows bad
stop_of reopen.Memory = Store StoreMemory

-- where reading or writing stopped the run
abbrev pub IfRun : (RunFault → Type 0) → NodeRunFault → Type 0
IfRun P (Run fault) = P fault
IfRun P (Stop stop) = Unit {0}

-- where the node did
abbrev pub IfStop : (NodeStop → Type 0) → NodeRunFault → Type 0
IfStop P (Run fault) = Unit {0}
IfStop P (Stop stop) = P stop
