-- What the program `play` writes for what it reads: a setup line, then events at its nodes, and at the end what is
-- owed.
use Rattle.std.specs.Prelude.{◌≡◌, ◌≢◌, ℕ, ℤ, ◌+◌, min, Bool, cond, List, [], ◌∷◌, ◌++◌, Option, None, Some, Ok, codes, flat_map}
use Rattle.ocpi_text.specs.Decimal.{sum_text}
use Rattle.ocpi_text.specs.Text.{key}
use Rattle.ocpi_types.specs.declared.events.Event.{Event}
use Rattle.ocpi_types.specs.declared.packet.Packet.{Packet}
use Rattle.ocpi_types.specs.declared.rows.Change.{Change}
use Rattle.ocpi_types.specs.declared.setup.Node.{Node}
use Rattle.ocpi_types.specs.declared.setup.Node.TheVariants as node
use Rattle.json_text.specs.declared.fault.JsonFault.{JsonFault}
use Rattle.json_text.specs.declared.fault.JsonFault.TheVariants.{Syntax}
use Rattle.json_text.specs.Fault.{Fails, fault_text as json_fault_text}
use Rattle.ocpi_json.specs.EventForms.{event_in}
use Rattle.ocpi_json.specs.SetupForms.{setup_in}
use Rattle.node_steps.specs.declared.fault.NodeFault.{NodeFault}
use Rattle.node_steps.specs.declared.fault.NodeFault.TheVariants.{Memory}
use Rattle.node_steps.specs.FaultText.{fault_text as node_fault_text}
use Rattle.world_steps.specs.Steps.{Gives, Outcome}
use Rattle.world_steps.specs.Steps as outcome
use Rattle.world_steps.specs.World.{World, opened}
use Rattle.world.specs.State.{owed_by}
use Rattle.line_runs.specs.Run.{Begins, Outputs, StopsReading}
use Rattle.line_runs.specs.declared.outcome.Ran.{Ran}
use Rattle.line_runs.specs.declared.outcome.Ran.TheVariants.{Whole, WithRefusals}
use Rattle.line_runs.specs.declared.outcome.RunFault.{RunFault}
use Rattle.line_runs.specs.declared.run.Turn.{Turn}
use Rattle.line_runs.specs.declared.run.Turn.TheVariants.{Taken, Refused, Ended}
use Rattle.node_store.specs.declared.fault.StoreFault.{StoreFault}
use Rattle.node_keepers.specs.Keeping.{AreOpened, AreUnopened, KeeperRefuses, KeeperTakes, Keeping}
use Rattle.program_lines.specs.Writing.{packet_lines, refusal_line}
use Rattle.node_keepers.specs.declared.keeping.KeptNode.{KeptNode}
use Rattle.node_programs.specs.Done.{malformed_line, refused_line, skipped_line, step_line}

-- a world, the setup that it was opened from, and the keepers of its nodes, which are of type K
pub record Playing (K : Type 0) : Type 0 where
  pub setup : List Node
  pub world : World
  pub kept : List (KeptNode K)

-- what a setup line makes: its world, in which nothing has happened, and these keepers
abbrev pub played_from : {K : Type 0} → List Node → List (KeptNode K) → Playing K
played_from setup kept = record { setup = setup; world = opened setup; kept = kept }

-- what the lines so far have made, and why a store stopped the run, where one did
pub record Stage (K : Type 0) : Type 0 where
  pub playing : Option (Playing K)
  pub stop : Option StoreFault

-- the same, and the number of the last line that held something: 0 before the first, and none without `--done`
pub record Counted (K : Type 0) : Type 0 where
  pub stage : Stage K
  pub line : Option ℕ

-- before the first line, with or without `--done`
abbrev pub opening : {K : Type 0} → Bool → Counted K
opening done = record { stage = record { playing = None; stop = None }; line = cond done (Some 0) None }

-- the number of the next line, where lines are counted: the setup is line 1
abbrev pub next_line : Option ℕ → Option ℕ
next_line None = None
next_line (Some line) = Some (min (line + 1) 18446744073709551615)

-- Behind the packets of an event, where lines are counted: the line that says that the node did it.
abbrev pub end_lines : Option ℕ → List Packet → List Change → List ℕ
end_lines None packets changes = []
end_lines (Some line) packets changes = step_line line packets changes

-- that an event is of no node
abbrev pub passed_lines : Option ℕ → List ℕ
passed_lines None = codes "skipped\n"
passed_lines (Some line) = skipped_line line

-- why an event was refused
abbrev pub event_refusal : Option ℕ → NodeFault → List ℕ
event_refusal None fault = refusal_line (node_fault_text fault)
event_refusal (Some line) fault = refused_line line fault

-- why a line is no event
abbrev pub line_refusal : Option ℕ → JsonFault → List ℕ
line_refusal None fault = refusal_line (json_fault_text fault)
line_refusal (Some line) fault = malformed_line line fault

-- What is written of an event, with its line's number where lines are counted: the packets that the node sent, that it
-- was of no node, or why it was refused.
abbrev pub event_lines : Option ℕ → Outcome → List ℕ
event_lines line (outcome.Stepped packets changes) = packet_lines packets ++ end_lines line packets changes
event_lines line outcome.Skipped = passed_lines line
event_lines line (outcome.Refused fault) = event_refusal line fault

-- an event that was of no node is no refused line
abbrev pub turn_of : Outcome → Turn
turn_of (outcome.Stepped packets changes) = Taken
turn_of outcome.Skipped = Taken
turn_of (outcome.Refused fault) = Refused

-- the rows that an event changed
abbrev pub changes_told : Outcome → List Change
changes_told (outcome.Stepped packets changes) = changes
changes_told outcome.Skipped = []
changes_told (outcome.Refused fault) = []

-- The first line opens the world and a keeper for each node. Where it is no setup, or a node gets no keeper, that is
-- all; of the latter the fault is told.
pub data SetupTurn {K : Type 0} (keeping : Keeping K) (may_refuse : ℕ → StoreFault → Type 0) (stop : Option StoreFault)
    (line : List ℕ) (turn : Turn) (out : List ℕ) (next : Stage K) : Type 0 where
  Opened : (setup : List Node) → setup_in line ≡ Ok setup → (kept : List (KeptNode K)) → AreOpened keeping setup kept
      → turn ≡ Taken → out ≡ [] → next ≡ record { playing = Some (played_from setup kept); stop = stop }
      → SetupTurn keeping may_refuse stop line turn out next
  Unkept : (setup : List Node) → setup_in line ≡ Ok setup → (fault : StoreFault) → AreUnopened keeping may_refuse setup fault
      → turn ≡ Ended → out ≡ [] → next ≡ record { playing = None; stop = Some fault }
      → SetupTurn keeping may_refuse stop line turn out next
  NoSetup : (fault : JsonFault) → Fails fault (setup_in line)
      → turn ≡ Ended → out ≡ refusal_line (json_fault_text fault) → next ≡ record { playing = None; stop = stop }
      → SetupTurn keeping may_refuse stop line turn out next

-- Each other line is an event of the world, and the rows that it changes are kept. A line that is no event changes
-- nothing, and neither does an event that is refused, by the node or for want of memory. Where there are changes, and
-- the keeper of the node refuses them, nothing is written, the run ends, no keeper has anything of them, and the
-- keeper's fault is told. What became of an event is said with its line's number, where lines are counted.
pub data EventTurn {K : Type 0} (keeping : Keeping K) (number : Option ℕ) (stop : Option StoreFault) (now : Playing K)
    (line : List ℕ) (turn : Turn) (out : List ℕ) (next : Stage K) : Type 0 where
  Happened : (event : Event) → event_in line ≡ Ok event → (o : Outcome) → (v : World) → Gives now.world event o v
      → (kept : List (KeptNode K)) → KeeperTakes keeping event.node (changes_told o) now.kept kept
      → turn ≡ turn_of o → out ≡ event_lines number o → next ≡ record { playing = Some (record { setup = now.setup; world = v; kept = kept }); stop = stop }
      → EventTurn keeping number stop now line turn out next
  Lost : (event : Event) → event_in line ≡ Ok event → (o : Outcome) → (v : World) → Gives now.world event o v → changes_told o ≢ []
      → (fault : StoreFault) → (kept : List (KeptNode K)) → KeeperRefuses keeping event.node fault now.kept kept
      → turn ≡ Ended → out ≡ [] → next ≡ record { playing = Some (record { setup = now.setup; world = v; kept = kept }); stop = Some fault }
      → EventTurn keeping number stop now line turn out next
  Starved : (event : Event) → event_in line ≡ Ok event
      → turn ≡ Refused → out ≡ event_refusal number Memory → next ≡ record { playing = Some now; stop = stop }
      → EventTurn keeping number stop now line turn out next
  Unread : (fault : JsonFault) → Fails fault (event_in line)
      → turn ≡ Refused → out ≡ line_refusal number fault → next ≡ record { playing = Some now; stop = stop }
      → EventTurn keeping number stop now line turn out next

-- one line, with no world before the first
abbrev pub PlayTurn : {K : Type 0} → Keeping K → (ℕ → StoreFault → Type 0) → Option (Playing K) → Option ℕ → Option StoreFault → List ℕ → Turn → List ℕ → Stage K → Type 0
PlayTurn keeping may_refuse None number stop line turn out next = SetupTurn keeping may_refuse stop line turn out next
PlayTurn keeping may_refuse (Some now) number stop line turn out next = EventTurn keeping number stop now line turn out next

-- the same, and the line is counted
abbrev pub PlayLineGives : {K : Type 0} → Keeping K → (ℕ → StoreFault → Type 0) → Counted K → List ℕ → Turn → List ℕ → Counted K → Type 0
PlayLineGives keeping may_refuse s line turn out next =
    PlayTurn keeping may_refuse s.stage.playing (next_line s.line) s.stage.stop line turn out next.stage × (next.line ≡ next_line s.line)

-- what a provider owes an operator in a currency
abbrev pub debt_line : List ℕ → List ℕ → List ℕ → ℤ → List ℕ
debt_line provider operator currency sum =
    codes "owed " ++ provider ++ codes " " ++ operator ++ codes " " ++ currency ++ codes " " ++ sum_text sum ++ 10 ∷ []

-- what a provider owes a node, in its currency: a line where that is an operator, and none where it is a provider
abbrev pub debt_lines : World → List ℕ → Node → List ℕ
debt_lines w provider (node.Operator party site) = debt_line provider party site.currency (owed_by w provider (key party, site.currency))
debt_lines w provider (node.Provider party) = []

-- what a node owes all nodes, in their order, where it is a provider
abbrev pub debts_of : World → List Node → Node → List ℕ
debts_of w setup (node.Operator party site) = []
debts_of w setup (node.Provider party) = flat_map (debt_lines w party) setup

-- what all nodes owe, in their order
abbrev pub owed_lines : {K : Type 0} → Playing K → List ℕ
owed_lines now = flat_map (debts_of now.world now.setup) now.setup

-- An input with no line is refused as one with a line that is no JSON. Otherwise what is owed is written at the end.
abbrev pub PlayEnd : {K : Type 0} → Option (Playing K) → Ran → List ℕ → Type 0
PlayEnd None ran out = (ran ≡ WithRefusals) × (out ≡ refusal_line (json_fault_text Syntax))
PlayEnd (Some now) ran out = (ran ≡ Whole) × (out ≡ owed_lines now)

abbrev pub PlayEndGives : {K : Type 0} → Counted K → Ran → List ℕ → Type 0
PlayEndGives s ran out = PlayEnd s.stage.playing ran out

-- Where a reader tells its bytes, and a writer what it holds: what was written is an output of the input. At its end
-- `stop` is why a store stopped the run, where one did: it is set by the line that ended the run alone (`Unkept`,
-- `Lost`). `left` is the world, with its keepers, as the lines that were answered left it, so that each keeps what they
-- made it keep and nothing else.
pub record PlayOutputs {K : Type 0} (keeping : Keeping K) (may_refuse : ℕ → StoreFault → Type 0)
    (done : Bool) (text : Option (List ℕ)) (ran : Ran) (stop : Option StoreFault) (old new : Option (List ℕ)) (left : Option (Playing K)) : Type 0 where
  pub last : Counted K
  pub outputs : Outputs (PlayLineGives keeping may_refuse) PlayEndGives (opening done) text ran old new last
  pub stopped_by : last.stage.stop ≡ stop
  pub leaves : last.stage.playing ≡ left

-- The same of a run that reading or writing stopped: what was written is a beginning of an output. The world and its
-- keepers are as the lines that were answered left them; where the answer to one was not written whole, as that one did.
pub record PlayBegins {K : Type 0} (keeping : Keeping K) (may_refuse : ℕ → StoreFault → Type 0)
    (done : Bool) (text old new : Option (List ℕ)) (left : Option (Playing K)) : Type 0 where
  pub last : Counted K
  pub begins : Begins (PlayLineGives keeping may_refuse) PlayEndGives (opening done) text old new last
  pub leaves : last.stage.playing ≡ left

-- the same of one that reading stopped: what was written, and what the keepers keep, is what exactly the lines that
-- were read whole give
pub record PlayStops {K : Type 0} (keeping : Keeping K) (may_refuse : ℕ → StoreFault → Type 0) (done : Bool) (fault : RunFault)
    (text rest old new : Option (List ℕ)) (left : Option (Playing K)) : Type 0 where
  pub last : Counted K
  pub stops : StopsReading (PlayLineGives keeping may_refuse) (opening done) fault text rest old new last
  pub leaves : last.stage.playing ≡ left
