-- The life of a node: what the entries of its history make of it, where each start may be under another setup.
use Rattle.std.specs.Prelude.{◌≡◌, List, [], ◌∷◌, map}
use Rattle.ocpi_types.specs.declared.node_events.NodeEventKind.TheVariants as event
use Rattle.ocpi_types.specs.declared.site.SiteLine.{SiteLine}
use Rattle.histories.specs.declared.entry.Entry.{Entry}
use Rattle.history_laws.specs.Replays.{Did, WasIdle}
use Rattle.network_laws.specs.Setups.{Setup}
use Rattle.network_laws.specs.Steps.{NodeHappens}
use Rattle.operator_steps.specs.Events as operator
use Rattle.provider_rows.specs.State.{Peering}
use Rattle.provider_steps.specs.Events as provider
use Rattle.world_steps.specs.Steps.{AtOperator, AtProvider, NodeEvent}
use Rattle.world_steps.specs.World.{NodeState, Operates, Provides}

-- the node starts under a setup, the one that it had or another, which changes no row and sends nothing
abbrev pub IsStart : NodeEvent → Type 0
IsStart (AtOperator e) = (line : SiteLine) × (e ≡ record { input = operator.Reopens line; changes = []; packets = [] })
IsStart (AtProvider e) = (p : Peering) × (e ≡ record { input = provider.Reopens p; changes = []; packets = [] })

-- time 0 passes, and nothing is done
abbrev pub nothing_at : NodeState → NodeEvent
nothing_at (Operates s) = AtOperator (record { input = operator.Ticks 0; changes = []; packets = [] })
nothing_at (Provides s) = AtProvider (record { input = provider.Ticks 0; changes = []; packets = [] })

-- An entry, and the event that happened by it: the node did what the entry's event asks for, or it did nothing; or the
-- entry is no more than a start, which is under a setup.
pub data EntryHappens (s : NodeState) (e : Entry) (x : NodeEvent) (t : NodeState) : Type 0 where
  IsDone : Did s e x t → EntryHappens s e x t
  IsIdle : WasIdle s e t → x ≡ nothing_at s → EntryHappens s e x t
  IsStarted : e ≡ record { event = event.Restart; packets = [] } → IsStart x → NodeHappens s x t → EntryHappens s e x t

-- the entries and their events, one by one, led from the first state to the last
abbrev pub Lives : NodeState → List Entry → List NodeEvent → NodeState → Type 0
Lives first [] [] last = first ≡ last
Lives first [] (x ∷ xs) last = ⊥
Lives first (e ∷ es) [] last = ⊥
Lives first (e ∷ es) (x ∷ xs) last = (s : NodeState) × EntryHappens first e x s × Lives s es xs last

-- what a node was set up with at first, all that happened at it, and the state that this left it in
pub record NodeLife : Type 0 where
  pub setup : Setup
  pub events : List NodeEvent
  pub last : NodeState

abbrev pub first_setup : NodeLife → Setup
first_setup l = l.setup

abbrev pub setups_of : List NodeLife → List Setup
setups_of lives = map first_setup lives
