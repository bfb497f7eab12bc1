-- What happened at a cell, and how that goes on.
use Rattle.std.specs.Prelude.{◌≡◌, ◌++◌, ℕ, List, [], Bool, true, length}
use Rattle.node_cells.specs.Cells.{Cell}
use Rattle.history_laws.specs.Replays.{Replays}
use Rattle.histories.specs.declared.entry.Entry.{Entry}
use Rattle.provider_rows.specs.State as provider
use Rattle.world_steps.specs.World.{NodeState, Provides}

-- a cell without its keeper: whose node it is; the node as it was opened, the entries since then, and the node as they
-- left it; and whether it was opened before any event
pub record Log : Type 0 where
  pub party : List ℕ
  pub first : NodeState
  pub history : List Entry
  pub state : NodeState
  pub is_fresh : Bool

abbrev pub log_of : {K : Type 0} → Cell K → Log
log_of c = record { party = c.party; first = c.first; history = c.history; state = c.state; is_fresh = c.is_fresh }

-- The log goes on, by so many entries. They come behind those before, and the state of the node now is what they made of
-- its state then. It is the same node, and was not opened anew.
pub record GoesOn (before after : Log) (number : ℕ) : Type 0 where
  pub later : List Entry
  pub history : after.history ≡ before.history ++ later
  pub replays : Replays before.state later after.state
  pub number_is : length later ≡ number
  pub party : after.party ≡ before.party
  pub first : after.first ≡ before.first
  pub fresh : after.is_fresh ≡ before.is_fresh

-- some log: of a provider of no name at which nothing happened
abbrev pub first_log : Log
first_log =
    let nobody = Provides (provider.opening (record { provider = []; operators = [] })) in
    record { party = []; first = nobody; history = []; state = nobody; is_fresh = true }
