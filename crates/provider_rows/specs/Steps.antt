-- What a step leaves: its changes of rows are carried out, and what stands in no row follows.
use Rattle.std.specs.Prelude.{◌≡◌, ◌≢◌, ◌⊎◌, ℕ, List, Some, None, Contains}
use Rattle.std.specs.List.{AllPairs}
use Rattle.std.specs.FinMap.{get, empty}
use Rattle.ocpi_types.specs.declared.rows.Change.{Change}
use Rattle.ocpi_types.specs.declared.rows.Change.TheVariants.{Drop}
use Rattle.ocpi_types.specs.declared.rows.RowKey.{RowKey}
use Rattle.outbox.specs.Outbox.{OutboxRows, Waits, request_of}
use Rattle.outbox.specs.Resend.{Resend, SendRooms, HasRoomUntil}
use Rattle.node_steps.specs.Drafts.{Step}
use Rattle.node_steps.specs.declared.plan.Volatile.{Volatile}
pub use Rattle.node_steps.specs.Timing.{HasTimeRoom, HaveTimeRoom, number_of, time_taken, timed, timed_all, untimed, untimed_all}
use Rattle.provider_rows.specs.State.{ArePeers, Peering, State}
use Rattle.provider_rows.specs.Stored.{AreApart, Each, HasRoom, Rooms, changed, changed_all, change_key}
use Rattle.provider_rows.specs.Sound.{IsSound, MayChangeAll}

-- the state once a change is carried out
abbrev pub after_change : Change → State → State
after_change c s = record s { rows = changed c s.rows; resend = untimed c s.resend }

-- and once changes are, one after the other
abbrev pub after_changes : List Change → State → State
after_changes cs s = record s { rows = changed_all cs s.rows; resend = untimed_all cs s.resend }

-- and once a whole step is
abbrev pub after : Step → State → State
after x s = record s { rows = changed_all x.changes s.rows; resend = timed_all x.volatile (untimed_all x.changes s.resend) }

-- the provider starts again from what it stored: each request that waits is due at once
abbrev pub restarted : State → State
restarted s = record s { resend = empty }

-- the provider starts again from what it stored, and deals with other operators
abbrev pub reopened : Peering → State → State
reopened p s = record s { operators = p.operators; resend = empty }

-- it may: the peers are of the same party, and no row that is stored is bad among them
pub record MayReopen (s : State) (p : Peering) : Type 0 where
  pub party : p.provider ≡ s.party
  pub peers : ArePeers (record { provider = s.party; operators = p.operators })
  pub sound : IsSound (reopened p s)

-- a request that has no resend time, or that no change is of
abbrev pub KeepsTime : Resend → List Change → ℕ → Type 0
KeepsTime resend changes n = (get resend n ≡ None) ⊎ ((c : Change) → Contains changes c → request_of (change_key c) ≢ Some n)

-- no change drops the row of that request
abbrev pub IsUndropped : List Change → ℕ → Type 0
IsUndropped changes n = (k : RowKey) → Contains changes (Drop k) → request_of k ≢ Some n

-- the requests that are sent wait for their answers once the changes are made, each is sent once, and the room for its
-- resend time outlasts the changes
pub record MaySend (s : State) (changes : List Change) (sent : List Volatile) : Type 0 where
  pub waits : (v : Volatile) → Contains sent v → Waits (changed_all changes s.rows).outbox (number_of v)
  pub apart : AllPairs (λ v w. number_of v ≢ number_of w) sent
  pub kept : (v : Volatile) → Contains sent v → KeepsTime s.resend changes (number_of v)
  pub undropped : (v : Volatile) → Contains sent v → IsUndropped changes (number_of v)

-- a request whose room for a resend time outlasts the changes: they do not drop it, nor put it if it has such a time
pub record Outlasts (resend : Resend) (changes : List Change) (n : ℕ) : Type 0 where
  pub undropped : IsUndropped changes n
  pub kept : KeepsTime resend changes n

-- the room for the resend times of such requests stays
abbrev pub KeepsTimeRoom : Resend → List Change → SendRooms → SendRooms → Type 0
KeepsTimeRoom resend changes s t = (n moment : ℕ) → Outlasts resend changes n → HasRoomUntil s n moment → HasRoomUntil t n moment

-- the step may be carried out
pub record MayFollow (s : State) (x : Step) : Type 0 where
  pub apart : AreApart x.changes
  pub may : MayChangeAll s x.changes
  pub sends : MaySend s x.changes x.volatile

-- the state of a provider, and the room that is taken beside it
pub record Node : Type 0 where
  pub state : State
  pub rooms : Rooms
  pub sending : SendRooms

-- each request that is sent waits for its answer, and no two are the same
pub record AreSendable (rows : OutboxRows) (sent : List Volatile) : Type 0 where
  pub waits : (v : Volatile) → Contains sent v → Waits rows (number_of v)
  pub apart : AllPairs (λ v w. number_of v ≢ number_of w) sent

-- the step takes no memory
pub record HasRoomFor (b : Node) (x : Step) : Type 0 where
  pub changes : Each (HasRoom b.rooms) x.changes
  pub volatile : HaveTimeRoom b.sending x.volatile
