-- What a step leaves: its changes of rows are carried out, and what stands in no row follows.
use Rattle.std.specs.Prelude.{◌≡◌, ◌≢◌, ◌≤◌, ◌⊎◌, ℕ, ℤ, List, Option, Some, None, Contains, IsTrue}
use Rattle.std.specs.List.{AllPairs}
use Rattle.std.specs.FinMap.{get, empty, contains_key}
use Rattle.ocpi_types.specs.Prices.{price_at}
use Rattle.ocpi_types.specs.declared.rows.Change.{Change}
use Rattle.ocpi_types.specs.declared.rows.Change.TheVariants.{Put, Drop}
use Rattle.ocpi_types.specs.declared.rows.Row.TheVariants as row
use Rattle.ocpi_types.specs.declared.rows.RowKey.TheVariants as keys
use Rattle.ocpi_text.specs.Text.{key}
use Rattle.ocpi_types.specs.declared.cdrs.Cdr.{Cdr}
use Rattle.ocpi_types.specs.declared.sessions.Session.{Session}
use Rattle.ocpi_types.specs.declared.words.SessionStatus.TheVariants.{Pending}
use Rattle.session_state.specs.Pasts as pasts
use Rattle.session_state.specs.Resuming.{CannotResume}
use Rattle.session_state.specs.Versions.{IsPriced, IsUncharged}
use Rattle.authorization_book.specs.Waits as waits
use Rattle.authorization_book.specs.Waits.{HaveRoomForAll, MayWait, waited_all}
use Rattle.authorization_book.specs.declared.awaited.Awaited.{Awaited}
use Rattle.authorization_book.specs.declared.waiting.Waiting.{Waiting}
use Rattle.authorization_book.specs.declared.waiting.Waiting.TheVariants.{Begins}
use Rattle.outbox.specs.Pushes.{Pushes}
use Rattle.outbox.specs.Resend.{Resend, SendRooms, HasRoomUntil}
use Rattle.node_steps.specs.Drafts.{Step}
use Rattle.node_steps.specs.declared.plan.Volatile.{Volatile}
pub use Rattle.node_steps.specs.Timing.{HasTimeRoom, HaveTimeRoom, number_of, time_taken, timed, timed_all, untimed, untimed_all}
use Rattle.ocpi_types.specs.declared.site.SiteLine.{SiteLine}
use Rattle.operator_rows.specs.State.{State}
use Rattle.operator_rows.specs.Stored.{AreApart, Each, HasRoom, Rooms, changed, changed_all, change_key}
use Rattle.operator_rows.specs.Sound.{IsSound, MayAwait, MayChangeAll}

-- the state once a change is carried out
abbrev pub after_change : Change → State → State
after_change c s = record s { rows = changed c s.rows; resend = untimed c s.resend }

-- and once changes are, one after the other
abbrev pub after_changes : List Change → State → State
after_changes cs s = record s { rows = changed_all cs s.rows; resend = untimed_all cs s.resend }

-- and once a whole step is
abbrev pub after : Step → State → State
after x s = record s { rows = changed_all x.changes s.rows; resend = timed_all x.volatile (untimed_all x.changes s.resend) }

-- a step, and what it does to the authorizations that are awaited
pub record FullStep : Type 0 where
  pub step : Step
  pub waits : List Waiting

-- and once the step and all that it awaits is
abbrev pub after_full : FullStep → State → State
after_full x s = let t = after x.step s in record t { waits = waited_all x.waits t.waits }

-- the operator starts again from what it stored: each push is due at once, and no authorization is awaited
abbrev pub restarted : State → State
restarted s = record s { resend = empty; waits = empty }

-- the operator starts again from what it stored, under another setup: other providers, another site
abbrev pub reopened : SiteLine → State → State
reopened line s = record s { providers = line.parties.providers; site = line.site; resend = empty; waits = empty }

-- it may: the setup is of the same party, and no row that is stored is bad under it. So each session can go on from its
-- newest version, at the price of its start under that setup
pub record MayReopen (s : State) (line : SiteLine) : Type 0 where
  pub party : line.parties.operator ≡ s.party
  pub sound : IsSound (reopened line s)
  pub resumable : (id : List ℕ) (v : Session) → get s.rows.charged.sessions id ≡ Some v → ¬ CannotResume (price_at line.site v.start_date_time) v

-- a push that has no resend time, or that no change is of
abbrev pub KeepsTime : Resend → List Change → ℕ → Type 0
KeepsTime resend changes n = (get resend n ≡ None) ⊎ ((c : Change) → Contains changes c → change_key c ≢ keys.Push n)

-- the requests that are sent stand once the changes are made, each is sent once, and the room for its resend time
-- outlasts the changes
pub record MaySend (s : State) (changes : List Change) (sent : List Volatile) : Type 0 where
  pub stands : (v : Volatile) → Contains sent v → IsTrue (contains_key (changed_all changes s.rows).pushes (number_of v))
  pub apart : AllPairs (λ v w. number_of v ≢ number_of w) sent
  pub kept : (v : Volatile) → Contains sent v → KeepsTime s.resend changes (number_of v)

-- a request whose room for a resend time outlasts the changes: they do not drop it, nor put it if it has such a time
pub record Outlasts (resend : Resend) (changes : List Change) (n : ℕ) : Type 0 where
  pub undropped : ¬ Contains changes (Drop (keys.Push n))
  pub kept : KeepsTime resend changes n

-- the room for the resend times of such requests stays
abbrev pub KeepsTimeRoom : Resend → List Change → SendRooms → SendRooms → Type 0
KeepsTimeRoom resend changes s t = (n moment : ℕ) → Outlasts resend changes n → HasRoomUntil s n moment → HasRoomUntil t n moment

-- the version may be put by the prices of the moments: a new session begins with it, or it may follow the version that
-- stands (OCPI 2.2.1, Sessions: SessionStatus)
abbrev pub IsNextOf : (ℕ → ℤ) → Option Session → Session → Type 0
IsNextOf price None v = (v.status ≡ Pending) × IsPriced price v × IsUncharged v
IsNextOf price (Some w) v = pasts.MayFollow price w v

abbrev pub IsNext : State → Session → Type 0
IsNext s v = IsNextOf (price_at s.site) (get s.rows.charged.sessions (key v.id)) v

-- the step may be carried out: each version of a session that it puts may come next, and a charge detail record
-- replaces none
pub record MayFollow (s : State) (x : Step) : Type 0 where
  pub apart : AreApart x.changes
  pub may : MayChangeAll s x.changes
  pub sends : MaySend s x.changes x.volatile
  pub sessions : (v : Session) → Contains x.changes (Put (row.Session v)) → IsNext s v
  pub cdrs : (c : Cdr) → Contains x.changes (Put (row.Cdr c)) → get s.rows.charged.cdrs (key c.id) ≡ None

-- each authorization that is to be awaited may be
abbrev pub AreAwaitable : State → List Waiting → Type 0
AreAwaitable s waits = (n : ℕ) (w : Awaited) → Contains waits (Begins n w) → MayAwait s w

-- the step may be carried out with what it awaits
pub record MayFollowFull (s : State) (x : FullStep) : Type 0 where
  pub step : MayFollow s x.step
  pub waits : MayWait s.waits x.waits
  pub awaited : AreAwaitable s x.waits
  -- what is awaited then was asked for by a request whose number was given
  pub asked : (n : ℕ) → IsTrue (contains_key (after_full x s).waits n) → n ≤ (after_full x s).rows.request

-- the state of an operator, and the room that is taken beside it
pub record Node : Type 0 where
  pub state : State
  pub rooms : Rooms
  pub sending : SendRooms
  pub waiting : waits.Rooms

-- each request that is sent is a push that stands, and no two are the same
pub record AreSendable (pushes : Pushes) (sent : List Volatile) : Type 0 where
  pub stands : (v : Volatile) → Contains sent v → IsTrue (contains_key pushes (number_of v))
  pub apart : AllPairs (λ v w. number_of v ≢ number_of w) sent

-- the step takes no memory
pub record HasRoomFor (b : Node) (x : Step) : Type 0 where
  pub changes : Each (HasRoom b.rooms) x.changes
  pub volatile : HaveTimeRoom b.sending x.volatile

pub record HasFullRoomFor (b : Node) (x : FullStep) : Type 0 where
  pub step : HasRoomFor b x.step
  pub waits : HaveRoomForAll b.waiting x.waits
