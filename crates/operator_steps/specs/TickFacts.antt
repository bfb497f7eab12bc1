-- What a moment comes to, read from the state before it.
use Rattle.std.specs.Prelude.{◌≡◌, ◌↔◌, ℕ, ◌+◌, length, map, List, [], ◌∷◌, ◌++◌, Option, Some, None, Contains}
use Rattle.std.specs.FinMap.{get}
use Rattle.ocpi_text.specs.Text.{key}
use Rattle.ocpi_types.specs.declared.rows.Change.TheVariants.{Drop}
use Rattle.ocpi_types.specs.declared.rows.Counter.TheVariants as counter
use Rattle.ocpi_types.specs.declared.rows.RowKey.TheVariants as keys
use Rattle.authorization_book.specs.Waits as waits
use Rattle.authorization_book.specs.declared.awaited.Awaited.{Awaited}
use Rattle.authorization_book.specs.declared.waiting.Waiting.TheVariants.{Ends}
use Rattle.command_book.specs.Stored as book
use Rattle.command_book.specs.Due.{AreDue}
use Rattle.outbox.specs.Due.{AreExactly, IsDue}
use Rattle.reservation_book.specs.Calls.{AreExpired}
use Rattle.reservation_book.specs.declared.standing.Standing.{Standing}
use Rattle.node_steps.specs.Acts.{Act, all_changes, changed}
use Rattle.node_steps.specs.Drafts.{count_change}
use Rattle.node_steps.specs.Peers.{HasPeer}
use Rattle.operator_rows.specs.State.{State, as_outbox}
use Rattle.operator_rows.specs.Sound.{IsConsistent}
use Rattle.operator_steps.specs.declared.ending.Ending.{Ending}
use Rattle.operator_steps.specs.Ends.{all_resent, ends_acts, expired_acts}
use Rattle.operator_steps.specs.Moves.{Work}
use Rattle.operator_steps.specs.Sessions.{IsBegun}
use Rattle.operator_steps.specs.Tick.{TickLine, TimeOut}
use Rattle.session_tables.specs.declared.beginning.Beginning.{Beginning}
use Rattle.session_tables.specs.Answers.{BeginsWithoutAnswer, Decided}
use Rattle.session_tables.specs.Places.{MayTakeAt}

-- whether a session begins where the authorization that is awaited under that number gets no answer, read before the
-- moment: the claims that end by the moment are passed over
pub record IsLeftUnanswered (s : State) (at n : ℕ) (begins : Option Beginning) : Type 0 where
  pub awaited : Awaited
  pub stands : get s.waits n ≡ Some awaited
  pub decided : Decided (BeginsWithoutAnswer s.site (MayTakeAt s.rows at awaited.token (key awaited.place.evse_uid)) awaited) begins

-- the sessions that begin, as in AreUnanswered, all read before the moment
pub data AreLeftUnanswered (s : State) (at : ℕ) : ℕ → ℕ → List ℕ → List Act → ℕ → Type 0 where
  None_left : (last n : ℕ) → AreLeftUnanswered s at last n [] [] n
  Nothing_begins : (last n k : ℕ) (ks : List ℕ) (acts : List Act) (now : ℕ) → IsLeftUnanswered s at k None → AreLeftUnanswered s at last n ks acts now →
      AreLeftUnanswered s at last n (k ∷ ks) acts now
  Begins_session : (last n k : ℕ) (ks : List ℕ) (b : Beginning) (begun acts : List Act) (now : ℕ) → IsLeftUnanswered s at k (Some b) → IsBegun s at last (n + 1) b begun →
      AreLeftUnanswered s at (last + 1) (n + 1) ks acts now → AreLeftUnanswered s at last n (k ∷ ks) (begun ++ acts) now

-- a push that is due and that no session which begins replaces
pub record IsStillDue (s : State) (at : ℕ) (begun : List Act) (n : ℕ) : Type 0 where
  pub due : IsDue (as_outbox s.rows) s.resend at n
  pub unreplaced : ¬ Contains (all_changes begun) (Drop (keys.Push n))

-- the acts of a moment: commands time out, reservations expire, sessions begin, and pushes that are due are sent
-- again, all as they stood before
abbrev pub tick_acts : ℕ → State → List Ending → List Standing → ℕ → List Act → List ℕ → List Act
tick_acts at s ends expired now begun due =
    (ends_acts at s.rows.commands.pending s.rows.request ends ++ expired_acts expired) ++
    ((map changed (count_change counter.Session s.rows.charged.last_session now) ++ begun) ++ all_resent s.providers at s.rows.pushes due)

-- what times out, has expired, is awaited no more and is due, all read from the state before the moment
pub record IsTickOf (s : State) (at : ℕ) (work : Work) : Type 0 where
  pub ends : List Ending
  pub timed_out : TimeOut s at ends
  pub expired : List Standing
  pub have_expired : AreExpired at s.rows.booked.reservations expired
  pub late : List ℕ
  pub are_late : AreExactly (waits.IsDue s.waits at) late
  pub begun : List Act
  pub now : ℕ
  pub unanswered : AreLeftUnanswered s at (s.rows.request + length ends) s.rows.charged.last_session late begun now
  pub due : List ℕ
  pub are_due : AreExactly (IsStillDue s at begun) due
  pub work_is : work ≡ record { acts = tick_acts at s ends expired now begun due; waits = map Ends late }

-- a moment comes to just this, though each of its stages reads what the ones before it left
abbrev pub StagesSeeStart : Type 0
StagesSeeStart = (s : State) (at : ℕ) (work : Work) → IsConsistent s → TickLine s at work ↔ IsTickOf s at work

-- each command that is due at a moment is of a provider of the site, so that a timeout can be told
abbrev pub DueHaveProviders : Type 0
DueHaveProviders = (s : State) (at : ℕ) (due : List book.Request) → IsConsistent s → AreDue s.rows.commands.pending at due → (p : List ℕ) (n : ℕ) → Contains due (p, n) → HasPeer s.providers p
