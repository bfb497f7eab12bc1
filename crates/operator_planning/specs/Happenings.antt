-- What happens at a moment, as all is read before it.
use Rattle.std.specs.Prelude.{◌≡◌, ◌≤◌, ℕ, ◌+◌, ◌||◌, Bool, false, not, nat_eq, length, List, [], ◌∷◌, Option, Some, None}
use Rattle.std.specs.List.{filter}
use Rattle.ocpi_text.specs.Whole.{max_whole}
use Rattle.node_steps.specs.Acts.{Act}
use Rattle.authorization_book.specs.Waits as waits
use Rattle.outbox.specs.Due.{AreExactly, IsDue}
use Rattle.reservation_book.specs.Calls.{AreExpired}
use Rattle.operator_rows.specs.State.{State, as_outbox}
use Rattle.operator_steps.specs.Tick.{TimeOut}
use Rattle.operator_steps.specs.TickFacts.{tick_acts}
use Rattle.operator_planning.specs.Planned.{AreBeginnings, AreNewSessions, all_begun}
use Rattle.operator_planning.specs.declared.sessions.Begun.{Begun}
use Rattle.operator_planning.specs.declared.ticks.Due.{Due}
use Rattle.operator_planning.specs.declared.ticks.Happening.{Happening}
use Rattle.session_tables.specs.declared.beginning.Beginning.{Beginning}

-- the push of an older version has that number
abbrev pub is_number : Option ℕ → ℕ → Bool
is_number None n = false
is_number (Some older) n = nat_eq older n

-- the first version of one of the sessions replaces the push of that number
abbrev pub is_replaced : List Begun → ℕ → Bool
is_replaced [] n = false
is_replaced (x ∷ xs) n = is_number x.first.older n || is_replaced xs n

-- the numbers of the pushes that none of the sessions replaces
abbrev pub unreplaced : List Begun → List ℕ → List ℕ
unreplaced xs numbers = filter (λ n. not (is_replaced xs n)) numbers

-- what is due at that moment: commands that time out, reservations that expire, pushes that are sent again
pub record AreDueAt (s : State) (at : ℕ) (x : Due) : Type 0 where
  pub timed_out : TimeOut s at x.ends.items
  pub have_expired : AreExpired at s.rows.booked.reservations x.expired.items
  pub are_due : AreExactly (IsDue (as_outbox s.rows) s.resend at) x.pushes.items

-- these sessions begin where the authorizations that are late at that moment get no answer
pub record BeginAt (s : State) (at : ℕ) (beginnings : List Beginning) : Type 0 where
  pub late : List ℕ
  pub are_late : AreExactly (waits.IsDue s.waits at) late
  pub begin : AreBeginnings s at late beginnings

-- the acts of what happens
abbrev pub happening_acts : ℕ → State → Happening → List Act
happening_acts at s x =
    tick_acts at s x.due.ends.items x.due.expired.items x.last (all_begun at (s.rows.request + length x.due.ends.items) x.begun.items) x.resent.items

-- this is what happens at that moment, where these sessions begin
pub record HappenWith (s : State) (at : ℕ) (beginnings : List Beginning) (x : Happening) : Type 0 where
  pub due : AreDueAt s at x.due
  pub new_sessions : AreNewSessions s at s.rows.charged.last_session beginnings x.begun.items
  pub last_is : x.last ≡ s.rows.charged.last_session + length beginnings
  pub in_range : x.last ≤ max_whole
  pub resent_are : x.resent.items ≡ unreplaced x.begun.items x.due.pushes.items

-- this is what happens at that moment, at which those authorizations are late
pub record IsHappening (s : State) (at : ℕ) (late : List ℕ) (x : Happening) : Type 0 where
  pub beginnings : List Beginning
  pub begin : AreBeginnings s at late beginnings
  pub happen : HappenWith s at beginnings x
