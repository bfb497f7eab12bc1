-- What the time does at an operator, stage by stage.
use Rattle.std.specs.Prelude.{◌≡◌, ◌≤◌, ℕ, List, [], ◌∷◌, map, Contains}
use Rattle.ocpi_types.specs.declared.words.CommandResultType.TheVariants.{Timeout}
use Rattle.command_book.specs.Stored as book
use Rattle.command_book.specs.Due.{AreDue}
use Rattle.outbox.specs.Due.{AreExactly, IsDue}
use Rattle.reservation_book.specs.declared.standing.Standing.{Standing}
use Rattle.reservation_book.specs.Calls.{AreExpired}
use Rattle.node_steps.specs.Acts.{Act}
use Rattle.operator_rows.specs.State.{State, as_outbox}
use Rattle.operator_steps.specs.declared.ending.Ending.{Ending}
use Rattle.operator_steps.specs.Ends.{IsOfSite, all_resent, ends_acts, expired_acts}
use Rattle.operator_steps.specs.Asking.{Deadlines}
use Rattle.operator_steps.specs.Moves.{Out, Quietly, Stages, StepBy, Work}

abbrev pub request_of : Ending → book.Request
request_of e = (e.provider, e.number)

-- the ending is a timeout, as its provider is told (OCPI 2.2.1, Commands: CommandResultType)
pub record IsTimeout (providers : List (List ℕ)) (e : Ending) : Type 0 where
  pub result_is : e.result ≡ Timeout
  pub of_site : IsOfSite providers e

-- these are the open commands whose deadline is at or before the moment, by provider and then by number
pub record TimeOut (s : State) (at : ℕ) (ends : List Ending) : Type 0 where
  pub due : AreDue s.rows.commands.pending at (map request_of ends)
  pub each : (e : Ending) → Contains ends e → IsTimeout s.providers e

-- open commands that are due end by a timeout
pub record Timeouts (at : ℕ) (s : State) (acts : List Act) : Type 0 where
  pub ends : List Ending
  pub timed_out : TimeOut s at ends
  pub acts_are : acts ≡ ends_acts at s.rows.commands.pending s.rows.request ends

-- reservations whose expiry is at or before the moment end, of which nobody is told
pub record Expiries (at : ℕ) (s : State) (acts : List Act) : Type 0 where
  pub expired : List Standing
  pub have_expired : AreExpired at s.rows.booked.reservations expired
  pub acts_are : acts ≡ expired_acts expired

-- the push of that number is due, and was not made by this very event, before which `last` was the last number
pub record IsToResend (last : ℕ) (s : State) (at n : ℕ) : Type 0 where
  pub due : IsDue (as_outbox s.rows) s.resend at n
  pub earlier : n ≤ last

-- pushes that are due are sent again, by their numbers
pub record Resends (last at : ℕ) (s : State) (acts : List Act) : Type 0 where
  pub due : List ℕ
  pub are_due : AreExactly (IsToResend last s at) due
  pub acts_are : acts ≡ all_resent s.providers at s.rows.pushes due

-- what a moment comes to, were there no last number: each stage sees what the ones before it left, so that an
-- authorization whose deadline has come may take an EVSE that a timeout or an expiry freed
abbrev pub TickLine : State → ℕ → Work → Type 0
TickLine s at work = Stages ((λ t. Quietly (Timeouts at t)) ∷ ((λ t. Quietly (Expiries at t)) ∷ (Deadlines at ∷ ((λ t. Quietly (Resends s.rows.request at t)) ∷ [])))) s work

-- one step of an operator: time passes
abbrev pub TickStep : State → ℕ → Out → Type 0
TickStep s at out = StepBy (TickLine s at) s out
