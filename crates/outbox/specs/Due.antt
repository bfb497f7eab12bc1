-- The requests that are due at a moment.
use Rattle.std.specs.Prelude.{◌≡◌, ◌↔◌, ℕ, not, nat_le, ◌≤◌, ◌<◌, List, Some, Contains, map, take_while}
use Rattle.std.specs.List.{AllPairs, filter}
use Rattle.std.specs.FinMap.{get, contains_key}
use Rattle.outbox.specs.Outbox.{OutboxRows, Waits}
use Rattle.outbox.specs.Resend.{Resend}

-- the numbers are exactly those that pass, each once, in ascending order
pub record AreExactly (Passes : ℕ → Type 0) (numbers : List ℕ) : Type 0 where
  pub exact : (number : ℕ) → Contains numbers number ↔ Passes number
  pub in_order : AllPairs (λ a b. a < b) numbers

-- a resend time, if there is one, is at or before the moment
abbrev pub IsPast : Resend → ℕ → ℕ → Type 0
IsPast resend at number = (moment : ℕ) → get resend number ≡ Some moment → moment ≤ at

-- the request of that number waits, and its resend time, if it has one, is at or before the moment
pub record IsDue (rows : OutboxRows) (resend : Resend) (at number : ℕ) : Type 0 where
  pub waits : Waits rows number
  pub past : IsPast resend at number

-- the numbers at the front of a queue, up to the first whose moment is behind that one
abbrev pub due_front : ℕ → List ((ℕ × ℕ) × Unit {0}) → List ℕ
due_front at queue = map (λ e. e.0.1) (take_while (λ e. nat_le e.0.0 at) queue)

-- the numbers of entries that have no resend time
abbrev pub untimed : {X : Type 0} → Resend → List (ℕ × X) → List ℕ
untimed resend entries = map (λ e. e.0) (filter (λ e. not (contains_key resend e.0)) entries)
