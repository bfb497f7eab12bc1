-- The authorizations that are due at a moment.
use Rattle.std.specs.Prelude.{◌↔◌, ◌<◌, ℕ, List, Contains}
use Rattle.std.specs.List.{AllPairs}
use Rattle.authorization_book.specs.Waits.{Waits, IsDue}

-- the numbers are exactly those of the requests whose authorizations are due, each once, in ascending order
pub record AreDue (waits : Waits) (at : ℕ) (numbers : List ℕ) : Type 0 where
  pub exact : (number : ℕ) → Contains numbers number ↔ IsDue waits at number
  pub in_order : AllPairs (λ a b. a < b) numbers
