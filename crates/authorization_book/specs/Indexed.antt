-- What finds the authorizations that are awaited by their EVSEs and by their deadlines.
use Rattle.std.specs.Prelude.{ℕ, List}
use Rattle.std.specs.FinMap.{FinMap}
use Rattle.tables.specs.Indexes.{Indexes}
use Rattle.authorization_book.specs.declared.awaited.Awaited.{Awaited}
use Rattle.authorization_book.specs.Waits.{Waits, OneEach, deadline_cmp, evse_cmp, evse_of}

-- a number by its EVSE, and the number of such an entry
abbrev pub evse_entry : ℕ → Awaited → List ℕ × ℕ
evse_entry number awaited = (evse_of awaited, number)

abbrev pub evse_number : List ℕ × ℕ → ℕ
evse_number entry = entry.1

-- a number by its deadline, and the number of such an entry
abbrev pub deadline_entry : ℕ → Awaited → ℕ × ℕ
deadline_entry number awaited = (awaited.deadline, number)

abbrev pub deadline_number : ℕ × ℕ → ℕ
deadline_number entry = entry.1

-- at an EVSE at most one is awaited, and each is found by its EVSE and by its deadline, and nothing else is
pub record AreIndexed (waits : Waits) (evses : FinMap evse_cmp (Unit {0})) (deadlines : FinMap deadline_cmp (Unit {0})) : Type 0 where
  pub one_each : OneEach waits
  pub by_evse : Indexes evse_entry evse_number waits evses
  pub by_deadline : Indexes deadline_entry deadline_number waits deadlines
