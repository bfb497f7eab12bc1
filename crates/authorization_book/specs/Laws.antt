-- What lists of changes leave, from whatever was awaited before.
use Rattle.std.specs.Prelude.{◌≡◌, ◌⊎◌, ◌↔◌, ℕ, List, Some, Contains}
use Rattle.std.specs.FinMap.{get}
use Rattle.authorization_book.specs.declared.awaited.Awaited.{Awaited}
use Rattle.authorization_book.specs.declared.waiting.Waiting.{Waiting}
use Rattle.authorization_book.specs.declared.waiting.Waiting.TheVariants.{Begins, Ends}
use Rattle.authorization_book.specs.Waits.{MayWait, OneEach, Waits, waited_all}

-- once changes are made that may be, that is awaited which was before or began by one of them, and which none of them
-- ends
abbrev pub WaitsChange : Type 0
WaitsChange = (waits : Waits) (changes : List Waiting) → MayWait waits changes → (number : ℕ) (awaited : Awaited) →
    (get (waited_all changes waits) number ≡ Some awaited) ↔ (¬ Contains changes (Ends number) × ((get waits number ≡ Some awaited) ⊎ Contains changes (Begins number awaited)))

-- and at an EVSE at most one is awaited, if that was so before
abbrev pub OneEachStays : Type 0
OneEachStays = (waits : Waits) (changes : List Waiting) → MayWait waits changes → OneEach waits → OneEach (waited_all changes waits)
