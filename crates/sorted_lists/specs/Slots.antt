-- Slots in the order of their keys: where a key stands among them, and what a list of them shows.
use Rattle.std.specs.Prelude.{◌≡◌, ◌<◌, ◌≤◌, ℕ, Bool, true, false, List, Option, Some, None, length, map, MatchResult}
use Rattle.std.specs.declared.cmp.Ordering.{Ordering}
use Rattle.std.specs.declared.cmp.Ordering.TheVariants.{Less, Greater}
use Rattle.std.specs.declared.result.Result.{Result}
use Rattle.std.specs.List.{HoldsAt}
use Rattle.std.specs.List.Sorted.{IsPartitionPoint}
use Rattle.tables.specs.Tables.{shown}
use Rattle.sorted_lists.specs.declared.slots.Slot.{Slot}
use Rattle.sorted_lists.specs.declared.slots.Slot.TheVariants.{Out, Room, Value}

module _ {K X : Type 0} (R : K → K → Ordering) (k : K) where
  -- the slot at that place is the key's
  abbrev pub IsSlotOf : List (K × X) → ℕ → Type 0
  IsSlotOf es i = (i < length es) × HoldsAt (λ e. e.0 ≡ k) es i

  -- the keys below that place are less, and those from it on are greater
  abbrev pub IsGapOf : List (K × X) → ℕ → Type 0
  IsGapOf es i = (i ≤ length es) × IsPartitionPoint (λ e. R e.0 k ≡ Less) (λ e. R e.0 k ≡ Greater) es i

  abbrev pub IsPlaceOf : List (K × X) → Result ℕ ℕ → Type 0
  IsPlaceOf es r = MatchResult r (IsSlotOf es) (IsGapOf es)

-- the room of a slot, and the value in it
abbrev pub room_in : {V : Type 0} → Slot V → Option (Option V)
room_in Out = None
room_in Room = Some None
room_in (Value v) = Some (Some v)

-- the room of a slot that may be there, and the value in it
abbrev pub room_of : {V : Type 0} → Option (Slot V) → Option (Option V)
room_of None = None
room_of (Some s) = room_in s

-- whether something stands in a slot
abbrev pub stands : {V : Type 0} → Slot V → Bool
stands Out = false
stands Room = true
stands (Value v) = true

module _ {K V : Type 0} where
  abbrev pub with_room : List (K × Slot V) → List (K × Option (Option V))
  with_room es = map (λ e. (e.0, room_in e.1)) es

  -- the keys that have room, with their values
  abbrev pub seen : List (K × Slot V) → List (K × Option V)
  seen es = shown (with_room es)
