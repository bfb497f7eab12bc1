-- A lookup is seen as a table is: as the list of its slots, in the order of their keys, whatever the order is in which it
-- keeps them.
use Rattle.std.specs.Prelude.{◌≡◌, ◌≢◌, ◌↔◌, List, Some, Contains}
use Rattle.std.specs.declared.cmp.Ordering.{Ordering}
use Rattle.std.specs.List.{AllPairs}
use Rattle.std.specs.FinMap.{FinMap, entries, from_entries, get}

module _ {K X : Type 0} (R : K → K → Ordering) where
  -- slots in the order of their keys
  abbrev pub slots_of : List (K × X) → List (K × X)
  slots_of es = entries (from_entries {R = R} es)

-- the list has the entries of the map, each once
pub record IsListing {K X : Type 0} {R : K → K → Ordering} (m : FinMap R X) (list : List (K × X)) : Type 0 where
  pub exact : (e : K × X) → Contains list e ↔ (get m e.0 ≡ Some e.1)
  pub apart : AllPairs (λ a b. a.0 ≢ b.0) list
