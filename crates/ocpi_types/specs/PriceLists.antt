-- Prices that hold from moments on (profile of OCPI 2.2.1, Sessions: Session object, total_cost).
use Rattle.std.specs.Prelude.{ℕ, List, Option, None, AllPairs, filter, length, nat_le, slice_index_or, ◌≡◌, ◌+◌, ◌<◌, ◌≤◌}
use Rattle.std.specs.List.{last_or}
use Rattle.ocpi_types.specs.declared.price_lists.PriceFrom.{PriceFrom}

-- the first begins earlier than the second
abbrev pub IsEarlier : PriceFrom → PriceFrom → Type 0
IsEarlier p q = p.start_date_time < q.start_date_time

-- at most a thousand, each from a later moment on than all before it
pub record ArePrices (ps : List PriceFrom) : Type 0 where
  pub few : length ps ≤ 1000
  pub rising : AllPairs IsEarlier ps

-- those that begin by a moment
abbrev pub begun_by : ℕ → List PriceFrom → List PriceFrom
begun_by at ps = filter (λ p. nat_le p.start_date_time at) ps

-- the last of those
abbrev pub last_begun : ℕ → List PriceFrom → Option PriceFrom
last_begun at ps = last_or None (begun_by at ps)

-- an entry begins by a moment, and the next, where there is one, does not
pub record IsLastBegun (at : ℕ) (ps : List PriceFrom) (i : ℕ) (p : PriceFrom) : Type 0 where
  pub within : i < length ps
  pub is : p ≡ slice_index_or ps i p
  pub begins : p.start_date_time ≤ at
  pub next : i + 1 < length ps → at < (slice_index_or ps (i + 1) p).start_date_time
