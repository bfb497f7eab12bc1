-- Numbers that sites keep within.
use Rattle.std.specs.Prelude.{ℕ, ℤ, pos, ◌≤◌, ◌≤ℤ◌}

-- one to most of them
pub record IsCount (most n : ℕ) : Type 0 where
  pub some : 1 ≤ n
  pub few : n ≤ most

-- a price per kWh in ten-thousandths, from 0.0000 to 10,000.0000
pub record IsPrice (z : ℤ) : Type 0 where
  pub low : pos 0 ≤ℤ z
  pub high : z ≤ℤ pos 100000000
