-- The first line of `node`: the setup, and the number from which the lines behind it are counted on.
use Rattle.std.specs.Prelude.{◌≤◌, ℕ, ◌&&◌, nat_le, List, Option, None, Some, Ok, Err, if◌then◌else◌}
use Rattle.serde_json.specs.Data.{Data}
use Rattle.json_text.specs.Fault.{Read, ◌>>=◌}
use Rattle.json_text.specs.Fields.{as_record, optional, whole_in}
use Rattle.json_text.specs.Line.{tree_at}
use Rattle.json_text.specs.declared.fault.JsonFault.TheVariants.{WrongForm}
use Rattle.ocpi_json.specs.SetupForms.{setup_in}
use Rattle.ocpi_types.specs.declared.field.Field.TheVariants as field
use Rattle.ocpi_types.specs.declared.setup.Node.{Node}

-- the greatest number from which lines may be counted on
abbrev pub max_base : ℕ
max_base = 900000000000000000

-- a number of a line that was fed before: the setup's own is 1
abbrev pub as_base : Option ℕ → Read (Option ℕ)
as_base None = Ok None
as_base (Some n) = if nat_le 1 n && nat_le n max_base then Ok (Some n) else Err (WrongForm field.Line)

-- where a setup tells a number, it is at least its own
abbrev pub IsBase : Option ℕ → Type 0
IsBase None = Unit {0}
IsBase (Some n) = 1 ≤ n

-- the member `line` of a setup, which may be absent
unfoldable pub base_at : Data → Read (Option ℕ)
base_at d = optional whole_in field.Line d >>= as_base

unfoldable pub base_of_line : Data → Read (Option ℕ)
base_of_line d = as_record field.Line d >>= base_at

unfoldable pub base_in : List ℕ → Read (Option ℕ)
base_in line = tree_at line >>= base_of_line

-- the setup that a line spells, and that number; what is wrong with the setup is told first
unfoldable pub numbered_setup_in : List ℕ → Read (List Node × Option ℕ)
numbered_setup_in line = do
  setup ← setup_in line
  base ← base_in line
  Ok (setup, base)
