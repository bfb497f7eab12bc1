-- U+0001, the tag of a number that stands as a text.
use Rattle.std.specs.Prelude.{ℕ, List, Bool, ◌==◌, slice_index}

-- a text that begins with it, as each quoted number does
abbrev pub is_tagged : List ℕ → Bool
is_tagged s = slice_index s 0 == 1
