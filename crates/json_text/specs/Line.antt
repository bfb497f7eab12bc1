-- The tree of a line of bytes.
use Rattle.std.specs.Prelude.{◌≡◌, ◌<◌, ◌≤◌, ◌⊎◌, ℕ, List, length, nat_lt, false, Option, Some, None, Ok, Err, if◌then◌else◌}
use Rattle.std.specs.Str.{IsUtf8, is_utf8}
use Rattle.serde_json.specs.Data.{Data}
use Rattle.serde_json.specs.Read.{read}
use Rattle.json_text.specs.declared.fault.JsonFault.TheVariants.{Syntax}
use Rattle.json_text.specs.Fault.{Read, ◌>>=◌}
use Rattle.json_text.specs.Names.{has_number_name}
use Rattle.json_text.specs.Quote.{quote}

-- the bytes of the longest line
abbrev pub max_line : ℕ
max_line = 1048576

-- a line that is too long, or no UTF-8
abbrev pub IsNoText : List ℕ → Type 0
IsNoText line = (max_line < length line) ⊎ (¬ IsUtf8 line)

unfoldable pub text_of : List ℕ → Read (List ℕ)
text_of line = if nat_lt max_line (length line) then Err Syntax else if is_utf8 line then Ok line else Err Syntax

abbrev pub tree_or : Option Data → Read Data
tree_or None = Err Syntax
tree_or (Some d) = Ok d

-- of a text whose numbers are quoted
unfoldable pub tree_of : List ℕ → Read Data
tree_of quoted = if has_number_name quoted then Err Syntax else tree_or (read quoted)

-- the tree, its numbers as texts behind U+0001, or the first refusal
unfoldable pub tree_at : List ℕ → Read Data
tree_at line = do
  text ← text_of line
  quoted ← quote text
  tree_of quoted

-- a line within the limit, of UTF-8, whose numbers are those of JSON, whose names are none of them, and that is JSON of
-- depth 127 at most: with its tree
pub record HasTree (line : List ℕ) (tree : Data) : Type 0 where
  pub short : length line ≤ max_line
  pub utf8 : IsUtf8 line
  pub quoted : List ℕ
  pub numbers : quote line ≡ Ok quoted
  pub names : has_number_name quoted ≡ false
  pub json : read quoted ≡ Some tree
