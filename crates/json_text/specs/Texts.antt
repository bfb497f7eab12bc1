-- The tree of a text of bytes, of any length.
use Rattle.std.specs.Prelude.{◌≡◌, ℕ, List, false, Some, Ok, Err, if◌then◌else◌}
use Rattle.std.specs.Str.{IsUtf8, is_utf8}
use Rattle.serde_json.specs.Data.{Data}
use Rattle.serde_json.specs.Read.{read}
use Rattle.json_text.specs.declared.fault.JsonFault.TheVariants.{Syntax}
use Rattle.json_text.specs.Fault.{Read, ◌>>=◌}
use Rattle.json_text.specs.Line.{tree_of}
use Rattle.json_text.specs.Names.{has_number_name}
use Rattle.json_text.specs.Quote.{quote}

abbrev pub utf8_of : List ℕ → Read (List ℕ)
utf8_of text = if is_utf8 text then Ok text else Err Syntax

-- the tree, its numbers as texts behind U+0001, or the first refusal
unfoldable pub text_tree : List ℕ → Read Data
text_tree text = do
  utf8 ← utf8_of text
  quoted ← quote utf8
  tree_of quoted

-- a text of UTF-8, whose numbers are those of JSON, whose names are none of them, and that is JSON of depth 127 at
-- most: with its tree
pub record HasTextTree (text : List ℕ) (tree : Data) : Type 0 where
  pub utf8 : IsUtf8 text
  pub quoted : List ℕ
  pub numbers : quote text ≡ Ok quoted
  pub names : has_number_name quoted ≡ false
  pub json : read quoted ≡ Some tree
