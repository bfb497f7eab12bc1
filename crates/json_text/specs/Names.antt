-- Numbers that stand where an object's name has to stand.
use Rattle.std.specs.Prelude.{ℕ, List, [], ◌∷◌, ◌||◌, Bool, false}
use Rattle.json.specs.Token.{Token, begin_object, end_object, begin_array, end_array, key, string, number, boolean, null, bad}
use Rattle.json.specs.Lex.{tokens}
use Rattle.json_text.specs.Tag.{is_tagged}

-- a string with a colon behind it, white space aside, is a token of its own: a key
abbrev pub is_number_name : Token → Bool
is_number_name begin_object = false
is_number_name end_object = false
is_number_name begin_array = false
is_number_name end_array = false
is_number_name (key s) = is_tagged s
is_number_name (string s) = false
is_number_name (number s) = false
is_number_name (boolean b) = false
is_number_name null = false
is_number_name bad = false

abbrev pub has_number_name_in : List Token → Bool
has_number_name_in [] = false
has_number_name_in (t ∷ ts) = is_number_name t || has_number_name_in ts

-- in a text whose numbers are quoted: the name of some member, repeated ones among them, was a number
unfoldable pub has_number_name : List ℕ → Bool
has_number_name quoted = has_number_name_in (tokens quoted)
