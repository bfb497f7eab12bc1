-- The tree of a text, and of a JSON value, with each number as a text behind U+0001.
use Rattle.std.specs.Prelude.{ℕ, List, ◌∷◌, Option, Some, None, option_map, option_and_then, if◌then◌else◌}
use Rattle.json.specs.Json as json
use Rattle.json.specs.Lex.{tokens}
use Rattle.serde_json.specs.Data.{Data, null, boolean, string, array, object, Items, no_items, item, Members, no_members, put}
use Rattle.serde_json.specs.Read.{max_depth}
use Rattle.json_text.specs.Fault.{Read, ◌>>=◌}
use Rattle.json_text.specs.Line.{tree_of}
use Rattle.json_text.specs.Quote.{quote}
use Rattle.json_text.specs.Tag.{is_tagged}

-- of a text: its numbers quoted, and then its tree, or the first refusal
abbrev pub tree_in : List ℕ → Read Data
tree_in text = quote text >>= tree_of

-- None where a text or a name begins with U+0001 already. The last of several members of one name stays.
abbrev mutual
  pub tagged : json.Json → Option Data
  tagged json.null = Some null
  tagged (json.boolean b) = Some (boolean b)
  tagged (json.number s) = Some (string (1 ∷ s))
  tagged (json.string s) = if is_tagged s then None else Some (string s)
  tagged (json.array js) = option_map array (tagged_items js)
  tagged (json.object ms) = option_map object (tagged_members ms no_members)

  pub tagged_items : json.Items → Option Items
  tagged_items json.no_items = Some no_items
  tagged_items (json.item j js) = option_and_then (λ d. option_map (item d) (tagged_items js)) (tagged j)

  pub tagged_members : json.Members → Members → Option Members
  tagged_members json.no_members found = Some found
  tagged_members (json.member k j ms) found = if is_tagged k then None else option_and_then (λ d. tagged_members ms (put k d found)) (tagged j)

-- the tree of a text of JSON that nests no deeper than 127 and in which no text and no name begins with U+0001
abbrev pub tagged_tree : List ℕ → Option Data
tagged_tree text = option_and_then tagged (option_and_then (λ p. json.if_last p.0 p.1) (json.value max_depth (tokens text)))
