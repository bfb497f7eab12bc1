-- How deep the arrays and objects of a JSON text nest, to which RFC 8259 (section 9) lets a reader set a limit; and
-- which member counts where several have one name, which it leaves open (under Objects).
use Rattle.std.specs.Prelude.{◌≡◌, ℕ, suc, max, List, Option, Some, None, if◌then◌else◌}
use Rattle.std.specs.Str.{bytes_eq}
use Rattle.json.specs.Json.{Json, null, boolean, number, string, array, object, Items, no_items, item, Members, no_members, member}
use Rattle.json.specs.Lex.{tokens}
use Rattle.json.specs.Tree.{json_tokens}

-- the text is that JSON value, each member of its objects in its place, also where names repeat
abbrev pub HasJson : List ℕ → Json → Type 0
HasJson text j = tokens text ≡ json_tokens j

-- how many arrays and objects stand within one another
abbrev mutual
  pub nesting : Json → ℕ
  nesting null = 0
  nesting (boolean b) = 0
  nesting (number s) = 0
  nesting (string s) = 0
  nesting (array js) = suc (items_nesting js)
  nesting (object ms) = suc (members_nesting ms)

  pub items_nesting : Items → ℕ
  items_nesting no_items = 0
  items_nesting (item j js) = max (nesting j) (items_nesting js)

  pub members_nesting : Members → ℕ
  members_nesting no_members = 0
  members_nesting (member k j ms) = max (nesting j) (members_nesting ms)

-- no line that is read nests deeper
abbrev pub max_nesting : ℕ
max_nesting = 127

abbrev pub or_earlier : Option Json → Option Json → Option Json
or_earlier None earlier = earlier
or_earlier (Some j) earlier = Some j

-- the last of the members of that name
abbrev pub last_of : List ℕ → Members → Option Json
last_of name no_members = None
last_of name (member k j ms) = or_earlier (last_of name ms) (if bytes_eq name k then Some j else None)
