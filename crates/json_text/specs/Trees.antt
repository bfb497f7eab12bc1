-- The data that a tree stands for: a number is a text behind U+0001, and of members with one name the last stays.
use Rattle.std.specs.Prelude.{ℕ, List, [], ◌∷◌, map}
use Rattle.std.specs.Borrow.{Bor}
use Rattle.serde_json.specs.Data.{Data, null, boolean, string, array, object, Items, Members, no_members, put}
use Rattle.serde_json.specs.View.{items_of}
use Rattle.json_text.specs.declared.trees.Tree.{Tree, fold-Tree}
use Rattle.json_text.specs.declared.trees.Tree.TheOpen.{Tree-F}

-- the members found so far, and these, put one after another
abbrev pub members_after : Members → List (Bor (List ℕ) × Data) → Members
members_after found [] = found
members_after found (m ∷ ms) = members_after (put m.0.now m.1 found) ms

-- one level, with each tree inside already seen as its data
abbrev pub view_step : Tree-F Data → Data
view_step Tree-F.Null = null
view_step (Tree-F.Truth b) = boolean b
view_step (Tree-F.Number s) = string (1 ∷ s.now)
view_step (Tree-F.Text s) = string s.now
view_step (Tree-F.Array v) = array (items_of v.items)
view_step (Tree-F.Object v) = object (members_after no_members v.items)

abbrev pub view : Tree → Data
view = fold-Tree Data view_step

abbrev pub items_view : List Tree → Items
items_view ts = items_of (map view ts)

abbrev pub members_view : List (Bor (List ℕ) × Tree) → Members
members_view ms = members_after no_members (map (λ m. (m.0, view m.1)) ms)
