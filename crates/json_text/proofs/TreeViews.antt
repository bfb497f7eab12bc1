-- Trees, level by level, and members that are found by their names.
use Rattle.std.proofs.Common.{◌≡◌, ℕ, suc, cond, List, [], ◌∷◌, ◌++◌, length, map, Some, refl, ap, ◌∙◌, rules, Vec}
use Rattle.std.specs.Str.{bytes_eq}
use Rattle.std.specs.Borrow.{Bor}
use Rattle.std.specs.declared.alloc.Global.{Global}
use Rattle.serde_json.specs.Data.{array, object, Members, no_members, put}
use Rattle.serde_json.specs.Events.{items_len}
use Rattle.serde_json.specs.Find.{get_member}
use Rattle.json_text.specs.Trees.{view, items_view, members_view, members_after}
use Rattle.json_text.specs.declared.trees.Tree.{Tree, Array, Object, the_lemmas}
use Rattle.json_text.proofs.Repeats.{get_put}

pub view-Array : (v : Vec Tree Global) → view (Array v) ≡ array (items_view v.items)
view-Array v = search (rules, the_lemmas)

pub view-Object : (v : Vec (Bor (List ℕ) × Tree) Global) → view (Object v) ≡ object (members_view v.items)
view-Object v = search (rules, the_lemmas)

pub items_len-items_view : (ts : List Tree) → items_len (items_view ts) ≡ length ts
items_len-items_view [] = refl
items_len-items_view (t ∷ ts) = ap suc (items_len-items_view ts)

after_push : (found : Members) (ms : List (Bor (List ℕ) × Tree)) (m : Bor (List ℕ) × Tree)
    → members_after found (map (λ m. (m.0, view m.1)) (ms ++ m ∷ [])) ≡ put m.0.now (view m.1) (members_after found (map (λ m. (m.0, view m.1)) ms))
after_push found [] m = refl
after_push found (n ∷ ms) m = after_push (put n.0.now (view n.1) found) ms m

-- the last member is put beside those before it
pub members_view-push : (ms : List (Bor (List ℕ) × Tree)) (m : Bor (List ℕ) × Tree) → members_view (ms ++ m ∷ []) ≡ put m.0.now (view m.1) (members_view ms)
members_view-push ms m = after_push no_members ms m

-- and is the one that is found
pub get_member-push : (name : List ℕ) (ms : List (Bor (List ℕ) × Tree)) (m : Bor (List ℕ) × Tree)
    → get_member name (members_view (ms ++ m ∷ [])) ≡ cond (bytes_eq name m.0.now) (Some (view m.1)) (get_member name (members_view ms))
get_member-push name ms m = ap (get_member name) (members_view-push ms m) ∙ get_put name m.0.now (view m.1) (members_view ms)
