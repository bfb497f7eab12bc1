-- Texts that are put in their places make the changes.
use Rattle.std.proofs.Common.{◌≡◌, ℕ, ◌+◌, ◌<◌, List, [], ◌∷◌, ◌++◌, get_or, length, map, take, Option, Some, None, refl, sym, ap, ◌∙◌}
use Rattle.std.proofs.lemmas.List.{map-append, take_more}
use Rattle.ocpi_types.specs.declared.rows.Change.{Change}
use Rattle.ocpi_types.specs.declared.rows.Change.TheVariants as change
use Rattle.node_store.specs.Contents.{Content, changed, changed_all, marked}
use Rattle.node_store.specs.Numbers.{line_placed}
use Rattle.node_store.specs.Placing.{placed_all, placed_of, set_text}
use Rattle.node_store.specs.declared.stored.Placed.{Placed}

pub one_placed : (c : Content) (x : Change) → set_text c (placed_of x).place (placed_of x).row ≡ changed c x
one_placed c (change.Put r) = refl
one_placed c (change.Drop k) = refl

each_placed : (c : Content) (xs : List Change) → placed_all c (map placed_of xs) ≡ changed_all c xs
each_placed c [] = refl
each_placed c (x ∷ xs) = ap (λ (d : Content). placed_all d (map placed_of xs)) (one_placed c x) ∙ each_placed (changed c x) xs

placed_more : (c : Content) (a b : List Placed) → placed_all c (a ++ b) ≡ placed_all (placed_all c a) b
placed_more c [] b = refl
placed_more c (x ∷ xs) b = placed_more (set_text c x.place x.row) xs b

number_placed : (c : Content) (m : Option ℕ) → placed_all c (line_placed m) ≡ marked m c
number_placed c None = refl
number_placed c (Some n) = refl

-- the number stands behind them
pub all_placed : (c : Content) (xs : List Change) (m : Option ℕ) → placed_all c (map placed_of xs ++ line_placed m) ≡ marked m (changed_all c xs)
all_placed c xs m = placed_more c (map placed_of xs) (line_placed m) ∙ ap (λ (d : Content). placed_all d (line_placed m)) (each_placed c xs) ∙ number_placed (changed_all c xs) m

-- one change more is placed
pub one_more : (xs : List Change) (i : ℕ) (x : Change) (p : Placed) (front : List Placed) → i < length xs → x ≡ get_or xs i x → p ≡ placed_of x → front ≡ map placed_of (take i xs)
    → front ++ p ∷ [] ≡ map placed_of (take (i + 1) xs)
one_more xs i x p front lt is placed so_far =
    ap (λ (f : List Placed). f ++ p ∷ []) so_far ∙ ap (λ (q : Placed). map placed_of (take i xs) ++ q ∷ []) (placed ∙ ap placed_of is)
    ∙ sym (ap (map placed_of) (take_more xs i x lt) ∙ map-append placed_of (take i xs) (get_or xs i x ∷ []))
