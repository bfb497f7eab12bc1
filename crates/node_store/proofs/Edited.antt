-- Edits make the changes.
use Rattle.std.proofs.Common.{◌≡◌, ◌≢◌, ℕ, List, [], ◌∷◌, ◌++◌, map, Option, Some, None, refl, ap, ◌∙◌}
use Rattle.ocpi_types.specs.declared.rows.Change.{Change}
use Rattle.ocpi_types.specs.declared.rows.Change.TheVariants as change
use Rattle.row_table.specs.Effects.{Edit, set, set_all}
use Rattle.node_store.specs.Contents.{Content, changed, changed_all, marked}
use Rattle.node_store.specs.Editing.{edit_of, written}
use Rattle.node_store.specs.Numbers.{line_edits}
use Rattle.node_store.proofs.Written.{all_written, some_written}

one_edit : (c : Content) (x : Change) → set c (edit_of x) ≡ changed c x
one_edit c (change.Put r) = refl
one_edit c (change.Drop k) = refl

all_edited : (c : Content) (xs : List Change) → set_all c (map edit_of xs) ≡ changed_all c xs
all_edited c [] = refl
all_edited c (x ∷ xs) = ap (λ (d : Content). set_all d (map edit_of xs)) (one_edit c x) ∙ all_edited (changed c x) xs

pub set_more : (c : Content) (a b : List Edit) → set_all c (a ++ b) ≡ set_all (set_all c a) b
set_more c [] b = refl
set_more c (x ∷ xs) b = set_more (set c x) xs b

number_edited : (c : Content) (m : Option ℕ) → set_all c (line_edits m) ≡ marked m c
number_edited c None = refl
number_edited c (Some n) = refl

-- the number stands behind them
each_marked : (c : Content) (xs : List Change) (m : Option ℕ) → set_all c (map edit_of xs ++ line_edits m) ≡ marked m (changed_all c xs)
each_marked c xs m = set_more c (map edit_of xs) (line_edits m) ∙ ap (λ (d : Content). set_all d (line_edits m)) (all_edited c xs) ∙ number_edited (changed_all c xs) m

-- and what is left out is not seen
all_marked : (c : Content) (xs : List Change) (m : Option ℕ) → set_all c (map edit_of (written xs) ++ line_edits m) ≡ marked m (changed_all c xs)
all_marked c xs m = each_marked c (written xs) m ∙ ap (marked m) (all_written c xs)

pub edits_make : (xs : List Change) (m : Option ℕ) (es : List Edit) → es ≡ map edit_of (written xs) ++ line_edits m → (c : Content) → set_all c es ≡ marked m (changed_all c xs)
edits_make xs m es are c = ap (set_all c) are ∙ all_marked c xs m

each_edits : (xs : List Change) (m : Option ℕ) → xs ≢ [] → map edit_of xs ++ line_edits m ≢ []
each_edits [] m some none = some refl
each_edits (x ∷ xs) m some none = absurd (let e = none in cc)

pub some_edits : (xs : List Change) (m : Option ℕ) → xs ≢ [] → map edit_of (written xs) ++ line_edits m ≢ []
some_edits xs m some = each_edits (written xs) m (some_written xs some)

each_number : (xs : List Change) (m : Option ℕ) → m ≢ None → map edit_of xs ++ line_edits m ≢ []
each_number xs None some none = some refl
each_number [] (Some n) some none = absurd (let e = none in cc)
each_number (x ∷ xs) (Some n) some none = absurd (let e = none in cc)

pub some_number : (xs : List Change) (m : Option ℕ) → m ≢ None → map edit_of (written xs) ++ line_edits m ≢ []
some_number xs m some = each_number (written xs) m some
