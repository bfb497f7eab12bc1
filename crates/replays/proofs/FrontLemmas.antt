-- Whether a text begins with another.
use Rattle.std.proofs.Common.{◌≡◌, ℕ, List, ◌++◌, true, false, eqb, length, refl, sym, ap, ◌∙◌, true≢false, drop, eqb-true, eq-eqb, Decides}
use Rattle.std.proofs.lemmas.Slice.Eq.{starts_is}
use Rattle.std.specs.List.{starts_with}

numbers_decide : (a b : ℕ) → Decides (eqb a b) (a ≡ b)
numbers_decide a b = (eqb-true a b, eq-eqb a b)

pub begins_with : (xs ys : List ℕ) → starts_with eqb xs ys ≡ true → xs ≡ ys ++ drop (length ys) xs
begins_with xs ys is = (starts_is numbers_decide xs ys (starts_with eqb xs ys) refl).0 is

pub front_of : (xs ys : List ℕ) → starts_with eqb xs ys ≡ true → (rest : List ℕ) × (xs ≡ ys ++ rest)
front_of xs ys is = (drop (length ys) xs, begins_with xs ys is)

begins : (ys rest : List ℕ) → starts_with eqb (ys ++ rest) ys ≡ true
begins ys rest = (starts_is numbers_decide (ys ++ rest) ys (starts_with eqb (ys ++ rest) ys) refl).1 rest refl

pub not_begun : {X : Type 0} (xs ys rest : List ℕ) → starts_with eqb xs ys ≡ false → xs ≡ ys ++ rest → X
not_begun xs ys rest no_front is = absurd (true≢false (sym (begins ys rest) ∙ ap (λ l. starts_with eqb l ys) (sym is) ∙ no_front))
