-- The first of a list.
use Rattle.std.proofs.Common.{◌≡◌, ◌≢◌, List, [], ◌∷◌, ap, get_or, refl, sym}

pub first_of : {X : Type 0} (xs : List X) (x : X) → xs ≢ [] → x ≡ get_or xs 0 x → (later : List X) × (xs ≡ x ∷ later)
first_of [] x some is = absurd (some refl)
first_of (y ∷ ys) x some is = (ys, ap (λ z. z ∷ ys) (sym is))
