-- Lists that are gone through, place by place.
use Rattle.std.proofs.Common.{◌≡◌, ℕ, ◌+◌, ◌<◌, List, ◌∷◌, length, drop, get_or, Bool, true, false, bytes_eq, refl, sym}
use Rattle.std.proofs.Common.{ap, ◌∙◌, Contains}
use Rattle.std.proofs.lemmas.List.{drop_more}
use Rattle.std.proofs.lemmas.Slice.Eq.{bytes_eq-Decides}

module _ {X : Type 0} where
  -- the next and the rest
  pub rest_more : (xs : List X) (i : ℕ) (x : X) → i < length xs → x ≡ get_or xs i x → drop i xs ≡ x ∷ drop (i + 1) xs
  rest_more xs i x within is = drop_more xs i x within ∙ ap (λ (y : X). y ∷ drop (i + 1) xs) (sym is)

  pub is_among : (xs : List X) (i : ℕ) (x : X) → i < length xs → x ≡ get_or xs i x → Contains xs x
  is_among xs i x within is = (i, within, sym is)

is_false : (b : Bool) → (b ≡ true → ⊥) → b ≡ false
is_false true h = absurd (h refl)
is_false false h = refl

pub same_bytes : (s t : List ℕ) → s ≡ t → bytes_eq s t ≡ true
same_bytes s t same = (bytes_eq-Decides s t).1 same

pub other_bytes : (s t : List ℕ) → (s ≡ t → ⊥) → bytes_eq s t ≡ false
other_bytes s t other = is_false (bytes_eq s t) (λ h. other ((bytes_eq-Decides s t).0 h))
