-- Lists that are gone through, place by place.
use Rattle.std.proofs.Common.{◌≡◌, ℕ, ◌+◌, ◌<◌, List, [], ◌∷◌, ◌++◌, length, take, get_or, sym, ap, ◌∙◌, Contains, Some}
use Rattle.std.proofs.Common.{slice_get}
use Rattle.std.specs.List.{flat_map}
use Rattle.std.proofs.lemmas.List.{flat_map_more, take_more}
use Rattle.std.proofs.lemmas.Option.{slice_get-get_or}

module _ {X : Type 0} where
  -- the first values and the next
  pub front_more : (xs : List X) (i : ℕ) (x : X) → i < length xs → x ≡ get_or xs i x → take (i + 1) xs ≡ take i xs ++ x ∷ []
  front_more xs i x within is = take_more xs i x within ∙ ap (λ (y : X). take i xs ++ y ∷ []) (sym is)

  pub placed : (xs : List X) (x : X) → Contains xs x → (i : ℕ) × (slice_get xs i ≡ Some x)
  placed xs x h = (h.0, slice_get-get_or xs h.0 x h.1 ∙ ap Some h.2)

-- what each value gives, so far and with the next
pub flat_step : {X Y : Type 0} (f : X → List Y) (xs : List X) (i : ℕ) (x : X) (now next : List Y) → i < length xs → x ≡ get_or xs i x → now ≡ flat_map f (take i xs) → next ≡ now ++ f x →
    next ≡ flat_map f (take (i + 1) xs)
flat_step {Y = Y} f xs i x now next within is so_far grown =
    grown ∙ (ap (λ (l : List Y). l ++ f x) so_far ∙ (flat_map_more f [] (take i xs) x ∙ ap (flat_map f) (sym (front_more xs i x within is))))
