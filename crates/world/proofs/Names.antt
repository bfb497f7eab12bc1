-- The keys of the parties of places.
use Rattle.std.proofs.Common.{◌≡◌, ℕ, ◌+◌, ◌<◌, ◌≤◌, List, [], ◌∷◌, ◌++◌, Bool, true, false, bytes_eq, get_or, inl, inr, length, take, refl, sym, ap, subst, ◌∙◌, arith}
use Rattle.std.specs.Prelude.{Some, option_map, slice_get}
use Rattle.std.proofs.lemmas.Bool.{cases_lt}
use Rattle.std.proofs.lemmas.List.{length-map, map_more, map_push}
use Rattle.std.proofs.lemmas.Option.{same_Some, slice_get-map, slice_get_read, slice_get_within}
use Rattle.std.proofs.lemmas.Slice.Eq.{bytes_eq-Decides}
use Rattle.ocpi_text.specs.Text.{key}
use Rattle.world.specs.Deliveries.{IsPlaceOf}
use Rattle.world.specs.Seen.{place_seen, places_seen}
use Rattle.world.specs.State.{names_of}
use Rattle.world.specs.declared.place.Place.{Place}
use Rattle.world_steps.specs.World as steps
use Rattle.world_steps.proofs.Places.{of_mapped}

abbrev pub name_of : steps.Place → List ℕ
name_of p = key p.party

-- what a test of two keys says
pub same_name : (x name : List ℕ) (b : Bool) → b ≡ bytes_eq x name → b ≡ true → x ≡ name
same_name x name b is holds = (bytes_eq-Decides x name).0 (sym is ∙ holds)

pub other_name : (x name : List ℕ) (b : Bool) → b ≡ bytes_eq x name → b ≡ false → x ≡ name → ⊥
other_name x name b is fails same =
    let one : bytes_eq x name ≡ true = (bytes_eq-Decides x name).1 same in
    let other : bytes_eq x name ≡ false = sym is ∙ fails in
    cc (one, other)

-- the key that was read
pub name_read : (names : List (List ℕ)) (i : ℕ) (x : List ℕ) → i < length names → x ≡ get_or names i x → slice_get names i ≡ Some x
name_read names i x within is = slice_get_read names (length names) i x refl within is

-- no key before that place is the one
abbrev pub NoneBefore : List (List ℕ) → List ℕ → ℕ → Type 0
NoneBefore names name i = (k : ℕ) → k < i → slice_get names k ≡ Some name → ⊥

pub no_name_more : (names : List (List ℕ)) (name : List ℕ) (i : ℕ) (x : List ℕ) → slice_get names i ≡ Some x → NoneBefore names name i → (x ≡ name → ⊥) → NoneBefore names name (i + 1)
no_name_more names name i x here earlier not k below at = elim (cases_lt k i) [
  | inl before ↦ earlier k before at
  | inr later ↦
      let same : k ≡ i = omega arith in
      not (same_Some x name (sym here ∙ ap (slice_get names) (sym same) ∙ at))
]

pub no_name : (names : List (List ℕ)) (name : List ℕ) (i : ℕ) → length names ≤ i → NoneBefore names name i → (k : ℕ) → slice_get names k ≡ Some name → ⊥
no_name names name i all none k at = none k (omega (arith, all, slice_get_within names k name at)) at

module _ (ps : List Place) (names : List (List ℕ)) (named : names ≡ names_of (places_seen ps)) where
  pub as_many : length names ≡ length ps
  as_many = ap length named ∙ (length-map (places_seen ps) name_of ∙ length-map ps place_seen)

  -- the key of a place
  pub name_at : (i : ℕ) (p : Place) → slice_get ps i ≡ Some p → slice_get names i ≡ Some (key p.party)
  name_at i p at =
      ap (λ (l : List (List ℕ)). slice_get l i) named
      ∙ (slice_get-map name_of (places_seen ps) i ∙ ap (option_map name_of) (slice_get-map place_seen ps i ∙ ap (option_map place_seen) at))

  -- the place of a party whose key was found
  pub place_named : (party : List ℕ) (i : ℕ) → slice_get names i ≡ Some (key party) → (p : Place) × IsPlaceOf ps party i p
  place_named party i at =
      let (q, here, is) = of_mapped name_of (places_seen ps) i (key party) (ap (λ (l : List (List ℕ)). slice_get l i) (sym named) ∙ at) in
      let (p, there, seen) = of_mapped place_seen ps i q here in
      (p, record { here = there; same = ap name_of seen ∙ is })

  -- and there is none where no key was
  pub none_named : (party : List ℕ) → ((i : ℕ) → slice_get names i ≡ Some (key party) → ⊥) → (i : ℕ) (p : Place) → IsPlaceOf ps party i p → ⊥
  none_named party none i p at = none i (name_at i p at.here ∙ ap Some at.same)

  -- the place of the key that was read is the party's where the key is
  pub key_there : (party : List ℕ) (i : ℕ) (p : Place) (x : List ℕ) → slice_get ps i ≡ Some p → slice_get names i ≡ Some x → key p.party ≡ x
  key_there party i p x there here = same_Some (key p.party) x (sym (name_at i p there) ∙ here)

-- where none so far is the party's with that property, and the next is not, none so far is
pub none_more : (places : List Place) (party : List ℕ) (P : Place → Type 0) (i : ℕ) → ((k : ℕ) (p : Place) → k < i → IsPlaceOf places party k p → P p → ⊥) →
    ((p : Place) → IsPlaceOf places party i p → P p → ⊥) → (k : ℕ) (p : Place) → k < i + 1 → IsPlaceOf places party k p → P p → ⊥
none_more places party P i earlier not k p below at has = elim (cases_lt k i) [
  | inl before ↦ earlier k p before at has
  | inr later ↦
      let same : k ≡ i = omega arith in
      not p (subst (λ (j : ℕ). IsPlaceOf places party j p) same at) has
]

-- the keys of one place more
pub names_more : (ps : List Place) (names : List (List ℕ)) (i : ℕ) (x : Place) → i < length ps → x ≡ get_or ps i x → names ≡ names_of (places_seen (take i ps)) →
    names ++ key x.party ∷ [] ≡ names_of (places_seen (take (i + 1) ps))
names_more ps names i x within is are =
    let front = places_seen (take i ps) in
    ap (λ (l : List (List ℕ)). l ++ key x.party ∷ []) are
    ∙ (ap (λ (z : Place). names_of front ++ key z.party ∷ []) is
    ∙ sym (ap names_of (map_more place_seen ps i x within) ∙ map_push name_of front (place_seen (get_or ps i x))))
