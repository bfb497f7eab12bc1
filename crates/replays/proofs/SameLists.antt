-- Lists that have the same elements, each once, are equally long.
use Rattle.std.proofs.Common.{◌≡◌, ◌≢◌, ◌≤◌, ◌↔◌, List, [], ◌∷◌, ◌++◌, AllPairs, inl, inr, ap, subst, arith, length, length-append}
use Rattle.std.specs.Prelude.{Contains}
use Rattle.std.proofs.lemmas.List.Elements.{All-contains, Contains-append_cases, Contains-append_left, Contains-append_right}
use Rattle.tables.proofs.Elements.{first_pairs, in_front, in_later, in_none, later_pairs, of_cons}

module _ {X : Type 0} where
  -- what stands in a list stands between two parts of it
  parts : (ys : List X) (x : X) → Contains ys x → (front : List X) × (back : List X) × (ys ≡ front ++ x ∷ back)
  parts [] x within = absurd (in_none x within)
  parts (y ∷ ys) x within = elim (of_cons y ys x within) [
    | inl is ↦ ([], ys, ap (λ z. z ∷ ys) is)
    | inr later ↦ let r = parts ys x later in (y ∷ r.0, r.1, ap (λ l. y ∷ l) r.2)
  ]

  -- another one stands in one of them
  beside : (front back : List X) (x y : X) → x ≢ y → Contains (front ++ x ∷ back) y → Contains (front ++ back) y
  beside front back x y other within = elim (Contains-append_cases front (x ∷ back) y within) [
    | inl before ↦ Contains-append_left front back y before
    | inr there ↦ elim (of_cons x back y there) [ inl is ↦ absurd (other is) | inr later ↦ Contains-append_right front back y later ]
  ]

  no_more : (xs ys : List X) → AllPairs (λ a b. a ≢ b) xs → ((x : X) → Contains xs x → Contains ys x) → length xs ≤ length ys
  no_more [] ys apart within = omega arith
  no_more (x ∷ xs) ys apart within =
      let p = parts ys x (within x (in_front x xs)) in
      let rest = no_more xs (p.0 ++ p.1) (later_pairs (λ a b. a ≢ b) x xs apart) (λ y there. beside p.0 p.1 x y
      (All-contains (λ b. x ≢ b) xs y (first_pairs (λ a b. a ≢ b) x xs apart) there) (subst (λ l. Contains l y) p.2 (within y (in_later x xs y there)))) in
      let a = length-append p.0 p.1 in
      let b = length-append p.0 (x ∷ p.1) in
      let c = ap length p.2 in
      omega (arith, rest, a, b, c)

  pub same_length : (xs ys : List X) → AllPairs (λ a b. a ≢ b) xs → AllPairs (λ a b. a ≢ b) ys → ((x : X) → Contains xs x ↔ Contains ys x) → length xs ≡ length ys
  same_length xs ys apart apart_too same =
      let a = no_more xs ys apart (λ x there. (same x).0 there) in
      let b = no_more ys xs apart_too (λ x there. (same x).1 there) in
      omega (arith, a, b)
