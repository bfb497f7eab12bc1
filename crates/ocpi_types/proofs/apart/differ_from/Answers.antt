use Rattle.std.proofs.Common.{◌≡◌, ◌⊎◌, inl, inr, ℕ, List, map, take, get_or, length, ◌++◌, ◌<◌, Contains, true≢false, sym, subst, ◌∙◌}
use Rattle.std.proofs.lemmas.List.Elements.{Contains-append_left, Contains-append_right, Contains-append_cases}
use Rattle.ocpi_types.specs.Apart.{DifferFrom}
use Rattle.ocpi_types.proofs.Differ.{next_differs, next_is_new}
use Rattle.ocpi_types.proofs.apart.differ_from.Goals as goal
use Rattle.ocpi_types.proofs.apart.differ_from.Goals.{then-is_among-via-then-is_among, then-is_among-via-else-is_among+then-is_among-2}

-- one that stands before is not new
stopped : {X : Type 0} (f : X → List ℕ) (earlier values : List X) (i : ℕ) (x : X) → i < length values → x ≡ get_or values i x
    → Contains (map f earlier) (f x) ⊎ Contains (map f (take i values)) (f x) → ¬ DifferFrom (map f earlier) (map f values)
stopped f earlier values i x within is (inl w) all = next_is_new f (map f earlier) values i x within all (subst (λ y. Contains (map f earlier ++ map f (take i values)) (f y)) is (Contains-append_left (map f earlier) (map f (take i values)) (f x) w))
stopped f earlier values i x within is (inr w) all = next_is_new f (map f earlier) values i x within all (subst (λ y. Contains (map f earlier ++ map f (take i values)) (f y)) is (Contains-append_right (map f earlier) (map f (take i values)) (f x) w))

new : {A : Type 0} (xs ys : List A) (x : A) → ¬ Contains xs x → ¬ Contains ys x → ¬ Contains (xs ++ ys) x
new xs ys x a b w = elim (Contains-append_cases xs ys x w) [ inl h ↦ a h | inr h ↦ b h ]

pub returns-then-is_among : goal.returns-then-is_among
returns-then-is_among g c =
    let stands = stopped g.T.Identified.id_key c.args.earlier.now c.args.values.now c.loop-i.i c.index-values-i.result c.loop-i-test.true c.index-values-i.is in (
      λ t. absurd (true≢false (sym t)),
      λ all. absurd (stands (elim c.then-is_among.branch [
        | then-is_among-via-then-is_among w ↦ inl (c.is_among.ensures.0 w.if-is_among.true)
        | then-is_among-via-else-is_among+then-is_among-2 w ↦ inr (w.is_among-else-is_among.ensures.0 w.if-is_among-2.true)
      ]) all),
    )

pub loop-i-preserved : goal.loop-i-preserved
loop-i-preserved g c =
    let f = g.T.Identified.id_key in
    let front = map f c.args.earlier.now in
    let behind = map f (take c.loop-i.i c.args.values.now) in
    let apart = new front behind (f c.index-values-i.result)
    (λ w. true≢false (sym (c.is_among.ensures.1 w) ∙ c.if-is_among.false))
    (λ w. true≢false (sym (c.is_among-else-is_among.ensures.1 w) ∙ c.if-is_among-2.false)) in
    next_differs f front c.args.values.now c.loop-i.i c.index-values-i.result c.loop-i-test.true c.loop-i.invariant (subst (λ y. ¬ Contains (front ++ behind) (f y)) c.index-values-i.is apart)
