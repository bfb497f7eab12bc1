-- The tree above the flags of a list: what a change of a node leaves, and what the top says of the flags.
use Rattle.std.proofs.Common.{◌≡◌, ◌≢◌, ℕ, zero, suc, ◌+◌, ◌-◌, ◌*◌, ◌/◌, ◌^◌, ◌<◌, ◌≤◌, ◌||◌, Bool, true, false, List, refl, sym, ap, subst, ◌∙◌, ◌⊎◌, inl, inr, length, drop, get_or, set, arith, get_or-set_other, get_or-set_same, length-drop}
use Rattle.std.specs.Prelude.{Some, slice_get}
use Rattle.std.proofs.lemmas.Bool.{cases_lt}
use Rattle.std.proofs.lemmas.List.{get_or-drop}
use Rattle.std.proofs.lemmas.Option.{slice_get-get_or, get_or_from_slice_get, slice_get_within}
use Rattle.std.proofs.Math.Nat.{mul_assoc, pow-suc}
use Rattle.site_book.specs.Flags.{IsJoint, IsTree, AreNone, NoneBefore}

or_left : (a b : Bool) → a ≡ true → (a || b) ≡ true
or_left a b e = ap (λ x. x || b) e

or_right : (a b : Bool) → b ≡ true → (a || b) ≡ true
or_right true b e = refl
or_right false b e = e

or_second : (a b : Bool) → a ≡ false → (a || b) ≡ true → b ≡ true
or_second true b f e = absurd (cc)
or_second false b f e = e

module _ (nodes : List Bool) (k : ℕ) (b : Bool) where
  -- a node keeps its place in the tree where none of the three is changed
  pub joint_other : (j : ℕ) → j ≢ k → 2 * j ≢ k → 2 * j + 1 ≢ k → IsJoint nodes j → IsJoint (set nodes k b) j
  joint_other j here left right h =
      get_or-set_other nodes k j b false here ∙ h
      ∙ ap (λ x. x || get_or nodes (2 * j + 1) false) (sym (get_or-set_other nodes k (2 * j) b false left))
      ∙ ap (λ x. get_or (set nodes k b) (2 * j) false || x) (sym (get_or-set_other nodes k (2 * j + 1) b false right))

  joints_stay : (width : ℕ) → ((j : ℕ) → 0 < j → j < width → IsJoint nodes j) → width ≤ k → (j : ℕ) → 0 < j → j < width → j ≢ k / 2 → IsJoint (set nodes k b) j
  joints_stay width joint leaf j some inner apart =
      let here : j ≢ k = omega arith in
      let left : 2 * j ≢ k = omega arith in
      let right : 2 * j + 1 ≢ k = omega arith in
      joint_other j here left right (joint j some inner)

-- a leaf is changed
pub leaf_changed : (width : ℕ) (nodes : List Bool) (place : ℕ) (b : Bool) → IsTree width nodes → (j : ℕ) → 0 < j → j < width → j ≢ (width + place) / 2 → IsJoint (set nodes (width + place) b) j
leaf_changed width nodes place b tree = joints_stay nodes (width + place) b width tree.joint (omega arith)

-- a node that is set from the two below it
pub joint_here : (nodes : List Bool) (k : ℕ) → 0 < k → k < length nodes → IsJoint (set nodes k (get_or nodes (2 * k) false || get_or nodes (2 * k + 1) false)) k
joint_here nodes k some within =
    let b = get_or nodes (2 * k) false || get_or nodes (2 * k + 1) false in
    let left : 2 * k ≢ k = omega arith in
    let right : 2 * k + 1 ≢ k = omega arith in
    get_or-set_same nodes k b false within
    ∙ ap (λ x. x || get_or nodes (2 * k + 1) false) (sym (get_or-set_other nodes k (2 * k) b false left))
    ∙ ap (λ x. get_or (set nodes k b) (2 * k) false || x) (sym (get_or-set_other nodes k (2 * k + 1) b false right))

-- the node above a changed one is set again
pub node_changed : (width : ℕ) (nodes : List Bool) (k : ℕ) → length nodes ≡ 2 * width → 1 < k → k < 2 * width → ((j : ℕ) → 0 < j → j < width → j ≢ k / 2 → IsJoint nodes j) →
    (j : ℕ) → 0 < j → j < width → j ≢ k / 2 / 2 → IsJoint (set nodes (k / 2) (get_or nodes (2 * (k / 2)) false || get_or nodes (2 * (k / 2) + 1) false)) j
node_changed width nodes k size more within joint j some inner apart = elim (nat_dec j (k / 2)) [
  | inl same ↦
      let low : 0 < k / 2 = omega arith in
      let high : k / 2 < length nodes = omega arith in
      subst (λ n. IsJoint (set nodes (k / 2) (get_or nodes (2 * (k / 2)) false || get_or nodes (2 * (k / 2) + 1) false)) n) (sym same) (joint_here nodes (k / 2) low high)
  | inr other ↦
      let left : 2 * j ≢ k / 2 = omega arith in
      let right : 2 * j + 1 ≢ k / 2 = omega arith in
      joint_other nodes (k / 2) (get_or nodes (2 * (k / 2)) false || get_or nodes (2 * (k / 2) + 1) false) j other left right (joint j some inner other)
]
  where
    nat_dec : (a b : ℕ) → (a ≡ b) ⊎ (a ≢ b)
    nat_dec a b = elim (cases_lt a b) [
      | inl less ↦ inr (omega arith)
      | inr most ↦ elim (cases_lt b a) [ inl more ↦ inr (omega arith) | inr least ↦ inl (omega arith) ]
    ]

pub halves : (k : ℕ) → (k ≡ 2 * (k / 2)) ⊎ (k ≡ 2 * (k / 2) + 1)
halves k = elim (cases_lt (2 * (k / 2)) k) [ inl less ↦ inr (omega arith) | inr above ↦ inl (omega arith) ]

-- the second of two nodes is set, where the one above is and the first is not
pub second_set : (nodes : List Bool) (k : ℕ) → IsJoint nodes k → get_or nodes k false ≡ true → get_or nodes (2 * k) false ≡ false → get_or nodes (2 * k + 1) false ≡ true
second_set nodes k joint top first = or_second (get_or nodes (2 * k) false) (get_or nodes (2 * k + 1) false) first (sym joint ∙ top)

module _ (width : ℕ) (nodes : List Bool) (tree : IsTree width nodes) where
  -- what is set has what is above it set
  above : (k : ℕ) → 1 < k → k < 2 * width → get_or nodes k false ≡ true → get_or nodes (k / 2) false ≡ true
  above k more within is =
      let some : 0 < k / 2 = omega arith in
      let inner : k / 2 < width = omega arith in
      tree.joint (k / 2) some inner
      ∙ elim (halves k) [
        | inl e ↦ or_left _ _ (ap (λ n. get_or nodes n false) (sym e) ∙ is)
        | inr e ↦ or_right _ _ (ap (λ n. get_or nodes n false) (sym e) ∙ is)
      ]

  top : (n k : ℕ) → k ≤ n → 0 < k → k < 2 * width → get_or nodes k false ≡ true → get_or nodes 1 false ≡ true
  top zero k most some within is = absurd (omega arith)
  top (suc n) k most some within is = elim (cases_lt 1 k) [
    | inl more ↦
        let next : k / 2 ≤ n = omega arith in
        let least : 0 < k / 2 = omega arith in
        let inner : k / 2 < 2 * width = omega arith in
        top n (k / 2) next least inner (above k more within is)
    | inr one ↦ let same : k ≡ 1 = omega arith in ap (λ m. get_or nodes m false) (sym same) ∙ is
  ]

  -- no flag is set where the top is not
  pub none_set : get_or nodes 1 false ≡ false → AreNone (drop width nodes)
  none_set clear i is =
      let leaf : get_or nodes (width + i) false ≡ true = sym (get_or-drop width nodes i false) ∙ get_or_from_slice_get (drop width nodes) i true false is in
      let inside : i < length (drop width nodes) = slice_get_within (drop width nodes) i true is in
      let within : width + i < 2 * width = omega (arith, inside, length-drop width nodes, tree.size) in
      let some : 0 < width + i = omega (arith, tree.wide) in
      let set : get_or nodes 1 false ≡ true = top (width + i) (width + i) (omega arith) some within leaf in
      cc

  -- the flag of a leaf
  pub leaf_set : (k : ℕ) → width ≤ k → k < 2 * width → get_or nodes k false ≡ true → slice_get (drop width nodes) (k - width) ≡ Some true
  leaf_set k low within is =
      let there : k - width < length (drop width nodes) = omega (arith, length-drop width nodes, tree.size) in
      let same : width + (k - width) ≡ k = omega arith in
      slice_get-get_or (drop width nodes) (k - width) false there
      ∙ ap (λ b. Some b) (get_or-drop width nodes (k - width) false ∙ ap (λ n. get_or nodes n false) same ∙ is)

-- the node so many levels above another
pub up : ℕ → ℕ → ℕ
up zero j = j
up (suc i) j = up i j / 2

-- no flag is set that is not below the node or behind what is: the node is `height` levels above the flags, and `low` is the
-- first of its level
pub record IsLeftmost (width : ℕ) (nodes : List Bool) (k : ℕ) : Type 0 where
  pub height : ℕ
  pub low : ℕ
  pub level : width ≡ 2 ^ height * low
  pub from : low ≤ k
  pub below : k < 2 * low
  pub none : (j : ℕ) → width ≤ j → j < 2 * width → low ≤ up height j → up height j < k → get_or nodes j false ≡ true → ⊥

doubled : (i n : ℕ) → 2 ^ suc i * n ≡ 2 ^ i * (2 * n)
doubled i n = ap (λ m. m * n) (pow-suc 2 i) ∙ mul_assoc (2 ^ i) 2 n

single : (n : ℕ) → 2 ^ 0 * n ≡ n
single n = omega arith

at_least : (i n : ℕ) → n ≤ 2 ^ i * n
at_least zero n = subst (λ m. n ≤ m) (sym (single n)) (omega arith)
at_least (suc i) n = let more = at_least i (2 * n) in subst (λ m. n ≤ m) (sym (doubled i n)) (omega arith)

module _ (width : ℕ) (nodes : List Bool) (tree : IsTree width nodes) where
  -- what is set has what is so many levels above it set
  set_above : (i j : ℕ) → j < 2 * width → 0 < up i j → get_or nodes j false ≡ true → get_or nodes (up i j) false ≡ true
  unfolding up
  set_above i j within some is = (climb i some).0
    where
      climb : (i : ℕ) → 0 < up i j → (get_or nodes (up i j) false ≡ true) × (up i j < 2 * width)
      climb zero some = (is, within)
      climb (suc i) some =
          let more : 1 < up i j = omega arith in
          let least : 0 < up i j = omega arith in
          let below = climb i least in
          let less : up i j / 2 < 2 * width = omega (arith, below.1) in
          (above width nodes tree (up i j) more below.1 below.0, less)

  -- the top is above all flags
  pub leftmost_top : IsLeftmost width nodes 1
  leftmost_top = record {
    height = tree.level.0;
    low = 1;
    level = tree.level.1 ∙ omega arith;
    from = omega arith;
    below = omega arith;
    none = λ j leaf within least less is. absurd (omega arith);
  }

  module _ (k : ℕ) (h : IsLeftmost width nodes k) where
    -- a node that is no flag has two below it
    descend : {P : Type 0} → k < width → ((i : ℕ) → h.height ≡ suc i → P) → P
    descend {P = P} inner f = go h.height refl
      where
        go : (n : ℕ) → h.height ≡ n → P
        go zero e = let flat : width ≡ h.low = h.level ∙ ap (λ m. 2 ^ m * h.low) e ∙ single h.low in absurd (omega (arith, h.from))
        go (suc i) e = f i e

    next_level : (i : ℕ) → h.height ≡ suc i → width ≡ 2 ^ i * (2 * h.low)
    next_level i e = h.level ∙ ap (λ m. 2 ^ m * h.low) e ∙ doubled i h.low

    none_next : (i : ℕ) → h.height ≡ suc i → (j : ℕ) → width ≤ j → j < 2 * width → 2 * h.low ≤ up i j → up i j < 2 * k → get_or nodes j false ≡ true → ⊥
    unfolding up
    none_next i e j leaf within least less is =
        let low : h.low ≤ up i j / 2 = omega arith in
        let high : up i j / 2 < k = omega arith in
        h.none j leaf within (subst (λ n. h.low ≤ up n j) (sym e) low) (subst (λ n. up n j < k) (sym e) high) is

    -- the first of the two below a node is as far left
    pub leftmost_first : k < width → IsLeftmost width nodes (2 * k)
    leftmost_first inner = descend inner (λ i e. record {
      height = i;
      low = 2 * h.low;
      level = next_level i e;
      from = omega (arith, h.from);
      below = omega (arith, h.below);
      none = none_next i e;
    })

    -- and the second, where the first is not set
    pub leftmost_second : k < width → get_or nodes (2 * k) false ≡ false → IsLeftmost width nodes (2 * k + 1)
    leftmost_second inner clear = descend inner (λ i e. record {
      height = i;
      low = 2 * h.low;
      level = next_level i e;
      from = omega (arith, h.from);
      below = omega (arith, h.below);
      none = λ j leaf within least less is. elim (cases_lt (up i j) (2 * k)) [
        | inl before ↦ none_next i e j leaf within least before is
        | inr here ↦
            let some : 0 < up i j = omega (arith, h.below) in
            let same : up i j ≡ 2 * k = omega arith in
            let set : get_or nodes (2 * k) false ≡ true = ap (λ n. get_or nodes n false) (sym same) ∙ set_above i j within some is in
            cc
      ];
    })

    -- a flag before which none is set
    pub none_left : width ≤ k → NoneBefore (drop width nodes) (k - width)
    unfolding up
    none_left leaf j less is =
        let leaf_is : get_or nodes (width + j) false ≡ true = sym (get_or-drop width nodes j false) ∙ get_or_from_slice_get (drop width nodes) j true false is in
        let within : j < length (drop width nodes) = slice_get_within (drop width nodes) j true is in
        let inside : width + j < 2 * width = omega (arith, within, length-drop width nodes, tree.size) in
        let before : width + j < k = omega arith in
        flat h.height refl before inside leaf_is
      where
        flat : (n : ℕ) → h.height ≡ n → width + j < k → width + j < 2 * width → get_or nodes (width + j) false ≡ true → ⊥
        flat zero e before inside is_set =
            let low : width ≡ h.low = h.level ∙ ap (λ m. 2 ^ m * h.low) e ∙ single h.low in
            let from : h.low ≤ width + j = omega arith in
            h.none (width + j) (omega arith) inside (subst (λ n. h.low ≤ up n (width + j)) (sym e) from) (subst (λ n. up n (width + j) < k) (sym e) before) is_set
        flat (suc i) e before inside is_set =
            let wide : 2 * h.low ≤ width = subst (λ m. 2 * h.low ≤ m) (sym (next_level i e)) (at_least i (2 * h.low)) in
            absurd (omega (arith, h.below))
