-- What stands in front of a line that is named.
use Rattle.std.proofs.Common.{◌≡◌, ◌≢◌, ◌⊎◌, ◌==◌, ℕ, zero, suc, ◌+◌, List, [], ◌∷◌, ◌++◌, Bool, true, false, cond, inl, inr, refl, sym, ap, ap₂, subst, ◌∙◌, zero-add, suc-add, true≢false}
use Rattle.replays.proofs.Lists.{heads, joined_is_none, some_is_none, tails}
use Rattle.replays.specs.Fronts.{feeds_of, lines_front}

-- nothing, or a text that ends with a line feed
pub data EndsLine : List ℕ → Type 0 where
  NoLine : EndsLine []
  AtFeed : (before : List ℕ) → EndsLine (before ++ 10 ∷ [])

pub decide : (b : Bool) → (b ≡ true) ⊎ (b ≡ false)
decide true = inl refl
decide false = inr refl

-- ends_line of a list by its last
ends_after : (c : ℕ) (text : List ℕ) → EndsLine (c ∷ text) → (text ≡ []) ⊎ EndsLine text
ends_after c text ends = of (c ∷ text) ends refl
  where
    of : (l : List ℕ) → EndsLine l → l ≡ c ∷ text → (text ≡ []) ⊎ EndsLine text
    of l NoLine is = some_is_none c text (sym is)
    of l (AtFeed []) is = inl (sym (tails 10 c [] text is))
    of l (AtFeed (d ∷ before)) is = inr (subst EndsLine (tails d c (before ++ 10 ∷ []) text is) (AtFeed before))

last_feed : (c : ℕ) → EndsLine (c ∷ []) → c ≡ 10
last_feed c ends = of (c ∷ []) ends refl
  where
    of : (l : List ℕ) → EndsLine l → l ≡ c ∷ [] → c ≡ 10
    of l NoLine is = some_is_none c [] (sym is)
    of l (AtFeed []) is = heads c 10 [] [] (sym is)
    of l (AtFeed (d ∷ before)) is = joined_is_none before 10 [] (tails d c (before ++ 10 ∷ []) [] is)

pub end_behind : (c : ℕ) (text : List ℕ) → EndsLine (c ∷ text) → EndsLine text
end_behind c text ends = of (ends_after c text ends)
  where
    of : (text ≡ []) ⊎ EndsLine text → EndsLine text
    of (inl none) = subst EndsLine (sym none) NoLine
    of (inr x) = x

no_feed : {X : Type 0} (c : ℕ) → (c == 10) ≡ false → c ≡ 10 → X
no_feed c is same = absurd (true≢false (sym (ap (λ x. x == 10) same) ∙ is))

-- it has one
has_one : (front : List ℕ) → EndsLine front → (front ≡ []) ⊎ ((n : ℕ) × (feeds_of front ≡ suc n))
unfolding feeds_of
has_one [] ends = inl refl
has_one (c ∷ front) ends = of (has_one front (end_behind c front ends)) (decide (c == 10))
  where
    of : (front ≡ []) ⊎ ((n : ℕ) × (feeds_of front ≡ suc n)) → ((c == 10) ≡ true) ⊎ ((c == 10) ≡ false) → (c ∷ front ≡ []) ⊎ ((n : ℕ) × (feeds_of (c ∷ front) ≡ suc n))
    of one (inl is) = inr (feeds_of front, ap (λ b. cond b (suc (feeds_of front)) (feeds_of front)) is)
    of one (inr is) = behind one
      where
        behind : (front ≡ []) ⊎ ((n : ℕ) × (feeds_of front ≡ suc n)) → (c ∷ front ≡ []) ⊎ ((n : ℕ) × (feeds_of (c ∷ front) ≡ suc n))
        behind (inl none) = no_feed c is (last_feed c (subst (λ l. EndsLine (c ∷ l)) none ends))
        behind (inr n) = inr (n.0, ap (λ b. cond b (suc (feeds_of front)) (feeds_of front)) is ∙ n.1)

-- a text that ends with its last line feed is what stands in front of so many line feeds
pub front_is : (front rest : List ℕ) → EndsLine front → lines_front (feeds_of front) (front ++ rest) ≡ front
unfolding feeds_of lines_front
front_is [] rest ends = refl
front_is (c ∷ front) rest ends = of (front_is front rest (end_behind c front ends)) (decide (c == 10))
  where
    of : lines_front (feeds_of front) (front ++ rest) ≡ front → ((c == 10) ≡ true) ⊎ ((c == 10) ≡ false) → lines_front (feeds_of (c ∷ front)) (c ∷ (front ++ rest)) ≡ c ∷ front
    of later (inl is) =
        ap (λ b. lines_front (cond b (suc (feeds_of front)) (feeds_of front)) (c ∷ (front ++ rest))) is
        ∙ ap (λ l. c ∷ l) (ap (λ b. cond b (lines_front (feeds_of front) (front ++ rest)) (lines_front (suc (feeds_of front)) (front ++ rest))) is ∙ later)
    of later (inr is) = behind (has_one front (end_behind c front ends))
      where
        behind : (front ≡ []) ⊎ ((n : ℕ) × (feeds_of front ≡ suc n)) → lines_front (feeds_of (c ∷ front)) (c ∷ (front ++ rest)) ≡ c ∷ front
        behind (inl none) = no_feed c is (last_feed c (subst (λ l. EndsLine (c ∷ l)) none ends))
        behind (inr n) =
            ap (λ b. lines_front (cond b (suc (feeds_of front)) (feeds_of front)) (c ∷ (front ++ rest))) is
            ∙ ap (λ k. lines_front k (c ∷ (front ++ rest))) n.1
            ∙ ap (λ l. c ∷ l) (ap (λ b. cond b (lines_front n.0 (front ++ rest)) (lines_front (suc n.0) (front ++ rest))) is ∙ ap (λ k. lines_front k (front ++ rest)) (sym n.1) ∙ later)

-- line feeds of joined texts
pub feeds_join : (xs ys : List ℕ) → feeds_of (xs ++ ys) ≡ feeds_of xs + feeds_of ys
unfolding feeds_of
feeds_join [] ys = sym (zero-add (feeds_of ys))
feeds_join (c ∷ xs) ys = of (feeds_join xs ys) (decide (c == 10))
  where
    of : feeds_of (xs ++ ys) ≡ feeds_of xs + feeds_of ys → ((c == 10) ≡ true) ⊎ ((c == 10) ≡ false) → feeds_of (c ∷ (xs ++ ys)) ≡ feeds_of (c ∷ xs) + feeds_of ys
    of joined (inl is) =
        ap (λ b. cond b (suc (feeds_of (xs ++ ys))) (feeds_of (xs ++ ys))) is ∙ ap suc joined ∙ sym (suc-add (feeds_of xs) (feeds_of ys))
        ∙ ap (λ b. cond b (suc (feeds_of xs)) (feeds_of xs) + feeds_of ys) (sym is)
    of joined (inr is) =
        ap (λ b. cond b (suc (feeds_of (xs ++ ys))) (feeds_of (xs ++ ys))) is ∙ joined ∙ ap (λ b. cond b (suc (feeds_of xs)) (feeds_of xs) + feeds_of ys) (sym is)

-- what stands in front of a place in a whole text, behind its two line feeds
pub record Front (text front rest : List ℕ) : Type 0 where
  pub before : List ℕ
  pub is : text ≡ before ++ rest
  pub whole : 10 ∷ 10 ∷ before ≡ front

pub front_of : (text b p rest : List ℕ) → 10 ∷ 10 ∷ text ≡ (b ++ 10 ∷ 10 ∷ p) ++ rest → Front text (b ++ 10 ∷ 10 ∷ p) rest
front_of text [] p rest is = record { before = p; is = tails 10 10 text (p ++ rest) (tails 10 10 (10 ∷ text) (10 ∷ (p ++ rest)) is); whole = refl }
front_of text (c ∷ []) p rest is = record {
  before = 10 ∷ p;
  is = tails 10 10 text (10 ∷ (p ++ rest)) (tails 10 c (10 ∷ text) (10 ∷ 10 ∷ (p ++ rest)) is);
  whole = ap (λ x. x ∷ 10 ∷ 10 ∷ p) (heads 10 c (10 ∷ text) (10 ∷ 10 ∷ (p ++ rest)) is);
}
front_of text (c ∷ d ∷ b) p rest is = record {
  before = b ++ 10 ∷ 10 ∷ p;
  is = tails 10 d text ((b ++ 10 ∷ 10 ∷ p) ++ rest) (tails 10 c (10 ∷ text) (d ∷ ((b ++ 10 ∷ 10 ∷ p) ++ rest)) is);
  whole = ap₂ (λ x y. x ∷ y ∷ (b ++ 10 ∷ 10 ∷ p)) (heads 10 c (10 ∷ text) (d ∷ ((b ++ 10 ∷ 10 ∷ p) ++ rest)) is)
      (heads 10 d text ((b ++ 10 ∷ 10 ∷ p) ++ rest) (tails 10 c (10 ∷ text) (d ∷ ((b ++ 10 ∷ 10 ∷ p) ++ rest)) is));
}
