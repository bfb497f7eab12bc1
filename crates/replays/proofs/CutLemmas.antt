-- How far a text was read.
use Rattle.std.proofs.Common.{◌≡◌, ◌≢◌, ℕ, suc, ◌+◌, List, [], ◌∷◌, ◌++◌, refl, sym, ap, subst, ◌∙◌, cond, ne_eqb, take, length, arith, ap₂, length-append}
use Rattle.replays.proofs.Lists.{Cuts, First, Second, cuts, heads, joined_is_none, last_one, some_is_none, tails}
use Rattle.replays.specs.Cutting.{AtEmptyLine, AtEnd, AtFeed, BeginsAnew, Empty, EndsRun, GoesFurther, GoesPast, HasNoEmptyLine, Other}
use Rattle.replays.specs.Fronts.{feeds_of}

pub other_first : (c : ℕ) (text rest : List ℕ) → rest ≡ c ∷ text → c ≢ 10 → BeginsAnew rest
other_first c text rest is other = subst BeginsAnew (sym is) (Other c text other)

pub none_left : (rest : List ℕ) → length rest ≡ 0 → BeginsAnew rest
none_left [] none = Empty
none_left (c ∷ rest) none = absurd (omega (arith, none))

pub none_end : (rest : List ℕ) → length rest ≡ 0 → EndsRun rest
none_end [] none = AtEnd
none_end (c ∷ rest) none = absurd (omega (arith, none))

pub feed_ends : (c : ℕ) (text rest : List ℕ) → rest ≡ c ∷ text → c ≡ 10 → EndsRun (10 ∷ rest)
feed_ends c text rest is feed = subst (λ l. EndsRun (10 ∷ l)) (sym (is ∙ ap (λ x. x ∷ text) feed)) (AtEmptyLine text)

pub there_ends : (c : ℕ) (text rest : List ℕ) → rest ≡ c ∷ text → c ≡ 10 → EndsRun (10 ∷ text) → EndsRun rest
there_ends c text rest is feed ends = subst EndsRun (sym (is ∙ ap (λ x. x ∷ text) feed)) ends

pub end_ends : (rest : List ℕ) → length rest ≡ 0 → EndsRun (10 ∷ rest)
end_ends [] none = AtFeed
end_ends (c ∷ rest) none = absurd (omega (arith, none))

pub feed_counts : (c : ℕ) (text rest : List ℕ) → rest ≡ c ∷ text → c ≡ 10 → feeds_of rest ≡ suc (feeds_of text)
unfolding feeds_of
feed_counts c text rest is feed = ap feeds_of (is ∙ ap (λ x. x ∷ text) feed)

pub other_counts : (c : ℕ) (text rest : List ℕ) → rest ≡ c ∷ text → c ≢ 10 → feeds_of rest ≡ feeds_of text
unfolding feeds_of
other_counts c text rest is other = ap feeds_of is ∙ ap (λ b. cond b (suc (feeds_of text)) (feeds_of text)) (ne_eqb c 10 other)

pub none_counts : (rest : List ℕ) → length rest ≡ 0 → feeds_of rest ≡ 0
unfolding feeds_of
none_counts [] none = refl
none_counts (c ∷ rest) none = absurd (omega (arith, none))

-- one byte further
pub further : (text : List ℕ) (length : ℕ) (c : ℕ) (behind rest : List ℕ) → GoesFurther (take length text) rest → text ≡ take length text ++ rest → rest ≡ c ∷ behind
    → GoesPast rest → take (length + 1) text ≡ take length text ++ c ∷ [] → GoesFurther (take (length + 1) text) behind
further text length c behind rest g is first past one = subst (λ l. GoesFurther l behind) (sym one) (record { plain = plain; open_line = open_line })
  where
    front : List ℕ
    front = take length text

    plain : HasNoEmptyLine (front ++ c ∷ [])
    plain before after e = of after (cuts front (c ∷ []) before (10 ∷ 10 ∷ after) e)
      where
        of : (after : List ℕ) → Cuts front (c ∷ []) before (10 ∷ 10 ∷ after) → ⊥
        of after (First m a b) = short m b
          where
            short : (m : List ℕ) → c ∷ [] ≡ m ++ 10 ∷ 10 ∷ after → ⊥
            short [] e = some_is_none 10 after (sym (tails c 10 [] (10 ∷ after) e))
            short (x ∷ m) e = joined_is_none m 10 (10 ∷ after) (sym (tails c x [] (m ++ 10 ∷ 10 ∷ after) e))
        of after (Second m a b) = long m a b
          where
            long : (m : List ℕ) → front ≡ before ++ m → 10 ∷ 10 ∷ after ≡ m ++ c ∷ [] → ⊥
            long [] a b = some_is_none 10 after (tails 10 c (10 ∷ after) [] b)
            long (x ∷ []) a b =
                let here : x ≡ 10 = sym (heads 10 x (10 ∷ after) (c ∷ []) b) in
                let last : c ≡ 10 = sym (heads 10 c after [] (tails 10 x (10 ∷ after) (c ∷ []) b)) in
                let o = g.open_line before (a ∙ ap (λ y. before ++ y ∷ []) here) in
                o.1.2 (heads o.0 c o.1.0 behind (sym o.1.1 ∙ first) ∙ last)
            long (x ∷ y ∷ m) a b =
                let here : x ≡ 10 = sym (heads 10 x (10 ∷ after) (y ∷ (m ++ c ∷ [])) b) in
                let there : y ≡ 10 = sym (heads 10 y after (m ++ c ∷ []) (tails 10 x (10 ∷ after) (y ∷ (m ++ c ∷ [])) b)) in
                g.plain before m (a ∙ ap (λ z. before ++ z ∷ y ∷ m) here ∙ ap (λ z. before ++ 10 ∷ z ∷ m) there)

    open_line : (before : List ℕ) → front ++ c ∷ [] ≡ before ++ 10 ∷ [] → (d : ℕ) × ((more : List ℕ) × (behind ≡ d ∷ more) × (d ≢ 10))
    open_line before e = past behind (first ∙ ap (λ x. x ∷ behind) (last_one front before c 10 e))

pub not_far : (text : List ℕ) → GoesFurther (take 0 text) text
not_far text = record {
  plain = λ before after e. joined_is_none before 10 (10 ∷ after) (sym e);
  open_line = λ before e. joined_is_none before 10 [] (sym e);
}

take_front : (front : List ℕ) (c : ℕ) (behind : List ℕ) → take (length front + 1) (front ++ c ∷ behind) ≡ front ++ c ∷ []
take_front [] c behind = refl
take_front (x ∷ front) c behind =
    ap (λ k. take k (x ∷ (front ++ c ∷ behind))) (more (length front)) ∙ ap (λ l. x ∷ l) (take_front front c behind)
  where
    more : (n : ℕ) → suc n + 1 ≡ suc (n + 1)
    more n = omega arith

pub one_longer : (text : List ℕ) (n c : ℕ) (behind : List ℕ) → text ≡ take n text ++ c ∷ behind → n + length (c ∷ behind) ≡ length text → take (n + 1) text ≡ take n text ++ c ∷ []
one_longer text n c behind is size = ap₂ (λ k l. take (k + 1) l) count is ∙ take_front (take n text) c behind
  where
    count : n ≡ length (take n text)
    count = let a = ap length is in let b = length-append (take n text) (c ∷ behind) in omega (arith, a, b, size)
