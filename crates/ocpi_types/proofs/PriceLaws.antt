-- The price of a site at a moment.
use Rattle.std.proofs.Common.{◌≡◌, ℕ, suc, ℤ, ◌+◌, ◌-◌, ◌<◌, ◌≤◌, arith, true, false, Option, Some, None, inl, inr, cond, List, [], ◌∷◌, ◌++◌, All, AllPairs, length, take, get_or, nat_le, le-leb, sym, ap, subst, ◌∙◌}
use Rattle.std.specs.List.{last_or}
use Rattle.std.specs.List.Sorted.{IsPartitionPoint, IsNonDecreasingBy}
use Rattle.std.proofs.Math.Nat.{eq-or-lt_of_le}
use Rattle.std.proofs.lemmas.Bool.{lt-leb}
use Rattle.std.proofs.lemmas.List.{append-nil, get_or_default}
use Rattle.std.proofs.lemmas.List.Elements.{filter-append, All-filter, All-head, All-tail}
use Rattle.ocpi_types.specs.Limits.{IsPrice}
use Rattle.ocpi_types.specs.PriceLists.{ArePrices, IsEarlier, IsLastBegun, begun_by, last_begun}
use Rattle.ocpi_types.specs.Prices.{price_of, price_at}
use Rattle.ocpi_types.specs.declared.price_lists.PriceFrom.{PriceFrom}
use Rattle.ocpi_types.specs.declared.site.Site.{Site}
use Rattle.ocpi_types.proofs.Begun.{none_kept, front_kept, last_of_front}

-- ---- the last entry that begins by a moment

-- no later entry begins earlier
pub by_moments : (ps : List PriceFrom) → AllPairs IsEarlier ps → IsNonDecreasingBy (λ p. p.start_date_time) ps
by_moments ps rising i j d h within = elim (eq-or-lt_of_le h) [ inl e ↦ subst (λ n. (get_or ps i d).start_date_time ≤ (get_or ps n d).start_date_time) e (omega arith) | inr less ↦ let before = rising i j d less within in omega arith ]

-- the place behind those that begin by a moment
abbrev pub IsBehindBegun : ℕ → List PriceFrom → ℕ → Type 0
IsBehindBegun at ps i = IsPartitionPoint (λ p. nat_le p.start_date_time at ≡ true) (λ p. nat_le p.start_date_time at ≡ false) ps i

-- it is the first: none begins by then
pub none_begun : (at : ℕ) (ps : List PriceFrom) (i : ℕ) → IsBehindBegun at ps i → i ≡ 0 → last_begun at ps ≡ None
none_begun at ps i point none = ap (last_or None) (front_kept (λ p. nat_le p.start_date_time at) ps i point (omega arith) ∙ ap (λ n. take n ps) none)

-- it is another: the last stands before it
pub one_begun : (at : ℕ) (ps : List PriceFrom) (i : ℕ) (d : PriceFrom) → IsBehindBegun at ps i → 0 < i → i ≤ length ps → last_begun at ps ≡ Some (get_or ps (i - 1) d)
one_begun at ps i d point some within =
    let behind : i ≡ suc (i - 1) = omega arith in
    ap (last_or None) (front_kept (λ p. nat_le p.start_date_time at) ps i point within ∙ ap (λ n. take n ps) behind) ∙ last_of_front None ps (i - 1) d (omega arith)

-- the entries up to the last that begins by a moment
pub begun_to : (at : ℕ) (ps : List PriceFrom) (i : ℕ) (p : PriceFrom) → ArePrices ps → IsLastBegun at ps i p → IsBehindBegun at ps (i + 1)
begun_to at ps i p are last = (
  λ k e low high. le-leb _ _ (
      let ordered = by_moments ps are.rising k i e (omega arith) last.within in
      let same = ap (λ (q : PriceFrom). q.start_date_time) (get_or_default ps i e p last.within ∙ sym last.is) in
      let begins = last.begins in
      omega arith
      ),
  λ k e low high. lt-leb _ _ (
      let ordered = by_moments ps are.rising (i + 1) k e low high in
      let same = ap (λ (q : PriceFrom). q.start_date_time) (get_or_default ps (i + 1) e p (omega arith)) in
      let later = last.next (omega arith) in
      omega arith
      ),
)

-- an entry behind them that begins later
pub later_not_begun : (at : ℕ) (ps qs : List PriceFrom) (p : PriceFrom) → qs ≡ ps ++ p ∷ [] → at < p.start_date_time → begun_by at ps ≡ begun_by at qs
later_not_begun at ps qs p joined later = sym (
    ap (begun_by at) joined
    ∙ filter-append (λ q. nat_le q.start_date_time at) ps (p ∷ [])
    ∙ ap (λ b. begun_by at ps ++ cond b (p ∷ []) []) (lt-leb _ _ later)
    ∙ append-nil (begun_by at ps)
    )

-- the last of entries in the range of prices
pub last_in_range : (own : ℤ) (o : Option PriceFrom) (ps : List PriceFrom) → IsPrice (price_of own o) → All (λ p. IsPrice p.price) ps → IsPrice (price_of own (last_or o ps))
last_in_range own o [] first all = first
last_in_range own o (p ∷ ps) first all = last_in_range own (Some p) ps (All-head (λ p. IsPrice p.price) p ps all) (All-tail (λ p. IsPrice p.price) p ps all)

-- ---- the price of a site

-- without entries it is the site's own
pub own_price : (s : Site) (at : ℕ) → s.prices ≡ [] → price_at s at ≡ s.price
unfolding price_at
own_price s at none = ap (λ ps. price_of s.price (last_begun at ps)) none

-- before the first it is so too
pub price_before : (s : Site) (at : ℕ) → All (λ p. at < p.start_date_time) s.prices → price_at s at ≡ s.price
unfolding price_at
price_before s at all = ap (λ ps. price_of s.price (last_or None ps)) (none_kept (λ p. nat_le p.start_date_time at) s.prices (λ k d low high. lt-leb _ _ (all k d high)))

-- it rests on the site's own price and on the entries alone
pub same_price : (s t : Site) (at : ℕ) → s.price ≡ t.price → s.prices ≡ t.prices → price_at s at ≡ price_at t at
unfolding price_at
same_price s t at price prices = λ k. price_of (price k) (last_begun at (prices k))

-- that of an entry which begins by the moment, where the next does not
pub entry_price : (s : Site) (at i : ℕ) (p : PriceFrom) → ArePrices s.prices → IsLastBegun at s.prices i p → price_at s at ≡ p.price
unfolding price_at
entry_price s at i p are last =
    let place : i + 1 - 1 ≡ i = omega arith in
    let within : i + 1 ≤ length s.prices = let w = last.within in omega arith in
    ap (price_of s.price) (one_begun at s.prices (i + 1) p (begun_to at s.prices i p are last) (omega arith) within ∙ ap (λ n. Some (get_or s.prices n p)) place ∙ ap Some (sym last.is))

-- one that begins later changes nothing
pub later_entry : (s t : Site) (at : ℕ) (p : PriceFrom) → s.price ≡ t.price → t.prices ≡ s.prices ++ p ∷ [] → at < p.start_date_time → price_at s at ≡ price_at t at
unfolding price_at
later_entry s t at p price prices later = λ k. price_of (price k) (last_or None (later_not_begun at s.prices t.prices p prices later k))

-- it is in the range of prices
pub price_in_range : (s : Site) (at : ℕ) → IsPrice s.price → All (λ p. IsPrice p.price) s.prices → IsPrice (price_at s at)
unfolding price_at
price_in_range s at own all = last_in_range s.price None (begun_by at s.prices) own (All-filter (λ p. nat_le p.start_date_time at) (λ p. IsPrice p.price) s.prices all)
