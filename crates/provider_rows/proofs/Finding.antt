-- The command of a url is among the entries that stand from the url's place on.
use Rattle.std.proofs.Common.{◌≡◌, ◌≢◌, ◌⊎◌, ◌≤◌, ◌%◌, ◌+◌, ◌-◌, ◌*◌, ◌<◌, inl, inr, ℕ, List, [], ◌∷◌, Bool, true, false, cond, drop, length, get_or, suc, refl, sym, ap, subst, ◌∙◌, arith}
use Rattle.std.proofs.Math.Seq.{drop-cons}
use Rattle.std.proofs.lemmas.Bool.{eqb-false}
use Rattle.std.specs.Prelude.{Some, Contains, IsTrue, nat_eq, not}
use Rattle.std.specs.Ordering.{nat_cmp, is_le, is_gt, ordering_then}
use Rattle.std.specs.List.{filter}
use Rattle.std.specs.List.Sorted.{IsStrictlySortedBy}
use Rattle.std.specs.Map.{keys_of}
use Rattle.std.specs.BTreeMap.Range.{entries_from}
use Rattle.std.specs.Cmp.{eq_by_cmp_equiv, nat_cmp_total}
use Rattle.std.specs.declared.cmp.Ordering.TheVariants.{Less, Equal}
use Rattle.std.specs.FinMap.{get, entries}
use Rattle.std.proofs.lemmas.List.Kept.{IsStrictlySortedBy-filter}
use Rattle.std.proofs.lemmas.Map.Keys.{le_from_not_gt, sorted_tail}
use Rattle.std.proofs.lemmas.Nat.{mod_below}
use Rattle.tables.proofs.Elements.{in_none, in_front, in_map, first_below}
use Rattle.tables.proofs.Entries.{keys_in_order, listed}
use Rattle.tables.proofs.Maps.{equal_of_is_eq}
use Rattle.tables.proofs.Ordered.{le_of_not_gt, not_gt_of_le}
use Rattle.tables.proofs.Parts.{first_part_le}
use Rattle.ocpi_types.specs.Commands.{url_of}
use Rattle.outbox.specs.Commands.{Commands}
use Rattle.outbox.specs.Resend.{Moments, moment_number_cmp}
use Rattle.outbox.proofs.Timing.{queue_total, queue_exact, not_above}
use Rattle.provider_rows.specs.Urls.{AreFound, Fits, url_place}
use Rattle.provider_rows.proofs.RowChanges.{of_cons, in_later}

-- what the tests of a turn say
pub differ : (a b : ℕ) (test : Bool) → test ≡ not (nat_eq a b) → test ≡ true → a ≢ b
differ a b test is passed = eqb-false a b (turned (nat_eq a b) (sym is ∙ passed))
  where
    turned : (x : Bool) → not x ≡ true → x ≡ false
    turned true h = absurd (let bad : false ≡ true = h in cc)
    turned false h = refl

pub fits_not : (test : Bool) → test ≡ false → IsTrue test → ⊥
fits_not test failed passed = absurd (let bad : false ≡ true = sym failed ∙ passed in cc)

abbrev Entry : Type 0
Entry = (ℕ × ℕ) × Unit {0}

-- the place of a text is that of its end, with one byte before it
pub place_below : (bytes : List ℕ) → url_place bytes < 1000000007
place_below [] = omega arith
place_below (b ∷ bs) = mod_below (b + 31 * url_place bs) 1000000007 (omega arith)

pub place_step : (bytes : List ℕ) (i b place : ℕ) → i < length bytes → b ≡ get_or bytes (length bytes - 1 - i) 0 → place ≡ url_place (drop (length bytes - i) bytes) →
    (b + 31 * place) % 1000000007 ≡ url_place (drop (length bytes - (i + 1)) bytes)
place_step bytes i b place within is so =
    let at : length bytes - (i + 1) ≡ length bytes - 1 - i = omega arith in
    let next : suc (length bytes - 1 - i) ≡ length bytes - i = omega arith in
    let cut : drop (length bytes - 1 - i) bytes ≡ b ∷ drop (length bytes - i) bytes =
    drop-cons bytes (length bytes - 1 - i) 0 (omega arith) ∙ ap (λ k. k ∷ drop (suc (length bytes - 1 - i)) bytes) (sym is) ∙ ap (λ k. b ∷ drop k bytes) next in
    ap (λ p. (b + 31 * p) % 1000000007) so ∙ sym (ap url_place (ap (λ k. drop k bytes) at ∙ cut))

none_behind : (xs : List ℕ) → drop (length xs) xs ≡ []
none_behind [] = refl
none_behind (x ∷ xs) = none_behind xs

pub place_start : (bytes : List ℕ) → 0 ≡ url_place (drop (length bytes - 0) bytes)
place_start bytes = sym (ap url_place (ap (λ k. drop k bytes) (let whole : length bytes - 0 ≡ length bytes = omega arith in whole) ∙ none_behind bytes))

-- the keys of the entries that pass a test
module _ (p : ℕ × ℕ → Bool) where
  keys_passed : (es : List Entry) → keys_of (filter (λ e. p e.0) es) ≡ filter p (keys_of es)
  keys_passed [] = refl
  keys_passed (e ∷ es) = elim (p e.0) as (λ b. keys_of (cond b (e ∷ filter (λ e. p e.0) es) (filter (λ e. p e.0) es)) ≡ cond b (e.0 ∷ filter p (keys_of es)) (filter p (keys_of es))) [
    | true ↦ ap (λ ks. e.0 ∷ ks) (keys_passed es)
    | false ↦ keys_passed es
  ]

  kept_by : (b : Bool) (x : ℕ × ℕ) (xs : List (ℕ × ℕ)) (y : ℕ × ℕ) → (x ≡ y) × (b ≡ true) ⊎ Contains xs y → Contains (cond b (x ∷ xs) xs) y
  kept_by true x xs y (inl is) = subst (Contains (x ∷ xs)) is.0 (in_front x xs)
  kept_by true x xs y (inr i) = in_later x xs y i
  kept_by false x xs y (inl is) = absurd (let bad : false ≡ true = is.1 in cc)
  kept_by false x xs y (inr i) = i

  passes : (ks : List (ℕ × ℕ)) (y : ℕ × ℕ) → p y ≡ true → Contains ks y → Contains (filter p ks) y
  passes [] y h i = absurd (in_none y i)
  passes (k ∷ ks) y h i = kept_by (p k) k (filter p ks) y (elim (of_cons k ks y i) [ inl same ↦ inl (same, ap p same ∙ h) | inr j ↦ inr (passes ks y h j) ])

  of_kept : (b : Bool) (x : ℕ × ℕ) (xs : List (ℕ × ℕ)) (y : ℕ × ℕ) → p x ≡ b → Contains (cond b (x ∷ xs) xs) y → ((x ≡ y) × (b ≡ true)) ⊎ Contains xs y
  of_kept true x xs y is i = elim (of_cons x xs y i) [ inl same ↦ inl (same, refl) | inr j ↦ inr j ]
  of_kept false x xs y is i = inr i

  passed : (ks : List (ℕ × ℕ)) (y : ℕ × ℕ) → Contains (filter p ks) y → p y ≡ true
  passed [] y i = absurd (in_none y i)
  passed (k ∷ ks) y i = elim (of_kept (p k) k (filter p ks) y refl i) [ inl here ↦ ap p (sym here.0) ∙ here.1 | inr j ↦ passed ks y j ]

-- what is left to be looked at: each command that fits is among it, the keys rise, and none is before the place of the
-- url
pub record AreLeft (m : Commands) (url from : List ℕ) (ks : List (ℕ × ℕ)) : Type 0 where
  pub listed : (n : ℕ) → Fits m url from n → Contains ks (url_place url, n)
  pub rising : IsStrictlySortedBy moment_number_cmp ks
  pub since : (k : ℕ × ℕ) → Contains ks k → url_place url ≤ k.0

module _ (m : Commands) (url from : List ℕ) where
  -- at first, all that stands from the place on
  pub all_left : (urls : Moments) → AreFound m urls → (es : List Entry) → es ≡ entries_from (moment_number_cmp (url_place url, 0)) (entries urls) → AreLeft m url from (keys_of es)
  all_left urls found es is = subst (AreLeft m url from) (sym (ap keys_of is ∙ keys_passed at_or_after (entries urls))) (record {
    listed = λ n f. passes at_or_after (keys_of (entries urls)) (url_place url, n) (is_after n) (stands n f);
    rising = IsStrictlySortedBy-filter moment_number_cmp at_or_after (keys_of (entries urls)) (keys_in_order queue_total queue_exact urls);
    since = λ k i. le_from_not_gt (url_place url) k.0 (first_part_le (nat_cmp (url_place url) k.0) (nat_cmp 0 k.1) (not_gt_of_le _ (passed at_or_after (keys_of (entries urls)) k i)));
  })
    where
      at_or_after : ℕ × ℕ → Bool
      at_or_after k = is_le (moment_number_cmp (url_place url, 0) k)

      is_after : (n : ℕ) → at_or_after (url_place url, n) ≡ true
      is_after n =
          let tied : nat_cmp (url_place url) (url_place url) ≡ Equal = equal_of_is_eq (nat_cmp (url_place url) (url_place url)) ((eq_by_cmp_equiv nat_cmp_total).refl (url_place url)) in
          ap (λ r. is_le (ordering_then r (nat_cmp 0 n))) tied ∙ le_of_not_gt (nat_cmp 0 n) (not_above 0 n (omega arith))

      stands : (n : ℕ) → Fits m url from n → Contains (keys_of (entries urls)) (url_place url, n)
      stands n f =
          let at : get urls (url_place (url_of f.command.command), n) ≡ Some tt = found.complete n f.command f.stands in
          in_map (λ (e : Entry). e.0) (entries urls) ((url_place url, n), tt) (listed queue_total queue_exact urls (url_place url, n) tt (subst (λ u. get urls (url_place u, n) ≡ Some tt) f.posted at))

  -- the first of what is left does not fit
  pub fewer_left : (k : ℕ × ℕ) (ks all : List (ℕ × ℕ)) → all ≡ k ∷ ks → ¬ Fits m url from k.1 → AreLeft m url from all → AreLeft m url from ks
  fewer_left k ks all is unfit h =
      let now : AreLeft m url from (k ∷ ks) = subst (AreLeft m url from) is h in
      record {
        listed = λ n f. elim (of_cons k ks (url_place url, n) (now.listed n f)) [ inl same ↦ absurd (unfit (subst (Fits m url from) (sym (λ i. (same i).1)) f)) | inr j ↦ j ];
        rising = sorted_tail moment_number_cmp k ks now.rising;
        since = λ q i. now.since q (in_later k ks q i);
      }

  -- the first of what is left is of a later place
  pub none_past : (k : ℕ × ℕ) (ks all : List (ℕ × ℕ)) → all ≡ k ∷ ks → k.0 ≢ url_place url → AreLeft m url from all → (n : ℕ) → ¬ Fits m url from n
  none_past k ks all is apart h n f =
      let now : AreLeft m url from (k ∷ ks) = subst (AreLeft m url from) is h in
      elim (of_cons k ks (url_place url, n) (now.listed n f)) [
        | inl same ↦ apart (λ i. (same i).0)
        | inr j ↦ (
            let below : moment_number_cmp k (url_place url, n) ≡ Less = first_below moment_number_cmp k (url_place url, n) ks now.rising j in
            let upper : k.0 ≤ url_place url = le_from_not_gt k.0 (url_place url) (first_part_le (nat_cmp k.0 (url_place url)) (nat_cmp k.1 n) (ap is_gt below)) in
            let lower : url_place url ≤ k.0 = now.since k (in_front k ks) in
            let same : k.0 ≡ url_place url = omega arith in
            apart same
            )
      ]

  -- nothing is left
  pub none_left : (all : List (ℕ × ℕ)) → all ≡ [] → AreLeft m url from all → (n : ℕ) → ¬ Fits m url from n
  none_left all none h n f = in_none _ (subst (λ l. Contains l (url_place url, n)) none (h.listed n f))
