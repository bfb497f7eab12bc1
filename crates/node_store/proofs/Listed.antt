-- The places at which something is kept, in order.
use Rattle.std.proofs.Common.{◌≡◌, ◌≢◌, ℕ, false, cond, ◌+◌, List, [], ◌∷◌, ◌++◌, map, drop, length, ◌<◌, get_or, inl, inr, refl, sym, ap, subst, ◌∙◌}
use Rattle.std.specs.Prelude.{Option, Some, None, Result, Ok, Err, Contains}
use Rattle.std.specs.List.{AllPairs}
use Rattle.std.specs.List.Sorted.{IsPermutation, IsSorted, IsStrictlySortedBy}
use Rattle.std.specs.declared.cmp.Ordering.{Ordering}
use Rattle.std.specs.declared.cmp.Ordering.TheVariants.{Less}
use Rattle.std.specs.Cmp.{IsTotalOrder}
use Rattle.std.specs.FinMap.{entries, get}
use Rattle.std.proofs.lemmas.List.{drop_more}
use Rattle.std.proofs.lemmas.List.Elements.{recursion_from_All}
use Rattle.std.specs.Result.{IfErr, IsErrAnd}
use Rattle.std.proofs.lemmas.Result.{err_from_is_err_and}
use Rattle.std.proofs.lemmas.List.Sorted.{Contains-permutation, IsPermutation-sym}
use Rattle.std.proofs.lemmas.Map.Keys.{sorted_tail}
use Rattle.tables.specs.Keys.{text_pair_cmp, text_pair_total, text_pair_exact}
use Rattle.tables.specs.Lookups.{IsListing}
use Rattle.tables.proofs.DueFront.{rise}
use Rattle.tables.proofs.Elements.{first_below, first_pairs, in_front, in_later, in_none, in_map, later_pairs, of_cons, of_map}
use Rattle.tables.proofs.Entries.{apart_of_less, keys_in_order, listed, listed_only}
use Rattle.tables.proofs.Listings.{listed_apart}
use Rattle.json_text.specs.Fault.{Read}
use Rattle.ocpi_types.specs.declared.rows.Row.{Row}
use Rattle.ocpi_json.specs.RowForms.{row_in}
use Rattle.node_store.specs.Contents.{AnswersRow, Content, RowPlace, after_row, rows_after}
use Rattle.node_store.specs.Numbers.{is_line_place, others}
use Rattle.node_store.specs.Placing.{entries_at, entry_before, places_of}
use Rattle.node_store.specs.declared.fault.StoreFault.{StoreFault}
use Rattle.node_store.specs.declared.fault.StoreFault.TheVariants.{BadRow}

module _ {K : Type 0} {R : K → K → Ordering} (o : IsTotalOrder R) where
  from_pairs : (ks : List K) → AllPairs (λ a b. R a b ≡ Less) ks → IsStrictlySortedBy R ks
  unfolding IsStrictlySortedBy
  from_pairs [] h = tt
  from_pairs (k ∷ ks) h = (recursion_from_All (λ y. R k y ≡ Less) ks (first_pairs (λ a b. R a b ≡ Less) k ks h), from_pairs ks (later_pairs (λ a b. R a b ≡ Less) k ks h))

  no_less : (a b : K) → R a b ≡ Less → R b a ≡ Less → ⊥
  no_less a b below above = apart_of_less o a a (o.trans a b a below above) refl

  same_first : (x y : K) (xs ys : List K) → IsStrictlySortedBy R (x ∷ xs) → IsStrictlySortedBy R (y ∷ ys) → Contains (y ∷ ys) x → Contains (x ∷ xs) y → x ≡ y
  same_first x y xs ys up down there back = elim (of_cons y ys x there) [
    | inl same ↦ sym same
    | inr later ↦ elim (of_cons x xs y back) [
      | inl same ↦ same
      | inr other ↦ absurd (no_less x y (first_below R x y xs up other) (first_below R y x ys down later))
    ]
  ]

  -- what is in the rest is in the other rest, where the first are the same
  in_rest : (x y k : K) (xs ys : List K) → x ≡ y → IsStrictlySortedBy R (x ∷ xs) → Contains xs k → Contains (y ∷ ys) k → Contains ys k
  in_rest x y k xs ys same up here there = elim (of_cons y ys k there) [
    | inl at ↦ absurd (apart_of_less o x k (first_below R x k xs up here) (same ∙ at))
    | inr later ↦ later
  ]

  -- lists in order that have the same members are the same
  same_members : (xs ys : List K) → IsStrictlySortedBy R xs → IsStrictlySortedBy R ys → ((k : K) → Contains xs k → Contains ys k) → ((k : K) → Contains ys k → Contains xs k) → xs ≡ ys
  same_members [] [] up down to from = refl
  same_members [] (y ∷ ys) up down to from = absurd (in_none y (from y (in_front y ys)))
  same_members (x ∷ xs) [] up down to from = absurd (in_none x (to x (in_front x xs)))
  same_members (x ∷ xs) (y ∷ ys) up down to from =
      let same = same_first x y xs ys up down (to x (in_front x xs)) (from y (in_front y ys)) in
      let rest = same_members xs ys (sorted_tail R x xs up) (sorted_tail R y ys down)
      (λ k i. in_rest x y k xs ys same up i (to k (in_later x xs k i)))
      (λ k i. in_rest y x k ys xs (sym same) down i (from k (in_later y ys k i))) in
      λ i. same i ∷ rest i

module _ (c : Content) (list : List (RowPlace × List ℕ)) (h : IsListing c list) where
  to_places : (p : RowPlace) → Contains (map (λ e. e.0) list) p → Contains (places_of c) p
  to_places p i =
      let from = of_map (λ (e : RowPlace × List ℕ). e.0) list p i in
      subst (Contains (places_of c)) from.2 (in_map (λ (e : RowPlace × List ℕ). e.0) (entries c) from.0 (listed text_pair_total text_pair_exact c from.0.0 from.0.1 ((h.exact from.0).0 from.1)))

  from_places : (p : RowPlace) → Contains (places_of c) p → Contains (map (λ e. e.0) list) p
  from_places p i =
      let from = of_map (λ (e : RowPlace × List ℕ). e.0) (entries c) p i in
      subst (Contains (map (λ e. e.0) list)) from.2 (in_map (λ (e : RowPlace × List ℕ). e.0) list from.0 ((h.exact from.0).1 (listed_only text_pair_total text_pair_exact c from.0.0 from.0.1 from.1)))

  -- the keys of listed entries, once they are sorted, are the places
  pub sorted_places : (places sorted : List RowPlace) → places ≡ map (λ e. e.0) list → IsPermutation places sorted → IsSorted text_pair_cmp sorted → sorted ≡ places_of c
  sorted_places places sorted are moved up =
      let apart = listed_apart (λ (e : RowPlace × List ℕ). e.0) c list h (λ a b. a ≢ b) (λ a b _ _ d. d) in
      let shuffled = subst (λ (l : List RowPlace). IsPermutation l sorted) are moved in
      same_members text_pair_total sorted (places_of c) (from_pairs text_pair_total sorted (rise text_pair_total text_pair_exact (map (λ e. e.0) list) sorted apart shuffled up)) (keys_in_order text_pair_total text_pair_exact c)
      (λ p i. to_places p (Contains-permutation sorted (map (λ e. e.0) list) p (IsPermutation-sym (map (λ e. e.0) list) sorted shuffled) i))
      (λ p i. Contains-permutation (map (λ e. e.0) list) sorted p shuffled (from_places p i))

each_at : (c : Content) (es : List (RowPlace × List ℕ)) → ((e : RowPlace × List ℕ) → Contains es e → get c e.0 ≡ Some e.1) → entries_at c (map (λ e. e.0) es) ≡ es
each_at c [] h = refl
each_at c (e ∷ es) h =
    ap (λ (o : Option (List ℕ)). entry_before e.0 o (entries_at c (map (λ e. e.0) es))) (h e (in_front e es))
    ∙ ap (λ (rest : List (RowPlace × List ℕ)). e ∷ rest) (each_at c es (λ x i. h x (in_later e es x i)))

-- the entries at all places are all entries
pub at_places : (c : Content) (places : List RowPlace) → places ≡ places_of c → entries_at c places ≡ entries c
at_places c places are = ap (entries_at c) are ∙ each_at c (entries c) (λ e i. listed_only text_pair_total text_pair_exact c e.0 e.1 i)

-- ---- the row at a place

bad_read : (read : Read Row) (f : Row → Option (List Row)) → after_row read Some ≡ None → after_row read f ≡ None
bad_read (Ok r) f h = absurd cc
bad_read (Err e) f h = refl

no_row : (answer : Result Row StoreFault) (fault : StoreFault) (read : Read Row) (f : Row → Option (List Row)) → AnswersRow answer read → answer ≡ Err fault → fault ≡ BadRow → after_row read f ≡ None
no_row answer fault read f h is bad = bad_read read f (subst (λ (a : Result Row StoreFault). AnswersRow a read) (is ∙ ap Err bad) h)

-- what the exit of a `?` returns
pub err_one : {T : Type 0} (P : StoreFault → Type 0) (r : Result T StoreFault) (fault : StoreFault) → IsErrAnd r (λ e. e ≡ fault) → P fault → IfErr r P
err_one P r fault is h = let p = err_from_is_err_and r is in rw (p.1, p.2) h

-- at the place in turn, which is not that of the number, a text is kept
module _ (c : Content) (ps : List RowPlace) (i : ℕ) (p : RowPlace) (within : i < length ps) (is : p ≡ get_or ps i p)
    (t kind name : List ℕ) (own_kind : kind ≡ p.0) (own_name : name ≡ p.1) (row_place : is_line_place (kind, name) ≡ false) (some : get c p ≡ Some t) where
  other_place : is_line_place p ≡ false
  other_place = ap is_line_place (λ j. (sym own_kind j, sym own_name j)) ∙ row_place

  at_place : entries_at c (drop i ps) ≡ (p, t) ∷ entries_at c (drop (i + 1) ps)
  at_place =
      ap (entries_at c) (drop_more ps i p within ∙ ap (λ (q : RowPlace). q ∷ drop (i + 1) ps) (sym is))
      ∙ ap (λ (o : Option (List ℕ)). entry_before p o (entries_at c (drop (i + 1) ps))) some

  next_entry : others (entries_at c (drop i ps)) ≡ (p, t) ∷ others (entries_at c (drop (i + 1) ps))
  next_entry = ap others at_place ∙ ap (λ b. cond b (others (entries_at c (drop (i + 1) ps))) ((p, t) ∷ others (entries_at c (drop (i + 1) ps)))) other_place

  module _ (rows : List Row) (as_kind as_name text : List ℕ) (is_kind : as_kind ≡ p.0) (is_name : as_name ≡ p.1) (is_text : text ≡ t) where
    next_read : rows_after rows (others (entries_at c (drop i ps))) ≡ after_row (row_in as_kind as_name text) (λ r. rows_after (rows ++ r ∷ []) (others (entries_at c (drop (i + 1) ps))))
    next_read =
        ap (rows_after rows) next_entry
        ∙ λ j. after_row (row_in (sym is_kind j) (sym is_name j) (sym is_text j)) (λ r. rows_after (rows ++ r ∷ []) (others (entries_at c (drop (i + 1) ps))))

    -- and is read as a row, which is put after those before
    pub next_row : (r : Row) (now : List Row) (all : Option (List Row)) → row_in as_kind as_name text ≡ Ok r → now ≡ rows ++ r ∷ [] → rows_after rows (others (entries_at c (drop i ps))) ≡ all
        → rows_after now (others (entries_at c (drop (i + 1) ps))) ≡ all
    next_row r now all read grown so_far =
        ap (λ (rs : List Row). rows_after rs (others (entries_at c (drop (i + 1) ps)))) grown
        ∙ sym (ap (λ (x : Read Row). after_row x (λ q. rows_after (rows ++ q ∷ []) (others (entries_at c (drop (i + 1) ps))))) read) ∙ sym next_read ∙ so_far

    -- or as none
    pub none_there : (answer : Result Row StoreFault) (fault : StoreFault) (all : Option (List Row)) → AnswersRow answer (row_in as_kind as_name text) → answer ≡ Err fault → rows_after rows (others (entries_at c (drop i ps))) ≡ all
        → fault ≡ BadRow → all ≡ None
    none_there answer fault all answers failed so_far bad =
        sym so_far ∙ next_read ∙ no_row answer fault (row_in as_kind as_name text) (λ r. rows_after (rows ++ r ∷ []) (others (entries_at c (drop (i + 1) ps)))) answers failed bad
