-- Slots that are kept in any order, each key once, read as the slots in the order of their keys.
use Rattle.std.proofs.Common.{◌≡◌, ◌≢◌, ◌∙◌, ap, sym, subst, refl, Bool, true, false, cond, List, [], ◌∷◌}
use Rattle.std.specs.Prelude.{Option, Some, None, is_some}
use Rattle.std.specs.Option.{option_flatten}
use Rattle.std.specs.Ordering.{is_eq}
use Rattle.std.specs.declared.cmp.Ordering.{Ordering}
use Rattle.std.specs.Cmp.{IsEquivalence, IsTotalOrder}
use Rattle.std.specs.List.{AllByRecursion, AllPairs, IsDistinct}
use Rattle.std.specs.List.Sorted.{IsStrictlySortedBy}
use Rattle.std.specs.Map.{lookup, keys_of}
use Rattle.std.specs.BTreeMap.{is_at}
use Rattle.std.specs.FinMap.{IsAntisymmetric, empty, entries, get, from_entries, get-entries, get-from_entries, len-empty, len-entries}
use Rattle.std.proofs.lemmas.List.{nil_from_length}
use Rattle.std.proofs.lemmas.List.Kept.{AllPairs-cons}
use Rattle.std.proofs.lemmas.Map.Keys.{IsDistinct-cons, IsDistinct-head, IsDistinct-tail}
use Rattle.std.proofs.lemmas.Map.Views.{Contains-from_lookup, lookup-from_Contains}
use Rattle.tables.specs.Lookups.{IsListing, slots_of}
use Rattle.tables.specs.Tables.{shown, shown_of, shown_slot}
use Rattle.tables.proofs.Elements.{all_of, no_pairs}
use Rattle.tables.proofs.Entries.{keys_in_order}
use Rattle.tables.proofs.Maps.{equal_of_is_eq}
use Rattle.tables.proofs.Options.{none_some}
use Rattle.tables.proofs.Ordered.{looked}
use Rattle.tables.proofs.Slots.{got}

-- of no slot there is none
pub none_up : {K X : Type 0} (R : K → K → Ordering) (es : List (K × X)) → es ≡ [] → slots_of R es ≡ []
none_up R es e = ap (slots_of R) e ∙ nil_from_length (entries (empty {R = R})) (sym (len-entries (empty {R = R})) ∙ len-empty R _)

module _ {K X : Type 0} {R : K → K → Ordering} (o : IsTotalOrder R) (exact : IsAntisymmetric R) where
  -- the slots are in order
  pub sorted_up : (es : List (K × X)) → IsStrictlySortedBy R (keys_of (slots_of R es))
  sorted_up es = keys_in_order o exact (from_entries {R = R} es)

module _ {K X : Type 0} {R : K → K → Ordering} (o : IsTotalOrder R) (E : K → K → Bool) (ties : (x y : K) → E x y ≡ is_eq (R x y)) where
  tests : (q : K) (es : List (K × X)) → lookup (is_at (R q)) es ≡ lookup (E q) es
  tests q [] = refl
  tests q (e ∷ es) = λ i. cond (sym (ties q e.0) i) (Some e.1) (tests q es i)

  -- what a key has, in order or not
  pub looked_up : (q : K) (es : List (K × X)) → lookup (is_at (R q)) (slots_of R es) ≡ lookup (E q) es
  looked_up q es = looked R q (slots_of R es) ∙ sym (get-entries (from_entries {R = R} es) q) ∙ get-from_entries o es q ∙ sym (looked R q es) ∙ tests q es

  -- the slot of one key changed
  pub changed_up : (es fs : List (K × X)) (k : K) (w : Option X) → ((q : K) → lookup (E q) fs ≡ cond (E k q) w (lookup (E q) es)) →
      (q : K) → lookup (is_at (R q)) (slots_of R fs) ≡ cond (is_at (R k) q) w (lookup (is_at (R q)) (slots_of R es))
  changed_up es fs k w h q = looked_up q fs ∙ h q ∙ (λ i. cond (ties k q i) w (sym (looked_up q es) i))

  -- a slot was found, and nothing changed
  pub found_up : (es fs : List (K × X)) (k : K) → (is_some (lookup (E k) es) ≡ true → fs ≡ es) → is_some (lookup (is_at (R k)) (slots_of R es)) ≡ true → slots_of R fs ≡ slots_of R es
  found_up es fs k found has = ap (slots_of R) (found (ap is_some (sym (looked_up k es)) ∙ has))

-- what is shown of slots whose keys differ, in whatever order they are kept
same_of_eq : {K : Type 0} {R : K → K → Ordering} → IsAntisymmetric R → (E : K → K → Bool) → ((x y : K) → E x y ≡ is_eq (R x y)) → (x y : K) → E x y ≡ true → x ≡ y
same_of_eq exact E ties x y e = exact x y (equal_of_is_eq _ (sym (ties x y) ∙ e))

module _ {K X : Type 0} {R : K → K → Ordering} (o : IsTotalOrder R) (exact : IsAntisymmetric R) (E : K → K → Bool) (eqv : IsEquivalence E) (ties : (x y : K) → E x y ≡ is_eq (R x y)) where
  -- a slot was made
  pub made_up : (es fs : List (K × Option X)) (k : K) (w : Option (Option X)) → (lookup (E k) es ≡ None → (q : K) → lookup (E q) fs ≡ cond (E k q) w (lookup (E q) es)) → lookup (is_at (R k)) (slots_of R es) ≡ None →
      ((q : K) → lookup (is_at (R q)) (slots_of R fs) ≡ cond (is_at (R k) q) w (lookup (is_at (R q)) (slots_of R es))) × IsStrictlySortedBy R (keys_of (slots_of R fs))
  made_up es fs k w made none = (changed_up o E ties es fs k w (made (sym (looked_up o E ties k es) ∙ none)), sorted_up o exact fs)

  slot_apart : (q k : K) (v : Option X) (rest : List (K × X)) → E q k ≡ false → AllByRecursion (λ y. E q y ≡ false) (keys_of rest) → AllByRecursion (λ y. E q y ≡ false) (keys_of (shown_slot k v rest))
  slot_apart q k None rest e h = h
  slot_apart q k (Some v) rest e h = (e, h)

  all_still_apart : (q : K) (es : List (K × Option X)) → AllByRecursion (λ y. E q y ≡ false) (keys_of es) → AllByRecursion (λ y. E q y ≡ false) (keys_of (shown es))
  all_still_apart q [] h = tt
  all_still_apart q (e ∷ es) h = slot_apart q e.0 e.1 (shown es) h.0 (all_still_apart q es h.1)

  distinct_slot : (k : K) (v : Option X) (rest : List (K × X)) → AllByRecursion (λ y. E k y ≡ false) (keys_of rest) → IsDistinct E (keys_of rest) → IsDistinct E (keys_of (shown_slot k v rest))
  distinct_slot k None rest h d = d
  distinct_slot k (Some v) rest h d = IsDistinct-cons E k (keys_of rest) h d

  still_distinct : (es : List (K × Option X)) → IsDistinct E (keys_of es) → IsDistinct E (keys_of (shown es))
  still_distinct [] d = d
  still_distinct (e ∷ es) d = distinct_slot e.0 e.1 (shown es) (all_still_apart e.0 es (IsDistinct-head E e.0 (keys_of es) d)) (still_distinct es (IsDistinct-tail E e.0 (keys_of es) d))

  none_found : (q : K) (es : List (K × X)) → AllByRecursion (λ y. E q y ≡ false) (keys_of es) → lookup (E q) es ≡ None
  none_found q [] h = refl
  none_found q (e ∷ es) h = ap (λ b. cond b (Some e.1) (lookup (E q) es)) h.0 ∙ none_found q es h.1

  found_slot : (q k : K) (v : Option X) (rest : List (K × X)) (later : Option (Option X)) → lookup (E q) rest ≡ option_flatten later → (E q k ≡ true → lookup (E q) rest ≡ None) →
      lookup (E q) (shown_slot k v rest) ≡ option_flatten (cond (E q k) (Some v) later)
  found_slot q k None rest later is none =
      elim (E q k) as (λ b. E q k ≡ b → lookup (E q) rest ≡ option_flatten (cond b (Some None) later)) [ true ↦ λ e. none e | false ↦ λ e. is ] refl
  found_slot q k (Some v) rest later is none =
      elim (E q k) as (λ b. cond b (Some v) (lookup (E q) rest) ≡ option_flatten (cond b (Some (Some v)) later)) [ true ↦ refl | false ↦ is ]

  found_shown : (q : K) (es : List (K × Option X)) → IsDistinct E (keys_of es) → lookup (E q) (shown es) ≡ option_flatten (lookup (E q) es)
  found_shown q [] d = refl
  found_shown q (e ∷ es) d = found_slot q e.0 e.1 (shown es) (lookup (E q) es) (found_shown q es (IsDistinct-tail E e.0 (keys_of es) d))
      (λ at. subst (λ k. lookup (E k) (shown es) ≡ None) (sym (same_of_eq exact E ties q e.0 at)) (none_found e.0 (shown es) (all_still_apart e.0 es (IsDistinct-head E e.0 (keys_of es) d))))

  -- what a key shows
  got_up : (es : List (K × Option X)) (q : K) → IsDistinct E (keys_of es) → get (shown_of R (slots_of R es)) q ≡ lookup (E q) (shown es)
  got_up es q d = got exact (slots_of R es) q (sorted_up o exact es) ∙ ap option_flatten (looked_up o E ties q es) ∙ sym (found_shown q es d)

  keys_differ : (es : List (K × X)) → IsDistinct E (keys_of es) → AllPairs (λ a b. a.0 ≢ b.0) es
  keys_differ [] d = no_pairs (λ a b. a.0 ≢ b.0)
  keys_differ (e ∷ es) d = AllPairs-cons (λ a b. a.0 ≢ b.0) e es
      (all_of (λ y. e.0 ≢ y.0) es (λ y i is.
      let found : lookup (E y.0) es ≡ Some y.1 = lookup-from_Contains eqv y.0 y.1 es (IsDistinct-tail E e.0 (keys_of es) d) i in
      let none : lookup (E y.0) es ≡ None = subst (λ k. lookup (E k) es ≡ None) is (none_found e.0 es (IsDistinct-head E e.0 (keys_of es) d)) in
      none_some y.1 (sym none ∙ found)))
      (keys_differ es (IsDistinct-tail E e.0 (keys_of es) d))

  -- the slots list what they show
  pub listed_up : (es : List (K × Option X)) → IsDistinct E (keys_of es) → IsListing (shown_of R (slots_of R es)) (shown es)
  listed_up es d = record {
    exact = λ e. (
      λ i. got_up es e.0 d ∙ lookup-from_Contains eqv e.0 e.1 (shown es) (still_distinct es d) i,
      λ h. Contains-from_lookup (same_of_eq exact E ties) e.0 e.1 (shown es) (sym (got_up es e.0 d) ∙ h),
    );
    apart = keys_differ (shown es) (still_distinct es d);
  }
