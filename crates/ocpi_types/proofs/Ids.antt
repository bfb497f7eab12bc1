-- Sets of texts, beside lists of texts.
use Rattle.std.proofs.Common.{◌≡◌, ℕ, Bool, true, false, true≢false, cond, ◌||◌, List, Contains, Result, Ok, Err, OnErr, refl, sym, ap, ◌∙◌}
use Rattle.std.specs.List.{list_any}
use Rattle.std.specs.Ordering.{nat_cmp, eq_by_cmp}
use Rattle.std.specs.Cmp.{IsTotalOrder, eq_by_cmp_equiv}
use Rattle.std.specs.Cmp.Lexicographic.{slice_cmp, nat_list_cmp_total, texts_ties}
use Rattle.std.specs.FinSet.{FinSet, IsAntisymmetric, slice_cmp-IsAntisymmetric, nat_cmp-IsAntisymmetric, contains, insert, from_list, contains-insert, contains-from_list, same_set}
use Rattle.std.specs.Str.{bytes_eq}
use Rattle.std.proofs.lemmas.Map.Views.{Contains-from_any, list_any-from_Contains, tells_apart}

abbrev pub text_cmp : List ℕ → List ℕ → Rattle.std.specs.declared.cmp.Ordering.Ordering
text_cmp = slice_cmp nat_cmp

pub exact : IsAntisymmetric text_cmp
exact = slice_cmp-IsAntisymmetric nat_cmp-IsAntisymmetric

-- a test of a list is that of its set
pub held : (keys : List (List ℕ)) (k : List ℕ) {s : FinSet text_cmp} {q : List ℕ} → from_list keys ≡ s → k ≡ q → list_any (eq_by_cmp text_cmp k) keys ≡ contains s q
held keys k is same = sym (contains-from_list nat_list_cmp_total keys k) ∙ (λ i. contains (is i) (same i))

pub on_err : {X E P : Type 0} (r : Result X E) → P → OnErr r P
on_err (Ok x) p = tt
on_err (Err e) p = p

-- what the set of a list has stands in the list
pub stands : (xs : List (List ℕ)) (s : List ℕ) → contains (from_list {R = text_cmp} xs) s ≡ true → Contains xs s
stands xs s e = Contains-from_any (tells_apart exact) s xs (sym (contains-from_list nat_list_cmp_total xs s) ∙ e)

-- and what it lacks does not
pub lacks : (xs : List (List ℕ)) (s : List ℕ) → contains (from_list {R = text_cmp} xs) s ≡ false → ¬ Contains xs s
lacks xs s e c = true≢false (sym (list_any-from_Contains (eq_by_cmp_equiv nat_list_cmp_total) s xs c) ∙ sym (contains-from_list nat_list_cmp_total xs s) ∙ e)

either : (b : Bool) (x : Bool) → cond b true x ≡ (b || x)
either true x = refl
either false x = refl

-- a list that has one text more
pub inserted : (old new : List (List ℕ)) (k : List ℕ) → ((q : List ℕ) → list_any (eq_by_cmp text_cmp q) new ≡ cond (eq_by_cmp text_cmp k q) true (list_any (eq_by_cmp text_cmp q) old))
    → from_list {R = text_cmp} new ≡ insert (from_list old) k
inserted old new k after = same_set nat_list_cmp_total exact _ _ (λ q.
    contains-from_list nat_list_cmp_total new q ∙ after q ∙ either (eq_by_cmp text_cmp k q) _
    ∙ ap (λ b. b || list_any (eq_by_cmp text_cmp q) old) ((eq_by_cmp_equiv nat_list_cmp_total).symm k q)
    ∙ ap (λ b. eq_by_cmp text_cmp q k || b) (sym (contains-from_list nat_list_cmp_total old q))
    ∙ sym (contains-insert nat_list_cmp_total (from_list old) k q))

-- what the set of a list has, as a test of the list by bytes
pub tested : (xs : List (List ℕ)) (s : List ℕ) → contains (from_list {R = text_cmp} xs) s ≡ list_any (bytes_eq s) xs
tested xs s = contains-from_list nat_list_cmp_total xs s ∙ sym (λ i. list_any (λ y. texts_ties s y i) xs)
