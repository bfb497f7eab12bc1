-- Keepers that were just opened, and the keeper of a party.
use Rattle.std.proofs.Common.{◌≡◌, ◌≢◌, ◌<◌, ◌≤◌, ◌+◌, ◌++◌, ◌∙◌, ℕ, Bool, false, true, bytes_eq, List, [], ◌∷◌, Option, Some, None, Ok, Err, refl, sym, ap, subst, arith, eqb, get_or, length, slice_get, slice_set, IfErr, OnOk, OnErr, Result, ◌⊎◌, inl, inr, length-append, take}
use Rattle.std.proofs.lemmas.Bool.{cases_lt}
use Rattle.std.proofs.lemmas.List.{length-take, take_more}
use Rattle.std.proofs.lemmas.Option.{slice_get_read, slice_get_within}
use Rattle.std.proofs.lemmas.Result.{err_from_is_err_and}
use Rattle.std.proofs.lemmas.Slice.Eq.{bytes_eq-Decides}
use Rattle.std.specs.FinMap.{empty, entries, get, remove}
use Rattle.std.specs.Prelude.{IsSome}
use Rattle.std.specs.Result.{IsErrAnd}
use Rattle.tables.proofs.Ordered.{no_first}
use Rattle.tables.specs.Keys.{text_pair_cmp, text_pair_total, text_pair_exact}
use Rattle.tables.proofs.Maps.{remove_absent}
use Rattle.json_text.specs.Fault.{Read}
use Rattle.ocpi_text.specs.Text.{key}
use Rattle.ocpi_json.specs.RowForms.{row_in}
use Rattle.ocpi_types.specs.declared.rows.Change.{Change}
use Rattle.ocpi_types.specs.declared.rows.Row.{Row}
use Rattle.ocpi_types.specs.declared.setup.Node.{Node}
use Rattle.node_store.specs.Contents.{Content, RowPlace, after_row, changed_all, line_of, line_place, rows_after, rows_of}
use Rattle.node_store.proofs.Numbered.{no_first_number}
use Rattle.node_store.specs.Faults.{IsCommitFault, counted}
use Rattle.node_store.specs.declared.fault.Cause.TheVariants.{NotEmpty}
use Rattle.node_store.specs.declared.fault.StoreFault.{StoreFault}
use Rattle.node_store.specs.declared.fault.StoreFault.TheVariants.{Refused}
use Rattle.node_keepers.specs.Keeping.{AreOpened, AreUnopened, IsKeeperOf, IsOpened, CannotLoad, IsUnopened, KeeperRefuses, KeeperTakes, Keeping, KeepsSomething, Made, Not_loaded, Not_made, Not_new}
use Rattle.node_keepers.specs.declared.keeping.KeptNode.{KeptNode}

read_on : (read : Read Row) (f : Row → Option (List Row)) (v : List Row) (n : ℕ) → after_row read f ≡ Some v → ((r : Row) → f r ≡ Some v → n ≤ length v) → n ≤ length v
read_on (Ok r) f v n is on = on r is
read_on (Err e) f v n is on = absurd cc

-- no fewer rows come out than stand before
as_many : (before v : List Row) (es : List (RowPlace × List ℕ)) → rows_after before es ≡ Some v → length before ≤ length v
as_many before v [] is = let same : before ≡ v = cc in omega (arith, ap length same)
as_many before v (e ∷ es) is =
    read_on (row_in e.0.0 e.0.1 e.1) (λ r. rows_after (before ++ r ∷ []) es) v (length before) is
    (λ r h. let more = as_many (before ++ r ∷ []) v es h in omega (arith, more, length-append before (r ∷ [])))

no_entries : (es : List (RowPlace × List ℕ)) → rows_after [] es ≡ Some [] → es ≡ []
no_entries [] is = refl
no_entries (e ∷ es) is =
    let some : 1 ≤ 0 = read_on (row_in e.0.0 e.0.1 e.1) (λ r. rows_after (r ∷ []) es) [] 1 is (λ r h. as_many (r ∷ []) [] es h) in
    absurd (omega (arith, some))

-- a content of no rows in which no line took hold is empty
pub keeps_nothing : (c : Content) (v : List Row) (n : ℕ) → rows_of c ≡ Some v → line_of c ≡ Some n → v ≡ [] → n ≡ 1 → c ≡ empty
keeps_nothing c v n is number none first =
    let bare = remove c line_place in
    sym (remove_absent text_pair_total text_pair_exact c line_place (no_first_number (get c line_place) (number ∙ ap Some first)))
    ∙ no_first text_pair_cmp bare (no_entries (entries bare) (is ∙ ap Some none))

-- one more keeper
pub one_more : {K : Type 0} (keeping : Keeping K) (xs : List Node) (ns : List (KeptNode K)) (x : Node) (n : KeptNode K) →
    AreOpened keeping xs ns → IsOpened keeping x n → AreOpened keeping (xs ++ x ∷ []) (ns ++ n ∷ [])
one_more k [] [] x n are is = (is, tt)
one_more k [] (m ∷ ns) x n are is = absurd are
one_more k (y ∷ xs) [] x n are is = absurd are
one_more k (y ∷ xs) (m ∷ ns) x n are is = (are.0, one_more k xs ns x n are.1 is)

same_Some : {X : Type 0} (x y : X) → Some x ≡ Some y → x ≡ y
same_Some x y is = cc

pub is_here : {X : Type 0} (xs : List X) (i : ℕ) (x : X) → i < length xs → x ≡ get_or xs i x → slice_get xs i ≡ Some x
is_here xs i x within is = slice_get_read xs (length xs) i x refl within is

-- what a test of two keys says
pub same_key : (x name : List ℕ) (b : Bool) → b ≡ bytes_eq x name → b ≡ true → x ≡ name
same_key x name b is holds = (bytes_eq-Decides x name).0 (sym is ∙ holds)

pub other_key : (x name : List ℕ) (b : Bool) → b ≡ bytes_eq x name → b ≡ false → x ≡ name → ⊥
other_key x name b is fails same =
    let one : bytes_eq x name ≡ true = (bytes_eq-Decides x name).1 same in
    let other : bytes_eq x name ≡ false = sym is ∙ fails in
    cc (one, other)

-- no keeper before that place is the party's
abbrev pub NoneBefore : {K : Type 0} → List (KeptNode K) → List ℕ → ℕ → Type 0
NoneBefore {K} kept party i = (k : ℕ) (n : KeptNode K) → k < i → IsKeeperOf kept party k n → ⊥

pub none_yet : {K : Type 0} (kept : List (KeptNode K)) (party : List ℕ) → NoneBefore kept party 0
none_yet kept party k n below at = absurd (omega (arith, below))

pub none_more : {K : Type 0} (kept : List (KeptNode K)) (party : List ℕ) (i : ℕ) (x : KeptNode K) → slice_get kept i ≡ Some x →
    NoneBefore kept party i → (x.party ≡ key party → ⊥) → NoneBefore kept party (i + 1)
none_more {K} kept party i x here earlier not k n below at = elim (cases_lt k i) [
  | inl before ↦ earlier k n before at
  | inr later ↦
      let same : k ≡ i = omega arith in
      let is : n ≡ x = same_Some n x (sym at.here ∙ ap (slice_get kept) same ∙ here) in
      not (ap (λ (z : KeptNode K). z.party) (sym is) ∙ at.same)
]

pub none_at_all : {K : Type 0} (kept : List (KeptNode K)) (party : List ℕ) (i : ℕ) → length kept ≤ i → NoneBefore kept party i →
    (k : ℕ) (n : KeptNode K) → IsKeeperOf kept party k n → ⊥
none_at_all kept party i all none k n at = none k n (omega (arith, slice_get_within kept k n at.here)) at

-- a keeper that was found is the one at its place
the_keeper : {K : Type 0} (party : List ℕ) (kept : List (KeptNode K)) (i : ℕ) (n : KeptNode K) → ((m : KeptNode K) × IsKeeperOf kept party i m) → n ≡ get_or kept i n → IsKeeperOf kept party i n
the_keeper {K} party kept i n found is =
    let here = is_here kept i n (slice_get_within kept i found.0 found.1.here) is in
    let same : found.0 ≡ n = same_Some found.0 n (sym found.1.here ∙ here) in
    record { here = here; same = ap (λ (z : KeptNode K). z.party) (sym same) ∙ found.1.same }

-- what a commit to the keeper of a party made of the keepers
module _ {K : Type 0} (keeping : Keeping K) (party : List ℕ) (changes : List Change) (kept : List (KeptNode K)) (i : ℕ) (n : KeptNode K) (k : K)
    (found : (m : KeptNode K) × IsKeeperOf kept party i m) (is : n ≡ get_or kept i n) (earlier : keeping.is_honest k → keeping.is_honest n.keep) where
  pub committed : {X : Type 0} (r : Result X StoreFault) → (keeping.is_honest k → OnOk r (keeping.content k ≡ changed_all (keeping.content n.keep) changes))
      → keeping.refusals k ≡ counted r (keeping.refusals n.keep)
      → OnOk r (KeeperTakes keeping party changes kept (slice_set kept i (record { party = n.party; keep = k })))
  committed (Ok x) makes count = Made i n (the_keeper party kept i n found is) k (record { earlier = earlier; makes = makes; counted = count }) refl
  committed (Err e) makes count = tt

  pub not_committed : {X : Type 0} (r : Result X StoreFault) → (keeping.is_honest k → OnErr r (keeping.content k ≡ keeping.content n.keep))
      → IfErr r IsCommitFault → keeping.refusals k ≡ counted r (keeping.refusals n.keep)
      → IfErr r (λ fault. KeeperRefuses keeping party fault kept (slice_set kept i (record { party = n.party; keep = k })))
  not_committed (Ok x) keeps due count = tt
  not_committed (Err e) keeps due count =
      Not_made i n (the_keeper party kept i n found is) k (record { counted = count; is_of_commit = due; earlier = earlier; keeps = keeps }) refl

-- what a `?` returns is the fault that it passes on
pub err_one : {T E : Type 0} (P : E → Type 0) (r : Result T E) (f : E) → IsErrAnd r (λ e. e ≡ f) → P f → IfErr r P
err_one P r f is h = let p = err_from_is_err_and r is in rw (p.1, p.2) h

-- what is known in any case is known of each fault
pub of_each : {X E P : Type 0} (r : Result X E) → P → IfErr r (λ e. P)
of_each (Ok x) p = tt
of_each (Err e) p = p

-- a list that is not empty
pub some_of : {X : Type 0} (xs : List X) (b : Bool) → b ≡ eqb (length xs) 0 → b ≡ false → xs ≢ []
some_of [] b is not e = let yes : b ≡ true = is in absurd (cc (yes, not))
some_of (x ∷ xs) b is not e = absurd (cc e)

pub not_empty : {X : Type 0} (xs : List X) → length xs ≢ 0 → xs ≢ []
not_empty xs some is = some (ap length is)

pub none_of : {X : Type 0} (xs : List X) → length xs ≡ 0 → xs ≡ []
none_of [] is = refl
none_of (x ∷ xs) is = absurd (omega (arith, is))

-- the keeper was found in a list that is this one
pub found_in : {K : Type 0} (kept shown : List (KeptNode K)) (party : List ℕ) (i : ℕ) → shown ≡ kept → ((m : KeptNode K) × IsKeeperOf shown party i m) → (m : KeptNode K) × IsKeeperOf kept party i m
found_in {K} kept shown party i is found = subst (λ (l : List (KeptNode K)). (m : KeptNode K) × IsKeeperOf l party i m) is found

-- none was found in a list that is this one
pub none_in : {K : Type 0} (kept shown : List (KeptNode K)) (party : List ℕ) → shown ≡ kept → ((i : ℕ) (n : KeptNode K) → IsKeeperOf shown party i n → ⊥) →
    (i : ℕ) (n : KeptNode K) → IsKeeperOf kept party i n → ⊥
none_in {K} kept shown party is none = subst (λ (l : List (KeptNode K)). (i : ℕ) (n : KeptNode K) → IsKeeperOf l party i n → ⊥) is none

-- where a keeper was found, there is an element
pub never_none : {X K : Type 0} (o : Option X) (kept : List (KeptNode K)) (party : List ℕ) (i : ℕ) → ((m : KeptNode K) × IsKeeperOf kept party i m) →
    (i < length kept → IsSome o) → o ≡ None → ⊥
never_none (Some x) kept party i found some is = cc is
never_none None kept party i found some is = let yes : false ≡ true = some (slice_get_within kept i found.0 found.1.here) in cc yes

-- the next of a setup's nodes has its keeper
pub one_opened : {K : Type 0} (keeping : Keeping K) (setup : List Node) (kept more : List (KeptNode K)) (i : ℕ) (x : Node) (n : KeptNode K) →
    i < length setup → AreOpened keeping (take i setup) kept → x ≡ get_or setup i x → more ≡ kept ++ n ∷ [] → IsOpened keeping x n →
    AreOpened keeping (take (i + 1) setup) more
one_opened {K} keeping setup kept more i x n within are is grown opened =
    let front : take i setup ++ x ∷ [] ≡ take (i + 1) setup = ap (λ (y : Node). take i setup ++ y ∷ []) is ∙ sym (take_more setup i x within) in
    let all = one_more keeping (take i setup) kept x n are opened in
    subst (AreOpened keeping (take (i + 1) setup)) (sym grown) (subst (λ (nodes : List Node). AreOpened keeping nodes (kept ++ n ∷ [])) front all)

-- there are as many keepers as nodes
as_many_nodes : {K : Type 0} (keeping : Keeping K) (xs : List Node) (ns : List (KeptNode K)) → AreOpened keeping xs ns → length ns ≡ length xs
as_many_nodes k [] [] are = refl
as_many_nodes k [] (n ∷ ns) are = absurd are
as_many_nodes k (x ∷ xs) [] are = absurd are
as_many_nodes k (x ∷ xs) (n ∷ ns) are = omega (arith, as_many_nodes k xs ns are.1)

-- the next of a setup's nodes has none
pub one_unopened : {K : Type 0} (keeping : Keeping K) (may_refuse : ℕ → StoreFault → Type 0) (setup : List Node) (kept : List (KeptNode K)) (i place : ℕ) (fault : StoreFault) →
    i < length setup → AreOpened keeping (take i setup) kept → place ≡ length kept + 1 → IsUnopened keeping may_refuse place fault → AreUnopened keeping may_refuse setup fault
one_unopened keeping may_refuse setup kept i place fault within are next unopened =
    inl (place, omega (arith, next), omega (arith, next, within, as_many_nodes keeping (take i setup) kept are, length-take i setup), unopened)

-- a keeper that was opened and could not be taken is why there is none
pub not_taken : {K : Type 0} (keeping : Keeping K) (may_refuse : ℕ → StoreFault → Type 0) (place : ℕ) (fault : StoreFault) (before after : K) →
    CannotLoad keeping fault before after ⊎ (KeepsSomething keeping after × (fault ≡ Refused NotEmpty)) → IsUnopened keeping may_refuse place fault
not_taken keeping may_refuse place fault before after (inl cannot) = Not_loaded before after cannot
not_taken keeping may_refuse place fault before after (inr keeps) = Not_new after keeps.0 keeps.1
