-- The changes of acts are of different rows, and of no counter that a step stores; then those of a step of them are of
-- different rows.
use Rattle.std.proofs.Common.{zero, suc, ◌≡◌, ◌≢◌, ℕ, Bool, true, false, cond, eqb, nat_eq, List, [], ◌∷◌, ◌++◌, inl, inr, refl, sym, ap, subst, ◌∙◌}
use Rattle.std.specs.Prelude.{⊤, IsTrue, Contains, not, ◌&&◌}
use Rattle.std.proofs.lemmas.Bool.{eq-eqb, and_parts}
use Rattle.std.proofs.lemmas.List.Elements.{Contains-append_cases}
use Rattle.tables.proofs.Elements.{in_none, in_front, in_single}
pub use Rattle.tables.proofs.Elements.{in_later, of_cons}
use Rattle.ocpi_types.specs.declared.rows.Change.{Change}
use Rattle.ocpi_types.specs.declared.rows.Change.TheVariants.{Put}
use Rattle.ocpi_types.specs.declared.rows.Row.TheVariants as row
use Rattle.ocpi_types.specs.declared.rows.RowKey.{RowKey}
use Rattle.ocpi_types.specs.declared.rows.RowKey.TheVariants as keys
use Rattle.ocpi_types.specs.declared.rows.Counter.{Counter}
use Rattle.ocpi_types.specs.declared.rows.Counter.TheVariants.{Serial, Request, Session, Cdr, Reference}
use Rattle.node_steps.specs.Acts.{Act, all_changes}
use Rattle.node_steps.specs.Drafts.{Counters, count_change, count_changes, counted, step_by}
use Rattle.node_steps.proofs.Gathering.{changes_append}
use Rattle.operator_rows.specs.Stored.{AreApart, Each, change_key}

-- no change of the one list is of a row of the other
abbrev pub AreOther : List Change → List Change → Type 0
AreOther xs ys = (c d : Change) → Contains xs c → Contains ys d → change_key d ≢ change_key c

-- the counters of packets and of requests, which a step stores by itself
abbrev pub IsOfStep : Counter → Type 0
IsOfStep Serial = ⊤
IsOfStep Request = ⊤
IsOfStep Session = ⊥
IsOfStep Cdr = ⊥
IsOfStep Reference = ⊥

-- no change is of such a counter
abbrev pub AreUncounted : List Change → Type 0
AreUncounted cs = (c : Change) → Contains cs c → (counter : Counter) → IsOfStep counter → change_key c ≢ keys.Count counter

-- the acts change different rows, and no counter that the step stores
pub record AreOrderly (acts : List Act) : Type 0 where
  pub apart : AreApart (all_changes acts)
  pub uncounted : AreUncounted (all_changes acts)

-- what passes for each of a list
module _ (P : Change → Type 0) where
  each_joined : (xs ys : List Change) → Each P xs → Each P ys → Each P (xs ++ ys)
  each_joined [] ys h g k c e = g k c e
  each_joined (x ∷ xs) ys h g zero c e = h 0 c e
  each_joined (x ∷ xs) ys h g (suc k) c e = each_joined xs ys (λ j d i. h (suc j) d i) g k c e

  pub each_by : (cs : List Change) → ((c : Change) → Contains cs c → P c) → Each P cs
  each_by [] h k c e = absurd (cc)
  each_by (x ∷ xs) h zero c e = let is : x ≡ c = cc in h c (subst (Contains (x ∷ xs)) is (in_front x xs))
  each_by (x ∷ xs) h (suc k) c e = each_by xs (λ d i. h d (in_later x xs d i)) k c e

  pub each_in : (cs : List Change) → Each P cs → (c : Change) → Contains cs c → P c
  each_in [] h c i = absurd (in_none c i)
  each_in (x ∷ xs) h c i = elim (of_cons x xs c i) [
    | inl same ↦ subst P same (h 0 x refl)
    | inr j ↦ each_in xs (λ k d e. h (suc k) d e) c j
  ]

-- lists of different rows, one after the other
pub apart_joined : (xs ys : List Change) → AreApart xs → AreApart ys → AreOther xs ys → AreApart (xs ++ ys)
apart_joined [] ys h g cross = g
apart_joined (x ∷ xs) ys h g cross = (
  each_joined (λ d. change_key d ≢ change_key x) xs ys h.0 (each_by (λ d. change_key d ≢ change_key x) ys (λ d i. cross x d (in_front x xs) i)),
  apart_joined xs ys h.1 g (λ c d i j. cross c d (in_later x xs c i) j),
)

uncounted_joined : (xs ys : List Change) → AreUncounted xs → AreUncounted ys → AreUncounted (xs ++ ys)
uncounted_joined xs ys h g c i = elim (Contains-append_cases xs ys c i) [ inl j ↦ h c j | inr j ↦ g c j ]

pub orderly_none : AreOrderly []
orderly_none = record { apart = tt; uncounted = λ c i. absurd (in_none c i) }

pub orderly_append : (acts rest : List Act) → AreOrderly acts → AreOrderly rest → AreOther (all_changes acts) (all_changes rest) → AreOrderly (acts ++ rest)
orderly_append acts rest h g cross = record {
  apart = subst AreApart (sym (changes_append acts rest)) (apart_joined (all_changes acts) (all_changes rest) h.apart g.apart cross);
  uncounted = subst AreUncounted (sym (changes_append acts rest)) (uncounted_joined (all_changes acts) (all_changes rest) h.uncounted g.uncounted);
}

-- a number for each kind of row; each counter is a kind of its own
abbrev pub kind : RowKey → ℕ
kind (keys.Count Serial) = 0
kind (keys.Count Request) = 1
kind (keys.Count Session) = 2
kind (keys.Count Cdr) = 3
kind (keys.Count Reference) = 4
kind (keys.Reply sender n) = 5
kind (keys.Token party token_type uid) = 6
kind (keys.Push n) = 7
kind (keys.Service evse) = 8
kind (keys.Spent p reference) = 9
kind (keys.Mark p id) = 10
kind (keys.Reservation p id) = 11
kind (keys.Pending p n) = 12
kind (keys.Result p n) = 13
kind (keys.Session p id) = 14
kind (keys.Cdr p id) = 15
kind (keys.Command n) = 16

-- the row is none of those counters
abbrev pub is_uncounted : RowKey → Bool
is_uncounted (keys.Count Serial) = false
is_uncounted (keys.Count Request) = false
is_uncounted (keys.Count Session) = true
is_uncounted (keys.Count Cdr) = true
is_uncounted (keys.Count Reference) = true
is_uncounted (keys.Reply sender n) = true
is_uncounted (keys.Token party token_type uid) = true
is_uncounted (keys.Push n) = true
is_uncounted (keys.Service evse) = true
is_uncounted (keys.Spent p reference) = true
is_uncounted (keys.Mark p id) = true
is_uncounted (keys.Reservation p id) = true
is_uncounted (keys.Pending p n) = true
is_uncounted (keys.Result p n) = true
is_uncounted (keys.Session p id) = true
is_uncounted (keys.Cdr p id) = true
is_uncounted (keys.Command n) = true

-- none of the changes is of that kind
abbrev pub is_without : ℕ → List Change → Bool
is_without k [] = true
is_without k (c ∷ cs) = not (eqb (kind (change_key c)) k) && is_without k cs

-- no two changes are of one kind
abbrev pub are_different : List Change → Bool
are_different [] = true
are_different (c ∷ cs) = is_without (kind (change_key c)) cs && are_different cs

-- none is of such a counter
abbrev pub are_uncounted : List Change → Bool
are_uncounted [] = true
are_uncounted (c ∷ cs) = is_uncounted (change_key c) && are_uncounted cs

-- changes of other kinds are of other rows
others : (c : Change) (cs : List Change) → IsTrue (is_without (kind (change_key c)) cs) → Each (λ d. change_key d ≢ change_key c) cs
others c [] h k d e same = cc
others c (x ∷ xs) h zero d e same =
    let parts = and_parts (not (eqb (kind (change_key x)) (kind (change_key c)))) (is_without (kind (change_key c)) xs) h in
    let is : x ≡ d = cc in
    let equal = eq-eqb (kind (change_key x)) (kind (change_key c)) (ap (λ (z : Change). kind (change_key z)) is ∙ ap kind same) in
    let never : false ≡ true = sym (ap not equal) ∙ parts.0 in
    cc
others c (x ∷ xs) h (suc k) d e same =
    let parts = and_parts (not (eqb (kind (change_key x)) (kind (change_key c)))) (is_without (kind (change_key c)) xs) h in
    others c xs parts.1 k d e same

pub apart_kinds : (cs : List Change) → IsTrue (are_different cs) → AreApart cs
apart_kinds [] h = tt
apart_kinds (c ∷ cs) h =
    let parts = and_parts (is_without (kind (change_key c)) cs) (are_different cs) h in
    (others c cs parts.0, apart_kinds cs parts.1)

step_counted : (counter : Counter) → IsOfStep counter → is_uncounted (keys.Count counter) ≡ false
step_counted Serial h = refl
step_counted Request h = refl
step_counted Session h = absurd h
step_counted Cdr h = absurd h
step_counted Reference h = absurd h

pub uncounted_kinds : (cs : List Change) → IsTrue (are_uncounted cs) → AreUncounted cs
uncounted_kinds [] h c i counter of same = absurd (in_none c i)
uncounted_kinds (x ∷ xs) h c i counter of same =
    let parts = and_parts (is_uncounted (change_key x)) (are_uncounted xs) h in
    elim (of_cons x xs c i) [
      | inl is ↦ let never : false ≡ true = sym (ap is_uncounted (ap change_key is ∙ same) ∙ step_counted counter of) ∙ parts.0 in absurd (cc)
      | inr j ↦ uncounted_kinds xs parts.1 c j counter of same
    ]

-- acts whose changes are all of different kinds, none of a counter that the step stores
pub orderly_kinds : (acts : List Act) → IsTrue (are_different (all_changes acts)) → IsTrue (are_uncounted (all_changes acts)) → AreOrderly acts
orderly_kinds acts different uncounted = record { apart = apart_kinds (all_changes acts) different; uncounted = uncounted_kinds (all_changes acts) uncounted }

-- the changes of counters
pub of_counter : (counter : Counter) (last now : ℕ) (c : Change) → Contains (count_change counter last now) c → change_key c ≡ keys.Count counter
of_counter counter last now c h = elim (nat_eq last now) as (λ b. Contains (cond b [] (Put (row.Count counter now) ∷ [])) c → change_key c ≡ keys.Count counter) [
  | true ↦ λ i. absurd (in_none c i)
  | false ↦ λ i. subst (λ z. change_key z ≡ keys.Count counter) (in_single _ c i) refl
] h

pub of_counters : (before now : Counters) (c : Change) → Contains (count_changes before now) c → (counter : Counter) × IsOfStep counter × (change_key c ≡ keys.Count counter)
of_counters before now c h = elim (Contains-append_cases (count_change Serial before.serial now.serial) (count_change Request before.request now.request) c h) [
  | inl i ↦ (Serial, tt, of_counter Serial before.serial now.serial c i)
  | inr i ↦ (Request, tt, of_counter Request before.request now.request c i)
]

one_counter : (counter : Counter) (last now : ℕ) → AreApart (count_change counter last now)
one_counter counter last now = elim (nat_eq last now) as (λ b. AreApart (cond b [] (Put (row.Count counter now) ∷ []))) [
  | true ↦ tt
  | false ↦ (λ k d e same. absurd (cc), tt)
]

pub counters_apart : (before now : Counters) → AreApart (count_changes before now)
counters_apart before now = apart_joined (count_change Serial before.serial now.serial) (count_change Request before.request now.request)
    (one_counter Serial before.serial now.serial) (one_counter Request before.request now.request)
    (λ c d i j same.
    let never : keys.Count Request ≡ keys.Count Serial = sym (of_counter Request before.request now.request d j) ∙ same ∙ of_counter Serial before.serial now.serial c i in
    let number : ℕ = 0 in
    let differ : 1 ≡ 0 = ap kind never in
    cc)

-- the changes of a step of orderly acts are of different rows
pub orderly_apart : (party : List ℕ) (c : Counters) (acts : List Act) → AreOrderly acts → AreApart (step_by party c acts).changes
orderly_apart party c acts h = apart_joined (count_changes c (counted c acts)) (all_changes acts) (counters_apart c (counted c acts)) h.apart (λ x y i j same.
    let of = of_counters c (counted c acts) x i in h.uncounted y j of.0 of.1 (same ∙ of.2))

-- what is left to be shown for two changes: where they are of one kind, that they are of different rows
abbrev pub Owe : Bool → Type 0 → Type 0 → Type 0
Owe true A B = A × B
Owe false A B = B

-- no change of the list is of that row, but for those of another kind, of which that is plain
abbrev pub Owed : RowKey → List Change → Type 0
Owed k [] = ⊤
Owed k (c ∷ cs) = Owe (eqb (kind (change_key c)) (kind k)) (change_key c ≢ k) (Owed k cs)

-- no two changes of the list are of one row
abbrev pub AllOwed : List Change → Type 0
AllOwed [] = ⊤
AllOwed (c ∷ cs) = Owed (change_key c) cs × AllOwed cs

paid : (a k : RowKey) (B : Type 0) (t : Bool) → eqb (kind a) (kind k) ≡ t → Owe t (a ≢ k) B → (a ≢ k) × B
paid a k B true is h = h
paid a k B false is h = (λ same. let never : false ≡ true = sym is ∙ eq-eqb (kind a) (kind k) (ap kind same) in absurd (cc), h)

owed_each : (k : RowKey) (cs : List Change) → Owed k cs → (c : Change) → Contains cs c → change_key c ≢ k
owed_each k [] h c i = absurd (in_none c i)
owed_each k (x ∷ xs) h c i =
    let both = paid (change_key x) k (Owed k xs) (eqb (kind (change_key x)) (kind k)) refl h in
    elim (of_cons x xs c i) [
      | inl is ↦ subst (λ (z : Change). change_key z ≢ k) is both.0
      | inr j ↦ owed_each k xs both.1 c j
    ]

pub apart_owed : (cs : List Change) → AllOwed cs → AreApart cs
apart_owed [] h = tt
apart_owed (c ∷ cs) h = (each_by (λ d. change_key d ≢ change_key c) cs (owed_each (change_key c) cs h.0), apart_owed cs h.1)

-- acts some of whose changes are of one kind
pub orderly_owed : (acts : List Act) → AllOwed (all_changes acts) → IsTrue (are_uncounted (all_changes acts)) → AreOrderly acts
orderly_owed acts owed uncounted = record { apart = apart_owed (all_changes acts) owed; uncounted = uncounted_kinds (all_changes acts) uncounted }

pub push_apart : (m n : ℕ) → m ≢ n → keys.Push m ≢ keys.Push n
push_apart m n h same = let one : m ≡ n = cc in h one
