-- The search for a place that a reservation holds for a start.
use Rattle.std.proofs.Common.{◌≡◌, ℕ, ◌<◌, ◌≤◌, suc, Bool, true, false, cond, List, [], ◌∷◌, ◌⊎◌, inl, inr, refl, sym, ap, subst, ◌∙◌, arith, length}
use Rattle.std.specs.Prelude.{Option, Some, None, IfSome, IfNone, Contains, not}
use Rattle.std.specs.declared.cmp.Ordering.{Ordering}
use Rattle.std.specs.declared.cmp.Ordering.TheVariants.{Less, Equal, Greater}
use Rattle.std.specs.Ordering.{is_gt, ordering_reverse, ordering_then}
use Rattle.std.specs.List.{filter}
use Rattle.std.specs.FinMap.{entries}
use Rattle.std.specs.BTreeMap.Range.{IsLeBy, IsLtBy}
use Rattle.std.proofs.lemmas.Cmp.{tied_itself}
use Rattle.std.proofs.lemmas.List.Elements.{Contains-append_cases}
use Rattle.ocpi_text.specs.Text.{key}
use Rattle.ocpi_types.specs.declared.site.Location.{Location}
use Rattle.ocpi_types.specs.declared.site.Evse.{Evse}
use Rattle.ocpi_types.specs.declared.site.Connector.{Connector}
use Rattle.ocpi_types.specs.declared.stored.Reservation.{Reservation}
use Rattle.ocpi_types.specs.declared.commands.StartSession.{StartSession}
use Rattle.tables.specs.Keys.{text_cmp, text_total, text_pair_cmp, text_pair_total, text_pair_exact}
use Rattle.reservation_book.specs.declared.standing.Standing.{Standing}
use Rattle.reservation_book.specs.declared.standing.TokenAt.{TokenAt}
use Rattle.reservation_book.specs.Places.{Key}
use Rattle.reservation_book.specs.Rows.{Reservations}
use Rattle.reservation_book.specs.Tokens.{Stands, IsFor, IsOn, spot, IsFirstFor, IsNextFor}
use Rattle.tables.proofs.Elements.{in_none, in_single}
use Rattle.tables.proofs.Entries.{listed}
use Rattle.site_book.specs.Sites.{IsNamed}
use Rattle.operator_rows.specs.State.{Rows}
use Rattle.operator_tables.specs.Held.{IsPlaceOn, IsHeldBy}

-- fewer pass one test than another, where what passes the first passes the second, and something passes the second
-- alone
module _ {A : Type 0} (p q : A → Bool) (weaker : (a : A) → p a ≡ true → q a ≡ true) where
  more : (a : A) (m n : ℕ) → m ≤ n → cond (p a) (suc m) m ≤ cond (q a) (suc n) n
  more a m n le = go (p a) (q a) refl (weaker a)
    where
      go : (b d : Bool) → p a ≡ b → (p a ≡ true → d ≡ true) → cond b (suc m) m ≤ cond d (suc n) n
      go false false e w = le
      go false true e w = omega arith
      go true true e w = omega arith
      go true false e w = absurd (let f : false ≡ true = w e in cc)

  counted : (f : A → Bool) (x : A) (xs : List A) → length (filter f (x ∷ xs)) ≡ cond (f x) (suc (length (filter f xs))) (length (filter f xs))
  counted f x xs = go (f x)
    where
      go : (b : Bool) → length (cond b (x ∷ filter f xs) (filter f xs)) ≡ cond b (suc (length (filter f xs))) (length (filter f xs))
      go true = refl
      go false = refl

  no_more : (xs : List A) → length (filter p xs) ≤ length (filter q xs)
  no_more [] = omega arith
  no_more (x ∷ xs) =
      let step : cond (p x) (suc (length (filter p xs))) (length (filter p xs)) ≤ cond (q x) (suc (length (filter q xs))) (length (filter q xs)) = more x _ _ (no_more xs) in
      omega (arith, counted p x xs, counted q x xs, step)

  module _ (a : A) (fails : p a ≡ false) (passes : q a ≡ true) where
    pub fewer : (xs : List A) → Contains xs a → length (filter p xs) < length (filter q xs)
    fewer [] h = absurd (in_none a h)
    fewer (x ∷ xs) h = elim (Contains-append_cases (x ∷ []) xs a h) [
      | inl i ↦
          let same : x ≡ a = in_single x a i in
          let first : p x ≡ false = ap p same ∙ fails in
          let second : q x ≡ true = ap q same ∙ passes in
          let here : length (filter p (x ∷ xs)) ≡ length (filter p xs) = counted p x xs ∙ ap (λ b. cond b (suc (length (filter p xs))) (length (filter p xs))) first in
          let there : length (filter q (x ∷ xs)) ≡ suc (length (filter q xs)) = counted q x xs ∙ ap (λ b. cond b (suc (length (filter q xs))) (length (filter q xs))) second in
          omega (arith, here, there, no_more xs)
      | inr i ↦
          let step : length (filter p xs) < length (filter q xs) = fewer xs i in
          let least : cond (p x) (suc (suc (length (filter p xs)))) (suc (length (filter p xs))) ≤ cond (q x) (suc (length (filter q xs))) (length (filter q xs)) = more x _ _ step in
          omega (arith, counted p x xs, counted q x xs, moved (p x) (length (filter p xs)), least)
    ]
      where
        moved : (b : Bool) (n : ℕ) → suc (cond b (suc n) n) ≡ cond b (suc (suc n)) (suc n)
        moved true n = refl
        moved false n = refl

abbrev Spot : Type 0
Spot = List ℕ × List ℕ

module _ (a b d : Spot) where
  not_above_itself : is_gt (text_pair_cmp a a) ≡ false
  not_above_itself = ap is_gt (tied_itself text_pair_total a)

  -- what is not before a spot is not before an earlier one
  not_above : IsLtBy text_pair_cmp a b → IsLeBy text_pair_cmp b d → IsLeBy text_pair_cmp a d
  not_above below le = go (text_pair_cmp b d) refl le
    where
      go : (r : Ordering) → text_pair_cmp b d ≡ r → is_gt r ≡ false → is_gt (text_pair_cmp a d) ≡ false
      go Less e h = ap is_gt (text_pair_total.trans a b d below e)
      go Equal e h = ap is_gt (subst (λ z. text_pair_cmp a z ≡ Less) (text_pair_exact b d e) below)
      go Greater e h = absurd (let f : true ≡ false = h in cc)

  -- a spot is before another, or is the other, or is after it
  sides : IsLtBy text_pair_cmp a b ⊎ (a ≡ b) ⊎ IsLtBy text_pair_cmp b a
  sides = go (text_pair_cmp a b) refl
    where
      go : (r : Ordering) → text_pair_cmp a b ≡ r → (text_pair_cmp a b ≡ Less) ⊎ (a ≡ b) ⊎ (text_pair_cmp b a ≡ Less)
      go Less e = inl e
      go Equal e = inr (inl (text_pair_exact a b e))
      go Greater e = inr (inr (text_pair_total.antisymm b a ∙ ap ordering_reverse e))

  not_before : IsLtBy text_pair_cmp a b → IsLeBy text_pair_cmp b a → ⊥
  not_before below le =
      let above : text_pair_cmp b a ≡ Greater = text_pair_total.antisymm b a ∙ ap ordering_reverse below in
      let f : true ≡ false = sym (ap is_gt above) ∙ le in cc

-- a spot that is not after another is not on a greater EVSE
least_first : (a b : Spot) → (IsLtBy text_pair_cmp b a → ⊥) → IsLeBy text_cmp a.0 b.0
least_first a b not_below = go (text_cmp a.0 b.0) refl
  where
    go : (r : Ordering) → text_cmp a.0 b.0 ≡ r → is_gt (text_cmp a.0 b.0) ≡ false
    go Less e = ap is_gt e
    go Equal e = ap is_gt e
    go Greater e =
        let less : text_cmp b.0 a.0 ≡ Less = text_total.antisymm b.0 a.0 ∙ ap ordering_reverse e in
        absurd (not_below (ap (λ r. ordering_then r (text_cmp b.1 a.1)) less))

-- an EVSE is not greater than itself
pub least_itself : (a b : List ℕ) → a ≡ b → IsLeBy text_cmp a b
least_itself a b same = ap is_gt (subst (λ z. text_cmp a z ≡ Equal) same (tied_itself text_total a))

-- the spot of an entry
abbrev entry_spot : Key × Reservation → Spot
entry_spot e = (key e.1.evse_uid, e.0.1)

-- the entry is not before the spot
abbrev is_from : Spot → Key × Reservation → Bool
is_from a e = not (is_gt (text_pair_cmp a (entry_spot e)))

-- how many reservations are left once the search is at that one
pub left : Reservations → Option Standing → ℕ
left m None = 0
left m (Some x) = length (filter (is_from (spot x)) (entries m))

negated : (b : Bool) → not b ≡ true → b ≡ false
negated true e = absurd (let f : false ≡ true = e in cc)
negated false e = refl

module _ (m : Reservations) (y : Standing) (stands : Stands m y) where
  there : Contains (entries m) ((y.provider, y.id), y.reservation)
  there = listed text_pair_total text_pair_exact m (y.provider, y.id) y.reservation stands

  its_own : is_from (spot y) ((y.provider, y.id), y.reservation) ≡ true
  its_own = ap not (not_above_itself (spot y) (spot y) (spot y))

  -- one is left at least where the search is, and fewer at the next
  pub fewer_left : (t : TokenAt) (next : Option Standing) → IfSome next (λ x. IsNextFor m t (spot y) x) → left m next < left m (Some y)
  unfolding left
  fewer_left t None h =
      let some : length (filter (λ (e : Key × Reservation). false) (entries m)) < length (filter (is_from (spot y)) (entries m)) =
      fewer (λ (e : Key × Reservation). false) (is_from (spot y)) (λ e f. absurd (let g : false ≡ true = f in cc)) ((y.provider, y.id), y.reservation) refl its_own (entries m) there in
      omega arith
  fewer_left t (Some x) h =
      fewer (is_from (spot x)) (is_from (spot y)) (λ e f. ap not (not_above (spot y) (spot x) (entry_spot e) h.later (negated _ f))) ((y.provider, y.id), y.reservation)
      (ap (λ r. not (is_gt r)) (text_pair_total.antisymm (spot x) (spot y) ∙ ap ordering_reverse h.later)) its_own (entries m) there

-- no reservation for the token holds what is looked for, but at that one or after it
abbrev pub AreSearched : Reservations → TokenAt → (Standing → Type 0) → Option Standing → Type 0
AreSearched m t P None = (x : Standing) → IsFor m t x → P x → ⊥
AreSearched m t P (Some y) = IsFor m t y × ((x : Standing) → IsFor m t x → IsLtBy text_pair_cmp (spot x) (spot y) → P x → ⊥)

module _ (m : Reservations) (t : TokenAt) (P : Standing → Type 0) where
  pub searched_first : (r : Option Standing) → IfSome r (λ x. IsFirstFor m t None x) → IfNone r ((x : Standing) → IsFor m t x → IsOn None x → ⊥) → AreSearched m t P r
  searched_first None some none = λ x f p. none x f tt
  searched_first (Some y) some none = (some.is_for, λ x f below p. not_before (spot x) (spot y) (spot y) below (some.least x f tt))

  module _ (y : Standing) (earlier : AreSearched m t P (Some y)) (none_here : (x : Standing) → key x.reservation.evse_uid ≡ key y.reservation.evse_uid → P x → ⊥) where
    -- nor at that one
    up_to : (x : Standing) → IsFor m t x → P x → IsLtBy text_pair_cmp (spot y) (spot x)
    up_to x f p = elim (sides (spot x) (spot y) (spot y)) [
      | inl i ↦ absurd (earlier.1 x f i p)
      | inr (inl i) ↦ absurd (none_here x (ap (λ (z : Spot). z.0) i) p)
      | inr (inr i) ↦ i
    ]

    pub searched_next : (r : Option Standing) → IfSome r (λ x. IsNextFor m t (spot y) x) → IfNone r ((x : Standing) → IsFor m t x → IsLtBy text_pair_cmp (spot y) (spot x) → ⊥) → AreSearched m t P r
    searched_next None some none = λ x f p. none x f (up_to x f p)
    searched_next (Some z) some none = (some.is_for, λ x f below p. not_before (spot x) (spot z) (spot z) below (some.least x f (up_to x f p)))

-- the reservation holds a place of the location
abbrev pub HoldsPlace : Rows → Location → TokenAt → StartSession → Standing → Type 0
HoldsPlace s l t c x = (e : Evse) × (k : Connector) × IsHeldBy s t c l x e k

as_named : (name : Option (List ℕ)) (a b : List ℕ) → key a ≡ key b → IsNamed name b → IsNamed name a
as_named None a b same h = tt
as_named (Some n) a b same h = same ∙ h

module _ (s : Rows) (t : TokenAt) (c : StartSession) (l : Location) (x : Standing) (e : Evse) (k : Connector) where
  -- the place on the EVSE of a reservation is one that it holds
  pub is_held : IsFor s.booked.reservations t x → IsNamed c.evse_uid x.reservation.evse_uid → IsPlaceOn s c l x e k → IsHeldBy s t c l x e k
  is_held f named u = record {
    place = record { listed = u.place.listed; named = as_named c.evse_uid e.uid x.reservation.evse_uid u.place.named named; chosen = u.place.chosen };
    works = u.works;
    is_for = f;
    here = sym u.place.named;
  }

  -- and a place that it holds is on its EVSE, and on that of any other reservation of that EVSE
  pub is_place_of : (y : Standing) → key x.reservation.evse_uid ≡ key y.reservation.evse_uid → IsHeldBy s t c l x e k → IsPlaceOn s c l y e k
  is_place_of y same h = record {
    place = record { listed = h.place.listed; named = sym h.here ∙ same; chosen = h.place.chosen };
    works = h.works;
  }

  pub on_named : (uid : List ℕ) → c.evse_uid ≡ Some uid → IsHeldBy s t c l x e k → key x.reservation.evse_uid ≡ key uid
  on_named uid e_is h = h.here ∙ subst (λ o. IsNamed o e.uid) e_is h.place.named

-- where no reservation before that one holds a place, its EVSE has the least key of those that are held
pub least_held : (s : Rows) (t : TokenAt) (c : StartSession) (l : Location) (y : Standing) (here : AreSearched s.booked.reservations t (HoldsPlace s l t c) (Some y)) (e : Evse) →
    key y.reservation.evse_uid ≡ key e.uid → (x : Standing) (f : Evse) (j : Connector) → IsHeldBy s t c l x f j → IsLeBy text_cmp (key e.uid) (key f.uid)
least_held s t c l y here e on x f j held =
    subst (λ k. IsLeBy text_cmp k (key f.uid)) on
    (subst (λ k. IsLeBy text_cmp (key y.reservation.evse_uid) k) held.here (least_first (spot y) (spot x) (λ below. here.1 x held.is_for below (f, j, held))))
