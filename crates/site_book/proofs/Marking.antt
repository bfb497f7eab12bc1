-- The flags of the EVSEs of a site say what is tested of them, also once one is set anew.
use Rattle.std.proofs.Common.{◌≡◌, ◌≢◌, ℕ, zero, suc, ◌+◌, ◌<◌, ◌&&◌, Bool, true, false, ◌⊎◌, inl, inr, List, [], ◌∷◌, ◌++◌, refl, sym, ap, subst, ◌∙◌, length, length-append, set, get_or, arith}
use Rattle.std.specs.Prelude.{Option, Some, None, IsTrue, is_some, slice_get, not}
use Rattle.std.specs.FinMap.{empty, contains_key, get-empty}
use Rattle.std.proofs.lemmas.Bool.{cases_lt}
use Rattle.std.proofs.lemmas.Option.{same_Some, slice_get_within, get_or_from_slice_get}
use Rattle.ocpi_types.specs.declared.site.Location.{Location}
use Rattle.ocpi_types.specs.declared.site.Evse.{Evse}
use Rattle.ocpi_text.specs.Text.{key}
use Rattle.site_book.specs.Flags.{AreFirst, NoneBefore}
use Rattle.tables.specs.Keys.{text_cmp}
use Rattle.site_book.specs.Indexes.{AreAllSet}
use Rattle.site_book.specs.Sites.{Claims, OutOfService, works, is_free}
use Rattle.site_book.specs.Positions.{Position, HasEvse, OneEvseEach, IsFlag, Marks, with_flag}
use Rattle.site_book.proofs.Indexing.{one_uid}

nat_told : (a b : ℕ) → (a ≡ b) ⊎ (a ≢ b)
nat_told a b = elim (cases_lt a b) [
  | inl less ↦ inr (omega arith)
  | inr most ↦ elim (cases_lt b a) [ inl more ↦ inr (omega arith) | inr least ↦ inl (omega arith) ]
]

pub position_told : (p q : Position) → (p ≡ q) ⊎ (p ≢ q)
position_told p q = elim (nat_told p.0 q.0) [
  | inl a ↦ elim (nat_told p.1 q.1) [ inl b ↦ inl (λ i. (a i, b i)) | inr b ↦ inr (λ e. b (ap (λ (z : Position). z.1) e)) ]
  | inr a ↦ inr (λ e. a (ap (λ (z : Position). z.0) e))
]

module _ {X : Type 0} where
  set_here : (xs : List X) (i : ℕ) (x : X) → i < length xs → slice_get (set xs i x) i ≡ Some x
  set_here [] i x h = absurd (omega arith)
  set_here (y ∷ ys) zero x h = refl
  set_here (y ∷ ys) (suc i) x h = set_here ys i x (omega arith)

  set_there : (xs : List X) (i j : ℕ) (x : X) → j ≢ i → slice_get (set xs i x) j ≡ slice_get xs j
  set_there [] i j x h = refl
  set_there (y ∷ ys) zero zero x h = absurd (h refl)
  set_there (y ∷ ys) zero (suc j) x h = refl
  set_there (y ∷ ys) (suc i) zero x h = refl
  set_there (y ∷ ys) (suc i) (suc j) x h = set_there ys i j x (λ e. h (ap (λ n. suc n) e))

get_front : {X : Type 0} (xs ys : List X) (i : ℕ) → i < length xs → slice_get (xs ++ ys) i ≡ slice_get xs i
get_front [] ys i h = absurd (omega arith)
get_front (x ∷ xs) ys zero h = refl
get_front (x ∷ xs) ys (suc i) h = get_front xs ys i (omega arith)

get_last : {X : Type 0} (xs : List X) (y : X) → slice_get (xs ++ y ∷ []) (length xs) ≡ Some y
get_last [] y = refl
get_last (x ∷ xs) y = get_last xs y

-- a position has one flag
pub one_flag : (flags : List (List Bool)) (p : Position) (a b : Bool) → IsFlag flags p a → IsFlag flags p b → a ≡ b
one_flag flags p a b f g =
    let same : f.of_location ≡ g.of_location = same_Some _ _ (sym f.stands ∙ g.stands) in
    same_Some a b (sym f.is ∙ ap (λ (fs : List Bool). slice_get fs p.1) same ∙ g.is)

-- no flag of a location is set before the first of them
pub none_set_before : (flags : List (List Bool)) (at j : ℕ) (fs : List Bool) → slice_get flags at ≡ Some fs → NoneBefore fs j → (i : ℕ) → i < j → IsFlag flags (at, i) true → ⊥
none_set_before flags at j fs stands none i less f =
    let same : f.of_location ≡ fs = same_Some _ _ (sym f.stands ∙ stands) in
    none i less (ap (λ (gs : List Bool). slice_get gs i) (sym same) ∙ f.is)

module _ (flags : List (List Bool)) (p : Position) (b : Bool) where
  -- the flag that is set
  pub flag_here : (a : Bool) → IsFlag flags p a → IsFlag (with_flag flags p b) p b
  flag_here a f =
      let read : get_or flags p.0 [] ≡ f.of_location = get_or_from_slice_get flags p.0 f.of_location [] f.stands in
      let inner : p.1 < length (get_or flags p.0 []) = subst (λ (fs : List Bool). p.1 < length fs) (sym read) (slice_get_within f.of_location p.1 a f.is) in
      record {
        of_location = set (get_or flags p.0 []) p.1 b;
        stands = set_here flags p.0 _ (slice_get_within flags p.0 f.of_location f.stands);
        is = set_here (get_or flags p.0 []) p.1 b inner;
      }

  module _ (q : Position) (other : q ≢ p) (a c : Bool) (f : IsFlag flags p a) where
    -- and the others stay
    pub flag_there : IsFlag flags q c → IsFlag (with_flag flags p b) q c
    flag_there g = elim (nat_told q.0 p.0) [
      | inl same ↦
          let apart : q.1 ≢ p.1 = λ e. other (λ i. (same i, e i)) in
          let read : get_or flags p.0 [] ≡ g.of_location = get_or_from_slice_get flags p.0 g.of_location [] (ap (slice_get flags) (sym same) ∙ g.stands) in
          record {
            of_location = set (get_or flags p.0 []) p.1 b;
            stands = ap (slice_get (with_flag flags p b)) same ∙ set_here flags p.0 _ (slice_get_within flags p.0 f.of_location f.stands);
            is = set_there (get_or flags p.0 []) p.1 q.1 b apart ∙ ap (λ (fs : List Bool). slice_get fs q.1) read ∙ g.is;
          }
      | inr apart ↦ record { of_location = g.of_location; stands = set_there flags p.0 q.0 _ apart ∙ g.stands; is = g.is }
    ]

    pub flag_was : IsFlag (with_flag flags p b) q c → IsFlag flags q c
    flag_was g = elim (nat_told q.0 p.0) [
      | inl same ↦
          let apart : q.1 ≢ p.1 = λ e. other (λ i. (same i, e i)) in
          let read : get_or flags p.0 [] ≡ f.of_location = get_or_from_slice_get flags p.0 f.of_location [] f.stands in
          let now : set (get_or flags p.0 []) p.1 b ≡ g.of_location =
          same_Some _ _ (sym (set_here flags p.0 _ (slice_get_within flags p.0 f.of_location f.stands)) ∙ ap (slice_get (with_flag flags p b)) (sym same) ∙ g.stands) in
          record {
            of_location = f.of_location;
            stands = ap (slice_get flags) same ∙ f.stands;
            is = ap (λ (fs : List Bool). slice_get fs q.1) (sym read) ∙ sym (set_there (get_or flags p.0 []) p.1 q.1 b apart) ∙ ap (λ (fs : List Bool). slice_get fs q.1) now ∙ g.is;
          }
      | inr apart ↦ record { of_location = g.of_location; stands = sym (set_there flags p.0 q.0 _ apart) ∙ g.stands; is = g.is }
    ]

module _ (locations : List Location) (flags : List (List Bool)) (test after : List ℕ → Bool) (m : Marks locations flags test) where
  -- the test says the same of all
  pub marks_stay : ((uid : List ℕ) → after uid ≡ test uid) → Marks locations flags after
  marks_stay same = record { no_others = m.no_others; right = λ uid p has. subst (IsFlag flags p) (sym (same uid)) (m.right uid p has) }

  -- the test says another thing of one EVSE, whose flag is set so
  pub marks_set : (p : Position) (uid : List ℕ) → OneEvseEach locations → HasEvse locations p uid → ((other : List ℕ) → other ≢ uid → after other ≡ test other) →
      Marks locations (with_flag flags p (after uid)) after
  marks_set p uid one here same = record {
    no_others = λ q f. elim (position_told q p) [
      | inl is ↦ (uid, subst (λ z. HasEvse locations z uid) (sym is) here)
      | inr apart ↦ m.no_others q (flag_was flags p (after uid) q apart (test uid) true (m.right uid p here) f)
    ];
    right = λ other q has. elim (position_told q p) [
      | inl is ↦
          let its : uid ≡ other = one_uid locations p uid other here (subst (λ z. HasEvse locations z other) is has) in
          subst (λ z. IsFlag (with_flag flags p (after uid)) z (after other)) (sym is) (subst (λ z. IsFlag (with_flag flags p (after uid)) p (after z)) its (flag_here flags p (after uid) (test uid) (m.right uid p here)))
      | inr apart ↦
          let differs : other ≢ uid = λ e. apart (one uid q p (subst (HasEvse locations q) e has) here) in
          flag_there flags p (after uid) q apart (test uid) (after other) (m.right uid p here) (subst (IsFlag flags q) (sym (same other differs)) (m.right other q has))
    ];
  }

-- at first no EVSE is claimed, and all are in service
pub none_claimed : (claims : Claims) (uid : List ℕ) → claims ≡ empty → IsTrue (contains_key claims uid) → ⊥
none_claimed claims uid none has =
    let absent : contains_key claims uid ≡ false = ap (λ (m : Claims). contains_key m uid) none ∙ ap is_some (get-empty text_cmp uid) in
    cc

pub all_work : (out : OutOfService) → out ≡ empty → (uid : List ℕ) → works out uid ≡ true
all_work out none uid = ap (λ (m : OutOfService). works m uid) none ∙ ap (λ b. not b) (ap is_some (get-empty text_cmp uid))

pub all_free : (claims : Claims) (out : OutOfService) → claims ≡ empty → out ≡ empty → (uid : List ℕ) → is_free claims out uid ≡ true
all_free claims out unclaimed none uid =
    ap (λ (m : Claims). is_free m out uid) unclaimed ∙ ap (λ b. not b && works out uid) (ap is_some (get-empty text_cmp uid)) ∙ all_work out none uid

-- the flags of one more location are all set
pub one_more_set : (locations : List Location) (n : ℕ) (flags : List (List Bool)) (l : Location) (fs : List Bool) → AreAllSet locations n flags → slice_get locations n ≡ Some l →
    AreFirst (length l.evses) fs → AreAllSet locations (n + 1) (flags ++ fs ∷ [])
one_more_set locations n flags l fs all stands first = record {
  size = omega (arith, length-append flags (fs ∷ []), all.size);
  each = λ i m less at. elim (cases_lt i n) [
    | inl below ↦
        let each = all.each i m below at in
        let within : i < length flags = omega (arith, all.size, below) in
        (each.0, get_front flags (fs ∷ []) i within ∙ each.1, each.2)
    | inr most ↦
        let same : i ≡ length flags = omega (arith, all.size, most, less) in
        let here : n ≡ i = omega (arith, most, less) in
        let is : l ≡ m = same_Some l m (sym stands ∙ ap (slice_get locations) here ∙ at) in
        (fs, ap (slice_get (flags ++ fs ∷ [])) same ∙ get_last flags fs, subst (λ (x : Location). AreFirst (length x.evses) fs) is first)
  ];
}

-- all flags are set, where the test holds of all
pub marks_all : (locations : List Location) (flags : List (List Bool)) (test : List ℕ → Bool) → AreAllSet locations (length locations) flags → ((uid : List ℕ) → test uid ≡ true) → Marks locations flags test
marks_all locations flags test all holds = record { no_others = others; right = right }
  where
    others : (p : Position) → IsFlag flags p true → (uid : List ℕ) × HasEvse locations p uid
    others p f =
        let within : p.0 < length locations = subst (λ n. p.0 < n) all.size (slice_get_within flags p.0 f.of_location f.stands) in
        go (slice_get locations p.0) refl within
      where
        go : (o : Option Location) → slice_get locations p.0 ≡ o → p.0 < length locations → (uid : List ℕ) × HasEvse locations p uid
        go None none within = absurd (missing locations p.0 within none)
          where
            missing : (ls : List Location) (i : ℕ) → i < length ls → slice_get ls i ≡ None → ⊥
            missing [] i h e = omega arith
            missing (l ∷ ls) zero h e = cc
            missing (l ∷ ls) (suc i) h e = missing ls i (omega arith) e
        go (Some l) stands within =
            let each = all.each p.0 l within stands in
            let same : f.of_location ≡ each.0 = same_Some _ _ (sym f.stands ∙ each.1) in
            let inner : p.1 < length l.evses = each.2.no_others p.1 (ap (λ (fs : List Bool). slice_get fs p.1) (sym same) ∙ f.is) in
            found l.evses p.1 inner (λ e at. (key e.uid, record { evse = e; at = record { location = l; stands = stands; within = at }; same = refl }))
          where
            found : {A : Type 0} (es : List Evse) (i : ℕ) → i < length es → ((e : Evse) → slice_get es i ≡ Some e → A) → A
            found [] i h give = absurd (omega arith)
            found (e ∷ es) zero h give = give e refl
            found (e ∷ es) (suc i) h give = found es i (omega arith) give

    right : (uid : List ℕ) (p : Position) → HasEvse locations p uid → IsFlag flags p (test uid)
    right uid p has =
        let at = has.at in
        let each = all.each p.0 at.location (slice_get_within locations p.0 at.location at.stands) at.stands in
        record { of_location = each.0; stands = each.1; is = each.2.all p.1 (slice_get_within at.location.evses p.1 has.evse at.within) ∙ ap (λ b. Some b) (sym (holds uid)) }
