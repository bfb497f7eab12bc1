-- The order of an orderly past: by moments, and by places.
use Rattle.std.proofs.Common.{◌≡◌, ◌⊎◌, ◌<◌, ◌≤◌, ℕ, ℤ, List, [], ◌∷◌, ◌++◌, inl, inr, refl, sym, ap, subst, ◌∙◌, arith}
use Rattle.std.specs.Prelude.{Option, Some, None, Contains}
use Rattle.std.specs.List.{last_or}
use Rattle.tables.proofs.Elements.{in_none, in_front}
use Rattle.tables.proofs.Options.{none_some}
use Rattle.ocpi_types.specs.declared.sessions.Session.{Session}
use Rattle.session_state.specs.Pasts.{Follow, IsFinal, IsOrderly}
use Rattle.session_state.proofs.PastLemmas.{final_is_last}
use Rattle.operator_rows.proofs.RowChanges.{in_later, of_cons}
use Rattle.world_laws.specs.Later.{StandsAfter}

-- what comes after a version may follow it
after_follows : (price : ℕ → ℤ) (u : Session) (before : List Session) (v : Session) (after : List Session) → Follow price u (before ++ v ∷ after) → Follow price v after
after_follows price u [] v after h = h.1
after_follows price u (x ∷ before) v after h = after_follows price x before v after h.1

rest_follows : (price : ℕ → ℤ) (before : List Session) (v : Session) (after : List Session) → IsOrderly price (before ++ v ∷ after) → Follow price v after
rest_follows price [] v after h = h.2
rest_follows price (u ∷ before) v after h = after_follows price u before v after h.2

follow_is_later : (price : ℕ → ℤ) (v : Session) (vs : List Session) (w : Session) → Follow price v vs → Contains vs w → v.last_updated < w.last_updated
follow_is_later price v [] w h i = absurd (in_none w i)
follow_is_later price v (x ∷ vs) w h i = by (of_cons x vs w i) (λ j. follow_is_later price x vs w h.1 j)
  where
    by : (x ≡ w) ⊎ Contains vs w → (Contains vs w → x.last_updated < w.last_updated) → v.last_updated < w.last_updated
    by (inl is) rest = subst (λ (z : Session). v.last_updated < z.last_updated) is h.0.later
    by (inr j) rest = let first = h.0.later in let second = rest j in omega (arith, first, second)

-- what stands after a version is later
pub after_is_later : (price : ℕ → ℤ) (vs : List Session) (v w : Session) → IsOrderly price vs → StandsAfter vs v w → v.last_updated < w.last_updated
after_is_later price vs v w orderly at =
    follow_is_later price v at.after w (rest_follows price at.before v at.after (subst (IsOrderly price) at.all orderly)) at.later

-- two versions of a past are one, or one stands after the other
pub data Places (vs : List Session) (v w : Session) : Type 0 where
  Same : v ≡ w → Places vs v w
  After : StandsAfter vs v w → Places vs v w
  Before : StandsAfter vs w v → Places vs v w

in_rest : (x : Session) (vs : List Session) (v w : Session) → StandsAfter vs v w → StandsAfter (x ∷ vs) v w
in_rest x vs v w at = record { before = x ∷ at.before; after = at.after; all = ap (λ l. x ∷ l) at.all; later = at.later }

at_first : (x : Session) (vs : List Session) (v w : Session) → x ≡ v → Contains vs w → StandsAfter (x ∷ vs) v w
at_first x vs v w is later = record { before = []; after = vs; all = ap (λ z. z ∷ vs) is; later = later }

pub places : (vs : List Session) (v w : Session) → Contains vs v → Contains vs w → Places vs v w
places [] v w i j = absurd (in_none v i)
places (x ∷ vs) v w i j = by (of_cons x vs v i) (of_cons x vs w j) (λ i j. places vs v w i j)
  where
    more : Places vs v w → Places (x ∷ vs) v w
    more (Same is) = Same is
    more (After at) = After (in_rest x vs v w at)
    more (Before at) = Before (in_rest x vs w v at)

    by : (x ≡ v) ⊎ Contains vs v → (x ≡ w) ⊎ Contains vs w → (Contains vs v → Contains vs w → Places vs v w) → Places (x ∷ vs) v w
    by (inl v_is) (inl w_is) rest = Same (sym v_is ∙ w_is)
    by (inl v_is) (inr w_in) rest = After (at_first x vs v w v_is w_in)
    by (inr v_in) (inl w_is) rest = Before (at_first x vs w v w_is v_in)
    by (inr v_in) (inr w_in) rest = more (rest v_in w_in)

module _ (price : ℕ → ℤ) (vs : List Session) (orderly : IsOrderly price vs) where
  -- of two versions the later one stands after the other
  pub stands_after : (v w : Session) → Contains vs v → Contains vs w → v.last_updated < w.last_updated → StandsAfter vs v w
  stands_after v w i j below = by (places vs v w i j)
    where
      by : Places vs v w → StandsAfter vs v w
      by (Same is) = absurd (let same : v.last_updated ≡ w.last_updated = ap (λ (z : Session). z.last_updated) is in omega (arith, below, same))
      by (After at) = at
      by (Before at) = absurd (let above = after_is_later price vs w v orderly at in omega (arith, below, above))

  -- and two of one moment are one
  pub one_moment : (v w : Session) → Contains vs v → Contains vs w → v.last_updated ≡ w.last_updated → v ≡ w
  one_moment v w i j same = by (places vs v w i j)
    where
      by : Places vs v w → v ≡ w
      by (Same is) = is
      by (After at) = absurd (let above = after_is_later price vs v w orderly at in omega (arith, same, above))
      by (Before at) = absurd (let above = after_is_later price vs w v orderly at in omega (arith, same, above))

last_joined : (o : Option Session) (before : List Session) (v : Session) (after : List Session) → last_or o (before ++ v ∷ after) ≡ last_or (Some v) after
last_joined o [] v after = refl
last_joined o (x ∷ before) v after = last_joined (Some x) before v after

last_is_in : (o : Option Session) (vs : List Session) (l : Session) → last_or o vs ≡ Some l → (o ≡ Some l) ⊎ Contains vs l
last_is_in o [] l is = inl is
last_is_in o (x ∷ vs) l is = by (last_is_in (Some x) vs l is)
  where
    by : (Some x ≡ Some l) ⊎ Contains vs l → (o ≡ Some l) ⊎ Contains (x ∷ vs) l
    by (inl one) = let same : x ≡ l = cc in inr (subst (Contains (x ∷ vs)) same (in_front x vs))
    by (inr i) = inr (in_later x vs l i)

-- the newest version of a past is one of it
pub newest_is_in : (vs : List Session) (l : Session) → last_or None vs ≡ Some l → Contains vs l
newest_is_in vs l is = elim (last_is_in None vs l is) [ inl none ↦ none_some l none | inr i ↦ i ]

-- and so it is of what is not empty, whatever came before
last_of_more : (o : Option Session) (vs : List Session) (v l : Session) → Contains vs v → last_or o vs ≡ Some l → Contains vs l
last_of_more o [] v l i is = absurd (in_none v i)
last_of_more o (x ∷ vs) v l i is = newest_is_in (x ∷ vs) l is

-- where a version stands in a list
pub record StandsIn (vs : List Session) (v : Session) : Type 0 where
  pub before : List Session
  pub after : List Session
  pub all : vs ≡ before ++ v ∷ after

pub stands_in : (vs : List Session) (v : Session) → Contains vs v → StandsIn vs v
stands_in [] v i = absurd (in_none v i)
stands_in (x ∷ vs) v i = by (of_cons x vs v i) (λ j. stands_in vs v j)
  where
    by : (x ≡ v) ⊎ Contains vs v → (Contains vs v → StandsIn vs v) → StandsIn (x ∷ vs) v
    by (inl is) rest = record { before = []; after = vs; all = ap (λ z. z ∷ vs) is }
    by (inr j) rest = record { before = x ∷ (rest j).before; after = (rest j).after; all = ap (λ l. x ∷ l) (rest j).all }

-- a version that is final is the newest
pub final_is_newest : (price : ℕ → ℤ) (vs : List Session) (v : Session) → IsOrderly price vs → Contains vs v → IsFinal v.status → last_or None vs ≡ Some v
final_is_newest price vs v orderly i final =
    let at = stands_in vs v i in
    let none : at.after ≡ [] = final_is_last price at.before at.after v (subst (IsOrderly price) at.all orderly) final in
    ap (last_or None) at.all ∙ last_joined None at.before v at.after ∙ ap (last_or (Some v)) none

-- no version is later than the newest
pub none_is_later : (price : ℕ → ℤ) (vs : List Session) (v l : Session) → IsOrderly price vs → Contains vs v → last_or None vs ≡ Some l → v.last_updated ≤ l.last_updated
none_is_later price vs v l orderly i newest = by (places vs v l i (newest_is_in vs l newest))
  where
    by : Places vs v l → v.last_updated ≤ l.last_updated
    by (Same is) = let same : v.last_updated ≡ l.last_updated = ap (λ (z : Session). z.last_updated) is in omega (arith, same)
    by (After at) = let above = after_is_later price vs v l orderly at in omega (arith, above)
    by (Before at) =
        let last : last_or (Some l) at.after ≡ Some l = sym (last_joined None at.before l at.after) ∙ ap (last_or None) (sym at.all) ∙ newest in
        let follows = rest_follows price at.before l at.after (subst (IsOrderly price) at.all orderly) in
        let above : l.last_updated < l.last_updated = follow_is_later price l at.after l follows (last_of_more (Some l) at.after v l at.later last) in
        absurd (omega (arith, above))
