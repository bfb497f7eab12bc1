-- What a list of slots shows, by what stands under one key.
use Rattle.std.proofs.Common.{◌≡◌, Bool, true, false, cond, List, [], ◌∷◌, refl, sym, ap, subst, ◌∙◌}
use Rattle.std.specs.Prelude.{Option, Some, None, is_some}
use Rattle.std.specs.Option.{option_flatten}
use Rattle.std.specs.declared.cmp.Ordering.{Ordering}
use Rattle.std.specs.Cmp.{IsTotalOrder}
use Rattle.std.specs.List.Sorted.{IsStrictlySortedBy}
use Rattle.std.specs.Map.{lookup, keys_of}
use Rattle.std.specs.BTreeMap.{is_at}
use Rattle.std.specs.FinMap.{FinMap, IsAntisymmetric, contains_key, get, get-from_sorted, insert}
use Rattle.tables.specs.Tables.{rooms_of, shown_of}
use Rattle.tables.proofs.Entries.{keys_in_order}
use Rattle.tables.proofs.Maps.{insert_present}
use Rattle.tables.proofs.Options.{is_none}
use Rattle.tables.proofs.Ordered.{looked}
use Rattle.tables.proofs.Slots.{got, has_room, listed_shown, sorted_shown, unit_there}
use Rattle.sorted_lists.specs.Slots.{room_in, room_of, seen, stands, with_room}
use Rattle.sorted_lists.specs.declared.slots.Slot.{Slot}
use Rattle.sorted_lists.specs.declared.slots.Slot.TheVariants.{Out, Room, Value}

pub same_keys : {K V : Type 0} (es : List (K × Slot V)) → keys_of (with_room es) ≡ keys_of es
same_keys [] = refl
same_keys (e ∷ es) = λ i. e.0 ∷ same_keys es i

looked_room : {K V : Type 0} (p : K → Bool) (es : List (K × Slot V)) → option_flatten (lookup p (with_room es)) ≡ room_of (lookup p es)
looked_room p [] = refl
looked_room p (e ∷ es) = elim (p e.0) as (λ b. option_flatten (cond b (Some (room_in e.1)) (lookup p (with_room es))) ≡ room_of (cond b (Some e.1) (lookup p es))) [ true ↦ refl | false ↦ looked_room p es ]

cond_room : {V : Type 0} (b : Bool) (x y : Option (Slot V)) → room_of (cond b x y) ≡ cond b (room_of x) (room_of y)
cond_room true x y = refl
cond_room false x y = refl

module _ {K V : Type 0} (R : K → K → Ordering) where
  sorted_room : (es : List (K × Slot V)) → IsStrictlySortedBy R (keys_of es) → IsStrictlySortedBy R (keys_of (with_room es))
  sorted_room es s = subst (IsStrictlySortedBy R) (sym (same_keys es)) s

module _ {K V : Type 0} {R : K → K → Ordering} (o : IsTotalOrder R) (exact : IsAntisymmetric R) where
  -- the keys that have room are in order
  pub sorted_seen : (es : List (K × Slot V)) → IsStrictlySortedBy R (keys_of es) → IsStrictlySortedBy R (keys_of (seen es))
  sorted_seen es s = subst (λ fs. IsStrictlySortedBy R (keys_of fs)) (listed_shown R (with_room es) (sorted_room R es s)) (keys_in_order o exact (shown_of R (with_room es)))

  -- what room a key has
  pub looked_seen : (q : K) (es : List (K × Slot V)) → IsStrictlySortedBy R (keys_of es) → lookup (is_at (R q)) (seen es) ≡ room_of (lookup (is_at (R q)) es)
  looked_seen q es s =
      looked R q (seen es) ∙ sym (get-from_sorted R (seen es) q (sorted_shown R (with_room es) (sorted_room R es s)))
      ∙ got exact (with_room es) q (sorted_room R es s) ∙ looked_room (is_at (R q)) es

  -- what stands under one key changed
  pub changed_seen : (es fs : List (K × Slot V)) (k : K) (w : Slot V) → IsStrictlySortedBy R (keys_of es) → IsStrictlySortedBy R (keys_of fs) →
      ((q : K) → lookup (is_at (R q)) fs ≡ cond (is_at (R k) q) (Some w) (lookup (is_at (R q)) es)) →
      (q : K) → lookup (is_at (R q)) (seen fs) ≡ cond (is_at (R k) q) (room_in w) (lookup (is_at (R q)) (seen es))
  changed_seen es fs k w s t h q =
      looked_seen q fs t ∙ ap room_of (h q) ∙ cond_room (is_at (R k) q) (Some w) (lookup (is_at (R q)) es)
      ∙ ap (cond (is_at (R k) q) (room_in w)) (sym (looked_seen q es s))

  -- a slot that was not there has no room
  pub nothing_seen : (k : K) (es : List (K × Slot V)) → IsStrictlySortedBy R (keys_of es) → lookup (is_at (R k)) es ≡ None → lookup (is_at (R k)) (seen es) ≡ None
  nothing_seen k es s none = looked_seen k es s ∙ ap room_of none

  -- a key with no room shows nothing
  pub not_shown : (es : List (K × Option V)) (k : K) → IsStrictlySortedBy R (keys_of es) → contains_key (rooms_of R es) k ≡ false → contains_key (shown_of R es) k ≡ false
  not_shown es k s none = ap is_some (got exact es k s ∙ ap option_flatten (is_none _ (sym (has_room R es k s) ∙ none)))

module _ {K : Type 0} {R : K → K → Ordering} (o : IsTotalOrder R) (exact : IsAntisymmetric R) where
  -- room that is there is not taken twice
  pub had_room : (m : FinMap R (Unit {0})) (k : K) → contains_key m k ≡ true → insert m k tt ≡ m
  had_room m k h = insert_present o exact m k tt (unit_there (get m k) h)

-- something stands in a slot that has room
pub roomy : {V : Type 0} (s : Slot V) → stands s ≡ is_some (room_in s)
roomy Out = refl
roomy Room = refl
roomy (Value v) = refl
