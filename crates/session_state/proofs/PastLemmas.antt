-- What moves make may follow, and pasts that grow by what may follow are orderly.
use Rattle.std.proofs.Common.{◌≡◌, ◌∙◌, ℕ, ◌/◌, ℤ, pos, negsuc, List, [], ◌∷◌, ◌++◌, Option, Some, refl, sym, ap, subst, arith}
use Rattle.std.proofs.lemmas.Int.{ints}
use Rattle.std.proofs.Math.Nat.{zero-mul}
use Rattle.std.specs.Int.{int_div_euclid}
use Rattle.std.specs.Prelude.{neg_ℤ}
use Rattle.ocpi_types.specs.declared.sessions.Opening.{Opening}
use Rattle.ocpi_types.specs.declared.sessions.Price.{Price}
use Rattle.ocpi_types.specs.declared.sessions.Session.{Session}
use Rattle.ocpi_types.specs.declared.words.SessionStatus.{SessionStatus}
use Rattle.ocpi_types.specs.declared.words.SessionStatus.TheVariants.{Active, Completed, Invalid, Pending, Reservation}
use Rattle.session_state.specs.Costs.{cost}
use Rattle.session_state.specs.Versions.{HasCost, IsPriced, IsUncharged, first_version}
use Rattle.session_state.specs.Pasts.{IsTurn, IsFinal, IsSame, MayFollow, Follow, IsOrderly, Makes, activates, meters, completes, voids, AreMade}

-- only these six of a version's fields differ
same_kept : (v : Session) (start : ℕ) (end : Option ℕ) (kwh : ℤ) (total : Option Price) (status : SessionStatus) (stamp : ℕ)
    → IsSame v (record v { start_date_time = start; end_date_time = end; kwh = kwh; total_cost = total; status = status; last_updated = stamp })
same_kept v start end kwh total status stamp =
    record {
      party = refl;
      id = refl;
      cdr_token = refl;
      auth_method = refl;
      authorization_reference = refl;
      location_id = refl;
      evse_uid = refl;
      connector_id = refl;
      currency = refl;
    }

-- no energy costs nothing
no_cost : (price : ℤ) → cost (pos 0) price ≡ pos 0
no_cost (pos p) = ap (λ (n : ℕ). pos (n / 10000)) (zero-mul p)
no_cost (negsuc p) = ap (λ (n : ℕ). int_div_euclid (neg_ℤ (pos n)) (pos 10000)) (zero-mul _)

-- what is not charged costs nothing at any price
pub costs_nothing : (price other : ℤ) (v : Session) → v.kwh ≡ pos 0 → HasCost price v → HasCost other v
costs_nothing price other v none h =
    let of : ℤ → Option Price = λ (z : ℤ). Some (record { excl_vat = z }) in
    let at : (p : ℤ) → of (cost v.kwh p) ≡ of (pos 0) = λ p. ap (λ (k : ℤ). of (cost k p)) none ∙ ap of (no_cost p) in
    h ∙ at price ∙ sym (at other)

pub first_cost : (opening : Opening) (at : ℕ) (price : ℤ) → HasCost price (first_version opening at)
first_cost opening at price =
    let none : ℤ → Option Price = λ (z : ℤ). Some (record { excl_vat = z }) in ap none (sym (no_cost price))

no_return : (s : SessionStatus) → IsTurn s Pending → ⊥
no_return Active h = h
no_return Completed h = h
no_return Invalid h = h
no_return Pending h = h
no_return Reservation h = h

-- no version that follows another is PENDING
pub never_pending : (s t : SessionStatus) → IsTurn s t → t ≡ Pending → ⊥
never_pending s t turn is = no_return s (subst (IsTurn s) is turn)

pub may_follow : (price : ℕ → ℤ) (v w : Session) → IsPriced price v → IsUncharged v → Makes price v w → MayFollow price v w
may_follow price v w h uncharged (activates at s l e) =
    let P : Session → Type 0 = λ x. MayFollow price v x in
    subst P (sym e)
    record {
      later = omega arith;
      no_less = omega (arith, ints);
      turn = let T : SessionStatus → Type 0 = λ x. IsTurn x Active in subst T (sym s) tt;
      same = same_kept v _ _ _ _ _ _;
      priced = costs_nothing (price v.start_date_time) (price at) v (uncharged s) h;
    }
may_follow price v w h uncharged (meters at kwh s l r e) =
    let P : Session → Type 0 = λ x. MayFollow price v x in
    subst P (sym e)
    record {
      later = omega arith;
      no_less = r.no_less;
      turn = let T : SessionStatus → Type 0 = λ x. IsTurn x x in subst T (sym s) tt;
      same = same_kept v _ _ _ _ _ _;
      priced = refl;
    }
may_follow price v w h uncharged (completes at s l e) =
    let P : Session → Type 0 = λ x. MayFollow price v x in
    subst P (sym e)
    record {
      later = omega arith;
      no_less = omega (arith, ints);
      turn = let T : SessionStatus → Type 0 = λ x. IsTurn x Completed in subst T (sym s) tt;
      same = same_kept v _ _ _ _ _ _;
      priced = h;
    }
may_follow price v w h uncharged (voids at s l e) =
    let P : Session → Type 0 = λ x. MayFollow price v x in
    subst P (sym e)
    record {
      later = omega arith;
      no_less = omega (arith, ints);
      turn = let T : SessionStatus → Type 0 = λ x. IsTurn x Invalid in subst T (sym s) tt;
      same = same_kept v _ _ _ _ _ _;
      priced = h;
    }

pub all_follow : (price : ℕ → ℤ) (v : Session) (ws : List Session) → IsPriced price v → IsUncharged v → AreMade price v ws → Follow price v ws
all_follow price v [] h uncharged made = tt
all_follow price v (w ∷ ws) h uncharged made =
    let next : MayFollow price v w = may_follow price v w h uncharged made.0 in
    (next, all_follow price w ws next.priced (λ pending. absurd (never_pending v.status w.status next.turn pending)) made.1)

no_turn : (s t : SessionStatus) → IsFinal s → IsTurn s t → ⊥
no_turn Completed Active f h = h
no_turn Completed Completed f h = h
no_turn Completed Invalid f h = h
no_turn Completed Pending f h = h
no_turn Completed Reservation f h = h
no_turn Invalid Active f h = h
no_turn Invalid Completed f h = h
no_turn Invalid Invalid f h = h
no_turn Invalid Pending f h = h
no_turn Invalid Reservation f h = h
no_turn Active t f h = f
no_turn Pending t f h = f
no_turn Reservation t f h = f

final_ends : (price : ℕ → ℤ) (v : Session) (ws : List Session) → Follow price v ws → IsFinal v.status → ws ≡ []
final_ends price v [] h final = refl
final_ends price v (w ∷ ws) h final = absurd (no_turn v.status w.status final h.0.turn)

final_last : (price : ℕ → ℤ) (u : Session) (earlier : List Session) (v : Session) (later : List Session)
    → Follow price u (earlier ++ v ∷ later) → IsFinal v.status → later ≡ []
final_last price u [] v later h final = final_ends price v later h.1 final
final_last price u (w ∷ ws) v later h final = final_last price w ws v later h.1 final

pub final_is_last : (price : ℕ → ℤ) (earlier later : List Session) (v : Session)
    → IsOrderly price (earlier ++ v ∷ later) → IsFinal v.status → later ≡ []
final_is_last price [] later v h final = final_ends price v later h.2 final
final_is_last price (u ∷ us) later v h final = final_last price u us v later h.2 final

grows : (price : ℕ → ℤ) (u : Session) (earlier : List Session) (v w : Session)
    → Follow price u (earlier ++ v ∷ []) → MayFollow price v w → Follow price u (earlier ++ v ∷ [] ++ w ∷ [])
grows price u [] v w h next = (h.0, (next, tt))
grows price u (x ∷ xs) v w h next = (h.0, grows price x xs v w h.1 next)

pub past_grows : (price : ℕ → ℤ) (earlier : List Session) (v w : Session)
    → IsOrderly price (earlier ++ v ∷ []) → MayFollow price v w → IsOrderly price (earlier ++ v ∷ [] ++ w ∷ [])
past_grows price [] v w h next = (h.0, h.1, (next, tt))
past_grows price (u ∷ us) v w h next = (h.0, h.1, grows price u us v w h.2 next)
