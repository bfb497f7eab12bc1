-- What a command may reserve.
use Rattle.std.proofs.Common.{◌≡◌, ℕ, ◌≤◌, Bool, true, false, List, refl, sym, ap, subst, ◌∙◌, arith}
use Rattle.std.specs.Prelude.{Option, Some, IsTrue}
use Rattle.std.specs.FinMap.{get}
use Rattle.ocpi_text.specs.Text.{key}
use Rattle.ocpi_types.specs.declared.site.Site.{Site}
use Rattle.ocpi_types.specs.declared.site.Location.{Location}
use Rattle.ocpi_types.specs.declared.site.Evse.{Evse}
use Rattle.ocpi_types.specs.declared.stored.Reservation.{Reservation}
use Rattle.ocpi_types.specs.declared.commands.ReserveNow.{ReserveNow}
use Rattle.ocpi_types.specs.declared.words.CommandResponseType.TheVariants as response
use Rattle.reservation_book.specs.declared.fault.ReservationFault.{ReservationFault}
use Rattle.reservation_book.specs.declared.fault.ReservationFault.TheVariants.{Stale, OtherLocation, Memory}
use Rattle.reservation_book.specs.Refusals.{IsInTime, IsHere, RefusesReservation}
use Rattle.reservation_book.specs.Rows.{Rows as BookRows}
use Rattle.site_book.specs.declared.claim.Claim.TheVariants.{Reserved}
use Rattle.site_book.proofs.Finding.{first_of}
use Rattle.site_book.specs.Sites.{Claims, IsEvseFor, IsFirst, IsFreeFor, OutOfService, SiteState, is_free, works}
use Rattle.operator_rows.specs.State.{Rows, HasClaim}
use Rattle.operator_rows.specs.Claimed.{IsIndexed}
use Rattle.operator_tables.specs.declared.decision.Decision.TheVariants as decision
use Rattle.operator_tables.specs.Reserve as lines
use Rattle.operator_tables.specs.Reserve.{IsOwnEvse, IsReservable, IsSound, IsVoid, MayHold, ReserveLine, reservation_at, reservation_key}
use Rattle.operator_tables.proofs.FreePlaces.{only_claim, in_service, unclaimed, works_free}

-- the EVSE that a reservation claims is the one of its uid
pub stands_at : (s : Rows) (p id evse : List ℕ) (r : Reservation) → get s.booked.reservations (p, id) ≡ Some r → HasClaim s evse (Reserved p id) → key r.evse_uid ≡ evse
stands_at s p id evse r is (x, has, at) = let same : x ≡ r = cc in ap (λ (y : Reservation). key y.evse_uid) (sym same) ∙ at

module _ (claims : Claims) (out : OutOfService) (s : Rows) (h : IsIndexed claims s) (service : out ≡ s.out_of_service) (p : List ℕ) (c : ReserveNow) (l : Location) (e : Evse) where
  -- the EVSE that the reservation is on may be reserved
  pub own_reservable : IsOwnEvse s p c l e → IsReservable s p c l e
  own_reservable own = record { place = own.place; works = own.works; may = λ d has. only_claim claims out s h (key e.uid) _ d own.own has }

  -- and so may a free one
  pub free_reservable : IsEvseFor l c.evse_uid e → IsTrue (is_free claims out (key e.uid)) → IsReservable s p c l e
  free_reservable place free = record {
    place = place;
    works = subst (λ (z : OutOfService). IsTrue (works z (key e.uid))) service (in_service claims out s h (key e.uid) free);
    may = λ d has. absurd (unclaimed claims out s h (key e.uid) free d has);
  }

  -- where an EVSE is not free, and this reservation does not claim it, it may not be reserved
  pub none_reservable : (IsTrue (is_free claims out (key e.uid)) → ⊥) → (IsOwnEvse s p c l e → ⊥) → IsReservable s p c l e → ⊥
  none_reservable not_free not_own may =
      let work = subst (λ (z : OutOfService). IsTrue (works z (key e.uid))) (sym service) may.works in
      let has = works_free claims out s h (key e.uid) work not_free in
      not_own (record { place = may.place; works = may.works; own = subst (HasClaim s (key e.uid)) (may.may has.0 has.1) has.1 })

is_set : (b : Bool) → ((IsTrue b → ⊥) → ⊥) → IsTrue b
is_set true h = refl
is_set false h = absurd (h (λ e. let f : false ≡ true = e in cc))

-- where its own reservation holds none, the first EVSE that is not claimed is the first that a command may reserve
pub first_reservable : (site : SiteState) (s : Rows) → IsIndexed site.claims s → site.out_of_service ≡ s.out_of_service → (p : List ℕ) (c : ReserveNow) (l : Location) (e : Evse) →
    ((f : Evse) → IsOwnEvse s p c l f → ⊥) → IsFirst l (IsFreeFor site c.evse_uid) e → IsFirst l (IsReservable s p c l) e
first_reservable site s h service p c l e not_own first = first_of l (IsFreeFor site c.evse_uid) (IsReservable s p c l) e (λ f may. record {
  named = may.place.named;
  free = is_set (is_free site.claims site.out_of_service (key f.uid)) (λ not_free. none_reservable site.claims site.out_of_service s h service p c l f not_free (not_own f) may);
}) first

-- the reservation claims the EVSE that it is on
pub is_own : (s : Rows) (p : List ℕ) (c : ReserveNow) (l : Location) (e : Evse) (r : Reservation) → get s.booked.reservations (p, key c.reservation_id) ≡ Some r → IsEvseFor l c.evse_uid e →
    key r.evse_uid ≡ key e.uid → IsTrue (works s.out_of_service (key e.uid)) → IsOwnEvse s p c l e
is_own s p c l e r stands place same work = record { place = place; works = work; own = (r, stands, same) }

-- an EVSE that may be reserved under a provider's key may be so under an equal one
pub reservable_as : (s : Rows) (p q : List ℕ) (c : ReserveNow) (l : Location) (e : Evse) → p ≡ q → IsReservable s p c l e → IsReservable s q c l e
reservable_as s p q c l e same h = subst (λ k. IsReservable s k c l e) same h

-- the reservation that is made
pub reserved_as : (c : ReserveNow) (l : Location) (e : Evse) (id uid location : List ℕ) → id ≡ key c.reservation_id → uid ≡ e.uid → location ≡ l.id →
    decision.Reserved id (record { evse_uid = uid; expiry_date = c.expiry_date; location_id = location; token = c.token }) ≡ decision.Reserved (key c.reservation_id) (reservation_at c l e)
reserved_as c l e id uid location same_id same_uid same_location = cc

module _ (site : Site) (s : Rows) (at : ℕ) (sender : List ℕ) (n : ℕ) (c : ReserveNow) (l : Location) where
  -- a command that may hold one EVSE of its place may hold another
  pub may_hold : (e f : Evse) → MayHold site s at sender n c l e → IsEvseFor l c.evse_uid f → MayHold site s at sender n c l f
  may_hold e f may is = record {
    timely = record {
      asked = record { reached = record { placed = may.timely.asked.reached.placed; place = is }; sound = may.timely.asked.sound };
      in_time = may.timely.in_time;
    };
    here = may.here;
  }

-- what the book says of a reservation, by equal rows and keys
module _ (x y : BookRows) (same : x ≡ y) (p q id reservation : List ℕ) (own : p ≡ q) (same_id : id ≡ reservation) where
  pub in_time_of : (n : ℕ) → IsInTime x.marks (p, id) n → IsInTime y.marks (q, reservation) n
  in_time_of n h = subst (λ (z : BookRows). IsInTime z.marks (q, reservation) n) same (subst (λ k. IsInTime x.marks (k, reservation) n) own (subst (λ k. IsInTime x.marks (p, k) n) same_id h))

  pub stands_of : (o : Option Reservation) → get x.reservations (p, id) ≡ o → get y.reservations (q, reservation) ≡ o
  stands_of o h = sym (ap (λ (z : BookRows). get z.reservations (p, id)) same ∙ ap (λ k. get y.reservations (k, id)) own ∙ ap (λ k. get y.reservations (q, k)) same_id) ∙ h

  pub here_of : (a b : List ℕ) → a ≡ b → IsHere x.reservations (p, id) a → IsHere y.reservations (q, reservation) b
  here_of a b there h = λ r is. h r (ap (λ (z : BookRows). get z.reservations (p, id)) same ∙ ap (λ k. get y.reservations (k, id)) own ∙ ap (λ k. get y.reservations (q, k)) same_id ∙ is) ∙ there

  pub refuses_of : (n : ℕ) (location : List ℕ) (f : ReservationFault) → RefusesReservation x (p, id) n location f → RefusesReservation y (q, reservation) n location f
  refuses_of n location f h =
      subst (λ (z : BookRows). RefusesReservation z (q, reservation) n location f) same
      (subst (λ k. RefusesReservation x (k, reservation) n location f) own (subst (λ k. RefusesReservation x (p, k) n location f) same_id h))

-- why a reservation is refused
module _ (site : Site) (s : Rows) (at : ℕ) (sender : List ℕ) (n : ℕ) (c : ReserveNow) (l : Location) (e : Evse) (asked : IsSound site at sender c l e) where
  pub refused : (f : ReservationFault) → (f ≡ Memory → ⊥) → RefusesReservation s.booked (reservation_key sender c) n (key c.location_id) f →
      ReserveLine site s at sender n c (decision.Answered response.Rejected)
  refused (Stale m) not_memory (is, below) = lines.Stale l e asked (λ in_time. let above : m ≤ n = in_time m is in omega arith) refl
  refused OtherLocation not_memory (in_time, (r, is, other)) =
      lines.Elsewhere l e (record { asked = asked; in_time = in_time }) (λ here. other (here r is ∙ asked.reached.placed.location.same)) refl
  refused Memory not_memory h = absurd (not_memory refl)
