-- How a RESERVE_NOW is decided (OCPI 2.2.1, Commands: ReserveNow; Status codes: 2001 and 2003).
use Rattle.std.specs.Prelude.{◌≡◌, ◌≢◌, ◌≤◌, ℕ, false, List, ◌⊎◌}
use Rattle.ocpi_text.specs.Text.{key}
use Rattle.ocpi_types.specs.declared.site.Site.{Site}
use Rattle.ocpi_types.specs.declared.site.Location.{Location}
use Rattle.ocpi_types.specs.declared.site.Evse.{Evse}
use Rattle.ocpi_types.specs.declared.commands.ReserveNow.{ReserveNow}
use Rattle.ocpi_types.specs.declared.stored.Reservation.{Reservation}
use Rattle.ocpi_types.specs.declared.words.CommandResponseType.TheVariants as response
use Rattle.ocpi_types.specs.declared.words.CommandResultType.TheVariants as result
use Rattle.reservation_book.specs.Places.{Key}
use Rattle.reservation_book.specs.Refusals.{IsInTime, IsHere}
use Rattle.site_book.specs.Sites.{IsEvseFor, IsFirst, IsLocation}
use Rattle.site_book.specs.declared.claim.Claim.TheVariants as claim
use Rattle.operator_rows.specs.State.{Rows, HasClaim}
use Rattle.operator_tables.specs.declared.decision.Decision.{Decision}
use Rattle.operator_tables.specs.declared.decision.Decision.TheVariants.{Refused, Answered, Noted, Reserved}
use Rattle.operator_tables.specs.Places.{HasNoEvse, HasNoLocation, HasService, MayReserve, Works}

-- the reservation that the command is about: the sender's of that id
abbrev pub reservation_key : List ℕ → ReserveNow → Key
reservation_key sender c = (key sender, key c.reservation_id)

-- the token is not valid, or the reservation would have ended already
abbrev pub IsVoid : ℕ → ReserveNow → Type 0
IsVoid at c = (c.token.valid ≡ false) ⊎ (c.expiry_date ≤ at)

-- the command got as far as its location
pub record IsPlaced (site : Site) (sender : List ℕ) (c : ReserveNow) (l : Location) : Type 0 where
  pub own : key c.token.party ≡ key sender
  pub location : IsLocation site.locations c.location_id l

-- the command got as far as an EVSE of its location
pub record IsAtEvse (site : Site) (sender : List ℕ) (c : ReserveNow) (l : Location) (e : Evse) : Type 0 where
  pub placed : IsPlaced site sender c l
  pub place : IsEvseFor l c.evse_uid e

-- the command got as far as its reservation's mark
pub record IsSound (site : Site) (at : ℕ) (sender : List ℕ) (c : ReserveNow) (l : Location) (e : Evse) : Type 0 where
  pub reached : IsAtEvse site sender c l e
  pub sound : ¬ IsVoid at c

-- the command got as far as its reservation
pub record IsTimely (site : Site) (s : Rows) (at : ℕ) (sender : List ℕ) (n : ℕ) (c : ReserveNow) (l : Location) (e : Evse) : Type 0 where
  pub asked : IsSound site at sender c l e
  pub in_time : IsInTime s.booked.marks (reservation_key sender c) n

-- the command got as far as the EVSEs of its place
pub record MayHold (site : Site) (s : Rows) (at : ℕ) (sender : List ℕ) (n : ℕ) (c : ReserveNow) (l : Location) (e : Evse) : Type 0 where
  pub timely : IsTimely site s at sender n c l e
  pub here : IsHere s.booked.reservations (reservation_key sender c) (key l.id)

-- an EVSE in service that the command may be about, and that the provider of that key may reserve under its id
pub record IsReservable (s : Rows) (p : List ℕ) (c : ReserveNow) (l : Location) (e : Evse) : Type 0 where
  pub place : IsEvseFor l c.evse_uid e
  pub works : Works s e
  pub may : MayReserve s p (key c.reservation_id) (key e.uid)

-- an EVSE in service that the command may be about, and that the reservation of its id is on
pub record IsOwnEvse (s : Rows) (p : List ℕ) (c : ReserveNow) (l : Location) (e : Evse) : Type 0 where
  pub place : IsEvseFor l c.evse_uid e
  pub works : Works s e
  pub own : HasClaim s (key e.uid) (claim.Reserved p (key c.reservation_id))

-- the EVSE that the command takes: the one that its very reservation is on, else the first that may be reserved, in the
-- order of the site line
pub data IsTaken (s : Rows) (p : List ℕ) (c : ReserveNow) (l : Location) (e : Evse) : Type 0 where
  Own : IsOwnEvse s p c l e → IsTaken s p c l e
  First : ((f : Evse) → IsOwnEvse s p c l f → ⊥) → IsFirst l (IsReservable s p c l) e → IsTaken s p c l e

-- the uid is that of the EVSE that the command takes, which it may reserve
abbrev pub IsTakenUid : Rows → List ℕ → ReserveNow → Location → List ℕ → Type 0
IsTakenUid s p c l uid = (e : Evse) × IsReservable s p c l e × IsTaken s p c l e × (uid ≡ e.uid)

-- none of them may be reserved
abbrev pub NoneReservable : Rows → List ℕ → ReserveNow → Location → Type 0
NoneReservable s sender c l = (f : Evse) → IsReservable s (key sender) c l f → ⊥

-- what is stored of a reservation: the place as the site spells it
abbrev pub reservation_at : ReserveNow → Location → Evse → Reservation
reservation_at c l e = record { evse_uid = e.uid; expiry_date = c.expiry_date; location_id = l.id; token = c.token }

-- the lines of the table: the first that applies decides
pub data ReserveLine (site : Site) (s : Rows) (at : ℕ) (sender : List ℕ) (n : ℕ) (c : ReserveNow) (d : Decision) : Type 0 where
  Mismatched : key c.token.party ≢ key sender → d ≡ Refused 2001 → ReserveLine site s at sender n c d
  UnknownLocation : key c.token.party ≡ key sender → HasNoLocation site c.location_id → d ≡ Refused 2003 → ReserveLine site s at sender n c d
  NoEvse : (l : Location) → IsPlaced site sender c l → HasNoEvse l c.evse_uid → d ≡ Answered response.Rejected → ReserveLine site s at sender n c d
  Void : (l : Location) (e : Evse) → IsAtEvse site sender c l e → IsVoid at c → d ≡ Answered response.Rejected → ReserveLine site s at sender n c d
  Stale : (l : Location) (e : Evse) → IsSound site at sender c l e → ¬ IsInTime s.booked.marks (reservation_key sender c) n → d ≡ Answered response.Rejected →
      ReserveLine site s at sender n c d
  Elsewhere : (l : Location) (e : Evse) → IsTimely site s at sender n c l e → ¬ IsHere s.booked.reservations (reservation_key sender c) (key l.id) →
      d ≡ Answered response.Rejected → ReserveLine site s at sender n c d
  Inoperative : (l : Location) (e : Evse) → MayHold site s at sender n c l e → ¬ HasService s l c.evse_uid → d ≡ Noted (key c.reservation_id) result.EvseInoperative →
      ReserveLine site s at sender n c d
  Occupied : (l : Location) (e : Evse) → MayHold site s at sender n c l e → Works s e → NoneReservable s sender c l → d ≡ Noted (key c.reservation_id) result.EvseOccupied →
      ReserveLine site s at sender n c d
  Held : (l : Location) (e : Evse) → MayHold site s at sender n c l e → IsReservable s (key sender) c l e → IsTaken s (key sender) c l e →
      d ≡ Reserved (key c.reservation_id) (reservation_at c l e) → ReserveLine site s at sender n c d

-- the decision on a command of the party of that key, if it got as far as the EVSEs of its place
abbrev pub DecidesThere : Site → Rows → ℕ → List ℕ → ℕ → ReserveNow → Location → Decision → Type 0
DecidesThere site s at p n c l d = (sender : List ℕ) (e : Evse) → p ≡ key sender → MayHold site s at sender n c l e → ReserveLine site s at sender n c d
