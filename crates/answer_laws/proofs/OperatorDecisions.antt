-- A command is decided in one way.
use Rattle.std.proofs.Common.{◌≡◌, ◌<◌, ℕ, Bool, true, false, List, inl, inr, refl, sym, ap, subst, ◌∙◌, arith}
use Rattle.std.proofs.lemmas.Bool.{cases_lt}
use Rattle.std.proofs.lemmas.Option.{same_Some}
use Rattle.std.specs.BTreeMap.Range.{IsLeBy}
use Rattle.std.specs.Ordering.{is_gt, ordering_reverse}
use Rattle.std.specs.Prelude.{Contains, None, Some, slice_get}
use Rattle.std.specs.declared.cmp.Ordering.{Ordering}
use Rattle.std.specs.declared.cmp.Ordering.TheVariants.{Less, Equal, Greater}
use Rattle.std.specs.FinMap.{get}
use Rattle.ocpi_text.specs.Text.{key}
use Rattle.ocpi_types.specs.declared.commands.CancelReservation.{CancelReservation}
use Rattle.ocpi_types.specs.declared.commands.Command.{Command}
use Rattle.ocpi_types.specs.declared.commands.Command.TheVariants as command
use Rattle.ocpi_types.specs.declared.commands.ReserveNow.{ReserveNow}
use Rattle.ocpi_types.specs.declared.commands.StartSession.{StartSession}
use Rattle.ocpi_types.specs.declared.commands.StopSession.{StopSession}
use Rattle.ocpi_types.specs.declared.commands.UnlockConnector.{UnlockConnector}
use Rattle.ocpi_types.specs.declared.sessions.Session.{Session}
use Rattle.ocpi_types.specs.declared.site.Connector.{Connector}
use Rattle.ocpi_types.specs.declared.site.Evse.{Evse}
use Rattle.ocpi_types.specs.declared.site.Location.{Location}
use Rattle.ocpi_types.specs.declared.stored.Reservation.{Reservation}
use Rattle.ocpi_types.specs.declared.words.CommandResponseType.TheVariants as response
use Rattle.ocpi_types.specs.declared.words.CommandResultType.TheVariants as result
use Rattle.reservation_book.specs.Refusals.{IsHere, IsInTime}
use Rattle.reservation_book.specs.declared.standing.Standing.{Standing}
use Rattle.session_state.specs.Pasts.{IsFinal}
use Rattle.site_book.specs.Sites.{IsEvseFor, IsFirst, IsLocation}
use Rattle.site_book.specs.declared.claim.Claim.{Claim}
use Rattle.site_book.specs.declared.claim.Claim.TheVariants.{Reserved}
use Rattle.tables.proofs.Options.{not_both}
use Rattle.tables.specs.Keys.{text_cmp, text_exact, text_total}
use Rattle.operator_rows.specs.State.{IsFree, OneClaimEach, State}
use Rattle.operator_tables.specs.Cancel as cancel
use Rattle.operator_tables.specs.Decides.{Decides}
use Rattle.operator_tables.specs.Places.{HasService, IsForeign, IsHeldFor, Works, place_of}
use Rattle.operator_tables.specs.Reserve as reserve
use Rattle.operator_tables.specs.Start as start
use Rattle.operator_tables.specs.Stop as stop
use Rattle.operator_tables.specs.Unlock as unlock
use Rattle.operator_tables.specs.declared.decision.Decision.{Decision}
use Rattle.operator_tables.specs.declared.decision.Decision.TheVariants as decision
use Rattle.answer_laws.specs.Nodes.{SiteDiffers}
use Rattle.answer_laws.specs.Decisions.{CommandsHaveOneDecision}
use Rattle.answer_laws.proofs.Branching.{AtMostOne, Branch, one_branch, one_is}
use Rattle.answer_laws.proofs.OperatorPlaces.{one_chosen, one_location, one_of_uid}

abbrev Is : Decision → Decision → Type 0
Is e d = d ≡ e

-- of two keys neither is less
same_least : (a b : List ℕ) → IsLeBy text_cmp a b → IsLeBy text_cmp b a → a ≡ b
same_least a b h g = go (text_cmp a b) refl
  where
    go : (r : Ordering) → text_cmp a b ≡ r → a ≡ b
    go Less e =
        let above : text_cmp b a ≡ Greater = text_total.antisymm b a ∙ ap ordering_reverse e in
        absurd (let f : true ≡ false = sym (ap is_gt above) ∙ g in cc)
    go Equal e = text_exact a b e
    go Greater e = absurd (let f : true ≡ false = sym (ap is_gt e) ∙ h in cc)

-- the first of a list that passes a test is one
one_first : (l : Location) (P : Evse → Type 0) (e f : Evse) → P e → P f → IsFirst l P e → IsFirst l P f → e ≡ f
one_first l P e f passes also h g = elim (cases_lt h.place g.place) [
  | inl before ↦ absurd (g.none_before h.place e before h.stands passes)
  | inr at_most ↦ elim (cases_lt g.place h.place) [
    | inl before ↦ absurd (h.none_before g.place f before g.stands also)
    | inr at_least ↦
        let same : h.place ≡ g.place = omega arith in
        same_Some e f (sym h.stands ∙ ap (slice_get l.evses) same ∙ g.stands)
  ]
]

module _ (s : State) (at : ℕ) (sender : List ℕ) (n : ℕ) (one_claim : OneClaimEach s.rows) (apart : SiteDiffers s) where
  abbrev Located : List ℕ → Type 0
  Located id = (l : Location) × IsLocation s.site.locations id l

  -- ---- STOP_SESSION

  abbrev Going : StopSession → Decision → Type 0
  Going c d = (v : Session) × stop.IsOwnSession s.rows (key sender) c v × Branch (IsFinal v.status) (Is (decision.Answered response.Rejected)) (Is decision.Opened) d

  abbrev StopIs : StopSession → Decision → Type 0
  StopIs c d = Branch ((v : Session) × stop.IsOwnSession s.rows (key sender) c v) (Going c) (Is (decision.Answered response.UnknownSession)) d

  stop_is : (c : StopSession) (d : Decision) → stop.StopLine s.rows sender c d → StopIs c d
  stop_is c d (stop.UnknownSession none is) = inr (λ f. none f.0 f.1, is)
  stop_is c d (stop.Ended v own final is) = inl ((v, own), (v, own, inl (final, is)))
  stop_is c d (stop.Going v own going is) = inl ((v, own), (v, own, inr (going, is)))

  one_going : (c : StopSession) → AtMostOne (Going c)
  one_going c d e h g =
      let found : Some g.0 ≡ Some h.0 = sym g.1.stands ∙ h.1.stands in
      let same : g.0 ≡ h.0 = cc in
      let there = subst (λ (v : Session). Branch (IsFinal v.status) (Is (decision.Answered response.Rejected)) (Is decision.Opened) e) same g.2 in
      one_branch (one_is (decision.Answered response.Rejected)) (one_is decision.Opened) d e h.2 there

  one_stop : (c : StopSession) → AtMostOne (stop.StopLine s.rows sender c)
  one_stop c d e h g = one_branch (one_going c) (one_is (decision.Answered response.UnknownSession)) d e (stop_is c d h) (stop_is c e g)

  -- ---- CANCEL_RESERVATION

  abbrev CancelIs : CancelReservation → Decision → Type 0
  CancelIs c d = Branch (IsInTime s.rows.booked.marks (cancel.cancelled_key sender c) n)
      (Branch ((r : Reservation) × (get s.rows.booked.reservations (cancel.cancelled_key sender c) ≡ Some r)) (Is (decision.Cancelled (key c.reservation_id))) (Is (decision.Noted (key c.reservation_id) result.UnknownReservation)))
      (Is (decision.Answered response.Rejected)) d

  cancel_is : (c : CancelReservation) (d : Decision) → cancel.CancelLine s.rows sender n c d → CancelIs c d
  cancel_is c d (cancel.Stale late is) = inr (late, is)
  cancel_is c d (cancel.Ended timely r stands is) = inl (timely, inl ((r, stands), is))
  cancel_is c d (cancel.Unknown timely none is) = inl (timely, inr (λ f. not_both f.0 _ none f.1, is))

  one_cancel : (c : CancelReservation) → AtMostOne (cancel.CancelLine s.rows sender n c)
  one_cancel c d e h g = one_branch (one_branch (one_is _) (one_is _)) (one_is _) d e (cancel_is c d h) (cancel_is c e g)

  -- ---- UNLOCK_CONNECTOR

  abbrev AtConnector : UnlockConnector → Type 0
  AtConnector c = (l : Location) × (e : Evse) × (k : Connector) × unlock.IsAtConnector s.site c l e k

  abbrev UnlockIs : UnlockConnector → Decision → Type 0
  UnlockIs c d = Branch (Located c.location_id)
      (Branch (AtConnector c) (Branch (IsForeign s.rows (key sender) (key c.evse_uid)) (Is (decision.Answered response.Rejected)) (Is decision.Opened)) (Is (decision.Answered response.Rejected)))
      (Is (decision.Refused 2003)) d

  unlock_is : (c : UnlockConnector) (d : Decision) → unlock.UnlockLine s.site s.rows sender c d → UnlockIs c d
  unlock_is c d (unlock.UnknownLocation none is) = inr (λ f. none f.0 f.1, is)
  unlock_is c d (unlock.NoPlace l here none is) = inl (
    (l, here),
    inr (
      λ f.
          let same : f.0 ≡ l = one_location s apart c.location_id f.0 l f.3.location here in
          none f.1 f.2 (subst (λ (z : Location). unlock.IsUnlocked z c f.1 f.2) same f.3.place),
      is,
    ),
  )
  unlock_is c d (unlock.Foreign l e k there foreign is) =
      inl ((l, there.location), inl ((l, e, k, there), inl (subst (λ (uid : List ℕ). IsForeign s.rows (key sender) uid) there.place.named foreign, is)))
  unlock_is c d (unlock.Allowed l e k there own is) =
      inl ((l, there.location), inl ((l, e, k, there), inr (λ foreign. own (subst (λ (uid : List ℕ). IsForeign s.rows (key sender) uid) (sym there.place.named) foreign), is)))

  one_unlock : (c : UnlockConnector) → AtMostOne (unlock.UnlockLine s.site s.rows sender c)
  one_unlock c d e h g = one_branch (one_branch (one_branch (one_is _) (one_is _)) (one_is _)) (one_is _) d e (unlock_is c d h) (unlock_is c e g)

  -- ---- START_SESSION

  -- an EVSE in service that a reservation holds for the start, and a connector of it
  record IsHeld (c : StartSession) (l : Location) (e : Evse) (k : Connector) (x : Standing) : Type 0 where
    pub may : start.MayTake s.site s.rows sender c l e k
    pub works : Works s.rows e
    pub held : IsHeldFor s.rows sender c.token l e x

  -- one that is free
  record IsOpen (c : StartSession) (l : Location) (e : Evse) (k : Connector) : Type 0 where
    pub may : start.MayTake s.site s.rows sender c l e k
    pub works : Works s.rows e
    pub free : IsFree s.rows (key e.uid)

  abbrev FindsHeld : StartSession → Type 0
  FindsHeld c = (l : Location) × (e : Evse) × (k : Connector) × (x : Standing) × IsHeld c l e k x

  abbrev FindsOpen : StartSession → Type 0
  FindsOpen c = (l : Location) × (e : Evse) × (k : Connector) × IsOpen c l e k

  abbrev TakesHeld : StartSession → Decision → Type 0
  TakesHeld c d = (f : FindsHeld c) × start.IsLeastHeld s.rows sender c f.0 f.1 × (d ≡ decision.Started (place_of f.1 f.2) (Some f.3.id))

  abbrev TakesOpen : StartSession → Decision → Type 0
  TakesOpen c d = (f : FindsOpen c) × IsFirst f.0 (start.MayStart s.rows c) f.1 × (d ≡ decision.Started (place_of f.1 f.2) None)

  abbrev Serviced : StartSession → Type 0
  Serviced c = (l : Location) × start.IsPlaced s.site sender c l × HasService s.rows l c.evse_uid

  abbrev Reached : StartSession → Type 0
  Reached c = (l : Location) × (e : Evse) × (k : Connector) × start.IsAtPlace s.site sender c l e k

  -- what is done at the EVSEs of the place
  abbrev ThereIs : StartSession → Decision → Type 0
  ThereIs c d = Branch (FindsHeld c) (TakesHeld c) (Branch (FindsOpen c) (TakesOpen c) (Branch (Serviced c) (Is (decision.Resulted result.EvseOccupied)) (Is (decision.Resulted result.EvseInoperative)))) d

  abbrev StartIs : StartSession → Decision → Type 0
  StartIs c d = Branch (start.IsMismatched sender c) (Is (decision.Refused 2001))
      (Branch (Located c.location_id)
      (Branch (Reached c) (Branch (start.IsBarred s.rows.spent (key sender) c) (Is (decision.Answered response.Rejected)) (ThereIs c)) (Is (decision.Answered response.Rejected)))
      (Is (decision.Refused 2003))) d

  same_place : (c : StartSession) (l m : Location) → start.IsPlaced s.site sender c l → start.IsPlaced s.site sender c m → l ≡ m
  same_place c l m h g = one_location s apart c.location_id l m h.location g.location

  there_is : (c : StartSession) (l : Location) (e : Evse) (k : Connector) (d : Decision) → start.MayTake s.site s.rows sender c l e k → ThereIs c d → StartIs c d
  there_is c l e k d may is = inr (may.reached.placed.matched, inl ((l, may.reached.placed.location), inl ((l, e, k, may.reached), inr (may.allowed, is))))

  -- without an EVSE in service nothing is found
  none_serves : (c : StartSession) (l : Location) → start.IsPlaced s.site sender c l → ¬ HasService s.rows l c.evse_uid → (m : Location) (e : Evse) (k : Connector) → start.MayTake s.site s.rows sender c m e k → Works s.rows e → ⊥
  none_serves c l placed out m e k may works =
      let same : m ≡ l = same_place c m l may.reached.placed placed in
      out (e, subst (λ (z : Location). IsEvseFor z c.evse_uid e) same (record { listed = may.reached.place.listed; named = may.reached.place.named }), works)

  place_at : (c : StartSession) (l m : Location) (e : Evse) (k : Connector) → start.IsPlaced s.site sender c l → start.MayTake s.site s.rows sender c m e k → start.IsPlace l c e k
  place_at c l m e k placed may = subst (λ (z : Location). start.IsPlace z c e k) (same_place c m l may.reached.placed placed) may.reached.place

  no_held : (c : StartSession) (l : Location) → start.IsPlaced s.site sender c l → start.NoneHeld s.rows sender c l → FindsHeld c → ⊥
  no_held c l placed none f =
      let same : f.0 ≡ l = same_place c f.0 l f.4.may.reached.placed placed in
      none f.1 f.2 f.3 (place_at c l f.0 f.1 f.2 placed f.4.may) f.4.works (subst (λ (z : Location). IsHeldFor s.rows sender c.token z f.1 f.3) same f.4.held)

  start_is : (c : StartSession) (d : Decision) → start.StartLine s.site s.rows sender c d → StartIs c d
  start_is c d (start.Mismatched wrong is) = inl (wrong, is)
  start_is c d (start.UnknownLocation right none is) = inr (right, inr (λ f. none f.0 f.1, is))
  start_is c d (start.NoPlace l placed none is) = inr (
    placed.matched,
    inl (
      (l, placed.location),
      inr (
        λ f.
            let same : f.0 ≡ l = same_place c f.0 l f.3.placed placed in
            none f.1 f.2 (subst (λ (z : Location). start.IsPlace z c f.1 f.2) same f.3.place),
        is,
      ),
    ),
  )
  start_is c d (start.Barred l e k placed barred is) = inr (placed.placed.matched, inl ((l, placed.placed.location), inl ((l, e, k, placed), inl (barred, is))))
  start_is c d (start.Inoperative l e k may out is) =
      let placed = may.reached.placed in
      there_is c l e k d may (inr (
        λ f. none_serves c l placed out f.0 f.1 f.2 f.4.may f.4.works,
        inr (
          λ f. none_serves c l placed out f.0 f.1 f.2 f.3.may f.3.works,
          inr (λ f. out (subst (λ (z : Location). HasService s.rows z c.evse_uid) (same_place c f.0 l f.1 placed) f.2), is),
        ),
      ))
  start_is c d (start.Occupied l e k may none is) =
      let placed = may.reached.placed in
      there_is c l e k d may (inr (
        no_held c l placed none.none_held,
        inr (λ f. none.none_free f.1 f.2 (place_at c l f.0 f.1 f.2 placed f.3.may) f.3.works f.3.free, inl ((l, placed, none.service), is)),
      ))
  start_is c d (start.Held l e k may works x held least is) =
      let found : FindsHeld c = (l, e, k, x, record { may = may; works = works; held = held }) in
      there_is c l e k d may (inl (found, (found, least, is)))
  start_is c d (start.Free l e k may works none free first is) =
      let found : FindsOpen c = (l, e, k, record { may = may; works = works; free = free }) in
      there_is c l e k d may (inr (no_held c l may.reached.placed none, inl (found, (found, first, is))))

  -- a connector of an EVSE that a start takes is one
  one_start_connector : (c : StartSession) (l m : Location) (e f : Evse) (j k : Connector) → start.MayTake s.site s.rows sender c l e j → start.MayTake s.site s.rows sender c m f k → e ≡ f → j ≡ k
  one_start_connector c l m e f j k h g same =
      let first : start.IsPlace m c f j = subst (λ (z : Evse). start.IsPlace m c z j) same (place_at c m l e j g.reached.placed h) in
      one_chosen s apart c.connector_id m f j k g.reached.placed.location.listed g.reached.place.listed first.chosen g.reached.place.chosen

  one_held : (c : StartSession) → AtMostOne (TakesHeld c)
  one_held c d e h g =
      let a = h.0 in
      let b = g.0 in
      let placed = b.4.may.reached.placed in
      let same : a.0 ≡ b.0 = same_place c a.0 b.0 a.4.may.reached.placed placed in
      let place = place_at c b.0 a.0 a.1 a.2 placed a.4.may in
      let held : IsHeldFor s.rows sender c.token b.0 a.1 a.3 = subst (λ (z : Location). IsHeldFor s.rows sender c.token z a.1 a.3) same a.4.held in
      let least : start.IsLeastHeld s.rows sender c b.0 a.1 = subst (λ (z : Location). start.IsLeastHeld s.rows sender c z a.1) same h.1 in
      let keys : key a.1.uid ≡ key b.1.uid = same_least (key a.1.uid) (key b.1.uid) (least b.1 b.2 b.3 b.4.may.reached.place b.4.works b.4.held) (g.1 a.1 a.2 a.3 place a.4.works held) in
      let evses : a.1 ≡ b.1 = one_of_uid s apart b.0 a.1 b.1 placed.location.listed place.listed b.4.may.reached.place.listed keys in
      let connectors : a.2 ≡ b.2 = one_start_connector c a.0 b.0 a.1 b.1 a.2 b.2 a.4.may b.4.may evses in
      let here : key b.3.reservation.evse_uid ≡ key a.1.uid = b.4.held.here ∙ sym keys in
      let first : Claim = Reserved a.3.provider a.3.id in
      let second : Claim = Reserved b.3.provider b.3.id in
      let claims : first ≡ second = one_claim (key a.1.uid) first second (a.3.reservation, a.4.held.is_for.stands, a.4.held.here) (b.3.reservation, b.4.held.is_for.stands, here) in
      let ids : a.3.id ≡ b.3.id = cc in
      h.2 ∙ (λ i. decision.Started (place_of (evses i) (connectors i)) (Some (ids i))) ∙ sym g.2

  may_start : (c : StartSession) (f : FindsOpen c) → start.MayStart s.rows c f.1
  may_start c f = record { named = f.3.may.reached.place.named; works = f.3.works; free = f.3.free }

  one_open : (c : StartSession) → AtMostOne (TakesOpen c)
  one_open c d e h g =
      let a = h.0 in
      let b = g.0 in
      let same : a.0 ≡ b.0 = same_place c a.0 b.0 a.3.may.reached.placed b.3.may.reached.placed in
      let first : IsFirst b.0 (start.MayStart s.rows c) a.1 = subst (λ (z : Location). IsFirst z (start.MayStart s.rows c) a.1) same h.1 in
      let evses : a.1 ≡ b.1 = one_first b.0 (start.MayStart s.rows c) a.1 b.1 (may_start c a) (may_start c b) first g.1 in
      let connectors : a.2 ≡ b.2 = one_start_connector c a.0 b.0 a.1 b.1 a.2 b.2 a.3.may b.3.may evses in
      h.2 ∙ (λ i. decision.Started (place_of (evses i) (connectors i)) None) ∙ sym g.2

  one_start : (c : StartSession) → AtMostOne (start.StartLine s.site s.rows sender c)
  one_start c d e h g =
      one_branch (one_is _) (one_branch (one_branch (one_branch (one_is _) (one_branch (one_held c) (one_branch (one_open c) (one_branch (one_is _) (one_is _))))) (one_is _)) (one_is _)) d e
      (start_is c d h) (start_is c e g)

  -- ---- RESERVE_NOW

  record IsReserved (c : ReserveNow) (l : Location) (e : Evse) : Type 0 where
    pub may : reserve.MayHold s.site s.rows at sender n c l e
    pub reservable : reserve.IsReservable s.rows (key sender) c l e

  abbrev FindsReserved : ReserveNow → Type 0
  FindsReserved c = (l : Location) × (e : Evse) × IsReserved c l e

  abbrev Holds : ReserveNow → Decision → Type 0
  Holds c d = (f : FindsReserved c) × reserve.IsTaken s.rows (key sender) c f.0 f.1 × (d ≡ decision.Reserved (key c.reservation_id) (reserve.reservation_at c f.0 f.1))

  abbrev ReserveServiced : ReserveNow → Type 0
  ReserveServiced c = (l : Location) × reserve.IsPlaced s.site sender c l × HasService s.rows l c.evse_uid

  abbrev AtEvse : ReserveNow → Type 0
  AtEvse c = (l : Location) × (e : Evse) × reserve.IsAtEvse s.site sender c l e

  abbrev HereIs : ReserveNow → Type 0
  HereIs c = (l : Location) × reserve.IsPlaced s.site sender c l × IsHere s.rows.booked.reservations (reserve.reservation_key sender c) (key l.id)

  abbrev HoldIs : ReserveNow → Decision → Type 0
  HoldIs c d = Branch (FindsReserved c) (Holds c) (Branch (ReserveServiced c) (Is (decision.Noted (key c.reservation_id) result.EvseOccupied)) (Is (decision.Noted (key c.reservation_id) result.EvseInoperative))) d

  abbrev SoundIs : ReserveNow → Decision → Type 0
  SoundIs c d = Branch (reserve.IsVoid at c) (Is (decision.Answered response.Rejected))
      (Branch (IsInTime s.rows.booked.marks (reserve.reservation_key sender c) n)
      (Branch (HereIs c) (HoldIs c) (Is (decision.Answered response.Rejected)))
      (Is (decision.Answered response.Rejected))) d

  abbrev ReserveIs : ReserveNow → Decision → Type 0
  ReserveIs c d = Branch (key c.token.party ≡ key sender)
      (Branch (Located c.location_id) (Branch (AtEvse c) (SoundIs c) (Is (decision.Answered response.Rejected))) (Is (decision.Refused 2003)))
      (Is (decision.Refused 2001)) d

  same_location : (c : ReserveNow) (l m : Location) → reserve.IsPlaced s.site sender c l → reserve.IsPlaced s.site sender c m → l ≡ m
  same_location c l m h g = one_location s apart c.location_id l m h.location g.location

  at_evse : (c : ReserveNow) (l : Location) (e : Evse) (d : Decision) → reserve.IsAtEvse s.site sender c l e → SoundIs c d → ReserveIs c d
  at_evse c l e d there is = inl (there.placed.own, inl ((l, there.placed.location), inl ((l, e, there), is)))

  hold_is : (c : ReserveNow) (l : Location) (e : Evse) (d : Decision) → reserve.MayHold s.site s.rows at sender n c l e → HoldIs c d → ReserveIs c d
  hold_is c l e d may is =
      let reached = may.timely.asked.reached in
      at_evse c l e d reached (inr (may.timely.asked.sound, inl (may.timely.in_time, inl ((l, reached.placed, may.here), is))))

  reserved_at : (c : ReserveNow) (l : Location) → reserve.IsPlaced s.site sender c l → (f : FindsReserved c) → reserve.IsReservable s.rows (key sender) c l f.1
  reserved_at c l placed f = subst (λ (z : Location). reserve.IsReservable s.rows (key sender) c z f.1) (same_location c f.0 l f.2.may.timely.asked.reached.placed placed) f.2.reservable

  reserve_is : (c : ReserveNow) (d : Decision) → reserve.ReserveLine s.site s.rows at sender n c d → ReserveIs c d
  reserve_is c d (reserve.Mismatched wrong is) = inr (wrong, is)
  reserve_is c d (reserve.UnknownLocation own none is) = inl (own, inr (λ f. none f.0 f.1, is))
  reserve_is c d (reserve.NoEvse l placed none is) = inl (
    placed.own,
    inl (
      (l, placed.location),
      inr (
        λ f. none f.1 (subst (λ (z : Location). IsEvseFor z c.evse_uid f.1) (same_location c f.0 l f.2.placed placed) f.2.place),
        is,
      ),
    ),
  )
  reserve_is c d (reserve.Void l e there void is) = at_evse c l e d there (inl (void, is))
  reserve_is c d (reserve.Stale l e asked late is) = at_evse c l e d asked.reached (inr (asked.sound, inr (late, is)))
  reserve_is c d (reserve.Elsewhere l e timely elsewhere is) = at_evse c l e d timely.asked.reached (inr (
    timely.asked.sound,
    inl (
      timely.in_time,
      inr (
        λ f.
            let same : f.0 ≡ l = same_location c f.0 l f.1 timely.asked.reached.placed in
            elsewhere (subst (λ (z : Location). IsHere s.rows.booked.reservations (reserve.reservation_key sender c) (key z.id)) same f.2),
        is,
      ),
    ),
  ))
  reserve_is c d (reserve.Inoperative l e may out is) =
      let placed = may.timely.asked.reached.placed in
      hold_is c l e d may (inr (
        λ f. let there = reserved_at c l placed f in out (f.1, there.place, there.works),
        inr (λ f. out (subst (λ (z : Location). HasService s.rows z c.evse_uid) (same_location c f.0 l f.1 placed) f.2), is),
      ))
  reserve_is c d (reserve.Occupied l e may works none is) =
      let reached = may.timely.asked.reached in
      hold_is c l e d may (inr (λ f. none f.1 (reserved_at c l reached.placed f), inl ((l, reached.placed, (e, reached.place, works)), is)))
  reserve_is c d (reserve.Held l e may free taken is) =
      let found : FindsReserved c = (l, e, record { may = may; reservable = free }) in
      hold_is c l e d may (inl (found, (found, taken, is)))

  -- the EVSE that is taken at a location is one: a reservation is on one EVSE
  one_taken : (c : ReserveNow) (l : Location) (e f : Evse) → Contains s.site.locations l → reserve.IsReservable s.rows (key sender) c l e → reserve.IsReservable s.rows (key sender) c l f →
      reserve.IsTaken s.rows (key sender) c l e → reserve.IsTaken s.rows (key sender) c l f → e ≡ f
  one_taken c l e f listed may also (reserve.Own own) (reserve.Own other) =
      let found : Some own.own.0 ≡ Some other.own.0 = sym own.own.1 ∙ other.own.1 in
      let same : own.own.0 ≡ other.own.0 = cc in
      one_of_uid s apart l e f listed may.place.listed also.place.listed (sym own.own.2 ∙ ap (λ (r : Reservation). key r.evse_uid) same ∙ other.own.2)
  one_taken c l e f listed may also (reserve.Own own) (reserve.First none first) = absurd (none e own)
  one_taken c l e f listed may also (reserve.First none first) (reserve.Own own) = absurd (none f own)
  one_taken c l e f listed may also (reserve.First none first) (reserve.First also_none second) = one_first l (reserve.IsReservable s.rows (key sender) c l) e f may also first second

  one_hold : (c : ReserveNow) → AtMostOne (Holds c)
  one_hold c d e h g =
      let a = h.0 in
      let b = g.0 in
      let placed = b.2.may.timely.asked.reached.placed in
      let same : a.0 ≡ b.0 = same_location c a.0 b.0 a.2.may.timely.asked.reached.placed placed in
      let taken : reserve.IsTaken s.rows (key sender) c b.0 a.1 = subst (λ (z : Location). reserve.IsTaken s.rows (key sender) c z a.1) same h.1 in
      let evses : a.1 ≡ b.1 = one_taken c b.0 a.1 b.1 placed.location.listed (reserved_at c b.0 placed a) b.2.reservable taken g.1 in
      h.2 ∙ (λ i. decision.Reserved (key c.reservation_id) (reserve.reservation_at c (same i) (evses i))) ∙ sym g.2

  one_reserve : (c : ReserveNow) → AtMostOne (reserve.ReserveLine s.site s.rows at sender n c)
  one_reserve c d e h g =
      one_branch (one_branch (one_branch (one_branch (one_is _) (one_branch (one_branch (one_branch (one_hold c) (one_branch (one_is _) (one_is _))) (one_is _)) (one_is _))) (one_is _)) (one_is _)) (one_is _) d e
      (reserve_is c d h) (reserve_is c e g)

  -- ---- any command

  pub one_decision : (c : Command) → AtMostOne (Decides s.site s.rows at sender n c)
  one_decision (command.StartSession c) d e h g = one_start c d e h g
  one_decision (command.StopSession c) d e h g = one_stop c d e h g
  one_decision (command.ReserveNow c) d e h g = one_reserve c d e h g
  one_decision (command.CancelReservation c) d e h g = one_cancel c d e h g
  one_decision (command.UnlockConnector c) d e h g = one_unlock c d e h g

pub commands_have_one_decision : CommandsHaveOneDecision
commands_have_one_decision s at sender n c d e sound apart h g = one_decision s at sender n sound.sound.one_claim apart c d e h g
