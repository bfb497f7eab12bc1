-- What each line of a table tells, whatever line it is.
use Rattle.std.proofs.Common.{◌≡◌, ◌<◌, ◌≤◌, inl, inr, ℕ, Bool, true, false, List, refl, sym, subst, ◌∙◌, arith}
use Rattle.std.specs.Prelude.{◌≢◌, Contains, Option, Some, None}
use Rattle.std.specs.FinMap.{get}
use Rattle.std.specs.Str.{bytes_eq}
use Rattle.std.proofs.lemmas.Slice.Eq.{bytes_eq-Decides}
use Rattle.ocpi_text.specs.Text.{key}
use Rattle.ocpi_types.specs.declared.site.Location.{Location}
use Rattle.ocpi_types.specs.declared.site.Evse.{Evse}
use Rattle.ocpi_types.specs.declared.site.Connector.{Connector}
use Rattle.ocpi_types.specs.declared.commands.StartSession.{StartSession}
use Rattle.ocpi_types.specs.declared.commands.StopSession.{StopSession}
use Rattle.ocpi_types.specs.declared.commands.ReserveNow.{ReserveNow}
use Rattle.ocpi_types.specs.declared.commands.CancelReservation.{CancelReservation}
use Rattle.ocpi_types.specs.declared.commands.UnlockConnector.{UnlockConnector}
use Rattle.ocpi_types.specs.declared.commands.Command.{Command}
use Rattle.ocpi_types.specs.declared.commands.Command.TheVariants as command
use Rattle.reservation_book.specs.Refusals.{IsInTime}
use Rattle.reservation_book.specs.declared.standing.Standing.{Standing}
use Rattle.site_book.specs.Sites.{IsChosen, IsEvseOf}
use Rattle.site_book.proofs.Apart.{contained}
use Rattle.operator_rows.specs.State.{State}
use Rattle.operator_tables.specs.declared.decision.Decision.{Decision}
use Rattle.operator_tables.specs.Places.{IsHeldFor, Works, place_of}
use Rattle.operator_tables.specs.Start as start
use Rattle.operator_tables.specs.Stop as stop
use Rattle.operator_tables.specs.Reserve as reserve
use Rattle.operator_tables.specs.Cancel as cancel
use Rattle.operator_tables.specs.Unlock as unlock
use Rattle.operator_tables.specs.Decides.{Decides}
use Rattle.operator_tables.specs.Outcomes.{HoldsFor, IsOpenTo, Reserves, Starts, Tells}

is_valid : (b : Bool) → (b ≡ false → ⊥) → b ≡ true
is_valid true h = refl
is_valid false h = absurd (h refl)

later : (a b : ℕ) → (a ≤ b → ⊥) → b < a
later a b h = omega (arith, h)

-- texts that do not differ are the same
same_text : (a b : List ℕ) → (a ≢ b → ⊥) → a ≡ b
same_text a b h = go (bytes_eq a b) (bytes_eq-Decides a b).0 (bytes_eq-Decides a b).1
  where
    go : (t : Bool) → (t ≡ true → a ≡ b) → (a ≡ b → t ≡ true) → a ≡ b
    go true yes_same _ = yes_same refl
    go false _ is_true = absurd (h (λ e. let f : false ≡ true = is_true e in cc))

-- the connector that is chosen is of the EVSE
chosen_in : (o : Option (List ℕ)) (ks : List Connector) (k : Connector) → IsChosen o ks k → Contains ks k
chosen_in None ks k h = contained ks 0 k h
chosen_in (Some name) ks k h = h.0

-- what a decision tells is told of an equal one
told : (s : State) (at : ℕ) (sender : List ℕ) (n : ℕ) (c : Command) (d e : Decision) → d ≡ e → Tells s at sender n c e → Tells s at sender n c d
told s at sender n c d e same h = subst (Tells s at sender n c) (sym same) h

-- a start takes the place of a line, whichever it is
module _ (s : State) (sender : List ℕ) (c : StartSession) (l : Location) (e : Evse) (k : Connector) (may : start.MayTake s.site s.rows sender c l e k) (serves : Works s.rows e) where
  of_site : IsEvseOf s.site.locations (key e.uid) l e
  of_site = record { listed = may.reached.placed.location.listed; within = may.reached.place.listed; same = refl }

  starts : (used : Option (List ℕ)) → IsOpenTo s.rows (key sender) used (key e.uid) c → Starts s sender (command.StartSession c) (place_of e k) used
  starts used free = record {
    start = c;
    command_is = refl;
    own = same_text _ _ (λ other. may.reached.placed.matched (inl other));
    valid = is_valid c.token.valid (λ void. may.allowed (inl void));
    unspent = λ spent. may.allowed (inr spent);
    of_site = record {
      of_location = l;
      of_evse = e;
      of_site = of_site;
      its_connector = k;
      listed = chosen_in c.connector_id e.connectors k may.reached.place.chosen;
      same = refl;
    };
    at_location = record { of_location = l; of_evse = e; of_site = of_site; same = may.reached.placed.location.same };
    named = may.reached.place.named;
    in_service = serves;
    available = free;
  }

  -- a reservation that holds the place for the token
  holds : (x : Standing) → IsHeldFor s.rows sender c.token l e x → HoldsFor s.rows (key sender) x.id (key e.uid) c
  holds x h = record {
    reservation = x.reservation;
    stands = subst (λ p. get s.rows.booked.reservations (p, x.id) ≡ Some x.reservation) h.is_for.provider_is h.is_for.stands;
    here = h.here;
    location_is = h.is_for.location_is ∙ may.reached.placed.location.same;
    token_is = h.is_for.token_is;
  }

-- a reservation is made as a line says
module _ (s : State) (at : ℕ) (sender : List ℕ) (n : ℕ) (c : ReserveNow) (l : Location) (e : Evse) (may : reserve.MayHold s.site s.rows at sender n c l e) where
  reserves : reserve.IsReservable s.rows (key sender) c l e → Reserves s at sender n (command.ReserveNow c) (key c.reservation_id) (reserve.reservation_at c l e)
  reserves free =
      let asked = may.timely.asked in
      let placed = asked.reached.placed in
      record {
        reserve = c;
        command_is = refl;
        id_is = refl;
        in_time = may.timely.in_time;
        here = may.here;
        may = free.may;
        of_site = record {
          of_location = l;
          of_evse = e;
          of_site = record { listed = placed.location.listed; within = free.place.listed; same = refl };
          same = refl;
        };
        in_service = free.works;
        asked = record { location_is = placed.location.same; evse_is = free.place.named; expiry_is = refl; token_is = refl };
        own = placed.own;
        valid = is_valid c.token.valid (λ void. asked.sound (inl void));
        lasts = later c.expiry_date at (λ over. asked.sound (inr over));
      }

module _ (s : State) (at : ℕ) (sender : List ℕ) (n : ℕ) where
  -- what a START_SESSION is decided to be
  pub start_tells : (c : StartSession) (d : Decision) → start.StartLine s.site s.rows sender c d → Tells s at sender n (command.StartSession c) d
  start_tells c d (start.Mismatched a e) = told s at sender n _ d _ e (record { status_is = inl refl; no_cancel = λ x f. absurd (cc) })
  start_tells c d (start.UnknownLocation a b e) = told s at sender n _ d _ e (record { status_is = inr refl; no_cancel = λ x f. absurd (cc) })
  start_tells c d (start.NoPlace l a b e) = told s at sender n _ d _ e (record { not_accepted = λ f. cc; stale = λ x f. absurd (cc) })
  start_tells c d (start.Barred l v k a b e) = told s at sender n _ d _ e (record { not_accepted = λ f. cc; stale = λ x f. absurd (cc) })
  start_tells c d (start.Inoperative l v k a b e) = told s at sender n _ d _ e (record { start = c; command_is = refl; not_accepted = λ f. cc })
  start_tells c d (start.Occupied l v k a b e) = told s at sender n _ d _ e (record { start = c; command_is = refl; not_accepted = λ f. cc })
  start_tells c d (start.Held l v k a b x h _ e) = told s at sender n _ d _ e (starts s sender c l v k a b (Some x.id) (holds s sender c l v k a b x h))
  start_tells c d (start.Free l v k a b g h _ e) = told s at sender n _ d _ e (starts s sender c l v k a b None h)

  -- what a STOP_SESSION is decided to be
  pub stop_tells : (c : StopSession) (d : Decision) → stop.StopLine s.rows sender c d → Tells s at sender n (command.StopSession c) d
  stop_tells c d (stop.UnknownSession a e) = told s at sender n _ d _ e (record { not_accepted = λ f. cc; stale = λ x f. absurd (cc) })
  stop_tells c d (stop.Ended v a b e) = told s at sender n _ d _ e (record { not_accepted = λ f. cc; stale = λ x f. absurd (cc) })
  stop_tells c d (stop.Going v a b e) = told s at sender n _ d _ e (record { kind = inr (record { stop = c; command_is = refl; session = v; own = a; going = b }); no_start = λ x. x })

  -- what a RESERVE_NOW is decided to be
  pub reserve_tells : (c : ReserveNow) (d : Decision) → reserve.ReserveLine s.site s.rows at sender n c d → Tells s at sender n (command.ReserveNow c) d
  reserve_tells c d (reserve.Mismatched a e) = told s at sender n _ d _ e (record { status_is = inl refl; no_cancel = λ x f. absurd (cc) })
  reserve_tells c d (reserve.UnknownLocation a b e) = told s at sender n _ d _ e (record { status_is = inr refl; no_cancel = λ x f. absurd (cc) })
  reserve_tells c d (reserve.NoEvse l a b e) = told s at sender n _ d _ e (record { not_accepted = λ f. cc; stale = λ x f. absurd (cc) })
  reserve_tells c d (reserve.Void l v a b e) = told s at sender n _ d _ e (record { not_accepted = λ f. cc; stale = λ x f. absurd (cc) })
  reserve_tells c d (reserve.Stale l v a b e) = told s at sender n _ d _ e (record { not_accepted = λ f. cc; stale = λ x f. absurd (cc) })
  reserve_tells c d (reserve.Elsewhere l v a b e) = told s at sender n _ d _ e (record { not_accepted = λ f. cc; stale = λ x f. absurd (cc) })
  reserve_tells c d (reserve.Inoperative l v a b e) = told s at sender n _ d _ e (record { about = refl; in_time = a.timely.in_time; not_accepted = λ f. cc })
  reserve_tells c d (reserve.Occupied l v a b g e) = told s at sender n _ d _ e (record { about = refl; in_time = a.timely.in_time; not_accepted = λ f. cc })
  reserve_tells c d (reserve.Held l v a b _ e) = told s at sender n _ d _ e (reserves s at sender n c l v a b)

  -- what a CANCEL_RESERVATION is decided to be
  pub cancel_tells : (c : CancelReservation) (d : Decision) → cancel.CancelLine s.rows sender n c d → Tells s at sender n (command.CancelReservation c) d
  cancel_tells c d (cancel.Stale a e) = told s at sender n _ d _ e (record {
    not_accepted = λ f. cc;
    stale = λ x f. let same : c ≡ x = cc in subst (λ (z : CancelReservation). ¬ IsInTime s.rows.booked.marks (key sender, key z.reservation_id) n) same a;
  })
  cancel_tells c d (cancel.Ended a r b e) = told s at sender n _ d _ e (record { cancel = c; command_is = refl; id_is = refl; in_time = a; reservation = r; stands = b })
  cancel_tells c d (cancel.Unknown a b e) = told s at sender n _ d _ e (record { about = refl; in_time = a; not_accepted = λ f. cc })

  -- what an UNLOCK_CONNECTOR is decided to be
  pub unlock_tells : (c : UnlockConnector) (d : Decision) → unlock.UnlockLine s.site s.rows sender c d → Tells s at sender n (command.UnlockConnector c) d
  unlock_tells c d (unlock.UnknownLocation a e) = told s at sender n _ d _ e (record { status_is = inr refl; no_cancel = λ x f. absurd (cc) })
  unlock_tells c d (unlock.NoPlace l a b e) = told s at sender n _ d _ e (record { not_accepted = λ f. cc; stale = λ x f. absurd (cc) })
  unlock_tells c d (unlock.Foreign l v k a b e) = told s at sender n _ d _ e (record { not_accepted = λ f. cc; stale = λ x f. absurd (cc) })
  unlock_tells c d (unlock.Allowed l v k a b e) = told s at sender n _ d _ e (record { kind = inl (record { unlock = c; command_is = refl }); no_start = λ x. x })

  -- what any command is decided to be
  pub all_tell : (c : Command) (d : Decision) → Decides s.site s.rows at sender n c d → Tells s at sender n c d
  all_tell (command.StartSession c) d h = start_tells c d h
  all_tell (command.StopSession c) d h = stop_tells c d h
  all_tell (command.ReserveNow c) d h = reserve_tells c d h
  all_tell (command.CancelReservation c) d h = cancel_tells c d h
  all_tell (command.UnlockConnector c) d h = unlock_tells c d h
