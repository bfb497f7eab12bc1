-- A start uses a reservation of its provider where one is for it.
use Rattle.std.proofs.Common.{◌≡◌, ◌+◌, ◌++◌, ℕ, not, List, [], ◌∷◌, inl, inr, refl, sym, ap, subst, ◌∙◌}
use Rattle.std.specs.Prelude.{Option, Some, None, Contains, is_some}
use Rattle.std.specs.FinMap.{get}
use Rattle.std.proofs.lemmas.List.Elements.{Contains-append_right}
use Rattle.tables.proofs.Elements.{in_front, in_none, in_single}
use Rattle.ocpi_text.specs.Text.{key}
use Rattle.ocpi_types.specs.Commands.{reference_of, url_of}
use Rattle.ocpi_types.specs.Locations.{AreLocations}
use Rattle.ocpi_types.specs.declared.commands.Command.{Command}
use Rattle.ocpi_types.specs.declared.commands.Command.TheVariants as command
use Rattle.ocpi_types.specs.declared.commands.StartSession.{StartSession}
use Rattle.ocpi_types.specs.declared.packet.Body.TheVariants as body
use Rattle.ocpi_types.specs.declared.packet.Packet.{Packet}
use Rattle.ocpi_types.specs.declared.rows.Change.{Change}
use Rattle.ocpi_types.specs.declared.rows.Change.TheVariants.{Drop, Put}
use Rattle.ocpi_types.specs.declared.rows.Place.{Place}
use Rattle.ocpi_types.specs.declared.rows.Row.TheVariants as row
use Rattle.ocpi_types.specs.declared.rows.RowKey.TheVariants as keys
use Rattle.ocpi_types.specs.declared.site.Evse.{Evse}
use Rattle.ocpi_types.specs.declared.site.Location.{Location}
use Rattle.ocpi_types.specs.declared.stored.OpenCommand.{OpenCommand}
use Rattle.ocpi_types.specs.declared.stored.Push.{Push}
use Rattle.ocpi_types.specs.declared.stored.Push.TheVariants as push
use Rattle.ocpi_types.specs.declared.stored.Reply.{Reply}
use Rattle.ocpi_types.specs.declared.words.CommandResultType.{CommandResultType}
use Rattle.reservation_book.specs.declared.standing.Standing.{Standing}
use Rattle.site_book.specs.Sites.{IsLocation}
use Rattle.command_book.specs.Stored as book
use Rattle.node_steps.specs.Acts.{Act, all_changes}
use Rattle.operator_rows.specs.State.{State}
use Rattle.operator_tables.specs.Decides.{Decides}
use Rattle.operator_tables.specs.Places.{IsHeldFor, Works, place_of}
use Rattle.operator_tables.specs.Start as start
use Rattle.operator_tables.specs.declared.decision.Decision.{Decision}
use Rattle.operator_tables.specs.declared.decision.Decision.TheVariants as decision
use Rattle.operator_steps.specs.Acts.{deadline, decided_acts, opened, reply_of, spent, told, used}
use Rattle.operator_steps.specs.Events.{Arrives}
use Rattle.operator_steps.proofs.Orderly.{of_cons}
use Rattle.operator_laws.proofs.events.Caused.{in_parts}
use Rattle.operator_laws.proofs.events.Causes.{DecidesIt, Opening}
use Rattle.operator_laws.proofs.events.Doing.{Does, does, put_by}
use Rattle.refusal_laws.proofs.Located.{one_location}
use Rattle.table_laws.specs.Holding.{HasReserved, IsReservedFor, ReservationsAreUsed, UsesReservation}
use Rattle.table_laws.proofs.UnlockPlaces.{answered_alone, refused_alone}

-- ---- what a start that is opened puts

module _ (p q : List ℕ) (n m : ℕ) (o : OpenCommand) where
  abbrev opens : Change
  opens = Put (row.Pending q m o)

  used_none : (id : Option (List ℕ)) → Contains (all_changes (used p id)) opens → ⊥
  used_none None i = in_none opens i
  used_none (Some id) i = let same : Drop (keys.Reservation p id) ≡ opens = in_single _ _ i in cc

  spent_none : (reference : Option (List ℕ)) → Contains (all_changes (spent p reference)) opens → ⊥
  spent_none None i = in_none opens i
  spent_none (Some reference) i = let same : Put (row.Spent p (key reference)) ≡ opens = in_single _ _ i in cc

  -- it is the start, at the place that was decided
  module _ (at last : ℕ) (to : List ℕ) (c : Command) where
    started_is : (place : Place) (id : Option (List ℕ)) → Contains (all_changes (decided_acts at last to p n c (decision.Started place id))) opens → o ≡ book.open_command c (Some place) (deadline at)
    started_is place id i =
        let own = used p id ++ (opened p n (book.open_command c (Some place) (deadline at)) ∷ spent p (reference_of c)) in
        elim (of_cons (Put (row.Reply p n (reply_of at (decision.Started place id)))) (all_changes (own ++ [])) opens i) [
          | inl same ↦ absurd (cc)
          | inr j ↦ elim (in_parts own [] opens j) [
            | inr k ↦ absurd (in_none opens k)
            | inl k ↦ elim (in_parts (used p id) (opened p n (book.open_command c (Some place) (deadline at)) ∷ spent p (reference_of c)) opens k) [
              | inl l ↦ absurd (used_none id l)
              | inr l ↦ elim (of_cons (Put (row.Pending p n (book.open_command c (Some place) (deadline at)))) (all_changes (spent p (reference_of c))) opens l) [
                | inl same ↦ (let rows : row.Pending p n (book.open_command c (Some place) (deadline at)) ≡ row.Pending q m o = cc in cc)
                | inr h ↦ absurd (spent_none (reference_of c) h)
              ]
            ]
          ]
        ]

    -- a start that has a result at once is not opened
    three_alone : (r : Reply) (y : Push) (x : CommandResultType) → Contains (Put (row.Reply p n r) ∷ (Put (row.Push (last + 1) to y) ∷ (Put (row.Result p n x) ∷ []))) opens → ⊥
    three_alone r y x i = elim (of_cons (Put (row.Reply p n r)) (Put (row.Push (last + 1) to y) ∷ (Put (row.Result p n x) ∷ [])) opens i) [
      | inl same ↦ (let bad : Put (row.Reply p n r) ≡ opens = same in cc)
      | inr j ↦ elim (of_cons (Put (row.Push (last + 1) to y)) (Put (row.Result p n x) ∷ []) opens j) [
        | inl same ↦ (let bad : Put (row.Push (last + 1) to y) ≡ opens = same in cc)
        | inr k ↦ (let bad : Put (row.Result p n x) ≡ opens = in_single (Put (row.Result p n x)) opens k in cc)
      ]
    ]

    resulted_alone : (d : Decision) (x : CommandResultType) → d ≡ decision.Resulted x → Contains (all_changes (decided_acts at last to p n c d)) opens → ⊥
    resulted_alone d x is i =
        three_alone (reply_of at (decision.Resulted x)) (push.CommandResult (told (url_of c) x)) x (subst (λ (z : Decision). Contains (all_changes (decided_acts at last to p n c z)) opens) is i)

    -- and the reservation that it uses ends
    pub ends_used : (place : Place) (id : List ℕ) → Contains (all_changes (decided_acts at last to p n c (decision.Started place (Some id)))) (Drop (keys.Reservation p id))
    ends_used place id =
        let rest = all_changes (opened p n (book.open_command c (Some place) (deadline at)) ∷ (spent p (reference_of c) ++ [])) in
        Contains-append_right (Put (row.Reply p n (reply_of at (decision.Started place (Some id)))) ∷ []) (Drop (keys.Reservation p id) ∷ rest) (Drop (keys.Reservation p id)) (in_front (Drop (keys.Reservation p id)) rest)

pub works : (s : State) (e : Evse) → get s.rows.out_of_service (key e.uid) ≡ None → Works s.rows e
works s e is = ap (λ (o : Option (Unit {0})). not (is_some o)) is

module _ (s : State) (sender : List ℕ) (c : StartSession) (are : AreLocations s.site.locations) (h : HasReserved s (key sender) c) where
  pub its_location : IsLocation s.site.locations c.location_id h.location
  its_location = record { listed = h.listed; same = h.location_is }

  -- the reservation, as it stands
  abbrev standing : Standing
  standing = record { provider = key sender; id = h.id; reservation = h.reserved.reservation }

  held : (l : Location) → l ≡ h.location → IsHeldFor s.rows sender c.token l h.evse standing
  held l same = record {
    is_for = record {
      stands = h.reserved.stands;
      provider_is = refl;
      location_is = h.reserved.location_is ∙ sym h.location_is ∙ ap (λ (z : Location). key z.id) (sym same);
      token_is = h.reserved.token_is;
    };
    here = h.reserved.here;
  }

  -- so no free EVSE is taken
  pub not_free : (l : Location) → IsLocation s.site.locations c.location_id l → start.NoneHeld s.rows sender c l → ⊥
  not_free l at none =
      let same : l ≡ h.location = one_location s.site.locations c.location_id l h.location are at its_location in
      none h.evse h.connector standing (subst (λ (z : Location). start.IsPlace z c h.evse h.connector) (sym same) h.fits) (works s h.evse h.in_service) (held l same)

pub reserved_for : (s : State) (sender : List ℕ) (c : StartSession) (l : Location) (e : Evse) (x : Standing) → IsLocation s.site.locations c.location_id l → IsHeldFor s.rows sender c.token l e x →
    IsReservedFor s (key sender) x.id (key e.uid) c
reserved_for s sender c l e x at h = record {
  reservation = x.reservation;
  stands = subst (λ (p : List ℕ). get s.rows.booked.reservations (p, x.id) ≡ Some x.reservation) h.is_for.provider_is h.is_for.stands;
  here = h.here;
  location_is = h.is_for.location_is ∙ at.same;
  token_is = h.is_for.token_is;
}

pub reservations_are_used : ReservationsAreUsed
reservations_are_used s t e are happens at q c input carries reserved o puts = by line
  where
    d : Does s e t
    d = does s t e happens

    inside : Contains (all_changes d.acts) (Put (row.Pending (key q.from) q.request o))
    inside = put_by s t e d (row.Pending (key q.from) q.request o) tt puts

    opening : Opening s e.input d.acts (key q.from) q.request o
    opening = d.caused (Put (row.Pending (key q.from) q.request o)) inside

    h : DecidesIt s e.input d.acts
    h = opening.decides

    packet_is : h.packet ≡ q
    packet_is = let both : Arrives h.at h.packet ≡ Arrives at q = sym h.arrives ∙ input in cc

    command_is : h.command ≡ command.StartSession c
    command_is = let both : body.Command h.command ≡ body.Command (command.StartSession c) = sym h.it.carries ∙ ap (λ (z : Packet). z.body) packet_is ∙ carries in cc

    line : start.StartLine s.site s.rows q.from c h.decision
    line = subst (λ (z : Packet). start.StartLine s.site s.rows z.from c h.decision) packet_is
        (subst (λ (z : Command). Decides s.site s.rows h.at h.packet.from h.packet.request z h.decision) command_is h.it.decides)

    decided : Contains (all_changes (decided_acts h.at s.rows.request h.to (key h.packet.from) h.packet.request h.command h.decision)) (Put (row.Pending (key q.from) q.request o))
    decided = subst (λ (l : List Act). Contains (all_changes l) (Put (row.Pending (key q.from) q.request o))) h.acts_are inside

    by : start.StartLine s.site s.rows q.from c h.decision → UsesReservation s e (key q.from) c o
    by (start.Mismatched wrong is) = absurd (refused_alone h.at s.rows.request h.to (key h.packet.from) h.packet.request h.command (key q.from) q.request o h.decision _ is decided)
    by (start.UnknownLocation right none is) = absurd (refused_alone h.at s.rows.request h.to (key h.packet.from) h.packet.request h.command (key q.from) q.request o h.decision _ is decided)
    by (start.NoPlace l placed none is) = absurd (answered_alone h.at s.rows.request h.to (key h.packet.from) h.packet.request h.command (key q.from) q.request o h.decision _ is decided)
    by (start.Barred l v k placed barred is) = absurd (answered_alone h.at s.rows.request h.to (key h.packet.from) h.packet.request h.command (key q.from) q.request o h.decision _ is decided)
    by (start.Inoperative l v k may out is) = absurd (resulted_alone (key h.packet.from) (key q.from) h.packet.request q.request o h.at s.rows.request h.to h.command h.decision _ is decided)
    by (start.Occupied l v k may none is) = absurd (resulted_alone (key h.packet.from) (key q.from) h.packet.request q.request o h.at s.rows.request h.to h.command h.decision _ is decided)
    by (start.Held l v k may in_service x held_by least is) =
        let started = subst (λ (z : Decision). Contains (all_changes (decided_acts h.at s.rows.request h.to (key h.packet.from) h.packet.request h.command z)) (Put (row.Pending (key q.from) q.request o))) is decided in
        let opened_is = started_is (key h.packet.from) (key q.from) h.packet.request q.request o h.at s.rows.request h.to h.command (place_of v k) (Some x.id) started in
        let gone = ends_used (key h.packet.from) (key q.from) h.packet.request q.request o h.at s.rows.request h.to h.command (place_of v k) x.id in
        let here : Contains (all_changes d.acts) (Drop (keys.Reservation (key h.packet.from) x.id)) =
        subst (λ (l : List Act). Contains (all_changes l) (Drop (keys.Reservation (key h.packet.from) x.id))) (sym h.acts_are)
        (subst (λ (z : Decision). Contains (all_changes (decided_acts h.at s.rows.request h.to (key h.packet.from) h.packet.request h.command z)) (Drop (keys.Reservation (key h.packet.from) x.id))) (sym is) gone) in
        record {
          id = x.id;
          evse = v.uid;
          takes = ap (λ (z : OpenCommand). z.evse_uid) opened_is;
          reserved = reserved_for s q.from c l v x may.reached.placed.location held_by;
          ends = d.to_acts (Drop (keys.Reservation (key q.from) x.id)) (subst (λ (z : Packet). Contains (all_changes d.acts) (Drop (keys.Reservation (key z.from) x.id))) packet_is here);
        }
    by (start.Free l v k may in_service none free first is) = absurd (not_free s q.from c are reserved l may.reached.placed.location none)
