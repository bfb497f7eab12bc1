-- A start for which its provider has a reservation is opened.
use Rattle.std.proofs.Common.{◌≡◌, ◌++◌, ℕ, true, false, List, [], ◌∷◌, inl, inr, refl, sym, ap, subst, ◌∙◌}
use Rattle.std.specs.Prelude.{Option, Some, None, Contains, is_some}
use Rattle.std.specs.FinMap.{get}
use Rattle.std.proofs.lemmas.List.Elements.{Contains-append_right}
use Rattle.tables.proofs.Elements.{in_front}
use Rattle.tables.proofs.Options.{not_both}
use Rattle.ocpi_text.specs.Text.{key}
use Rattle.ocpi_types.specs.Commands.{reference_of}
use Rattle.ocpi_types.specs.Locations.{AreLocations}
use Rattle.ocpi_types.specs.declared.commands.Command.{Command}
use Rattle.ocpi_types.specs.declared.commands.Command.TheVariants as command
use Rattle.ocpi_types.specs.declared.commands.StartSession.{StartSession}
use Rattle.ocpi_types.specs.declared.packet.Body.TheVariants as body
use Rattle.ocpi_types.specs.declared.packet.Packet.{Packet}
use Rattle.ocpi_types.specs.declared.rows.Change.{Change}
use Rattle.ocpi_types.specs.declared.rows.Change.TheVariants.{Drop, Put}
use Rattle.ocpi_types.specs.declared.rows.Place.{Place}
use Rattle.ocpi_types.specs.declared.rows.Row.TheVariants as row
use Rattle.ocpi_types.specs.declared.rows.RowKey.TheVariants as keys
use Rattle.ocpi_types.specs.declared.site.Connector.{Connector}
use Rattle.ocpi_types.specs.declared.site.Evse.{Evse}
use Rattle.ocpi_types.specs.declared.site.Location.{Location}
use Rattle.ocpi_types.specs.declared.stored.OpenCommand.{OpenCommand}
use Rattle.reservation_book.specs.declared.standing.Standing.{Standing}
use Rattle.site_book.specs.Sites.{IsEvseFor, IsLocation}
use Rattle.command_book.specs.Stored as book
use Rattle.node_steps.specs.Acts.{all_changes}
use Rattle.operator_rows.specs.Sound.{IsConsistent}
use Rattle.operator_rows.specs.State.{IsSpent, Spent, State}
use Rattle.operator_tables.specs.Decides.{Decides}
use Rattle.operator_tables.specs.Places.{HasService, IsHeldFor, place_of}
use Rattle.operator_tables.specs.Start as start
use Rattle.operator_tables.specs.declared.decision.Decision.{Decision}
use Rattle.operator_tables.specs.declared.decision.Decision.TheVariants as decision
use Rattle.operator_steps.specs.Acts.{deadline, decided_acts, reply_of, spent}
use Rattle.operator_steps.specs.Events.{Asks, Event, Input}
use Rattle.operator_steps.specs.Moves.{Work, quiet}
use Rattle.operator_steps.specs.Steps as packets
use Rattle.operator_steps.specs.Steps.{Comes, PacketLine}
use Rattle.refusal_laws.proofs.Located.{one_location}
use Rattle.table_laws.specs.Holding.{HasReserved, MayStart, OpensReserved, ReservedStartsAreOpened}
use Rattle.table_laws.specs.Moving.{IsCarriedOut}
use Rattle.table_laws.proofs.ReservedStarts.{ends_used, its_location, not_free, reserved_for, works}
use Rattle.table_laws.proofs.SessionMoves.{changed_by, put_stands}

-- ---- what stands against a start

value_of : (o : Option (List ℕ)) → is_some o ≡ true → (x : List ℕ) × (o ≡ Some x)
value_of None is = let never : false ≡ true = is in absurd (cc)
value_of (Some x) is = (x, refl)

free_of : (used : Spent) (p : List ℕ) (o : Option (List ℕ)) → ((reference : List ℕ) → o ≡ Some reference → get used (p, key reference) ≡ None) → IsSpent used p o → ⊥
free_of used p None unspent is = is
free_of used p (Some reference) unspent is = not_both tt _ (unspent reference refl) is

module _ (s : State) (sender : List ℕ) (c : StartSession) (may : MayStart s (key sender) c) where
  matched : start.IsMismatched sender c → ⊥
  matched (inl other) = other may.own
  matched (inr (connector, no_evse)) =
      let named = value_of c.connector_id connector in
      let evse = may.named named.0 named.1 in
      let never : true ≡ false = sym (ap is_some evse.1) ∙ no_evse in
      cc

  unbarred : start.IsBarred s.rows.spent (key sender) c → ⊥
  unbarred (inl void) = let never : true ≡ false = sym may.valid ∙ void in cc
  unbarred (inr used) = free_of s.rows.spent (key sender) c.authorization_reference may.unspent used

-- the start takes an EVSE that a reservation holds for it
record Takes (s : State) (sender : List ℕ) (c : StartSession) (d : Decision) : Type 0 where
  location : Location
  evse : Evse
  connector : Connector
  standing : Standing
  of_site : IsLocation s.site.locations c.location_id location
  held : IsHeldFor s.rows sender c.token location evse standing
  decided : d ≡ decision.Started (place_of evse connector) (Some standing.id)

module _ (s : State) (sender : List ℕ) (c : StartSession) (are : AreLocations s.site.locations) (may : MayStart s (key sender) c) (h : HasReserved s (key sender) c) where
  same_location : (l : Location) → IsLocation s.site.locations c.location_id l → h.location ≡ l
  same_location l at = sym (one_location s.site.locations c.location_id l h.location are at (its_location s sender c are h))

  has_place : (l : Location) → IsLocation s.site.locations c.location_id l → start.HasNoPlace l c → ⊥
  has_place l at none = none h.evse h.connector (subst (λ (z : Location). start.IsPlace z c h.evse h.connector) (same_location l at) h.fits)

  has_service : (l : Location) → IsLocation s.site.locations c.location_id l → HasService s.rows l c.evse_uid
  has_service l at =
      let here : IsEvseFor h.location c.evse_uid h.evse = record { listed = h.fits.listed; named = h.fits.named } in
      (h.evse, subst (λ (z : Location). IsEvseFor z c.evse_uid h.evse) (same_location l at) here, works s h.evse h.in_service)

  takes : (d : Decision) → start.StartLine s.site s.rows sender c d → Takes s sender c d
  takes d (start.Mismatched wrong is) = absurd (matched s sender c may wrong)
  takes d (start.UnknownLocation right none is) = absurd (none h.location (its_location s sender c are h))
  takes d (start.NoPlace l placed none is) = absurd (has_place l placed.location none)
  takes d (start.Barred l v k at barred is) = absurd (unbarred s sender c may barred)
  takes d (start.Inoperative l v k at out is) = absurd (out (has_service l at.reached.placed.location))
  takes d (start.Occupied l v k at occupied is) = absurd (not_free s sender c are h l at.reached.placed.location occupied.none_held)
  takes d (start.Held l v k at in_service x held least is) = record { location = l; evse = v; connector = k; standing = x; of_site = at.reached.placed.location; held = held; decided = is }
  takes d (start.Free l v k at in_service none free first is) = absurd (not_free s sender c are h l at.reached.placed.location none)

-- ---- what it puts

-- it is open, at that place
pending_put : (at last n : ℕ) (to p id : List ℕ) (c : Command) (place : Place) →
    Contains (all_changes (decided_acts at last to p n c (decision.Started place (Some id)))) (Put (row.Pending p n (book.open_command c (Some place) (deadline at))))
pending_put at last n to p id c place =
    let opens : Change = Put (row.Pending p n (book.open_command c (Some place) (deadline at))) in
    let rest : List Change = all_changes (spent p (reference_of c) ++ []) in
    Contains-append_right (Put (row.Reply p n (reply_of at (decision.Started place (Some id)))) ∷ (Drop (keys.Reservation p id) ∷ [])) (opens ∷ rest) opens (in_front opens rest)

module _ (s t : State) (e : Event) (fine : IsConsistent s) (are : AreLocations s.site.locations) (by : IsCarriedOut s e t) (at : ℕ) (q : Packet) (c : StartSession)
    (new : get s.rows.commands.replies (key q.from, q.request) ≡ None) (may : MayStart s (key q.from) c) (h : HasReserved s (key q.from) c) where
  opens : (to : List ℕ) (d : Decision) → Takes s q.from c d → by.work ≡ quiet (decided_acts at s.rows.request to (key q.from) q.request (command.StartSession c) d) → OpensReserved s e t q c
  opens to d x is =
      let p = key q.from in
      let place = place_of x.evse x.connector in
      let starts : Command = command.StartSession c in
      let opened : OpenCommand = book.open_command starts (Some place) (deadline at) in
      let work_is : by.work ≡ quiet (decided_acts at s.rows.request to p q.request starts (decision.Started place (Some x.standing.id))) =
      is ∙ ap (λ (z : Decision). quiet (decided_acts at s.rows.request to p q.request starts z)) x.decided in
      let within : (k : Change) → Contains (all_changes (decided_acts at s.rows.request to p q.request starts (decision.Started place (Some x.standing.id)))) k → Contains (all_changes by.work.acts) k =
      λ k i. subst (λ (w : Work). Contains (all_changes w.acts) k) (sym work_is) i in
      let gone = ends_used p p q.request q.request opened at s.rows.request to starts place x.standing.id in
      record {
        opened = opened;
        stands = put_stands s t e fine by (row.Pending p q.request opened) (within (Put (row.Pending p q.request opened)) (pending_put at s.rows.request q.request to p x.standing.id starts place));
        command_is = refl;
        uses = record {
          id = x.standing.id;
          evse = x.evse.uid;
          takes = refl;
          reserved = reserved_for s q.from c x.location x.evse x.standing x.of_site x.held;
          ends = changed_by s t e by (Drop (keys.Reservation p x.standing.id)) (within (Drop (keys.Reservation p x.standing.id)) gone);
        };
      }

  line_opens : (to : List ℕ) → q.body ≡ body.Command (command.StartSession c) → PacketLine s at q to by.work → OpensReserved s e t q c
  line_opens to carries (packets.Again request r kept is) = not_both r _ new kept
  line_opens to carries (packets.Decided b d it is) =
      let both : body.Command b ≡ body.Command (command.StartSession c) = sym it.carries ∙ carries in
      let same : b ≡ command.StartSession c = cc in
      let line : start.StartLine s.site s.rows q.from c d = subst (λ (z : Command). Decides s.site s.rows at q.from q.request z d) same it.decides in
      opens to d (takes s q.from c are may h d line) (is ∙ ap (λ (z : Command). quiet (decided_acts at s.rows.request to (key q.from) q.request z d)) same)
  line_opens to carries (packets.Sent k acts token fresh line is) = let bad : body.PutToken k ≡ body.Command (command.StartSession c) = sym token ∙ carries in absurd (cc)
  line_opens to carries (packets.Acknowledged a ack ends is) = let bad : body.Ack a ≡ body.Command (command.StartSession c) = sym ack ∙ carries in absurd (cc)
  line_opens to carries (packets.Idle a ack other is) = let bad : body.Ack a ≡ body.Command (command.StartSession c) = sym ack ∙ carries in absurd (cc)
  line_opens to carries (packets.Answered a answer answered) = let bad : body.Authorization a ≡ body.Command (command.StartSession c) = sym answer ∙ carries in absurd (cc)
  line_opens to carries (packets.Unasked a answer none is) = let bad : body.Authorization a ≡ body.Command (command.StartSession c) = sym answer ∙ carries in absurd (cc)

pub reserved_starts_are_opened : ReservedStartsAreOpened
reserved_starts_are_opened s t e fine are by at q c input carries new may h =
    let asked : Comes s at q by.work = subst (λ (i : Input). Asks s i by.work) input by.line in
    line_opens s t e fine are by at q c new may h asked.provider carries asked.line
