-- What becomes of sessions that go on.
use Rattle.std.proofs.Common.{◌≡◌, ◌<◌, ◌+◌, ℕ, ℤ, List, [], ◌∷◌, inl, inr, refl, sym, ap, subst, ◌∙◌, arith}
use Rattle.std.specs.Prelude.{◌≢◌, Some, None, Contains}
use Rattle.std.specs.FinMap.{get}
use Rattle.std.proofs.lemmas.List.Elements.{Contains-append_right}
use Rattle.tables.proofs.Elements.{in_front}
use Rattle.tables.proofs.Options.{not_both}
use Rattle.ocpi_text.specs.Text.{key}
use Rattle.ocpi_types.specs.Prices.{price_at}
use Rattle.ocpi_types.specs.declared.commands.Command.{Command}
use Rattle.ocpi_types.specs.declared.commands.Command.TheVariants as command
use Rattle.ocpi_types.specs.declared.commands.StopSession.{StopSession}
use Rattle.ocpi_types.specs.declared.events.ChargerEvent.{ChargerEvent}
use Rattle.ocpi_types.specs.declared.events.ChargerEvent.TheVariants as event
use Rattle.ocpi_types.specs.declared.packet.Body.TheVariants as body
use Rattle.ocpi_types.specs.declared.packet.Packet.{Packet}
use Rattle.ocpi_types.specs.declared.rows.Change.{Change}
use Rattle.ocpi_types.specs.declared.rows.Change.TheVariants.{Put}
use Rattle.ocpi_types.specs.declared.rows.Row.{Row}
use Rattle.ocpi_types.specs.declared.rows.Row.TheVariants as row
use Rattle.ocpi_types.specs.declared.sessions.Session.{Session}
use Rattle.ocpi_types.specs.declared.stored.OpenCommand.{OpenCommand}
use Rattle.ocpi_types.specs.declared.stored.Push.TheVariants as push
use Rattle.ocpi_types.specs.declared.words.CommandResultType.{CommandResultType}
use Rattle.ocpi_types.specs.declared.words.SessionStatus.{SessionStatus}
use Rattle.ocpi_types.specs.declared.words.SessionStatus.TheVariants as status
use Rattle.site_book.specs.declared.claim.Claim.{Claim}
use Rattle.site_book.specs.declared.claim.Claim.TheVariants.{Live}
use Rattle.session_state.specs.Pasts.{IsFinal}
use Rattle.session_state.specs.Versions.{completed, ended, metered, voided}
use Rattle.command_book.specs.Stored as book
use Rattle.node_steps.specs.Acts.{Act, all_changes}
use Rattle.node_steps.specs.Drafts.{count_changes, counted}
use Rattle.operator_rows.specs.Rows.{HasRow}
use Rattle.operator_rows.specs.Sound.{IsConsistent}
use Rattle.operator_rows.specs.State.{IsLive, State}
use Rattle.operator_tables.specs.Decides.{Decides}
use Rattle.operator_tables.specs.Stop as stop
use Rattle.operator_tables.specs.declared.decision.Decision.{Decision}
use Rattle.operator_tables.specs.declared.decision.Decision.TheVariants as decision
use Rattle.session_tables.specs.Moves.{IsSessionAt, Makes, charging_at}
use Rattle.session_tables.specs.declared.shown.Shown.{Shown}
use Rattle.session_tables.specs.declared.shown.Shown.TheVariants as shown
use Rattle.operator_steps.specs.Acts.{deadline, decided_acts}
use Rattle.operator_steps.specs.Charger as charger
use Rattle.operator_steps.specs.Charger.{ChargerLine, EndsBy, Shows}
use Rattle.operator_steps.specs.Events as events
use Rattle.operator_steps.specs.Events.{Asks, Event, Input, Reports}
use Rattle.operator_steps.specs.Moves.{Out, Work, counters_of, quiet, step_of_acts}
use Rattle.operator_steps.specs.Sessions.{IsMoved, IsVersioned, replaced}
use Rattle.operator_steps.specs.Steps as packets
use Rattle.operator_steps.specs.Steps.{Comes, PacketLine}
use Rattle.operator_laws.proofs.events.Caused.{in_first, in_second}
use Rattle.operator_laws.proofs.events.Doing.{does}
use Rattle.table_laws.specs.Moving.{IsAt, IsCarriedOut, IsFollowed, IsOpened, OwnSessionsAreStopped, ReadingsAreKept, StopsEndSessions}

-- what the acts of an event that is carried out put stands then
pub changed_by : (s t : State) (e : Event) (by : IsCarriedOut s e t) (c : Change) → Contains (all_changes by.work.acts) c → Contains e.changes c
changed_by s t e by c i =
    let counts = count_changes (counters_of s) (counted (counters_of s) by.work.acts) in
    let is : e.changes ≡ (step_of_acts s by.work.acts).changes = ap (λ (o : Out). o.changes) by.out_is in
    subst (λ (l : List Change). Contains l c) (sym is) (Contains-append_right counts (all_changes by.work.acts) c i)

pub put_stands : (s t : State) (e : Event) → IsConsistent s → (by : IsCarriedOut s e t) → (r : Row) → Contains (all_changes by.work.acts) (Put r) → HasRow t.rows r
put_stands s t e fine by r i = (((does s t e (events.Done by)).follows fine).rows r).1 (inl (changed_by s t e by (Put r) i))

-- ---- reports

-- the version is among what a report makes
version_in : (s : State) (at last : ℕ) (v : Session) (acts : List Act) → IsVersioned s at last v acts → Contains (all_changes acts) (Put (row.Session v))
version_in s at last v acts h =
    subst (λ (l : List Act). Contains (all_changes l) (Put (row.Session v))) (sym h.acts_are)
    (in_second (replaced h.old) _ (Put (row.Session v)) (Contains-append_right (Put (row.Push (last + 1) h.to (push.PutSession v)) ∷ []) (Put (row.Session v) ∷ []) (Put (row.Session v)) (in_front (Put (row.Session v)) [])))

moved_in : (s : State) (at : ℕ) (report : ChargerEvent) (acts : List Act) (h : IsMoved s at report acts) → Contains (all_changes acts) (Put (row.Session h.after))
moved_in s at report acts h =
    subst (λ (l : List Act). Contains (all_changes l) (Put (row.Session h.after))) (sym h.acts_are)
    (in_first h.version_acts h.bill_acts (Put (row.Session h.after)) (version_in s at s.rows.request h.after h.version_acts h.versioned))

-- a report that is about the charging alone
record IsOfCharging (s : State) (r : ChargerEvent) (evse : List ℕ) : Type 0 where
  pub about : charging_at r ≡ Some evse
  pub ends_none : (p : List ℕ) (n : ℕ) (o : OpenCommand) (x : CommandResultType) → EndsBy s.rows r p n o.command x → ⊥
  pub accepts_none : (p : List ℕ) (n : ℕ) → r ≡ event.Accepts p n → ⊥
  pub shows_none : (d : Shown) → Shows s r d → ⊥

module _ (s t : State) (e : Event) (fine : IsConsistent s) (by : IsCarriedOut s e t) (at : ℕ) (r : ChargerEvent) (evse : List ℕ) (of : IsOfCharging s r evse) where
  -- the session at an EVSE is one
  one_session : (v w : Session) → IsSessionAt s.rows evse v → IsSessionAt s.rows evse w → v ≡ w
  one_session v w h g =
      let a : Claim = Live (key v.cdr_token.party) (key v.id) in
      let b : Claim = Live (key w.cdr_token.party) (key w.id) in
      let claims : a ≡ b = fine.sound.one_claim evse a b (v, h.stands, record { live = h.live; here = h.here; of_provider = refl }) (w, g.stands, record { live = g.live; here = g.here; of_provider = refl }) in
      let ids : key v.id ≡ key w.id = cc in
      let found : Some v ≡ Some w = sym h.stands ∙ ap (get s.rows.charged.sessions) ids ∙ g.stands in
      cc

  -- a session that it is about has a next version, which it makes
  record Next (v : Session) : Type 0 where
    pub next : Session
    pub makes : Makes (price_at s.site v.start_date_time) at r v next
    pub stands : get t.rows.charged.sessions (key next.id) ≡ Some next

  line_moves : (v w : Session) → IsSessionAt s.rows evse v → Makes (price_at s.site v.start_date_time) at r v w → ChargerLine s at r by.work → Next v
  line_moves v w here makes (charger.Ended f h is) = absurd (of.ends_none f.provider f.number h.command f.result h.by)
  line_moves v w here makes (charger.Started f b begun h begins is) = absurd (of.accepts_none h.provider f.number h.report_is)
  line_moves v w here makes (charger.Moved acts h is) =
      let about : Some h.moves.evse ≡ Some evse = sym h.moves.about ∙ of.about in
      let same : h.moves.evse ≡ evse = cc in
      let one : h.before ≡ v = one_session h.before v (subst (λ (z : List ℕ). IsSessionAt s.rows z h.before) same h.moves.here) here in
      record {
        next = h.after;
        makes = subst (λ (z : Session). Makes (price_at s.site z.start_date_time) at r z h.after) one h.moves.makes;
        stands = put_stands s t e fine by (row.Session h.after) (subst (λ (x : Work). Contains (all_changes x.acts) (Put (row.Session h.after))) (sym is) (moved_in s at r acts h));
      }
  line_moves v w here makes (charger.Begun b begun shows begins is) = absurd (of.shows_none (shown.Begins b) shows)
  line_moves v w here makes (charger.Asked token place_id place shows asked) = absurd (of.shows_none (shown.Asks token place_id place) shows)
  line_moves v w here makes (charger.Idle ends starts moves shows is) = absurd (moves v w (record { evse = evse; about = of.about; here = here; makes = makes }))

  moves_on : e.input ≡ Reports at r → (v w : Session) → IsSessionAt s.rows evse v → Makes (price_at s.site v.start_date_time) at r v w → Next v
  moves_on input v w here makes = line_moves v w here makes (subst (λ (i : Input). Asks s i by.work) input by.line)

session_at : (s : State) (v : Session) (evse_uid : List ℕ) → IsAt s v evse_uid → IsLive v.status → IsSessionAt s.rows (key evse_uid) v
session_at s v evse_uid h live = record { stands = h.newest; live = live; here = h.here }

meter_is : (s : State) (evse_uid : List ℕ) (kwh : ℤ) → IsOfCharging s (event.Meter evse_uid kwh) (key evse_uid)
meter_is s evse_uid kwh = record { about = refl; ends_none = λ p n o x h. h.0; accepts_none = λ p n is. cc; shows_none = λ d h. h }

stops_is : (s : State) (evse_uid : List ℕ) → IsOfCharging s (event.Stops evse_uid) (key evse_uid)
stops_is s evse_uid = record { about = refl; ends_none = λ p n o x h. h.0; accepts_none = λ p n is. cc; shows_none = λ d h. h }

later_reading : (at : ℕ) (kwh price : ℤ) (v : Session) → v.last_updated < (metered at kwh price v).last_updated
later_reading at kwh price v = omega arith

later_end : (status : SessionStatus) (at : ℕ) (v : Session) → v.last_updated < (ended status at v).last_updated
later_end status at v = omega arith

pub readings_are_kept : ReadingsAreKept
readings_are_kept s t e fine by at evse_uid kwh input v here active no_less within =
    let next : Session = metered at kwh (price_at s.site v.start_date_time) v in
    let h = moves_on s t e fine by at (event.Meter evse_uid kwh) (key evse_uid) (meter_is s evse_uid kwh) input v next (session_at s v evse_uid here (subst IsLive (sym active) tt))
    (active, record { no_less = no_less; within = within }, refl) in
    let is : h.next ≡ next = h.makes.2 in
    record {
      next = next;
      newest = subst (λ (z : Session). get t.rows.charged.sessions (key z.id) ≡ Some z) is h.stands;
      status_is = active;
      kwh_is = refl;
      later = later_reading at kwh (price_at s.site v.start_date_time) v;
    }

-- the end of a session follows it
ended_is : (t : State) (at : ℕ) (v w : Session) (st : SessionStatus) → w ≡ ended st at v → get t.rows.charged.sessions (key w.id) ≡ Some w → IsFollowed t v st v.kwh
ended_is t at v w st is stands = record {
  next = ended st at v;
  newest = subst (λ (z : Session). get t.rows.charged.sessions (key z.id) ≡ Some z) is stands;
  status_is = refl;
  kwh_is = refl;
  later = later_end st at v;
}

apart : {A : Type 0} (st : SessionStatus) → st ≡ status.Active → st ≡ status.Pending → A
apart st a b = let bad : status.Active ≡ status.Pending = sym a ∙ b in absurd (cc)

pub stops_end_sessions : StopsEndSessions
stops_end_sessions = record {
  charged = λ s t e fine by at evse_uid input v here active.
      let h = moves_on s t e fine by at (event.Stops evse_uid) (key evse_uid) (stops_is s evse_uid) input v (completed at v) (session_at s v evse_uid here (subst IsLive (sym active) tt)) (inl (active, refl)) in
      elim h.makes [
        | inl made ↦ ended_is t at v h.next status.Completed made.1 h.stands
        | inr other ↦ apart v.status active other.0
      ];
  uncharged = λ s t e fine by at evse_uid input v here pending.
      let h = moves_on s t e fine by at (event.Stops evse_uid) (key evse_uid) (stops_is s evse_uid) input v (voided at v) (session_at s v evse_uid here (subst IsLive (sym pending) tt)) (inr (pending, refl)) in
      elim h.makes [
        | inl other ↦ apart v.status other.0 pending
        | inr made ↦ ended_is t at v h.next status.Invalid made.1 h.stands
      ];
}

-- ---- stops

not_final : (st : SessionStatus) → st ≢ status.Completed → st ≢ status.Invalid → IsFinal st → ⊥
not_final status.Completed a b final = a refl
not_final status.Invalid a b final = b refl
not_final status.Pending a b final = final
not_final status.Active a b final = final
not_final status.Reservation a b final = final

module _ (s t : State) (e : Event) (fine : IsConsistent s) (by : IsCarriedOut s e t) (at : ℕ) (q : Packet) (c : StopSession) (new : get s.rows.commands.replies (key q.from, q.request) ≡ None)
    (v : Session) (stands : get s.rows.charged.sessions (key c.session_id) ≡ Some v) (own : key v.cdr_token.party ≡ key q.from) (going : ¬ IsFinal v.status) where
  -- what it is decided to be
  stop_opened : (d : Decision) → stop.StopLine s.rows q.from c d → d ≡ decision.Opened
  stop_opened d (stop.UnknownSession none is) = absurd (none v (record { stands = stands; own = own }))
  stop_opened d (stop.Ended w its final is) =
      let found : Some w ≡ Some v = sym its.stands ∙ stands in
      let same : w ≡ v = cc in
      absurd (going (subst (λ (z : Session). IsFinal z.status) same final))
  stop_opened d (stop.Going w its goes is) = is

  opened : (to : List ℕ) → by.work ≡ quiet (decided_acts at s.rows.request to (key q.from) q.request (command.StopSession c) decision.Opened) → IsOpened t at q c
  opened to is =
      let p = key q.from in
      let o : OpenCommand = book.open_command (command.StopSession c) None (deadline at) in
      let within : (r : Row) → Contains (all_changes (decided_acts at s.rows.request to p q.request (command.StopSession c) decision.Opened)) (Put r) → HasRow t.rows r =
      λ r i. put_stands s t e fine by r (subst (λ (x : Work). Contains (all_changes x.acts) (Put r)) (sym is) i) in
      record {
        answered = within (row.Reply p q.request _) (in_front _ (Put (row.Pending p q.request o) ∷ []));
        opened = o;
        stands = within (row.Pending p q.request o) (Contains-append_right (_ ∷ []) (Put (row.Pending p q.request o) ∷ []) (Put (row.Pending p q.request o)) (in_front (Put (row.Pending p q.request o)) []));
        command_is = refl;
      }

  line_opens : (to : List ℕ) → q.body ≡ body.Command (command.StopSession c) → PacketLine s at q to by.work → IsOpened t at q c
  line_opens to carries (packets.Again request r kept is) = not_both r _ new kept
  line_opens to carries (packets.Decided b d h is) =
      let both : body.Command b ≡ body.Command (command.StopSession c) = sym h.carries ∙ carries in
      let same : b ≡ command.StopSession c = cc in
      let is_opened : d ≡ decision.Opened = stop_opened d (subst (λ (z : Command). Decides s.site s.rows at q.from q.request z d) same h.decides) in
      opened to (is ∙ (λ i. quiet (decided_acts at s.rows.request to (key q.from) q.request (same i) (is_opened i))))
  line_opens to carries (packets.Sent k acts token fresh line is) = let bad : body.PutToken k ≡ body.Command (command.StopSession c) = sym token ∙ carries in absurd (cc)
  line_opens to carries (packets.Acknowledged a ack ends is) = let bad : body.Ack a ≡ body.Command (command.StopSession c) = sym ack ∙ carries in absurd (cc)
  line_opens to carries (packets.Idle a ack other is) = let bad : body.Ack a ≡ body.Command (command.StopSession c) = sym ack ∙ carries in absurd (cc)
  line_opens to carries (packets.Answered a answer answered) = let bad : body.Authorization a ≡ body.Command (command.StopSession c) = sym answer ∙ carries in absurd (cc)
  line_opens to carries (packets.Unasked a answer none is) = let bad : body.Authorization a ≡ body.Command (command.StopSession c) = sym answer ∙ carries in absurd (cc)

pub own_sessions_are_stopped : OwnSessionsAreStopped
own_sessions_are_stopped s t e fine by at q c input carries new v stands own uncompleted uninvalid =
    let asked : Comes s at q by.work = subst (λ (i : Input). Asks s i by.work) input by.line in
    line_opens s t e fine by at q c new v stands own (not_final v.status uncompleted uninvalid) asked.provider carries asked.line
