-- What a packet takes of an operator's numbers is one thing.
use Rattle.std.proofs.Common.{◌≡◌, ◌+◌, ◌++◌, ℕ, List, [], ◌∷◌, inl, inr, refl, sym, ap, subst, ◌∙◌}
use Rattle.std.specs.Prelude.{◌⊎◌, Option, Some, None}
use Rattle.std.specs.FinMap.{get}
use Rattle.tables.proofs.Options.{not_both}
use Rattle.ocpi_text.specs.Text.{key}
use Rattle.ocpi_types.specs.Commands.{reference_of}
use Rattle.ocpi_types.specs.Locations.{AreLocations}
use Rattle.ocpi_types.specs.declared.authorizations.Authorization.{Authorization}
use Rattle.ocpi_types.specs.declared.commands.CancelReservation.{CancelReservation}
use Rattle.ocpi_types.specs.declared.commands.Command.{Command}
use Rattle.ocpi_types.specs.declared.commands.Command.TheVariants as command
use Rattle.ocpi_types.specs.declared.commands.ReserveNow.{ReserveNow}
use Rattle.ocpi_types.specs.declared.commands.StartSession.{StartSession}
use Rattle.ocpi_types.specs.declared.commands.StopSession.{StopSession}
use Rattle.ocpi_types.specs.declared.commands.UnlockConnector.{UnlockConnector}
use Rattle.ocpi_types.specs.declared.packet.Body.TheVariants as body
use Rattle.ocpi_types.specs.declared.packet.Packet.{Packet}
use Rattle.ocpi_types.specs.declared.replies.Ack.{Ack}
use Rattle.ocpi_types.specs.declared.rows.Counter.TheVariants as counter
use Rattle.ocpi_types.specs.declared.site.Connector.{Connector}
use Rattle.ocpi_types.specs.declared.site.Evse.{Evse}
use Rattle.ocpi_types.specs.declared.site.Location.{Location}
use Rattle.ocpi_types.specs.declared.stored.OpenCommand.{OpenCommand}
use Rattle.ocpi_types.specs.declared.stored.Reply.{Reply}
use Rattle.ocpi_types.specs.declared.token.Token.{Token}
use Rattle.ocpi_types.specs.declared.words.CommandResultType.{CommandResultType}
use Rattle.reservation_book.specs.Refusals.{IsHere, IsInTime}
use Rattle.site_book.specs.Sites.{IsEvseFor}
use Rattle.authorization_book.specs.declared.awaited.Awaited.{Awaited}
use Rattle.command_book.specs.Stored as book
use Rattle.node_steps.specs.Acts.{Act, answered}
use Rattle.operator_rows.specs.State.{State}
use Rattle.operator_tables.specs.Cancel as cancel
use Rattle.operator_tables.specs.Decides.{Decides, result_of}
use Rattle.operator_tables.specs.Places.{HasService}
use Rattle.operator_tables.specs.Reserve as reserve
use Rattle.operator_tables.specs.Start as start
use Rattle.operator_tables.specs.Stop as stop
use Rattle.operator_tables.specs.Unlock as unlock
use Rattle.operator_tables.specs.declared.decision.Decision.{Decision}
use Rattle.operator_tables.specs.declared.decision.Decision.TheVariants as decision
use Rattle.operator_steps.specs.Acts.{deadline, decided_acts, opened, reply_of, spent, used}
use Rattle.operator_steps.specs.Asking.{AnswerActs, IsAwaited}
use Rattle.operator_steps.specs.Moves.{Work}
use Rattle.operator_steps.specs.Sessions.{IsBegun, IsVersioned, numbered_sessions, versioned}
use Rattle.operator_steps.specs.Steps as packets
use Rattle.operator_steps.specs.Steps.{Comes, IsTaken, PacketLine, TokenLine}
use Rattle.ocpi_types.specs.declared.sessions.Session.{Session}
use Rattle.session_tables.specs.declared.beginning.Beginning.{Beginning}
use Rattle.session_tables.specs.Answers.{BeginsByAnswer, Decided}
use Rattle.refusal_laws.proofs.Located.{one_location}
use Rattle.refusal_laws.proofs.Tallies.{Takes, Tally, both, nothing, one_way, takes, tally, tally_after, tally_both}

-- ---- sessions that begin

used_tally : (p : List ℕ) (id : Option (List ℕ)) → tally (used p id) ≡ nothing
used_tally p None = refl
used_tally p (Some id) = refl

spent_tally : (p : List ℕ) (r : Option (List ℕ)) → tally (spent p r) ≡ nothing
spent_tally p None = refl
spent_tally p (Some r) = refl

replaced_tally : (at last : ℕ) (to : List ℕ) (old : Option ℕ) (v : Session) → tally (versioned at last to old v) ≡ takes 1 1 []
replaced_tally at last to None v = refl
replaced_tally at last to (Some n) v = refl

pub version_tally : (s : State) (at last : ℕ) (v : Session) (acts : List Act) → IsVersioned s at last v acts → tally acts ≡ takes 1 1 []
version_tally s at last v acts h = ap tally h.acts_are ∙ replaced_tally at last h.to h.old v

pub begun_tally : (s : State) (at last n : ℕ) (b : Beginning) (acts : List Act) → IsBegun s at last n b acts → tally acts ≡ takes 1 1 []
begun_tally s at last n b acts h =
    ap tally h.acts_are ∙ tally_after (used (key b.token.party) b.reservation_id) h.first (used_tally (key b.token.party) b.reservation_id) ∙ version_tally s at last _ h.first h.versioned

-- the counter of sessions, and then what takes one packet and one request
pub numbered_tally : (n : ℕ) (acts : List Act) → tally acts ≡ takes 1 1 [] → tally (numbered_sessions n ∷ acts) ≡ takes 1 1 ((counter.Session, n) ∷ [])
numbered_tally n acts is = tally_both (numbered_sessions n ∷ []) acts ∙ ap (both (tally (numbered_sessions n ∷ []))) is

-- ---- commands

-- what a command takes: a reply, and where it has a result at once, a push
abbrev pub decided : Option CommandResultType → Tally
decided None = takes 1 0 []
decided (Some x) = takes 2 1 []

abbrev pub reply_alone : Tally
reply_alone = takes 1 0 []

abbrev pub reply_and_push : Tally
reply_and_push = takes 2 1 []

start_tally : (p to : List ℕ) (n : ℕ) (r : Reply) (o : OpenCommand) (id reference : Option (List ℕ)) →
    tally (answered p to n r ∷ ((used p id ++ (opened p n o ∷ spent p reference)) ++ [])) ≡ reply_alone
start_tally p to n r o None None = refl
start_tally p to n r o None (Some reference) = refl
start_tally p to n r o (Some id) None = refl
start_tally p to n r o (Some id) (Some reference) = refl

decided_tally : (at last : ℕ) (to p : List ℕ) (n : ℕ) (c : Command) (d : Decision) → tally (decided_acts at last to p n c d) ≡ decided (result_of d)
decided_tally at last to p n c (decision.Refused status) = refl
decided_tally at last to p n c (decision.Answered w) = refl
decided_tally at last to p n c decision.Opened = refl
decided_tally at last to p n c (decision.Started taken id) =
    start_tally p to n (reply_of at (decision.Started taken id)) (book.open_command c (Some taken) (deadline at)) id (reference_of c)
decided_tally at last to p n c (decision.Resulted x) = refl
decided_tally at last to p n c (decision.Noted id x) = refl
decided_tally at last to p n c (decision.Reserved id r) = refl
decided_tally at last to p n c (decision.Cancelled id) = refl

-- ---- which commands have a result at once

-- a result is given at once, or none is, as that does not hold or does
abbrev Results : Type 0 → Decision → Type 0
Results Other d = Takes Other reply_alone reply_and_push (decided (result_of d))

unanswered_is : (d e : Decision) → d ≡ e → (t : Tally) → decided (result_of e) ≡ t → decided (result_of d) ≡ t
unanswered_is d e is t h = ap (λ (x : Decision). decided (result_of x)) is ∙ h

module _ (s : State) (at : ℕ) (sender : List ℕ) (n : ℕ) (are : AreLocations s.site.locations) where
  -- a start that gets as far as the EVSEs of its place, none of which may be taken
  record FindsNone (c : StartSession) : Type 0 where
    pub location : Location
    pub evse : Evse
    pub connector : Connector
    pub reached : start.MayTake s.site s.rows sender c location evse connector
    pub none : (¬ HasService s.rows location c.evse_uid) ⊎ start.IsOccupied s.rows sender c location

  same_place : (c : StartSession) (l m : Location) → start.IsPlaced s.site sender c l → start.IsPlaced s.site sender c m → l ≡ m
  same_place c l m h g = one_location s.site.locations c.location_id l m are h.location g.location

  start_results : (c : StartSession) (d : Decision) → start.StartLine s.site s.rows sender c d → Results (FindsNone c) d
  start_results c d (start.Mismatched wrong is) = inl (unanswered_is d _ is _ refl, λ f. f.reached.reached.placed.matched wrong)
  start_results c d (start.UnknownLocation right none is) = inl (unanswered_is d _ is _ refl, λ f. none f.location f.reached.reached.placed.location)
  start_results c d (start.NoPlace l placed none is) = inl (
    unanswered_is d _ is _ refl,
    λ f.
        none f.evse f.connector (subst (λ (z : Location). start.IsPlace z c f.evse f.connector) (same_place c f.location l f.reached.reached.placed placed) f.reached.reached.place),
  )
  start_results c d (start.Barred l e k placed barred is) = inl (unanswered_is d _ is _ refl, λ f. f.reached.allowed barred)
  start_results c d (start.Inoperative l e k may out is) = inr (unanswered_is d _ is _ refl, record { location = l; evse = e; connector = k; reached = may; none = inl out })
  start_results c d (start.Occupied l e k may none is) = inr (unanswered_is d _ is _ refl, record { location = l; evse = e; connector = k; reached = may; none = inr none })
  start_results c d (start.Held l e k may works x held least is) = inl (
    unanswered_is d _ is _ refl,
    λ f.
        let same = same_place c f.location l f.reached.reached.placed may.reached.placed in
        elim (subst (λ (z : Location). (¬ HasService s.rows z c.evse_uid) ⊎ start.IsOccupied s.rows sender c z) same f.none) [
          | inl out ↦ out (e, record { listed = may.reached.place.listed; named = may.reached.place.named }, works)
          | inr occupied ↦ occupied.none_held e k x may.reached.place works held
        ],
  )
  start_results c d (start.Free l e k may works none free first is) = inl (
    unanswered_is d _ is _ refl,
    λ f.
        let same = same_place c f.location l f.reached.reached.placed may.reached.placed in
        elim (subst (λ (z : Location). (¬ HasService s.rows z c.evse_uid) ⊎ start.IsOccupied s.rows sender c z) same f.none) [
          | inl out ↦ out (e, record { listed = may.reached.place.listed; named = may.reached.place.named }, works)
          | inr occupied ↦ occupied.none_free e k may.reached.place works free
        ],
  )

  stop_results : (c : StopSession) (d : Decision) → stop.StopLine s.rows sender c d → Results ⊥ d
  stop_results c d (stop.UnknownSession none is) = inl (unanswered_is d _ is _ refl, λ f. f)
  stop_results c d (stop.Ended v own final is) = inl (unanswered_is d _ is _ refl, λ f. f)
  stop_results c d (stop.Going v own going is) = inl (unanswered_is d _ is _ refl, λ f. f)

  -- a request that gets as far as the EVSEs of its place
  record GetsThere (c : ReserveNow) : Type 0 where
    pub location : Location
    pub evse : Evse
    pub reached : reserve.MayHold s.site s.rows at sender n c location evse

  same_location : (c : ReserveNow) (l m : Location) → reserve.IsPlaced s.site sender c l → reserve.IsPlaced s.site sender c m → l ≡ m
  same_location c l m h g = one_location s.site.locations c.location_id l m are h.location g.location

  reserve_results : (c : ReserveNow) (d : Decision) → reserve.ReserveLine s.site s.rows at sender n c d → Results (GetsThere c) d
  reserve_results c d (reserve.Mismatched wrong is) = inl (unanswered_is d _ is _ refl, λ f. wrong f.reached.timely.asked.reached.placed.own)
  reserve_results c d (reserve.UnknownLocation own none is) = inl (unanswered_is d _ is _ refl, λ f. none f.location f.reached.timely.asked.reached.placed.location)
  reserve_results c d (reserve.NoEvse l placed none is) = inl (
    unanswered_is d _ is _ refl,
    λ f.
        let there = f.reached.timely.asked.reached in
        none f.evse (subst (λ (z : Location). IsEvseFor z c.evse_uid f.evse) (same_location c f.location l there.placed placed) there.place),
  )
  reserve_results c d (reserve.Void l e there void is) = inl (unanswered_is d _ is _ refl, λ f. f.reached.timely.asked.sound void)
  reserve_results c d (reserve.Stale l e asked late is) = inl (unanswered_is d _ is _ refl, λ f. late f.reached.timely.in_time)
  reserve_results c d (reserve.Elsewhere l e timely elsewhere is) = inl (
    unanswered_is d _ is _ refl,
    λ f.
        elsewhere (subst (λ (z : Location). IsHere s.rows.booked.reservations (reserve.reservation_key sender c) (key z.id))
        (same_location c f.location l f.reached.timely.asked.reached.placed timely.asked.reached.placed) f.reached.here),
  )
  reserve_results c d (reserve.Inoperative l e may out is) = inr (unanswered_is d _ is _ refl, record { location = l; evse = e; reached = may })
  reserve_results c d (reserve.Occupied l e may works none is) = inr (unanswered_is d _ is _ refl, record { location = l; evse = e; reached = may })
  reserve_results c d (reserve.Held l e may free taken is) = inr (unanswered_is d _ is _ refl, record { location = l; evse = e; reached = may })

  cancel_results : (c : CancelReservation) (d : Decision) → cancel.CancelLine s.rows sender n c d → Results (IsInTime s.rows.booked.marks (cancel.cancelled_key sender c) n) d
  cancel_results c d (cancel.Stale late is) = inl (unanswered_is d _ is _ refl, λ f. late f)
  cancel_results c d (cancel.Ended timely r stands is) = inr (unanswered_is d _ is _ refl, timely)
  cancel_results c d (cancel.Unknown timely none is) = inr (unanswered_is d _ is _ refl, timely)

  unlock_results : (c : UnlockConnector) (d : Decision) → unlock.UnlockLine s.site s.rows sender c d → Results ⊥ d
  unlock_results c d (unlock.UnknownLocation none is) = inl (unanswered_is d _ is _ refl, λ f. f)
  unlock_results c d (unlock.NoPlace l here none is) = inl (unanswered_is d _ is _ refl, λ f. f)
  unlock_results c d (unlock.Foreign l e k there foreign is) = inl (unanswered_is d _ is _ refl, λ f. f)
  unlock_results c d (unlock.Allowed l e k there own is) = inl (unanswered_is d _ is _ refl, λ f. f)

  -- two decisions on one command both have a result at once, or neither has
  one_decision : (c : Command) (d e : Decision) → Decides s.site s.rows at sender n c d → Decides s.site s.rows at sender n c e → decided (result_of d) ≡ decided (result_of e)
  one_decision (command.StartSession c) d e h g = one_way _ _ (start_results c d h) (start_results c e g)
  one_decision (command.StopSession c) d e h g = one_way _ _ (stop_results c d h) (stop_results c e g)
  one_decision (command.ReserveNow c) d e h g = one_way _ _ (reserve_results c d h) (reserve_results c e g)
  one_decision (command.CancelReservation c) d e h g = one_way _ _ (cancel_results c d h) (cancel_results c e g)
  one_decision (command.UnlockConnector c) d e h g = one_way _ _ (unlock_results c d h) (unlock_results c e g)

-- ---- packets

token_tally : (s : State) (at : ℕ) (to sender : List ℕ) (n : ℕ) (t : Token) (acts : List Act) → TokenLine s at to sender n t acts → tally acts ≡ reply_alone
token_tally s at to sender n t acts (packets.Foreign foreign is) = ap tally is
token_tally s at to sender n t acts (packets.Kept own older is) = ap tally is
token_tally s at to sender n t acts (packets.Stored own newer is) = ap tally is

pub work_tally : (work other : Work) (t : Tally) → work ≡ other → tally other.acts ≡ t → tally work.acts ≡ t
work_tally work other t is h = ap (λ (w : Work). tally w.acts) is ∙ h

module _ (s : State) (at : ℕ) (q : Packet) (are : AreLocations s.site.locations) where
  -- ---- a command

  -- the kept reply is sent again, or the command is decided
  data CommandIs (c : Command) (work : Work) : Type 0 where
    Again : (r : Reply) → get s.rows.commands.replies (key q.from, q.request) ≡ Some r → tally work.acts ≡ reply_alone → CommandIs c work
    New : (d : Decision) → get s.rows.commands.replies (key q.from, q.request) ≡ None → Decides s.site s.rows at q.from q.request c d → tally work.acts ≡ decided (result_of d) → CommandIs c work

  command_is : (c : Command) → q.body ≡ body.Command c → (to : List ℕ) (work : Work) → PacketLine s at q to work → CommandIs c work
  command_is c carries to work (packets.Again request r kept is) = Again r kept (work_tally work _ _ is refl)
  command_is c carries to work (packets.Decided b d h is) =
      let both_are : body.Command b ≡ body.Command c = sym h.carries ∙ carries in
      let same : b ≡ c = cc in
      New d h.new (subst (λ (z : Command). Decides s.site s.rows at q.from q.request z d) same h.decides)
      (work_tally work _ _ is (decided_tally at s.rows.request to (key q.from) q.request b d))
  command_is c carries to work (packets.Sent t acts token new line is) = let bad : body.PutToken t ≡ body.Command c = sym token ∙ carries in absurd (cc)
  command_is c carries to work (packets.Acknowledged a ack ends is) = let bad : body.Ack a ≡ body.Command c = sym ack ∙ carries in absurd (cc)
  command_is c carries to work (packets.Idle a ack other is) = let bad : body.Ack a ≡ body.Command c = sym ack ∙ carries in absurd (cc)
  command_is c carries to work (packets.Answered a answer answered) = let bad : body.Authorization a ≡ body.Command c = sym answer ∙ carries in absurd (cc)
  command_is c carries to work (packets.Unasked a answer none is) = let bad : body.Authorization a ≡ body.Command c = sym answer ∙ carries in absurd (cc)

  one_command : (c : Command) (v w : Work) → CommandIs c v → CommandIs c w → tally v.acts ≡ tally w.acts
  one_command c v w (Again r kept is) (Again x also same) = is ∙ sym same
  one_command c v w (Again r kept is) (New d new decides same) = not_both r _ new kept
  one_command c v w (New d new decides is) (Again x kept same) = not_both x _ new kept
  one_command c v w (New d new decides is) (New e also others same) = is ∙ one_decision s at q.from q.request are c d e decides others ∙ sym same

  -- ---- a token, and an acknowledgement

  sent_tally : (t : Token) → q.body ≡ body.PutToken t → (to : List ℕ) (work : Work) → PacketLine s at q to work → tally work.acts ≡ reply_alone
  sent_tally t carries to work (packets.Again request r kept is) = work_tally work _ _ is refl
  sent_tally t carries to work (packets.Decided c d h is) = let bad : body.Command c ≡ body.PutToken t = sym h.carries ∙ carries in absurd (cc)
  sent_tally t carries to work (packets.Sent u acts token new line is) = work_tally work _ _ is (token_tally s at to (key q.from) q.request u acts line)
  sent_tally t carries to work (packets.Acknowledged a ack ends is) = let bad : body.Ack a ≡ body.PutToken t = sym ack ∙ carries in absurd (cc)
  sent_tally t carries to work (packets.Idle a ack other is) = let bad : body.Ack a ≡ body.PutToken t = sym ack ∙ carries in absurd (cc)
  sent_tally t carries to work (packets.Answered a answer answered) = let bad : body.Authorization a ≡ body.PutToken t = sym answer ∙ carries in absurd (cc)
  sent_tally t carries to work (packets.Unasked a answer none is) = let bad : body.Authorization a ≡ body.PutToken t = sym answer ∙ carries in absurd (cc)

  ack_tally : (a : Ack) → q.body ≡ body.Ack a → (to : List ℕ) (work : Work) → PacketLine s at q to work → tally work.acts ≡ nothing
  ack_tally a carries to work (packets.Again (inl c) r kept is) = let bad : body.Command c.0 ≡ body.Ack a = sym c.1 ∙ carries in absurd (cc)
  ack_tally a carries to work (packets.Again (inr t) r kept is) = let bad : body.PutToken t.0 ≡ body.Ack a = sym t.1 ∙ carries in absurd (cc)
  ack_tally a carries to work (packets.Decided c d h is) = let bad : body.Command c ≡ body.Ack a = sym h.carries ∙ carries in absurd (cc)
  ack_tally a carries to work (packets.Sent t acts token new line is) = let bad : body.PutToken t ≡ body.Ack a = sym token ∙ carries in absurd (cc)
  ack_tally a carries to work (packets.Acknowledged x ack ends is) = work_tally work _ _ is refl
  ack_tally a carries to work (packets.Idle x ack other is) = work_tally work _ _ is refl
  ack_tally a carries to work (packets.Answered x answer answered) = let bad : body.Authorization x ≡ body.Ack a = sym answer ∙ carries in absurd (cc)
  ack_tally a carries to work (packets.Unasked x answer none is) = let bad : body.Authorization x ≡ body.Ack a = sym answer ∙ carries in absurd (cc)

  -- ---- an answer

  abbrev first_session : Tally
  first_session = takes 1 1 ((counter.Session, s.rows.charged.last_session + 1) ∷ [])

  -- a session begins by the answer
  record Begins (a : Authorization) : Type 0 where
    pub awaited : Awaited
    pub stands : IsAwaited s q awaited
    pub beginning : Beginning
    pub begins : BeginsByAnswer s.site s.rows awaited a beginning

  decided_answer : (a : Authorization) (awaited : Awaited) → IsAwaited s q awaited → (begins : Option Beginning) (acts : List Act) → Decided (BeginsByAnswer s.site s.rows awaited a) begins →
      AnswerActs s at begins acts → Takes (Begins a) nothing first_session (tally acts)
  decided_answer a awaited stands None acts none is = inl (
    ap tally is,
    λ f.
        let found : Some f.awaited ≡ Some awaited = sym f.stands.stands ∙ stands.stands in
        let same : f.awaited ≡ awaited = cc in
        none f.beginning (subst (λ (w : Awaited). BeginsByAnswer s.site s.rows w a f.beginning) same f.begins),
  )
  decided_answer a awaited stands (Some b) acts begins is =
      let last = s.rows.charged.last_session + 1 in
      let rest = tally_after (spent (key b.token.party) b.authorization_reference) is.0 (spent_tally (key b.token.party) b.authorization_reference)
      ∙ begun_tally s at s.rows.request last b is.0 is.1 in
      inr (ap tally is.2 ∙ numbered_tally last _ rest, record { awaited = awaited; stands = stands; beginning = b; begins = begins })

  answer_takes : (a : Authorization) → q.body ≡ body.Authorization a → (to : List ℕ) (work : Work) → PacketLine s at q to work → Takes (Begins a) nothing first_session (tally work.acts)
  answer_takes a carries to work (packets.Again (inl c) r kept is) = let bad : body.Command c.0 ≡ body.Authorization a = sym c.1 ∙ carries in absurd (cc)
  answer_takes a carries to work (packets.Again (inr t) r kept is) = let bad : body.PutToken t.0 ≡ body.Authorization a = sym t.1 ∙ carries in absurd (cc)
  answer_takes a carries to work (packets.Decided c d h is) = let bad : body.Command c ≡ body.Authorization a = sym h.carries ∙ carries in absurd (cc)
  answer_takes a carries to work (packets.Sent t acts token new line is) = let bad : body.PutToken t ≡ body.Authorization a = sym token ∙ carries in absurd (cc)
  answer_takes a carries to work (packets.Acknowledged x ack ends is) = let bad : body.Ack x ≡ body.Authorization a = sym ack ∙ carries in absurd (cc)
  answer_takes a carries to work (packets.Idle x ack other is) = let bad : body.Ack x ≡ body.Authorization a = sym ack ∙ carries in absurd (cc)
  answer_takes a carries to work (packets.Answered x answer h) =
      let both_are : body.Authorization x ≡ body.Authorization a = sym answer ∙ carries in
      let same : x ≡ a = cc in
      let decides = subst (λ (z : Authorization). Decided (BeginsByAnswer s.site s.rows h.awaited z) h.begins) same h.decided in
      subst (λ (w : Work). Takes (Begins a) nothing first_session (tally w.acts)) (sym h.work_is) (decided_answer a h.awaited h.stands h.begins h.acts decides h.acts_are)
  answer_takes a carries to work (packets.Unasked x answer none is) = inl (work_tally work _ _ is refl, λ f. none f.awaited f.stands)

  -- ---- any packet

  pub is_taken : (to : List ℕ) (work : Work) → PacketLine s at q to work → IsTaken q.body
  is_taken to work (packets.Again request r kept is) = inl request
  is_taken to work (packets.Decided c d h is) = inl (inl (c, h.carries))
  is_taken to work (packets.Sent t acts token new line is) = inl (inr (t, token))
  is_taken to work (packets.Acknowledged a ack ends is) = inr (inl (a, ack))
  is_taken to work (packets.Idle a ack other is) = inr (inl (a, ack))
  is_taken to work (packets.Answered a answer h) = inr (inr (a, answer))
  is_taken to work (packets.Unasked a answer none is) = inr (inr (a, answer))

  pub one_packet : (v w : Work) → Comes s at q v → Comes s at q w → tally v.acts ≡ tally w.acts
  one_packet v w h g = by (is_taken h.provider v h.line)
    where
      by : IsTaken q.body → tally v.acts ≡ tally w.acts
      by (inl (inl c)) = one_command c.0 v w (command_is c.0 c.1 h.provider v h.line) (command_is c.0 c.1 g.provider w g.line)
      by (inl (inr t)) = sent_tally t.0 t.1 h.provider v h.line ∙ sym (sent_tally t.0 t.1 g.provider w g.line)
      by (inr (inl a)) = ack_tally a.0 a.1 h.provider v h.line ∙ sym (ack_tally a.0 a.1 g.provider w g.line)
      by (inr (inr a)) = one_way _ _ (answer_takes a.0 a.1 h.provider v h.line) (answer_takes a.0 a.1 g.provider w g.line)
