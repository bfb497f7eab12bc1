-- Why each message of each line is said.
use Rattle.std.proofs.Common.{◌≡◌, ◌⊎◌, ◌+◌, ℕ, List, [], ◌∷◌, ◌++◌, map, inl, inr, refl, sym, ap, subst, ◌∙◌, arith}
use Rattle.std.specs.Prelude.{Option, Some, None, Contains, Bool, ⊤, cond, true, false, nat_eq, length}
use Rattle.std.specs.FinMap.{get}
use Rattle.std.proofs.lemmas.List.Elements.{Contains-append_cases, Contains-append_left, Contains-append_right}
use Rattle.tables.proofs.Elements.{in_none, in_single}
use Rattle.ocpi_text.specs.Text.{key}
use Rattle.ocpi_types.specs.Commands.{reference_of, url_of}
use Rattle.ocpi_types.specs.Stored.{body_of_push, body_of_reply}
use Rattle.ocpi_types.specs.declared.authorizations.Authorize.{Authorize}
use Rattle.ocpi_types.specs.declared.events.ChargerEvent.{ChargerEvent}
use Rattle.ocpi_types.specs.declared.packet.Body.TheVariants as body
use Rattle.ocpi_types.specs.declared.packet.Packet.{Packet}
use Rattle.ocpi_types.specs.declared.rows.Row.TheVariants as row
use Rattle.ocpi_types.specs.declared.rows.Change.{Change}
use Rattle.ocpi_types.specs.declared.rows.Change.TheVariants.{Put}
use Rattle.ocpi_types.specs.declared.rows.Counter.TheVariants as counter
use Rattle.ocpi_types.specs.declared.sessions.Session.{Session}
use Rattle.ocpi_types.specs.declared.commands.Command.{Command}
use Rattle.ocpi_types.specs.declared.stored.Push.{Push}
use Rattle.ocpi_types.specs.declared.stored.Push.TheVariants as push
use Rattle.ocpi_types.specs.declared.stored.Reply.{Reply}
use Rattle.ocpi_types.specs.declared.token.Token.{Token}
use Rattle.ocpi_types.specs.declared.words.CommandResultType.{CommandResultType}
use Rattle.command_book.specs.Stored as book
use Rattle.outbox.specs.declared.push_book.Outgoing.{Outgoing}
use Rattle.reservation_book.specs.declared.standing.Standing.{Standing}
use Rattle.node_steps.specs.Acts.{Act, acknowledged, all_changes, all_messages, answered, asked, changed, pushed}
use Rattle.node_steps.specs.Drafts.{count_change}
use Rattle.node_steps.specs.Messages.{Message}
use Rattle.node_steps.specs.Peers.{IsPeer, spelled}
use Rattle.node_steps.proofs.Gathering.{messages_append}
use Rattle.operator_rows.specs.State.{State}
use Rattle.operator_rows.specs.Sound.{IsConsistent}
use Rattle.session_tables.specs.declared.beginning.Beginning.{Beginning}
use Rattle.operator_tables.specs.declared.decision.Decision.{Decision}
use Rattle.operator_tables.specs.declared.decision.Decision.TheVariants as decision
use Rattle.operator_steps.specs.declared.ending.Ending.{Ending}
use Rattle.operator_steps.specs.Acts.{own_acts, reply_of, settled, settled_if, spent, told, used}
use Rattle.operator_steps.specs.Asking.{AnswerActs, IsAsked}
use Rattle.operator_steps.specs.Asking as asking
use Rattle.operator_steps.specs.Charger as charger
use Rattle.operator_steps.specs.Charger.{ChargerLine}
use Rattle.operator_steps.specs.Credits as credits
use Rattle.operator_steps.specs.Credits.{CreditLine, next_credit}
use Rattle.operator_steps.specs.Ends.{all_resent, end_acts, ends_acts, expired_acts, resent_acts, url_in}
use Rattle.operator_steps.specs.Events.{Input, Arrives, Serves, Reports, Credits, Ticks, Restarts, Reopens, Asks}
use Rattle.operator_steps.specs.Moves.{Work}
use Rattle.operator_steps.specs.Service as service
use Rattle.operator_steps.specs.Service.{ServiceLine}
use Rattle.operator_steps.specs.Sessions as sessions
use Rattle.operator_steps.specs.Sessions.{IsBegun, IsBilled, IsVersioned, first_of, next_cdr, numbered_sessions, versioned}
use Rattle.operator_steps.specs.Steps as lines
use Rattle.operator_steps.specs.Steps.{PacketLine, TokenLine, acknowledgement}
use Rattle.operator_steps.specs.TickFacts as late
use Rattle.operator_steps.specs.TickFacts.{AreLeftUnanswered, IsTickOf}
use Rattle.operator_laws.proofs.events.Caused.{in_first, in_second}
use Rattle.operator_laws.proofs.events.Facts.{stages_see}
use Rattle.operator_laws.proofs.events.Reasons as reasons
use Rattle.operator_laws.proofs.events.Reasons.{Saying}

-- an act that says nothing, or makes a push and says it
abbrev pub IsPlain : Act → Type 0
IsPlain a = (a.messages ≡ []) ⊎ ((at : ℕ) × (n : ℕ) × (to : List ℕ) × (p : Push) × (a ≡ pushed at n to p))

abbrev pub ArePlain : List Act → Type 0
ArePlain [] = ⊤
ArePlain (a ∷ acts) = IsPlain a × ArePlain acts

plain_append : (xs ys : List Act) → ArePlain xs → ArePlain ys → ArePlain (xs ++ ys)
plain_append [] ys h g = g
plain_append (x ∷ xs) ys h g = (h.0, plain_append xs ys h.1 g)

-- what such acts say is a push that they make
abbrev SaysPush : List Act → Message → Type 0
SaysPush acts m = (p : Push) × (m.body ≡ body_of_push p) × Contains (all_changes acts) (Put (row.Push m.request m.to p))

one_says : (a : Act) → IsPlain a → (m : Message) → Contains a.messages m → (p : Push) × (m.body ≡ body_of_push p) × Contains a.changes (Put (row.Push m.request m.to p))
one_says a (inl silent) m i = absurd (in_none m (subst (λ l. Contains l m) silent i))
one_says a (inr (at, n, to, p, is)) m i =
    let same : record { to = to; request = n; body = body_of_push p } ≡ m = in_single _ m (subst (λ (z : Act). Contains z.messages m) is i) in (
      p,
      ap (λ (z : Message). z.body) (sym same),
      subst (λ (z : Act). Contains z.changes (Put (row.Push m.request m.to p))) (sym is)
          (subst (λ (z : Message). Contains (Put (row.Push n to p) ∷ []) (Put (row.Push z.request z.to p))) same (0, omega arith, refl)),
    )

plain_says : (acts : List Act) → ArePlain acts → (m : Message) → Contains (all_messages acts) m → SaysPush acts m
plain_says [] h m i = absurd (in_none m i)
plain_says (a ∷ acts) h m i = elim (Contains-append_cases a.messages (all_messages acts) m i) [
  | inl here ↦ let (p, is, puts) = one_says a h.0 m here in (p, is, Contains-append_left a.changes (all_changes acts) (Put (row.Push m.request m.to p)) puts)
  | inr there ↦ let (p, is, puts) = plain_says acts h.1 m there in (p, is, Contains-append_right a.changes (all_changes acts) (Put (row.Push m.request m.to p)) puts)
]

silent : (c : Change) → IsPlain (changed c)
silent c = inl refl

versioned_plain : (at last : ℕ) (to : List ℕ) (old : Option ℕ) (v : Session) → ArePlain (versioned at last to old v)
versioned_plain at last to None v = (inr (at, last + 1, to, push.PutSession v, refl), (inl refl, tt))
versioned_plain at last to (Some n) v = (inl refl, (inr (at, last + 1, to, push.PutSession v, refl), (inl refl, tt)))

used_plain : (p : List ℕ) (o : Option (List ℕ)) → ArePlain (used p o)
used_plain p None = tt
used_plain p (Some id) = (inl refl, tt)

spent_plain : (p : List ℕ) (o : Option (List ℕ)) → ArePlain (spent p o)
spent_plain p None = tt
spent_plain p (Some x) = (inl refl, tt)

begun_plain : (s : State) (at last n : ℕ) (b : Beginning) (begun : List Act) → IsBegun s at last n b begun → ArePlain begun
begun_plain s at last n b begun h =
    subst ArePlain (sym (h.acts_are ∙ ap (λ l. used (key b.token.party) b.reservation_id ++ l) h.versioned.acts_are))
    (plain_append (used (key b.token.party) b.reservation_id) _ (used_plain (key b.token.party) b.reservation_id) (versioned_plain at last h.versioned.to h.versioned.old (first_of s at n b)))

billed_plain : (s : State) (at last : ℕ) (w : Session) (part : List Act) → IsBilled s at last w part → ArePlain part
billed_plain s at last w part (sessions.Billed done to peer l e k place is) = subst ArePlain (sym is) (inl refl, (inr (at, last + 1, to, push.PostCdr (next_cdr s w l e k), refl), (inl refl, tt)))
billed_plain s at last w part (sessions.Unbilled other is) = subst ArePlain (sym is) tt

settled_plain : (at last : ℕ) (to p : List ℕ) (n : ℕ) (url : List ℕ) (x : CommandResultType) → ArePlain (settled at last to p n url x)
settled_plain at last to p n url x = (inr (at, last + 1, to, push.CommandResult (told url x), refl), (inl refl, tt))

ends_plain : (at : ℕ) (m : book.OpenCommands) (last : ℕ) (ends : List Ending) → ArePlain (ends_acts at m last ends)
ends_plain at m last [] = tt
ends_plain at m last (e ∷ es) =
    plain_append (end_acts at m last e) (ends_acts at m (last + 1) es) (inl refl, settled_plain at last e.to e.provider e.number (url_in (get m (e.provider, e.number))) e.result) (ends_plain at m (last + 1) es)

expired_plain : (xs : List Standing) → ArePlain (expired_acts xs)
expired_plain [] = tt
expired_plain (x ∷ xs) = (inl refl, expired_plain xs)

counted_plain : (last now : ℕ) → ArePlain (map changed (count_change counter.Session last now))
counted_plain last now = elim (nat_eq last now) as (λ b. ArePlain (map changed (cond b [] (Put (row.Count counter.Session now) ∷ [])))) [ true ↦ tt | false ↦ (inl refl, tt) ]

late_plain : (s : State) (at last n : ℕ) (ks : List ℕ) (part : List Act) (now : ℕ) → AreLeftUnanswered s at last n ks part now → ArePlain part
late_plain s at last n ks part now (late.None_left l m) = tt
late_plain s at last n ks part now (late.Nothing_begins l m k more rest end one later) = late_plain s at l m more rest end later
late_plain s at last n ks part now (late.Begins_session l m k more b begun rest end one is later) =
    plain_append begun rest (begun_plain s at l (m + 1) b begun is) (late_plain s at (l + 1) (m + 1) more rest end later)

-- a decision does that beside its reply
own_plain : (at : ℕ) (p : List ℕ) (n : ℕ) (c : Command) (d : Decision) → ArePlain (own_acts at p n c d)
own_plain at p n c (decision.Refused status) = tt
own_plain at p n c (decision.Answered w) = tt
own_plain at p n c decision.Opened = (inl refl, tt)
own_plain at p n c (decision.Started place reservation) = plain_append (used p reservation) _ (used_plain p reservation) (inl refl, spent_plain p (reference_of c))
own_plain at p n c (decision.Resulted x) = tt
own_plain at p n c (decision.Noted id x) = (inl refl, tt)
own_plain at p n c (decision.Reserved id r) = (inl refl, (inl refl, tt))
own_plain at p n c (decision.Cancelled id) = (inl refl, (inl refl, tt))

settled_if_plain : (at last : ℕ) (to p : List ℕ) (n : ℕ) (url : List ℕ) (o : Option CommandResultType) → ArePlain (settled_if at last to p n url o)
settled_if_plain at last to p n url None = tt
settled_if_plain at last to p n url (Some x) = settled_plain at last to p n url x

module _ (s : State) (i : Input) (acts : List Act) where
  abbrev AreSaid : Type 0
  AreSaid = (m : Message) → Contains (all_messages acts) m → Saying s i acts m

  within : (part : List Act) → acts ≡ part → (c : Change) → Contains (all_changes part) c → Contains (all_changes acts) c
  within part is c j = subst (λ l. Contains (all_changes l) c) (sym is) j

  all_plain : (part : List Act) → acts ≡ part → ArePlain part → AreSaid
  all_plain part is plain m j =
      let (p, body_is, puts) = plain_says part plain m (subst (λ l. Contains (all_messages l) m) is j) in
      reasons.Pushes p body_is (within part is (Put (row.Push m.request m.to p)) puts)

  -- a reply first, and then such acts
  replied_first : (to : List ℕ) (p : List ℕ) (n : ℕ) (r : Reply) (rest : List Act) → acts ≡ answered p to n r ∷ rest → Contains s.providers to → key to ≡ p → ArePlain rest → AreSaid
  replied_first to p n r rest is listed same plain m j =
      elim (Contains-append_cases (record { to = to; request = n; body = body_of_reply r } ∷ []) (all_messages rest) m (subst (λ l. Contains (all_messages l) m) is j)) [
        | inl here ↦
            let it : record { to = to; request = n; body = body_of_reply r } ≡ m = in_single _ m here in
            reasons.Replies r (ap (λ (z : Message). z.body) (sym it)) (subst (λ (z : Message). Contains s.providers z.to) it listed)
            (inl (within (answered p to n r ∷ rest) is (Put (row.Reply (key m.to) m.request r))
            (subst (λ (z : Message). Contains (all_changes (answered p to n r ∷ rest)) (Put (row.Reply (key z.to) z.request r))) it
            (subst (λ z. Contains (Put (row.Reply p n r) ∷ all_changes rest) (Put (row.Reply z n r))) (sym same) (0, omega arith, refl)))))
        | inr there ↦
            let (q, body_is, puts) = plain_says rest plain m there in
            reasons.Pushes q body_is (within (answered p to n r ∷ rest) is (Put (row.Push m.request m.to q)) (in_second (answered p to n r ∷ []) rest (Put (row.Push m.request m.to q)) puts))
      ]

  abbrev acts_in : Work → List Act
  acts_in work = work.acts

  token_said : (at : ℕ) (to sender : List ℕ) (n : ℕ) (t : Token) → Contains s.providers to → key to ≡ sender → TokenLine s at to sender n t acts → AreSaid
  token_said at to sender n t listed same (lines.Foreign other is) = replied_first to sender n (acknowledgement at 2001) [] is listed same tt
  token_said at to sender n t listed same (lines.Kept own old is) = replied_first to sender n (acknowledgement at 1000) [] is listed same tt
  token_said at to sender n t listed same (lines.Stored own newer is) = replied_first to sender n (acknowledgement at 1000) (changed (Put (row.Token t)) ∷ []) is listed same (inl refl, tt)

  answer_said : (at : ℕ) (o : Option Beginning) → AnswerActs s at o acts → AreSaid
  answer_said at None is = all_plain [] is tt
  answer_said at (Some b) (begun, h, is) =
      let n = s.rows.charged.last_session + 1 in
      let spending : List Act = spent (key b.token.party) b.authorization_reference in
      all_plain (numbered_sessions n ∷ (spending ++ begun)) is (inl refl, plain_append spending begun (spent_plain (key b.token.party) b.authorization_reference) (begun_plain s at s.rows.request n b begun h))

  packet_said : (at : ℕ) (q : Packet) (to : List ℕ) (work : Work) → IsPeer s.providers q.from to → acts ≡ work.acts → PacketLine s at q to work → AreSaid
  packet_said at q to work peer same (lines.Again carries r kept is) = λ m j.
      let it : record { to = to; request = q.request; body = body_of_reply r } ≡ m = in_single _ m (subst (λ l. Contains (all_messages l) m) (same ∙ ap acts_in is) j) in
      reasons.Replies r (ap (λ (z : Message). z.body) (sym it)) (subst (λ (z : Message). Contains s.providers z.to) it peer.listed)
      (inr (subst (λ (z : Message). get s.rows.commands.replies (key z.to, z.request) ≡ Some r) it (ap (λ z. get s.rows.commands.replies (z, q.request)) peer.same ∙ kept)))
  packet_said at q to work peer same (lines.Decided c d it is) =
      let rest : List Act = own_acts at (key q.from) q.request c d ++ settled_if at s.rows.request to (key q.from) q.request (url_of c) _ in
      replied_first to (key q.from) q.request (reply_of at d) rest (same ∙ ap acts_in is) peer.listed peer.same
      (plain_append (own_acts at (key q.from) q.request c d) _ (own_plain at (key q.from) q.request c d) (settled_if_plain at s.rows.request to (key q.from) q.request (url_of c) _))
  packet_said at q to work peer same (lines.Sent t part carries new line is) =
      token_said at to (key q.from) q.request t peer.listed peer.same (subst (TokenLine s at to (key q.from) q.request t) (sym (same ∙ ap acts_in is)) line)
  packet_said at q to work peer same (lines.Acknowledged a carries ends is) = all_plain (acknowledged q.request ∷ []) (same ∙ ap acts_in is) (inl refl, tt)
  packet_said at q to work peer same (lines.Idle a carries ends is) = all_plain [] (same ∙ ap acts_in is) tt
  packet_said at q to work peer same (lines.Answered a carries h) = answer_said at h.begins (subst (AnswerActs s at h.begins) (sym (same ∙ ap acts_in h.work_is)) h.acts_are)
  packet_said at q to work peer same (lines.Unasked a carries unasked is) = all_plain [] (same ∙ ap acts_in is) tt

  report_said : (at : ℕ) (report : ChargerEvent) (work : Work) → acts ≡ work.acts → ChargerLine s at report work → AreSaid
  report_said at report work same (charger.Ended e h is) = all_plain _ (same ∙ ap acts_in is) (ends_plain at s.rows.commands.pending s.rows.request (e ∷ []))
  report_said at report work same (charger.Started e b begun h is_begun is) =
      let n = s.rows.charged.last_session + 1 in
      let ends : List Act = ends_acts at s.rows.commands.pending s.rows.request (e ∷ []) in
      all_plain (numbered_sessions n ∷ (ends ++ begun)) (same ∙ ap acts_in is)
      (inl refl, plain_append ends begun (ends_plain at s.rows.commands.pending s.rows.request (e ∷ [])) (begun_plain s at (s.rows.request + 1) n b begun is_begun))
  report_said at report work same (charger.Moved part h is) =
      all_plain (h.version_acts ++ h.bill_acts) (same ∙ ap acts_in is ∙ h.acts_are)
      (plain_append h.version_acts h.bill_acts (subst ArePlain (sym h.versioned.acts_are) (versioned_plain at s.rows.request h.versioned.to h.versioned.old h.after)) (billed_plain s at (s.rows.request + 1) h.after h.bill_acts h.billed))
  report_said at report work same (charger.Begun b begun h is_begun is) =
      let n = s.rows.charged.last_session + 1 in
      all_plain (numbered_sessions n ∷ begun) (same ∙ ap acts_in is) (inl refl, begun_plain s at s.rows.request n b begun is_begun)
  report_said at report work same (charger.Asked t location_id place h it_asks) = λ m j.
      let is = same ∙ ap acts_in it_asks.work_is in
      let question : Authorize = asking.question t location_id place in
      let it : record { to = it_asks.to; request = s.rows.request + 1; body = body.Authorize question } ≡ m = in_single _ m (subst (λ l. Contains (all_messages l) m) is j) in
      reasons.Asks question (ap (λ (z : Message). z.body) (sym it)) (subst (λ (z : Message). Contains s.providers z.to) it it_asks.of_provider.listed) (ap (λ (z : Message). z.request) (sym it))
      (is ∙ ap (λ (z : Message). asked (s.rows.request + 1) z.to (body.Authorize question) ∷ []) it)
  report_said at report work same (charger.Idle none starts moves h is) = all_plain [] (same ∙ ap acts_in is) tt

  service_said : (evse : List ℕ) (in_service : Bool) → ServiceLine s evse in_service acts → AreSaid
  service_said evse in_service (service.Unknown h is) = all_plain [] is tt
  service_said evse in_service (service.Unchanged h w is) = all_plain [] is tt
  service_said evse in_service (service.Withdrawn h o w is) = all_plain _ is (inl refl, tt)
  service_said evse in_service (service.Restored h o w is) = all_plain _ is (inl refl, tt)

  credit_said : (at : ℕ) (session : List ℕ) → CreditLine s at session acts → AreSaid
  credit_said at session (credits.Credited bill to h later is) = all_plain _ is (inr (at, s.rows.request + 1, to, push.PostCdr (next_credit at bill), refl), (inl refl, tt))
  credit_said at session (credits.NothingToCredit none is) = all_plain [] is tt

  -- what is sent again stood
  again_said : (at : ℕ) (due : List ℕ) (m : Message) → Contains (all_messages (all_resent s.providers at s.rows.pushes due)) m → Saying s i acts m
  again_said at [] m j = absurd (in_none m j)
  again_said at (n ∷ ns) m j = elim (Contains-append_cases (all_messages (resent_acts s.providers at n (get s.rows.pushes n))) (all_messages (all_resent s.providers at s.rows.pushes ns)) m
      (subst (λ l. Contains l m) (messages_append (resent_acts s.providers at n (get s.rows.pushes n)) (all_resent s.providers at s.rows.pushes ns)) j)) [
        | inl here ↦ by (get s.rows.pushes n) refl here
        | inr there ↦ again_said at ns m there
      ]
    where
      by : (o : Option Outgoing) → get s.rows.pushes n ≡ o → Contains (all_messages (resent_acts s.providers at n o)) m → Saying s i acts m
      by None stands k = absurd (in_none m k)
      by (Some o) stands k =
          let it : record { to = spelled s.providers o.to; request = n; body = body_of_push o.push } ≡ m = in_single _ m k in
          reasons.Again o.to o.push (ap (λ (z : Message). z.body) (sym it)) (ap (λ (z : Message). z.to) (sym it)) (subst (λ (z : Message). get s.rows.pushes z.request ≡ Some o) it stands)

  tick_said : (at : ℕ) (work : Work) → acts ≡ work.acts → IsTickOf s at work → AreSaid
  tick_said at work same h m j =
      let ends : List Act = ends_acts at s.rows.commands.pending s.rows.request h.ends in
      let expiring : List Act = expired_acts h.expired in
      let counts : List Act = map changed (count_change counter.Session s.rows.charged.last_session h.now) in
      let again : List Act = all_resent s.providers at s.rows.pushes h.due in
      let front : List Act = ends ++ expiring in
      let middle : List Act = counts ++ h.begun in
      let is : acts ≡ front ++ (middle ++ again) = same ∙ ap acts_in h.work_is in
      let made : ArePlain front = plain_append ends expiring (ends_plain at s.rows.commands.pending s.rows.request h.ends) (expired_plain h.expired) in
      let begun : ArePlain middle = plain_append counts h.begun (counted_plain s.rows.charged.last_session h.now)
      (late_plain s at (s.rows.request + length h.ends) s.rows.charged.last_session h.late h.begun h.now h.unanswered) in
      elim (Contains-append_cases (all_messages front) (all_messages (middle ++ again)) m
      (subst (λ l. Contains l m) (messages_append front (middle ++ again)) (subst (λ l. Contains (all_messages l) m) is j))) [
        | inl k ↦ let (p, body_is, puts) = plain_says front made m k in reasons.Pushes p body_is (within (front ++ (middle ++ again)) is (Put (row.Push m.request m.to p)) (in_first front (middle ++ again) (Put (row.Push m.request m.to p)) puts))
        | inr k ↦ elim (Contains-append_cases (all_messages middle) (all_messages again) m (subst (λ l. Contains l m) (messages_append middle again) k)) [
          | inl x ↦
              let (p, body_is, puts) = plain_says middle begun m x in
              reasons.Pushes p body_is (within (front ++ (middle ++ again)) is (Put (row.Push m.request m.to p))
              (in_second front (middle ++ again) (Put (row.Push m.request m.to p)) (in_first middle again (Put (row.Push m.request m.to p)) puts)))
          | inr x ↦ again_said at h.due m x
        ]
      ]

-- what an input asks for says nothing else
pub asked_said : (s : State) (i : Input) (work : Work) → IsConsistent s → Asks s i work → (m : Message) → Contains (all_messages work.acts) m → Saying s i work.acts m
asked_said s (Arrives at q) work fine comes = packet_said s (Arrives at q) work.acts at q comes.provider work comes.from refl comes.line
asked_said s (Serves evse in_service) work fine (part, line, is) =
    service_said s (Serves evse in_service) work.acts evse in_service (subst (λ (w : Work). ServiceLine s evse in_service w.acts) (sym is) line)
asked_said s (Reports at report) work fine line = report_said s (Reports at report) work.acts at report work refl line
asked_said s (Credits at session) work fine (part, line, is) = credit_said s (Credits at session) work.acts at session (subst (λ (w : Work). CreditLine s at session w.acts) (sym is) line)
asked_said s (Ticks at) work fine line = tick_said s (Ticks at) work.acts at work refl ((stages_see s at work fine).0 line)
asked_said s Restarts work fine line = absurd line
asked_said s (Reopens other) work fine line = absurd line
