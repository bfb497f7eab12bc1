-- Each change of each line has its cause: line by line, act by act.
use Rattle.std.proofs.Common.{◌≡◌, ◌⊎◌, ◌+◌, ℕ, List, [], ◌∷◌, ◌++◌, map, inl, inr, refl, sym, ap, subst, ◌∙◌, arith}
use Rattle.std.specs.Prelude.{Option, Some, None, Contains, Bool, cond, true, false, nat_eq}
use Rattle.std.specs.FinMap.{get}
use Rattle.std.proofs.lemmas.List.Elements.{Contains-append_cases, Contains-append_left, Contains-append_right}
use Rattle.tables.proofs.Elements.{in_none, in_front, in_single, in_map}
use Rattle.ocpi_text.specs.Text.{key}
use Rattle.ocpi_types.specs.declared.authorizations.Authorization.{Authorization}
use Rattle.ocpi_types.specs.declared.cdrs.Cdr.{Cdr}
use Rattle.ocpi_types.specs.declared.events.ChargerEvent.{ChargerEvent}
use Rattle.ocpi_types.specs.declared.packet.Body.TheVariants as body
use Rattle.ocpi_types.specs.declared.packet.Packet.{Packet}
use Rattle.ocpi_types.specs.declared.rows.Row.TheVariants as row
use Rattle.ocpi_types.specs.declared.rows.RowKey.TheVariants as keys
use Rattle.ocpi_types.specs.declared.rows.Change.{Change}
use Rattle.ocpi_types.specs.declared.rows.Change.TheVariants.{Put, Drop}
use Rattle.ocpi_types.specs.declared.rows.Counter.TheVariants as counter
use Rattle.ocpi_types.specs.declared.sessions.Session.{Session}
use Rattle.ocpi_types.specs.declared.commands.Command.{Command}
use Rattle.ocpi_types.specs.declared.stored.OpenCommand.{OpenCommand}
use Rattle.ocpi_types.specs.declared.stored.Push.TheVariants as push
use Rattle.ocpi_types.specs.declared.stored.Reply.{Reply}
use Rattle.authorization_book.specs.declared.awaited.Awaited.{Awaited}
use Rattle.reservation_book.specs.declared.standing.Standing.{Standing}
use Rattle.node_steps.specs.Acts.{Act, acknowledged, all_changes, answered, changed, repeated}
use Rattle.node_steps.specs.Drafts.{count_change}
use Rattle.node_steps.specs.Peers.{IsPeer}
use Rattle.node_steps.proofs.Gathering.{changes_append}
use Rattle.operator_rows.specs.State.{State, IsSpent}
use Rattle.operator_rows.proofs.RowChanges.{in_later, of_cons}
use Rattle.session_tables.specs.declared.beginning.Beginning.{Beginning}
use Rattle.session_tables.specs.Answers.{BeginsByAnswer, Decided}
use Rattle.operator_steps.specs.declared.ending.Ending.{Ending}
use Rattle.operator_steps.specs.Acts.{spent, used}
use Rattle.operator_steps.specs.Asking as asking
use Rattle.operator_steps.specs.Asking.{AnswerActs, AreUnanswered, Deadlines, IsAnswered, IsAwaited}
use Rattle.operator_steps.specs.Charger as charger
use Rattle.operator_steps.specs.Charger.{ChargerLine}
use Rattle.operator_steps.specs.Credits as credits
use Rattle.operator_steps.specs.Credits.{CreditLine, next_credit}
use Rattle.operator_steps.specs.Ends.{IsOfSite, IsOpen, end_acts, ends_acts, expired_acts}
use Rattle.operator_steps.specs.Events.{Input, Arrives, Serves, Reports, Credits, Ticks, Restarts, Reopens, Asks}
use Rattle.operator_steps.specs.Moves.{Work}
use Rattle.operator_steps.specs.Service as service
use Rattle.operator_steps.specs.Service.{ServiceLine}
use Rattle.operator_steps.specs.Sessions as sessions
use Rattle.operator_steps.specs.Sessions.{IsBegun, IsBilled, IsMoved, IsVersioned, numbered_sessions, replaced, versioned}
use Rattle.operator_steps.specs.Steps as lines
use Rattle.operator_steps.specs.Steps.{PacketLine, TokenLine, acknowledgement}
use Rattle.operator_steps.specs.Tick.{Expiries, Resends, TickLine, TimeOut, Timeouts, request_of}
use Rattle.operator_steps.proofs.Orderly.{AreOrderly, orderly_kinds}
use Rattle.operator_steps.proofs.Resending.{resent_leave}
use Rattle.operator_laws.proofs.events.Causes.{Cause, Crediting, Replying, TakesToken}
use Rattle.operator_laws.proofs.events.Decided.{AllOf, all_acts, all_in, decided_caused}

-- an open command that ends
pub record IsEnd (s : State) (e : Ending) : Type 0 where
  pub command : OpenCommand
  pub stands : get s.rows.commands.pending (e.provider, e.number) ≡ Some command
  pub of_site : IsOfSite s.providers e

-- those that time out are open
pub timed_open : (s : State) (at : ℕ) (ends : List Ending) → TimeOut s at ends → (e : Ending) → Contains ends e → IsOpen s.rows e
timed_open s at ends h e i = let due = (h.due.exact (request_of e)).0 (in_map request_of ends e i) in (due.command, due.stands)

-- what expires is dropped, and nothing else changes
expired_drops : (xs : List Standing) (c : Change) → Contains (all_changes (expired_acts xs)) c → (x : Standing) × (c ≡ Drop (keys.Reservation x.provider x.id))
expired_drops [] c j = absurd (in_none c j)
expired_drops (x ∷ xs) c j = elim (of_cons (Drop (keys.Reservation x.provider x.id)) (all_changes (expired_acts xs)) c j) [ inl same ↦ (x, sym same) | inr later ↦ expired_drops xs c later ]

-- the two lists that are done one after the other
pub in_parts : (xs ys : List Act) (c : Change) → Contains (all_changes (xs ++ ys)) c → Contains (all_changes xs) c ⊎ Contains (all_changes ys) c
in_parts xs ys c j = Contains-append_cases (all_changes xs) (all_changes ys) c (subst (λ l. Contains l c) (changes_append xs ys) j)

pub in_first : (xs ys : List Act) (c : Change) → Contains (all_changes xs) c → Contains (all_changes (xs ++ ys)) c
in_first xs ys c j = subst (λ l. Contains l c) (sym (changes_append xs ys)) (Contains-append_left (all_changes xs) (all_changes ys) c j)

pub in_second : (xs ys : List Act) (c : Change) → Contains (all_changes ys) c → Contains (all_changes (xs ++ ys)) c
in_second xs ys c j = subst (λ l. Contains l c) (sym (changes_append xs ys)) (Contains-append_right (all_changes xs) (all_changes ys) c j)

module _ (s : State) (i : Input) (acts : List Act) where
  abbrev Why : Change → Type 0
  Why c = Cause s i acts c

  abbrev AreCaused : List Act → Type 0
  AreCaused part = (c : Change) → Contains (all_changes part) c → Cause s i acts c

  -- what these acts change is changed
  abbrev AreWithin : List Act → Type 0
  AreWithin part = (c : Change) → Contains (all_changes part) c → Contains (all_changes acts) c

  -- a session that begins, goes on or ends
  version_caused : (at last : ℕ) (to : List ℕ) (old : Option ℕ) (v : Session) → AllOf Why (all_changes (versioned at last to old v))
  version_caused at last to None v = (tt, (tt, tt))
  version_caused at last to (Some n) v = (tt, (tt, (tt, tt)))

  used_caused : (p : List ℕ) (o : Option (List ℕ)) → AllOf Why (all_changes (used p o))
  used_caused p None = tt
  used_caused p (Some id) = (tt, tt)

  begun_caused : (u : State) (at last n : ℕ) (b : Beginning) (begun : List Act) → IsBegun u at last n b begun → AllOf Why (all_changes begun)
  begun_caused u at last n b begun h =
      subst (λ l. AllOf Why (all_changes l)) (sym (h.acts_are ∙ ap (λ l. used (key b.token.party) b.reservation_id ++ l) h.versioned.acts_are))
      (all_acts Why (used (key b.token.party) b.reservation_id) (versioned at last h.versioned.to h.versioned.old (sessions.first_of u at n b)) (used_caused (key b.token.party) b.reservation_id)
      (version_caused at last h.versioned.to h.versioned.old (sessions.first_of u at n b)))

  numbered_caused : (n : ℕ) (rest : List Act) → AllOf Why (all_changes rest) → AllOf Why (all_changes (numbered_sessions n ∷ rest))
  numbered_caused n rest h = (tt, h)

  billed_caused : (u : State) (at last : ℕ) (w : Session) (bill : List Act) → IsBilled u at last w bill → AllOf Why (all_changes bill)
  billed_caused u at last w bill (sessions.Billed done to peer l e k place is) = subst (λ x. AllOf Why (all_changes x)) (sym is) (tt, (tt, (tt, tt)))
  billed_caused u at last w bill (sessions.Unbilled other is) = subst (λ x. AllOf Why (all_changes x)) (sym is) tt

  -- commands end
  end_caused : (at last : ℕ) (e : Ending) → IsEnd s e → AreWithin (end_acts at s.rows.commands.pending last e) → AllOf Why (all_changes (end_acts at s.rows.commands.pending last e))
  end_caused at last e h part =
      ((e.result, part _ (2, omega arith, refl)), (tt, (λ sound. (sound.pending e.provider e.number h.command h.stands).unsettled, tt)))

  ends_caused : (at last : ℕ) (ends : List Ending) → ((e : Ending) → Contains ends e → IsEnd s e) → AreWithin (ends_acts at s.rows.commands.pending last ends) →
      AllOf Why (all_changes (ends_acts at s.rows.commands.pending last ends))
  ends_caused at last [] each part = tt
  ends_caused at last (e ∷ es) each part =
      let first : List Act = end_acts at s.rows.commands.pending last e in
      let rest : List Act = ends_acts at s.rows.commands.pending (last + 1) es in
      all_acts Why first rest (end_caused at last e (each e (in_front e es)) (λ d k. part d (in_first first rest d k)))
      (ends_caused at (last + 1) es (λ f k. each f (in_later e es f k)) (λ d k. part d (in_second first rest d k)))

  -- acts that are just these
  just : (part : List Act) → acts ≡ part → (AreWithin part → AllOf Why (all_changes part)) → AreCaused acts
  just part is all c j = all_in Why (all_changes part) (all (λ d k. subst (λ l. Contains (all_changes l) d) (sym is) k)) c (subst (λ l. Contains (all_changes l) c) is j)

  -- a token is answered, and perhaps stored
  module _ (h : TakesToken s i acts) where
    abbrev replied : ℕ → List Act
    replied status = answered (key h.packet.from) h.to h.packet.request (acknowledgement h.at status) ∷ []

    abbrev stored : List Act
    stored = answered (key h.packet.from) h.to h.packet.request (acknowledgement h.at 1000) ∷ (changed (Put (row.Token h.token)) ∷ [])

    no_command : (c : Command) → body.Command c ≡ body.PutToken h.token → ⊥
    no_command c e = cc

    abbrev token_replying : (r : Reply) (part : List Act) → acts ≡ part → Contains (all_changes part) (Put (row.Reply (key h.packet.from) h.packet.request r)) → AreOrderly part →
        ((x : ℕ) × (r ≡ acknowledgement h.at x)) → Replying s i acts
    token_replying r part is puts orderly known = record {
      at = h.at;
      packet = h.packet;
      arrives = h.arrives;
      new = h.new;
      reply = acknowledgement h.at known.0;
      puts = subst (λ l. Contains (all_changes l) (Put (row.Reply (key h.packet.from) h.packet.request (acknowledgement h.at known.0)))) (sym is)
          (subst (λ z. Contains (all_changes part) (Put (row.Reply (key h.packet.from) h.packet.request z))) known.1 puts);
      answers = (h.token, h.carries);
      orderly = subst AreOrderly (sym is) orderly;
      decided = λ c carries. absurd (no_command c (sym carries ∙ h.carries));
    }

    replied_caused : (status : ℕ) → acts ≡ replied status → AreCaused acts
    replied_caused status is = just (replied status) is (λ within. (
      record {
        replies = token_replying (acknowledgement h.at status) (replied status) is (in_front (Put (row.Reply (key h.packet.from) h.packet.request (acknowledgement h.at status))) []) (orderly_kinds (replied status) refl refl) (status, refl);
        by = refl;
        number = refl;
        reply_is = refl;
      },
      tt,
    ))

    token_caused : TokenLine s h.at h.to (key h.packet.from) h.packet.request h.token acts → AreCaused acts
    token_caused (lines.Foreign other is) = replied_caused 2001 is
    token_caused (lines.Kept own old is) = replied_caused 1000 is
    token_caused (lines.Stored own newer is) = just stored is (λ within. (
      record {
        replies = token_replying (acknowledgement h.at 1000) stored is (in_front (Put (row.Reply (key h.packet.from) h.packet.request (acknowledgement h.at 1000))) (Put (row.Token h.token) ∷ [])) (orderly_kinds stored refl refl) (1000, refl);
        by = refl;
        number = refl;
        reply_is = refl;
      },
      (record { takes = h; token_is = refl; own = own; newer = newer }, tt),
    ))

  -- what an answer brings about
  spent_caused : (p : List ℕ) (reference : Option (List ℕ)) → ¬ IsSpent s.rows.spent p reference → AllOf Why (all_changes (spent p reference))
  spent_caused p None unspent = tt
  spent_caused p (Some x) unspent = (unspent, tt)

  answer_caused : (at : ℕ) (w : Awaited) (a : Authorization) (b : Option Beginning) → Decided (BeginsByAnswer s.site s.rows w a) b → AnswerActs s at b acts → AreCaused acts
  answer_caused at w a None decided is = just [] is (λ within. tt)
  answer_caused at w a (Some b) decided (begun, h, is) =
      just (numbered_sessions (s.rows.charged.last_session + 1) ∷ (spent (key b.token.party) b.authorization_reference ++ begun)) is (λ within.
      numbered_caused (s.rows.charged.last_session + 1) (spent (key b.token.party) b.authorization_reference ++ begun)
      (all_acts Why (spent (key b.token.party) b.authorization_reference) begun
      (spent_caused (key b.token.party) b.authorization_reference (subst (λ (z : Beginning). ¬ IsSpent s.rows.spent (key z.token.party) z.authorization_reference) (sym decided.there.begins_is) decided.unspent))
      (begun_caused s at s.rows.request (s.rows.charged.last_session + 1) b begun h)))

  abbrev acts_in : Work → List Act
  acts_in work = work.acts

  packet_caused : (at : ℕ) (q : Packet) (to : List ℕ) (work : Work) → i ≡ Arrives at q → IsPeer s.providers q.from to → acts ≡ work.acts → PacketLine s at q to work → AreCaused acts
  packet_caused at q to work arrives peer same (lines.Again carries r kept is) = just (repeated to q.request r ∷ []) (same ∙ ap acts_in is) (λ within. tt)
  packet_caused at q to work arrives peer same (lines.Decided c d it is) =
      decided_caused s i acts (record { at = at; packet = q; arrives = arrives; to = to; from = peer; command = c; decision = d; it = it; acts_are = same ∙ ap acts_in is })
  packet_caused at q to work arrives peer same (lines.Sent t part carries new line is) =
      let line_now : TokenLine s at to (key q.from) q.request t acts = subst (TokenLine s at to (key q.from) q.request t) (sym (same ∙ ap acts_in is)) line in
      token_caused (record { at = at; packet = q; arrives = arrives; to = to; from = peer; token = t; carries = carries; new = new; line = line_now }) line_now
  packet_caused at q to work arrives peer same (lines.Acknowledged a carries ends is) = just (acknowledged q.request ∷ []) (same ∙ ap acts_in is) (λ within. (tt, tt))
  packet_caused at q to work arrives peer same (lines.Idle a carries ends is) = just [] (same ∙ ap acts_in is) (λ within. tt)
  packet_caused at q to work arrives peer same (lines.Answered a carries h) =
      answer_caused at h.awaited a h.begins h.decided (subst (AnswerActs s at h.begins) (sym (same ∙ ap acts_in h.work_is)) h.acts_are)
  packet_caused at q to work arrives peer same (lines.Unasked a carries unasked is) = just [] (same ∙ ap acts_in is) (λ within. tt)

  one_end : (e : Ending) → IsEnd s e → (f : Ending) → Contains (e ∷ []) f → IsEnd s f
  one_end e h f k = subst (IsEnd s) (in_single e f k) h

  report_caused : (at : ℕ) (report : ChargerEvent) (work : Work) → acts ≡ work.acts → ChargerLine s at report work → AreCaused acts
  report_caused at report work same (charger.Ended e h is) =
      just (ends_acts at s.rows.commands.pending s.rows.request (e ∷ [])) (same ∙ ap acts_in is)
      (ends_caused at s.rows.request (e ∷ []) (one_end e (record { command = h.command; stands = h.stands; of_site = h.of_site })))
  report_caused at report work same (charger.Started e b begun h is_begun is) =
      let ends : List Act = ends_acts at s.rows.commands.pending s.rows.request (e ∷ []) in
      let n = s.rows.charged.last_session + 1 in
      just (numbered_sessions n ∷ (ends ++ begun)) (same ∙ ap acts_in is) (λ within.
      numbered_caused n (ends ++ begun)
      (all_acts Why ends begun
      (ends_caused at s.rows.request (e ∷ []) (one_end e (record { command = h.command; stands = h.stands; of_site = h.of_site })) (λ d k. within d (in_second (numbered_sessions n ∷ []) (ends ++ begun) d (in_first ends begun d k))))
      (begun_caused s at (s.rows.request + 1) n b begun is_begun)))
  report_caused at report work same (charger.Moved part h is) =
      just (h.version_acts ++ h.bill_acts) (same ∙ ap acts_in is ∙ h.acts_are) (λ within.
      all_acts Why h.version_acts h.bill_acts
      (subst (λ l. AllOf Why (all_changes l)) (sym h.versioned.acts_are) (version_caused at s.rows.request h.versioned.to h.versioned.old h.after))
      (billed_caused s at (s.rows.request + 1) h.after h.bill_acts h.billed))
  report_caused at report work same (charger.Begun b begun shows is_begun is) =
      let n = s.rows.charged.last_session + 1 in
      just (numbered_sessions n ∷ begun) (same ∙ ap acts_in is) (λ within. numbered_caused n begun (begun_caused s at s.rows.request n b begun is_begun))
  report_caused at report work same (charger.Asked t location_id place shows h) =
      just _ (same ∙ ap acts_in h.work_is) (λ within. tt)
  report_caused at report work same (charger.Idle none starts moves shows is) = just [] (same ∙ ap acts_in is) (λ within. tt)

  service_caused : (evse : List ℕ) (in_service : Bool) → ServiceLine s evse in_service acts → AreCaused acts
  service_caused evse in_service (service.Unknown h is) = just [] is (λ within. tt)
  service_caused evse in_service (service.Unchanged h w is) = just [] is (λ within. tt)
  service_caused evse in_service (service.Withdrawn h o w is) = just (changed (Put (row.Service evse)) ∷ []) is (λ within. (tt, tt))
  service_caused evse in_service (service.Restored h o w is) = just (changed (Drop (keys.Service evse)) ∷ []) is (λ within. (tt, tt))

  credit_caused : (at : ℕ) (session : List ℕ) → CreditLine s at session acts → AreCaused acts
  credit_caused at session (credits.Credited bill to h later is) = just _ is (λ within. (tt, (tt, tt)))
  credit_caused at session (credits.NothingToCredit none is) = just [] is (λ within. tt)

  -- the stages of a moment, one after the other
  timeouts_caused : (at : ℕ) (part : List Act) → Timeouts at s part → AreWithin part → AreCaused part
  timeouts_caused at part h inside c j =
      let ends : List Act = ends_acts at s.rows.commands.pending s.rows.request h.ends in
      all_in Why (all_changes ends)
      (ends_caused at s.rows.request h.ends
      (λ e k. let stands = timed_open s at h.ends h.timed_out e k in record { command = stands.0; stands = stands.1; of_site = (h.timed_out.each e k).of_site })
      (λ d k. inside d (subst (λ l. Contains (all_changes l) d) (sym h.acts_are) k))) c (subst (λ l. Contains (all_changes l) c) h.acts_are j)

  expiries_caused : (at : ℕ) (t : State) (part : List Act) → Expiries at t part → AreCaused part
  expiries_caused at t part h c j =
      let found = expired_drops h.expired c (subst (λ l. Contains (all_changes l) c) h.acts_are j) in
      subst Why (sym found.1) tt

  unanswered_caused : (u : State) (at last n : ℕ) (due : List ℕ) (part : List Act) (now : ℕ) → AreUnanswered u at last n due part now → AllOf Why (all_changes part)
  unanswered_caused u at last n due part now (asking.None_left l m) = tt
  unanswered_caused u at last n due part now (asking.Nothing_begins l m k ks more end h later) = unanswered_caused u at l m ks more end later
  unanswered_caused u at last n due part now (asking.Begins_session l m k ks b begun more end h is later) =
      all_acts Why begun more (begun_caused u at l (m + 1) b begun is) (unanswered_caused u at (l + 1) (m + 1) ks more end later)

  counted_caused : (last now : ℕ) → AllOf Why (all_changes (map changed (count_change counter.Session last now)))
  counted_caused last now = elim (nat_eq last now) as (λ b. AllOf Why (all_changes (map changed (cond b [] (Put (row.Count counter.Session now) ∷ []))))) [ true ↦ tt | false ↦ (tt, tt) ]

  deadlines_caused : (at : ℕ) (u : State) (work : Work) → Deadlines at u work → AreCaused work.acts
  deadlines_caused at u work h c j =
      let counts : List Act = map changed (count_change counter.Session u.rows.charged.last_session h.now) in
      all_in Why (all_changes (counts ++ h.acts))
      (all_acts Why counts h.acts (counted_caused u.rows.charged.last_session h.now) (unanswered_caused u at u.rows.request u.rows.charged.last_session h.due h.acts h.now h.unanswered))
      c (subst (λ l. Contains (all_changes l) c) (ap acts_in h.work_is) j)

  resends_caused : (last at : ℕ) (t : State) (part : List Act) → Resends last at t part → AreCaused part
  resends_caused last at t part h c j = resent_leave t.providers at t.rows.pushes h.due Why c (subst (λ l. Contains (all_changes l) c) h.acts_are j)

  tick_caused : (at : ℕ) (work : Work) → acts ≡ work.acts → TickLine s at work → AreCaused acts
  tick_caused at work same (one, more, (ends, timeouts, one_is), (two, more_two, (expired, expiries, two_is), (three, more_three, deadlines, (four, rest, (again, resends, four_is), rest_is, more_three_is), more_two_is), more_is), work_is) c j =
      let acts_are : acts ≡ ends ++ more.acts = same ∙ ap acts_in work_is ∙ ap (λ (w : Work). w.acts ++ more.acts) one_is in
      elim (in_parts ends more.acts c (subst (λ l. Contains (all_changes l) c) acts_are j)) [
        | inl k ↦ timeouts_caused at ends timeouts (λ d m. subst (λ l. Contains (all_changes l) d) (sym acts_are) (in_first ends more.acts d m)) c k
        | inr k ↦ elim (in_parts two.acts more_two.acts c (subst (λ l. Contains (all_changes l) c) (ap acts_in more_is) k)) [
          | inl m ↦ expiries_caused at _ expired expiries c (subst (λ l. Contains (all_changes l) c) (ap acts_in two_is) m)
          | inr m ↦ elim (in_parts three.acts more_three.acts c (subst (λ l. Contains (all_changes l) c) (ap acts_in more_two_is) m)) [
            | inl x ↦ deadlines_caused at _ three deadlines c x
            | inr x ↦ elim (in_parts four.acts rest.acts c (subst (λ l. Contains (all_changes l) c) (ap acts_in more_three_is) x)) [
              | inl y ↦ resends_caused s.rows.request at _ again resends c (subst (λ l. Contains (all_changes l) c) (ap acts_in four_is) y)
              | inr y ↦ absurd (in_none c (subst (λ l. Contains (all_changes l) c) (ap acts_in rest_is) y))
            ]
          ]
        ]
      ]

-- each record that the order to take a bill back puts is the credit of that bill
pub credit_puts : (s : State) (at : ℕ) (session : List ℕ) (acts : List Act) → CreditLine s at session acts → (x : Cdr) → Contains (all_changes acts) (Put (row.Cdr x)) →
    Crediting s (Credits at session) x
credit_puts s at session acts (credits.NothingToCredit none is) x i = absurd (in_none (Put (row.Cdr x)) (subst (λ l. Contains (all_changes l) (Put (row.Cdr x))) is i))
credit_puts s at session acts (credits.Credited bill to h later is) x i =
    let credit : Cdr = next_credit at bill in
    let stored : List Change = Put (row.Cdr credit) ∷ [] in
    elim (of_cons (Put (row.Push (s.rows.request + 1) to (push.PostCdr credit))) stored (Put (row.Cdr x)) (subst (λ l. Contains (all_changes l) (Put (row.Cdr x))) is i)) [
      | inl pushes ↦ absurd (cc)
      | inr puts ↦
          let both : Put (row.Cdr credit) ≡ Put (row.Cdr x) = in_single (Put (row.Cdr credit)) (Put (row.Cdr x)) puts in
          let same : x ≡ credit = cc in
          record { at = at; session = session; ordered = refl; bill = bill; to = to; credits = h; later = later; record_is = same }
    ]

-- what an input asks for has its causes
pub asked_caused : (s : State) (i : Input) (work : Work) → Asks s i work → (c : Change) → Contains (all_changes work.acts) c → Cause s i work.acts c
asked_caused s (Arrives at q) work comes = packet_caused s (Arrives at q) work.acts at q comes.provider work refl comes.from refl comes.line
asked_caused s (Serves evse in_service) work (part, line, is) =
    service_caused s (Serves evse in_service) work.acts evse in_service (subst (λ (w : Work). ServiceLine s evse in_service w.acts) (sym is) line)
asked_caused s (Reports at report) work line = report_caused s (Reports at report) work.acts at report work refl line
asked_caused s (Credits at session) work (part, line, is) = credit_caused s (Credits at session) work.acts at session (subst (λ (w : Work). CreditLine s at session w.acts) (sym is) line)
asked_caused s (Ticks at) work line = tick_caused s (Ticks at) work.acts at work refl line
asked_caused s Restarts work line = absurd line
asked_caused s (Reopens other) work line = absurd line
