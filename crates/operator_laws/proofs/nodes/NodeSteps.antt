-- Each event of an operator is a step of a node.
use Rattle.std.proofs.Common.{◌≡◌, ◌⊎◌, ◌+◌, ◌≤◌, ◌<◌, ℕ, List, [], ◌∷◌, length, inl, inr, refl, sym, ap, subst, ◌∙◌, arith}
use Rattle.std.specs.Prelude.{Option, Some, None, Contains, is_some, slice_get}
use Rattle.std.specs.Option.{option_map}
use Rattle.std.specs.FinMap.{get}
use Rattle.tables.proofs.Elements.{in_front, in_single}
use Rattle.tables.proofs.Options.{none_some}
use Rattle.ocpi_text.specs.Text.{key}
use Rattle.ocpi_types.specs.Stored.{body_of_push, body_of_reply}
use Rattle.ocpi_types.specs.declared.packet.Body.{Body}
use Rattle.ocpi_types.specs.declared.packet.Packet.{Packet}
use Rattle.ocpi_types.specs.declared.rows.Change.{Change}
use Rattle.ocpi_types.specs.declared.rows.Change.TheVariants.{Put, Drop}
use Rattle.ocpi_types.specs.declared.rows.Row.TheVariants as row
use Rattle.ocpi_types.specs.declared.rows.RowKey.TheVariants as keys
use Rattle.ocpi_types.specs.declared.sessions.Session.{Session}
use Rattle.ocpi_types.specs.declared.stored.Push.{Push}
use Rattle.ocpi_types.specs.declared.stored.Push.TheVariants as push
use Rattle.ocpi_types.specs.declared.stored.Reply.{Reply}
use Rattle.ocpi_types.specs.declared.stored.Reply.TheVariants as reply
use Rattle.ocpi_types.specs.declared.words.TokenType.{TokenType}
use Rattle.ocpi_types.specs.declared.words.TokenType.TheVariants as type
use Rattle.outbox.specs.Pushes.{subject, subject_of, type_number}
use Rattle.outbox.specs.declared.push_book.Outgoing.{Outgoing}
use Rattle.outbox.specs.declared.push_book.Subject.{Subject}
use Rattle.node_steps.specs.Acts.{all_changes, all_messages, all_requests, push_message}
use Rattle.node_steps.specs.Messages.{Message}
use Rattle.node_steps.specs.Peers.{spelled}
use Rattle.node_steps.proofs.Spelling.{spelled_listed, spelled_same}
use Rattle.node_laws.specs.Nodes as node_specs
use Rattle.node_laws.specs.Nodes.{AreAboutSame, AreGiven, Answers, Carries, CarriesStanding, CountsPackets, IsAnswer, IsMade, IsOwn, IsReply, IsRepeated, IsSettled, KeepsReplies, KeepsRequests, NodeStep, Request, request_of}
use Rattle.node_laws.proofs.BodyKinds.{asked_once, no_push, one_reply, reply_or_repeated}
use Rattle.node_laws.proofs.Joining.{carries_back, carries_equal, carry_one, one_value, settled_carried}
use Rattle.operator_rows.specs.State.{State}
use Rattle.operator_rows.specs.Stored.{change_key}
use Rattle.operator_rows.specs.Sound.{IsConsistent}
use Rattle.operator_steps.specs.Events.{Event, Input}
use Rattle.operator_laws.specs.AsNode.{AreAmong, node, wide, came_in, exchange, pushed_request, PacketsAreSpelled, StepsAreNodeSteps}
use Rattle.operator_laws.specs.Laws.{IsReplyTo}
use Rattle.operator_laws.proofs.events.Causes.{Answering}
use Rattle.operator_laws.proofs.events.Doing.{Does, does, put_now, stays_or, stood_or_put}
use Rattle.operator_laws.proofs.events.Keeping.{reply_stays}
use Rattle.operator_laws.proofs.events.Reasons as reasons
use Rattle.operator_laws.proofs.events.Reasons.{Ending, Pushing, Reason, Saying}
use Rattle.operator_laws.proofs.events.Standing.{consistent_stays}
use Rattle.operator_laws.proofs.nodes.Messages.{message_of, numbered_at, numbered_length, said_of, sent_as}
use Rattle.operator_laws.proofs.replies.Answering.{kept_or_answered}

-- what a map shows of an optional value
pub shown : (o : Option Outgoing) (r : Request) → option_map pushed_request o ≡ Some r → (x : Outgoing) × (o ≡ Some x) × (pushed_request x ≡ r)
shown None r e = absurd (let bad : None ≡ Some r = e in cc)
shown (Some x) r e = (x, refl, let same : pushed_request x ≡ r = cc in same)

-- which request the reply answers, as of any node
answers_of : (r : Reply) (b : Body) → IsReplyTo r b → Answers r b
answers_of (reply.CommandResponse x) b h = h
answers_of (reply.Ack x) b (t, is) = (push.PutToken t, is)
answers_of (reply.Authorization x) b h = absurd h

one_subject : (u w : Subject) → Some u ≡ Some w → u ≡ w
one_subject u w e = cc

type_positive : (t : TokenType) → type_number t ≡ 0 → ⊥
type_positive type.AdHocUser e = cc
type_positive type.AppUser e = cc
type_positive type.Other e = cc
type_positive type.Rfid e = cc

-- what a version replaces is an older one of its session
pub about_same : (to a : List ℕ) (p : Push) (v : Session) → subject a p ≡ subject to (push.PutSession v) → (w : Session) × (p ≡ push.PutSession w) × (key w.party ≡ key v.party) × (key w.id ≡ key v.id)
about_same to a (push.CommandResult x) v e = none_some _ e
about_same to a (push.PostCdr x) v e = none_some _ e
about_same to a (push.PutToken t) v e = absurd (type_positive t.token_type (ap (λ (u : Subject). u.kind) (one_subject _ _ e)))
about_same to a (push.PutSession w) v e = let same = one_subject _ _ e in (w, refl, ap (λ (u : Subject). u.party) same, ap (λ (u : Subject). u.id) same)

-- a change of a push makes it, or ends it
pub data OfPush (n : ℕ) (c : Change) : Type 0 where
  Made : (to : List ℕ) (p : Push) → c ≡ Put (row.Push n to p) → OfPush n c
  Ended : c ≡ Drop (keys.Push n) → OfPush n c

pub of_push : (n : ℕ) (c : Change) → keys.Push n ≡ change_key c → OfPush n c
of_push n (Put (row.Push m to p)) e = let same : m ≡ n = cc in Made to p (ap (λ z. Put (row.Push z to p)) same)
of_push n (Put x) e = absurd (cc)
of_push n (Drop k) e = Ended (ap Drop (sym e))

module _ (s t : State) (e : Event) (d : Does s e t) where
  pub counts : (ps : List (List ℕ)) → CountsPackets (node (wide ps s)) (exchange e) (node (wide ps t))
  counts ps = record {
    party = d.party;
    peers = refl;
    serial = d.serial ∙ ap (λ n. s.rows.serial + n) (sym (ap length d.packets ∙ numbered_length s.party s.rows.serial (all_messages d.acts)));
    each = λ k x at. let (from, number) = numbered_at s.party s.rows.serial (all_messages d.acts) k x (subst (λ l. slice_get l k ≡ Some x) d.packets at) in record { from = from; serial = number };
  }

  -- the message of a packet, and the packet of a message
  pub message_in : (x : Packet) → Contains e.packets x → Contains (all_messages d.acts) (message_of x)
  message_in x i = said_of s.party s.rows.serial (all_messages d.acts) x (subst (λ l. Contains l x) d.packets i)

  pub packet_in : (m : Message) → Contains (all_messages d.acts) m → (x : Packet) × Contains e.packets x × (message_of x ≡ m)
  packet_in m i =
      let (x, sent, is) = sent_as s.party s.rows.serial (all_messages d.acts) m i in
      (x, subst (λ l. Contains l x) (sym d.packets) sent, is)

  module _ (fine : IsConsistent s) (after : IsConsistent t) where
    pub saying : (x : Packet) → Contains e.packets x → Saying s e.input d.acts (message_of x)
    saying x i = d.sayings fine (message_of x) (message_in x i)

    pub pushing : (n : ℕ) (to : List ℕ) (p : Push) → Contains (all_changes d.acts) (Put (row.Push n to p)) → Pushing s e.input d.acts n to p
    pushing n to p puts = d.reasons fine (Put (row.Push n to p)) puts

    abbrev KeptReply : Packet → Reply → Type 0
    KeptReply x r = get t.rows.commands.replies (key x.to, x.request) ≡ Some r

    kept_reply : (x : Packet) (r : Reply) → x.body ≡ body_of_reply r → Saying s e.input d.acts (message_of x) → KeptReply x r
    kept_reply x r is (reasons.Replies q body_is listed (inl puts)) = subst (KeptReply x) (one_reply q r (sym body_is ∙ is)) (put_now s t e d fine (row.Reply (key x.to) x.request q) puts)
    kept_reply x r is (reasons.Replies q body_is listed (inr had)) = subst (KeptReply x) (one_reply q r (sym body_is ∙ is)) (reply_stays s t e d (key x.to) x.request q had)
    kept_reply x r is (reasons.Pushes p body_is puts) = absurd (no_push r p (sym is ∙ body_is))
    kept_reply x r is (reasons.Again to p body_is to_is stood) = absurd (no_push r p (sym is ∙ body_is))
    kept_reply x r is (reasons.Asks a body_is listed number acts_are) = absurd ((asked_once x.body a body_is).0 (r, is))

    answered : (p : List ℕ) (n : ℕ) (r : Reply) → Answering s e.input d.acts p n r → IsAnswer (exchange e) p n r
    answered p n r a = record {
      packet = a.replies.packet;
      came = subst (λ (i : Input). Contains (came_in i) a.replies.packet) (sym a.replies.arrives) (in_front a.replies.packet []);
      from = a.by;
      number = a.number;
      answers = answers_of r a.replies.packet.body (subst (λ z. IsReplyTo z a.replies.packet.body) a.reply_is a.replies.answers);
    }

    -- a push that is made stands
    pub made_stands : (n : ℕ) (to : List ℕ) (p : Push) → Contains (all_changes d.acts) (Put (row.Push n to p)) → get t.rows.pushes n ≡ Some (record { to = to; push = p })
    made_stands n to p puts = put_now s t e d fine (row.Push n to p) puts

    pub numbered_below : (n : ℕ) (o : Outgoing) → get t.rows.pushes n ≡ Some o → n ≤ t.rows.request
    numbered_below n o has = after.sound.outbox.pushes_counted n (ap is_some has)

    -- each packet is to a provider of the site, as it spells it
    listed_now : (x : Packet) → Saying s e.input d.acts (message_of x) → Contains s.providers x.to
    listed_now x (reasons.Replies q is listed how) = listed
    listed_now x (reasons.Pushes p is puts) = (pushing x.request x.to p puts).listed
    listed_now x (reasons.Again to p is to_is stood) = subst (Contains s.providers) (sym to_is) (spelled_listed s.providers to (fine.sound.pushes x.request (record { to = to; push = p }) stood))
    listed_now x (reasons.Asks a is listed number acts_are) = listed

    pub spelled_now : (x : Packet) → Contains e.packets x → Contains s.providers x.to
    spelled_now x i = listed_now x (saying x i)

    module _ (ps : List (List ℕ)) (among : AreAmong s.providers ps) where
      keeps_replies : KeepsReplies (node (wide ps s)) (exchange e) (node (wide ps t))
      keeps_replies = record {
        stay = λ k r has. reply_stays s t e d k.0 k.1 r has;
        answer = λ p n r has. elim (kept_or_answered s t e d p n r has) [ inl old ↦ inl old | inr a ↦ inr (answered p n r a) ];
        kept = λ x r i is. kept_reply x r is (saying x i);
      }

      module _ (given : AreGiven (node (wide ps s))) where
        -- a request that is sent: one that stood, or a new one, or the only message
        data Sent (x : Packet) : Type 0 where
          Old : CarriesStanding (node (wide ps s)) x → Sent x
          New : s.rows.request < x.request → (node (wide ps t)).standing x.request ≡ Some (request_of x) → x.request ≤ t.rows.request → Sent x
          Only : all_messages d.acts ≡ message_of x ∷ [] → s.rows.request < x.request → x.request ≤ t.rows.request → Sent x

        request_is : (x : Packet) (p : Push) → x.body ≡ body_of_push p → pushed_request (record { to = x.to; push = p }) ≡ request_of x
        request_is x p is = ap (λ (b : Body). record { to = x.to; body = b }) (sym is)

        -- what is sent again carries what stood
        carries_old : (x : Packet) (to : List ℕ) (p : Push) → x.body ≡ body_of_push p → x.to ≡ spelled s.providers to → Carries x (pushed_request (record { to = to; push = p }))
        carries_old x to p is to_is = record { to = ap key to_is ∙ spelled_same s.providers to; body = is }

        sent_how : (x : Packet) → ¬ IsReply x.body → Saying s e.input d.acts (message_of x) → Sent x
        sent_how x apart (reasons.Replies q is listed how) = absurd (apart (q, is))
        sent_how x apart (reasons.Pushes p is puts) =
            let stands = made_stands x.request x.to p puts in
            New (pushing x.request x.to p puts).above (ap (option_map pushed_request) stands ∙ ap (λ z. Some z) (request_is x p is)) (numbered_below x.request _ stands)
        sent_how x apart (reasons.Again to p is to_is stood) = Old (pushed_request (record { to = to; push = p }), ap (option_map pushed_request) stood, carries_old x to p is to_is)
        sent_how x apart (reasons.Asks a is listed number acts_are) =
            Only (ap all_messages acts_are ∙ (λ i. record { to = x.to; request = (sym number) i; body = (sym is) i } ∷ [])) (omega (arith, number))
            (let more = d.request in let one = ap all_requests acts_are in omega (arith, number, more, one))

        own : (x : Packet) → Sent x → IsOwn (node (wide ps s)) (node (wide ps t)) x
        own x (Old stood) = inl stood
        own x (New above stands below) = inr (above, below)
        own x (Only alone above below) = inr (above, below)

        -- the only message is that of each packet
        only : (x y : Packet) → all_messages d.acts ≡ message_of x ∷ [] → Contains e.packets y → Carries x (request_of y)
        only x y alone j =
            let same = in_single (message_of x) (message_of y) (subst (λ l. Contains l (message_of y)) alone (message_in y j)) in
            record { to = ap (λ (m : Message). key m.to) same; body = ap (λ (m : Message). m.body) same }

        one : (x y : Packet) → Contains e.packets x → Contains e.packets y → x.request ≡ y.request → Sent x → Sent y → Carries x (request_of y)
        one x y i j equal (Only alone above below) other = only x y alone j
        one x y i j equal other (Only alone above below) = carries_back y x (only y x alone i)
        one x y i j equal (Old a) (Old b) = carry_one x y a.0 b.0 a.2 b.2 (one_value a.0 b.0 (sym a.1 ∙ ap (node (wide ps s)).standing equal ∙ b.1))
        one x y i j equal (New above a below) (New over b under) =
            carries_equal x (request_of x) (request_of y) (record { to = refl; body = refl }) (one_value (request_of x) (request_of y) (sym a ∙ ap (node (wide ps t)).standing equal ∙ b))
        one x y i j equal (Old a) (New above b below) = absurd (let under = (given x.request a.0 a.1).below in omega (arith, under, above, equal))
        one x y i j equal (New above a below) (Old b) = absurd (let under = (given y.request b.0 b.1).below in omega (arith, under, above, equal))

        made_now : (n : ℕ) (o : Outgoing) → get t.rows.pushes n ≡ Some o → Contains (all_changes d.acts) (Put (row.Push n o.to o.push)) → IsMade (node (wide ps s)) (exchange e) (node (wide ps t)) n (pushed_request o)
        made_now n o has puts =
            let h = pushing n o.to o.push puts in
            let (x, sent, is) = packet_in (push_message n o.to o.push) h.says in
            record { above = h.above; given = numbered_below n o has; packet = x; was_sent = sent; number = ap (λ (m : Message). m.request) is; request = ap (λ (m : Message). record { to = m.to; body = m.body }) is }

        made : (n : ℕ) (r : Request) → (node (wide ps t)).standing n ≡ Some r → ((node (wide ps s)).standing n ≡ Some r) ⊎ IsMade (node (wide ps s)) (exchange e) (node (wide ps t)) n r
        made n r has =
            let (o, stands, is) = shown (get t.rows.pushes n) r has in
            elim (stood_or_put s t e d (row.Push n o.to o.push) tt stands) [
              | inl puts ↦ inr (subst (IsMade (node (wide ps s)) (exchange e) (node (wide ps t)) n) is (made_now n o stands puts))
              | inr old ↦ inl (ap (option_map pushed_request) old ∙ ap (λ z. Some z) is)
            ]

        settled_by : (n : ℕ) (o : Outgoing) → get s.rows.pushes n ≡ Some o → Ending s e.input d.acts n → IsSettled (exchange e) n (pushed_request o)
        settled_by n o stood (reasons.Acknowledged at q a arrives is done (x, has, same) number) =
            let it = one_value x o (sym has ∙ stood) in
            node_specs.Acknowledged q (subst (λ (i : Input). Contains (came_in i) q) (sym arrives) (in_front q [])) a is done (sym same ∙ ap (λ (z : Outgoing). key z.to) it) number
        settled_by n o stood (reasons.Replaced v to x m has about above says stored) =
            let it = one_value x o (sym has ∙ stood) in
            let (w, push_is, party, id) = about_same to o.to o.push v (ap subject_of (sym it) ∙ about) in
            let (y, sent, is) = packet_in (push_message m to (push.PutSession v)) says in
            let below = (given n (pushed_request o) (ap (option_map pushed_request) stood)).below in
            let number = ap (λ (z : Message). z.request) is in
            node_specs.Replaced y sent (omega (arith, below, above, number)) (node_specs.Sessions w v (ap body_of_push push_is) (ap (λ (z : Message). z.body) is) party id)

        changed_push : (n : ℕ) (o : Outgoing) → get s.rows.pushes n ≡ Some o → (c : Change) → Contains (all_changes d.acts) c → OfPush n c → IsSettled (exchange e) n (pushed_request o)
        changed_push n o stood c i (Made to p is) =
            let above = (pushing n to p (subst (λ z. Contains (all_changes d.acts) z) is i)).above in
            let below = (given n (pushed_request o) (ap (option_map pushed_request) stood)).below in
            absurd (omega (arith, above, below))
        changed_push n o stood c i (Ended is) = settled_by n o stood (d.reasons fine (Drop (keys.Push n)) (subst (λ z. Contains (all_changes d.acts) z) is i))

        stays : (n : ℕ) (r : Request) → (node (wide ps s)).standing n ≡ Some r → ((node (wide ps t)).standing n ≡ Some r) ⊎ IsSettled (exchange e) n r
        stays n r has =
            let (o, stood, is) = shown (get s.rows.pushes n) r has in
            elim (stays_or s t e d (row.Push n o.to o.push) tt stood) [
              | inl still ↦ inl (ap (option_map pushed_request) still ∙ ap (λ z. Some z) is)
              | inr (c, i, same) ↦ inr (subst (IsSettled (exchange e) n) is (changed_push n o stood c i (of_push n c same)))
            ]

        stands : (x : Packet) → IsRepeated x.body → Saying s e.input d.acts (message_of x) → CarriesStanding (node (wide ps t)) x ⊎ IsSettled (exchange e) x.request (request_of x)
        stands x repeated (reasons.Replies q is listed how) = absurd (reply_or_repeated x.body (q, is) repeated)
        stands x repeated (reasons.Pushes p is puts) =
            inl (request_of x, ap (option_map pushed_request) (made_stands x.request x.to p puts) ∙ ap (λ z. Some z) (request_is x p is), record { to = refl; body = refl })
        stands x repeated (reasons.Again to p is to_is stood) =
            let r = pushed_request (record { to = to; push = p }) in
            let carries = carries_old x to p is to_is in
            elim (stays x.request r (ap (option_map pushed_request) stood)) [
              | inl still ↦ inl (r, still, carries)
              | inr settled ↦ inr (settled_carried (exchange e) x.request x r carries settled)
            ]
        stands x repeated (reasons.Asks a is listed number acts_are) = absurd ((asked_once x.body a is).1 repeated)

        asks : KeepsRequests (node (wide ps s)) (exchange e) (node (wide ps t))
        asks = record {
          to_peer = λ x i. among x.to (spelled_now x i);
          own = λ x i apart. own x (sent_how x apart (saying x i));
          one = λ x y i j x_apart y_apart equal. one x y i j equal (sent_how x x_apart (saying x i)) (sent_how y y_apart (saying y j));
          made = made;
          stays = stays;
          stands = λ x i repeated. stands x repeated (saying x i);
        }

      pub node_step : NodeStep (node (wide ps s)) (exchange e) (node (wide ps t))
      node_step = record { counts = counts ps; replies = keeps_replies; rises = (let more = d.request in omega (arith, more)); asks = asks }

pub steps_are_node_steps : StepsAreNodeSteps
steps_are_node_steps ps s t e among fine happens = node_step s t e (does s t e happens) fine (consistent_stays s t e happens fine) ps among

pub packets_are_spelled : PacketsAreSpelled
packets_are_spelled s t e fine happens x i = spelled_now s t e (does s t e happens) fine (consistent_stays s t e happens fine) x i
