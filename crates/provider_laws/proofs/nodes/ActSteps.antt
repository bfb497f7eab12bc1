-- What each act of a provider is to a node, and acts one after the other, which are one step by `join`.
use Rattle.std.proofs.Common.{◌≡◌, ◌≢◌, ◌⊎◌, ◌+◌, ◌≤◌, ◌++◌, ℕ, List, [], ◌∷◌, length, inl, inr, refl, sym, ap, subst, ◌∙◌, arith, length-append}
use Rattle.std.specs.Prelude.{Option, Some, None, Contains}
use Rattle.std.specs.Cmp.{nat_cmp_total}
use Rattle.std.specs.FinMap.{get, insert, remove, nat_cmp-IsAntisymmetric}
use Rattle.std.proofs.lemmas.List.Elements.{Contains-append_cases}
use Rattle.tables.proofs.Elements.{in_front}
use Rattle.tables.proofs.Maps.{get-insert_same, get-insert_other, get-remove_same, get-remove_other, told}
use Rattle.tables.proofs.Options.{none_some}
use Rattle.ocpi_text.specs.Text.{key}
use Rattle.ocpi_types.specs.Commands.{url_of}
use Rattle.ocpi_types.specs.Stored.{body_of_reply, body_of_push}
use Rattle.ocpi_types.specs.declared.packet.Packet.{Packet}
use Rattle.ocpi_types.specs.declared.packet.Body.TheVariants as body
use Rattle.ocpi_types.specs.declared.replies.Ack.{Ack}
use Rattle.ocpi_types.specs.declared.replies.CommandResponse.{CommandResponse}
use Rattle.ocpi_types.specs.declared.replies.CommandResult.{CommandResult}
use Rattle.ocpi_types.specs.declared.rows.Change.{Change}
use Rattle.ocpi_types.specs.declared.commands.Command.{Command}
use Rattle.ocpi_types.specs.declared.stored.Push.{Push}
use Rattle.ocpi_types.specs.declared.stored.Reply.{Reply}
use Rattle.ocpi_types.specs.declared.stored.SentCommand.{SentCommand}
use Rattle.ocpi_types.specs.declared.words.CommandResultType.{CommandResultType}
use Rattle.outbox.specs.Outbox.{IsTo}
use Rattle.outbox.specs.Pushes.{Pushes}
use Rattle.outbox.specs.declared.push_book.Outgoing.{Outgoing}
use Rattle.node_steps.specs.Acts.{Act, acknowledged, all_messages, answered, command_resent, commanded, pushed, repeated, resent, unanswered}
use Rattle.node_steps.specs.Acts as act
use Rattle.node_steps.specs.Messages.{Message, numbered}
use Rattle.node_steps.proofs.Gathering.{messages_append, numbered_append}
use Rattle.node_laws.specs.Nodes.{Node, Exchange, Request, Answers, Acknowledged, AreAboutSame, AreGiven, IsSettled, NodeStep, IsReply, Replaced, Responded, Resulted, both, request_of}
use Rattle.node_laws.proofs.Acts.{StaysAmong, again_step, answer_step, quiet_step, request_new_step, resend_step, settle_step, wider_step}
use Rattle.node_laws.proofs.BodyKinds.{no_command, no_push}
use Rattle.node_laws.proofs.Joining.{idle_step, join}
use Rattle.provider_rows.specs.State.{State, Rows}
use Rattle.provider_rows.specs.Sound.{with_rows}
use Rattle.provider_rows.specs.Stored.{changed}
use Rattle.provider_steps.specs.Acts.{kept, replaced, with_answer, with_result}
use Rattle.provider_laws.specs.AsNode.{command_request, node, pushed_request, standing_in, standing_of, while_open}
use Rattle.provider_laws.proofs.events.Through.{one_act, through, through_append}

-- a request that waits is its command
open_request : (a : Option CommandResponse) (x : Option CommandResultType) (r q : Request) → while_open a x r ≡ Some q → r ≡ q
open_request None None r q e = cc
open_request None (Some x) r q e = none_some q e
open_request (Some a) x r q e = none_some q e

one_request : (a b : Request) → Some a ≡ Some b → a ≡ b
one_request a b e = cc

-- with a response, or with a result, a command waits no more
closed_by_result : (a : Option CommandResponse) (x : CommandResultType) (r : Request) → while_open a (Some x) r ≡ None
closed_by_result None x r = refl
closed_by_result (Some a) x r = refl

pub through_serial : (acts : List Act) (r : Rows) → (through acts r).serial ≡ r.serial + length (all_messages acts)
through_serial [] r = omega arith
through_serial (a ∷ acts) r =
    let all = length-append a.messages (all_messages acts) in
    let sum : (r.serial + length a.messages) + length (all_messages acts) ≡ r.serial + length (a.messages ++ all_messages acts) = omega (arith, all) in
    through_serial acts (one_act a r) ∙ sum

module _ (s : State) (came : List Packet) where
  -- the provider with these rows, and the packets of these messages, next in turn
  abbrev pub node_at : Rows → Node
  node_at r = node (with_rows r s)

  abbrev pub sends : Rows → List Message → Exchange
  sends r ms = record { came = came; packets = numbered s.party r.serial ms }

  -- the acts are one step of the node with these rows
  abbrev pub AreStep : Rows → List Act → Type 0
  AreStep r acts = NodeStep (node_at r) (sends r (all_messages acts)) (node_at (through acts r))

  pub no_step : (r : Rows) → AreStep r []
  no_step r = idle_step (node_at r) came

  pub step_append : (xs ys : List Act) (r : Rows) → AreStep r xs → AreStep (through xs r) ys → AreStep r (xs ++ ys)
  step_append xs ys r h g =
      let first = sends r (all_messages xs) in
      let rest = sends (through xs r) (all_messages ys) in
      subst (λ t. NodeStep (node_at r) (sends r (all_messages (xs ++ ys))) (node_at t)) (sym (through_append xs ys r))
      (wider_step (node_at r) (node_at (through ys (through xs r))) (both first rest) (sends r (all_messages (xs ++ ys)))
      (ap (λ n. numbered s.party r.serial (all_messages xs) ++ numbered s.party n (all_messages ys)) (through_serial xs r)
      ∙ sym (numbered_append s.party r.serial (all_messages xs) (all_messages ys)) ∙ ap (numbered s.party r.serial) (sym (messages_append xs ys)))
      (λ q i. elim (Contains-append_cases came came q i) [ inl j ↦ j | inr j ↦ j ])
      (join (node_at r) (node_at (through xs r)) (node_at (through ys (through xs r))) first rest h g))

  module _ (r : Rows) where
    among : (t : Rows) → StaysAmong (node_at r) (node_at t)
    among t = record { party = refl; peers = refl }

    -- the packet of the next message
    abbrev next : Message → Packet
    next m = record { from = s.party; to = m.to; serial = r.serial + 1; request = m.request; body = m.body }

    -- nothing changes that other nodes can tell
    pub quiet : (c : Change) → (changed c r).replies ≡ r.replies → ((n : ℕ) → standing_in (changed c r).outbox n ≡ standing_in r.outbox n) → AreStep r (act.changed c ∷ [])
    quiet c replies standing =
        quiet_step (node_at r) (node_at (one_act (act.changed c) r)) came (among (one_act (act.changed c) r)) (omega arith) (omega arith) replies standing

    pub repeated_step : (to : List ℕ) (n : ℕ) (x : Reply) → Contains s.operators to → get r.replies (key to, n) ≡ Some x → AreStep r (repeated to n x ∷ [])
    repeated_step to n x listed kept_one =
        again_step (node_at r) (node_at (one_act (repeated to n x) r)) came (next (record { to = to; request = n; body = body_of_reply x })) x (among (one_act (repeated to n x) r))
        (record { from = refl; serial = omega arith }) listed refl (omega arith) (omega arith) (λ m. refl) refl kept_one

    pub answered_step : (p to : List ℕ) (n : ℕ) (x : Reply) → Contains s.operators to → key to ≡ p → get r.replies (p, n) ≡ None →
        (q : Packet) → Contains came q → key q.from ≡ p → q.request ≡ n → Answers x q.body → AreStep r (answered p to n x ∷ [])
    answered_step p to n x listed same new q arrived by number answers =
        answer_step (node_at r) (node_at (one_act (answered p to n x) r)) came (next (record { to = to; request = n; body = body_of_reply x })) x (among (one_act (answered p to n x) r))
        (record { from = refl; serial = omega arith }) listed refl (omega arith) (omega arith) (λ m. refl) p same new refl
        (record { packet = q; came = arrived; from = by; number = number; answers = answers })

    -- neither a push nor a command is a reply
    push_unreplied : (p : Push) → ¬ IsReply (body_of_push p)
    push_unreplied p is = no_push is.0 p (sym is.1)

    command_unreplied : (c : Command) → ¬ IsReply (body.Command c)
    command_unreplied c is = no_command is.0 c (sym is.1)

    -- to its party as it is spelled now: as it was, or as a peer
    abbrev pub IsSpelledNow : List ℕ → List ℕ → Type 0
    IsSpelledNow to now = (key now ≡ key to) × ((now ≡ to) ⊎ Contains s.operators now)

    to_peer : (n : ℕ) (q : Request) (now : List ℕ) → standing_in r.outbox n ≡ Some q → (now ≡ q.to) ⊎ Contains s.operators now → AreGiven (node_at r) → Contains s.operators now
    to_peer n q now stands (inl same) given = subst (Contains s.operators) (sym same) (given n q stands).peer
    to_peer n q now stands (inr listed) given = listed

    pub resent_step : (at n : ℕ) (o : Outgoing) (now : List ℕ) → IsSpelledNow o.to now → get r.outbox.pushes n ≡ Some o → AreStep r (resent at n now o.push ∷ [])
    resent_step at n o now spelling stands =
        resend_step (node_at r) (node_at (one_act (resent at n now o.push) r)) came (next (record { to = now; request = n; body = body_of_push o.push })) (among (one_act (resent at n now o.push) r))
        (record { from = refl; serial = omega arith }) (push_unreplied o.push) (omega arith) refl (omega arith) (λ m. refl)
        (pushed_request o, waiting, record { to = spelling.0; body = refl }) (to_peer n (pushed_request o) now waiting spelling.1)
      where
        waiting : standing_in r.outbox n ≡ Some (pushed_request o)
        waiting = ap (λ z. standing_of z (get r.outbox.commands n)) stands

    pub command_resent_step : (at n : ℕ) (c : SentCommand) (now : List ℕ) → IsSpelledNow c.to now → get r.outbox.pushes n ≡ None → get r.outbox.commands n ≡ Some c → c.answer ≡ None → c.result ≡ None →
        AreStep r (command_resent at n now c.command ∷ [])
    command_resent_step at n c now spelling none stands unanswered_one unresulted =
        resend_step (node_at r) (node_at (one_act (command_resent at n now c.command) r)) came (next (record { to = now; request = n; body = body.Command c.command })) (among (one_act (command_resent at n now c.command) r))
        (record { from = refl; serial = omega arith }) (command_unreplied c.command) (omega arith) refl (omega arith) (λ m. refl)
        (command_request c, waiting ∙ open_one, record { to = spelling.0; body = refl }) (to_peer n (command_request c) now (waiting ∙ open_one) spelling.1)
      where
        waiting : standing_in r.outbox n ≡ while_open c.answer c.result (command_request c)
        waiting = λ i. standing_of (none i) (stands i)

        open_one : while_open c.answer c.result (command_request c) ≡ Some (command_request c)
        open_one = λ i. while_open (unanswered_one i) (unresulted i) (command_request c)

    pub commanded_step : (at n : ℕ) (to : List ℕ) (c : Command) → Contains s.operators to → n ≡ r.outbox.last + 1 → get r.outbox.pushes n ≡ None → AreStep r (commanded at n to c ∷ [])
    commanded_step at n to c listed number none =
        request_new_step (node_at r) (node_at (one_act (commanded at n to c) r)) came (next (record { to = to; request = n; body = body.Command c })) (among (one_act (commanded at n to c) r))
        (record { from = refl; serial = omega arith }) (command_unreplied c) (omega arith) refl listed (omega arith) (omega (arith, number))
        (λ i. standing_of (none i) (get-insert_same nat_cmp_total nat_cmp-IsAntisymmetric r.outbox.commands n (unanswered to c) i))
        (λ m q apart has. inl (other m apart ∙ has))
        (λ m q apart has. sym (other m apart) ∙ has)
      where
        other : (m : ℕ) → m ≢ n → standing_of (get r.outbox.pushes m) (get (insert r.outbox.commands n (unanswered to c)) m) ≡ standing_in r.outbox m
        other m apart = ap (standing_of (get r.outbox.pushes m)) (get-insert_other nat_cmp_total nat_cmp-IsAntisymmetric r.outbox.commands n (unanswered to c) m apart)

    -- a push, in place of an older one about the same or not
    pub pushed_step : (at n : ℕ) (to : List ℕ) (p : Push) → Contains s.operators to → n ≡ r.outbox.last + 1 → AreStep r (pushed at n to p ∷ [])
    pushed_step at n to p listed number =
        let o : Outgoing = record { to = to; push = p } in
        request_new_step (node_at r) (node_at (one_act (pushed at n to p) r)) came (next (record { to = to; request = n; body = body_of_push p })) (among (one_act (pushed at n to p) r))
        (record { from = refl; serial = omega arith }) (push_unreplied p) (omega arith) refl listed (omega arith) (omega (arith, number))
        (ap (λ z. standing_of z (get r.outbox.commands n)) (get-insert_same nat_cmp_total nat_cmp-IsAntisymmetric r.outbox.pushes n o))
        (λ m q apart has. inl (other m apart ∙ has))
        (λ m q apart has. sym (other m apart) ∙ has)
      where
        other : (m : ℕ) → m ≢ n → standing_of (get (insert r.outbox.pushes n (record { to = to; push = p })) m) (get r.outbox.commands m) ≡ standing_in r.outbox m
        other m apart = ap (λ z. standing_of z (get r.outbox.commands m)) (get-insert_other nat_cmp_total nat_cmp-IsAntisymmetric r.outbox.pushes n (record { to = to; push = p }) m apart)

    -- the push of a number, if it stands, is about the same
    abbrev pub IsReplacedBy : ℕ → List ℕ → Push → Type 0
    IsReplacedBy k to p = (o : Outgoing) → get r.outbox.pushes k ≡ Some o → AreAboutSame (pushed_request o) (pushed_request (record { to = to; push = p }))

    module _ (at n : ℕ) (to : List ℕ) (p : Push) (k : ℕ) (number : n ≡ r.outbox.last + 1) (below : k ≤ r.outbox.last) (none : get r.outbox.commands k ≡ None) (same : IsReplacedBy k to p) where
      abbrev o : Outgoing
      o = record { to = to; push = p }

      abbrev x : Packet
      x = record { from = s.party; to = to; serial = r.serial + 1; request = n; body = body_of_push p }

      abbrev pushes : Pushes
      pushes = insert (remove r.outbox.pushes k) n o

      other : (m : ℕ) → m ≢ n → m ≢ k → standing_of (get pushes m) (get r.outbox.commands m) ≡ standing_in r.outbox m
      other m apart elsewhere = ap (λ z. standing_of z (get r.outbox.commands m))
          (get-insert_other nat_cmp_total nat_cmp-IsAntisymmetric (remove r.outbox.pushes k) n o m apart ∙ get-remove_other nat_cmp_total nat_cmp-IsAntisymmetric r.outbox.pushes k m elsewhere)

      gone : (m : ℕ) → m ≢ n → m ≡ k → standing_of (get pushes m) (get r.outbox.commands m) ≡ None
      gone m apart here =
          let left : get pushes m ≡ None = get-insert_other nat_cmp_total nat_cmp-IsAntisymmetric (remove r.outbox.pushes k) n o m apart ∙ ap (get (remove r.outbox.pushes k)) here
          ∙ get-remove_same nat_cmp_total nat_cmp-IsAntisymmetric r.outbox.pushes k in
          let uncommanded : get r.outbox.commands m ≡ None = ap (get r.outbox.commands) here ∙ none in
          λ i. standing_of (left i) (uncommanded i)

      settled : (q : Request) (y : Option Outgoing) → get r.outbox.pushes k ≡ y → standing_of y (get r.outbox.commands k) ≡ Some q → IsSettled (record { came = came; packets = x ∷ [] }) k q
      settled q None is has = none_some q (sym (ap (standing_of None) none) ∙ has)
      settled q (Some y) is has =
          Replaced x (in_front x []) (omega (arith, below, number)) (subst (λ z. AreAboutSame z (request_of x)) (one_request (pushed_request y) q has) (same y is))

      stays : (m : ℕ) (q : Request) → m ≢ n → standing_in r.outbox m ≡ Some q → (standing_of (get pushes m) (get r.outbox.commands m) ≡ Some q) ⊎ IsSettled (record { came = came; packets = x ∷ [] }) m q
      stays m q apart has = elim (told nat_cmp_total nat_cmp-IsAntisymmetric m k) [
        | inl here ↦ inr (subst (λ z. IsSettled (record { came = came; packets = x ∷ [] }) z q) (sym here) (settled q (get r.outbox.pushes k) refl (sym (ap (standing_in r.outbox) here) ∙ has)))
        | inr elsewhere ↦ inl (other m apart elsewhere ∙ has)
      ]

      old : (m : ℕ) (q : Request) → m ≢ n → standing_of (get pushes m) (get r.outbox.commands m) ≡ Some q → standing_in r.outbox m ≡ Some q
      old m q apart has = elim (told nat_cmp_total nat_cmp-IsAntisymmetric m k) [
        | inl here ↦ none_some q (sym (gone m apart here) ∙ has)
        | inr elsewhere ↦ sym (other m apart elsewhere) ∙ has
      ]

      pub replaced_step : Contains s.operators to → AreStep r (replaced (Some k) ++ (pushed at n to p ∷ []))
      replaced_step listed =
          request_new_step (node_at r) (node_at (through (replaced (Some k) ++ (pushed at n to p ∷ [])) r)) came x (record { party = refl; peers = refl })
          (record { from = refl; serial = omega arith }) (push_unreplied p) (omega arith) refl listed (omega arith) (omega (arith, number))
          (ap (λ z. standing_of z (get r.outbox.commands n)) (get-insert_same nat_cmp_total nat_cmp-IsAntisymmetric (remove r.outbox.pushes k) n o))
          stays old

    pub acknowledged_step : (q : Packet) (a : Ack) → Contains came q → q.body ≡ body.Ack a → a.status_code ≡ 1000 → IsTo r.outbox.pushes q.from q.request → get r.outbox.commands q.request ≡ None →
        AreStep r (acknowledged q.request ∷ [])
    acknowledged_step q a arrived is done by none =
        settle_step (node_at r) (node_at (one_act (acknowledged q.request) r)) came (among (one_act (acknowledged q.request) r)) (omega arith) (omega arith) refl q.request
        (λ n apart. ap (λ z. standing_of z (get r.outbox.commands n)) (get-remove_other nat_cmp_total nat_cmp-IsAntisymmetric r.outbox.pushes q.request n apart))
        (λ i. standing_of (get-remove_same nat_cmp_total nat_cmp-IsAntisymmetric r.outbox.pushes q.request i) (none i))
        (λ x has. Acknowledged q arrived a is done (addressed x has) refl)
      where
        addressed : (x : Request) → standing_in r.outbox q.request ≡ Some x → key q.from ≡ key x.to
        addressed x has =
            let both_are : Some (pushed_request by.0) ≡ Some x = sym (ap (λ z. standing_of z (get r.outbox.commands q.request)) by.1) ∙ has in
            let same : pushed_request by.0 ≡ x = cc in
            sym by.2 ∙ ap (λ (z : Request). key z.to) same

    -- the command of a number waits no more
    settled_command : (n : ℕ) (c d : SentCommand) → get r.outbox.pushes n ≡ None → get r.outbox.commands n ≡ Some c → while_open d.answer d.result (command_request d) ≡ None →
        (IsSettled (record { came = came; packets = [] }) n (command_request c)) → AreStep r (kept n d ∷ [])
    settled_command n c d none stands closed settles =
        settle_step (node_at r) (node_at (one_act (kept n d) r)) came (among (one_act (kept n d) r)) (omega arith) (omega arith) refl n
        (λ m apart. ap (standing_of (get r.outbox.pushes m)) (get-insert_other nat_cmp_total nat_cmp-IsAntisymmetric r.outbox.commands n d m apart))
        (now ∙ closed)
        (λ x has. subst (IsSettled (record { came = came; packets = [] }) n) (open_request c.answer c.result (command_request c) x (sym before ∙ has)) settles)
      where
        before : standing_in r.outbox n ≡ while_open c.answer c.result (command_request c)
        before = λ i. standing_of (none i) (stands i)

        now : standing_of (get r.outbox.pushes n) (get (insert r.outbox.commands n d) n) ≡ while_open d.answer d.result (command_request d)
        now = λ i. standing_of (none i) (get-insert_same nat_cmp_total nat_cmp-IsAntisymmetric r.outbox.commands n d i)

    pub responded_step : (q : Packet) (w : CommandResponse) (c : SentCommand) → Contains came q → q.body ≡ body.CommandResponse w → get r.outbox.pushes q.request ≡ None →
        get r.outbox.commands q.request ≡ Some c → key c.to ≡ key q.from → AreStep r (kept q.request (with_answer w c) ∷ [])
    responded_step q w c arrived is none stands by =
        settled_command q.request c (with_answer w c) none stands refl (Responded c.command refl q arrived w is (sym by) refl)

    pub resulted_step : (q : Packet) (w : CommandResult) (n : ℕ) (c : SentCommand) → Contains came q → q.body ≡ body.CommandResult w → get r.outbox.pushes n ≡ None →
        get r.outbox.commands n ≡ Some c → key c.to ≡ key q.from → w.response_url ≡ url_of c.command → AreStep r (kept n (with_result w.result c) ∷ [])
    resulted_step q w n c arrived is none stands by posted =
        settled_command n c (with_result w.result c) none stands (closed_by_result c.answer w.result (command_request c)) (Resulted c.command refl q arrived w is (sym by) posted)
