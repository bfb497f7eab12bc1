-- Each command that was sent stands under its number, with its addressee.
use Rattle.std.proofs.Common.{◌≡◌, ◌+◌, ◌++◌, ℕ, List, [], ◌∷◌, inl, inr, refl, sym, ap, subst, ◌∙◌}
use Rattle.std.specs.Prelude.{Option, Some, None, Contains}
use Rattle.std.specs.Cmp.{nat_cmp_total}
use Rattle.std.specs.FinMap.{get, insert, nat_cmp-IsAntisymmetric}
use Rattle.std.proofs.lemmas.List.Elements.{Contains-append_cases, Contains-append_right}
use Rattle.tables.proofs.Elements.{in_front, in_none, in_single}
use Rattle.tables.proofs.Maps.{get-insert_same}
use Rattle.ocpi_text.specs.Text.{key}
use Rattle.ocpi_types.specs.Stored.{body_of_push, body_of_reply}
use Rattle.ocpi_types.specs.declared.events.Order.{Order}
use Rattle.ocpi_types.specs.declared.packet.Body.TheVariants as body
use Rattle.ocpi_types.specs.declared.packet.Packet.{Packet}
use Rattle.ocpi_types.specs.declared.commands.Command.{Command}
use Rattle.ocpi_types.specs.declared.stored.Push.{Push}
use Rattle.ocpi_types.specs.declared.stored.Push.TheVariants as push
use Rattle.ocpi_types.specs.declared.stored.Reply.{Reply}
use Rattle.ocpi_types.specs.declared.stored.SentCommand.{SentCommand}
use Rattle.ocpi_types.specs.declared.token.Token.{Token}
use Rattle.outbox.specs.declared.push_book.Outgoing.{Outgoing}
use Rattle.outbox.specs.Commands.{Commands}
use Rattle.outbox.specs.Outbox.{OutboxRows}
use Rattle.node_steps.specs.Acts.{Act, all_messages, all_requests, command_message, commanded, in_turn, push_message, pushed, unanswered}
use Rattle.node_steps.specs.Messages.{Message, numbered}
use Rattle.node_steps.specs.Peers.{spelled}
use Rattle.node_steps.proofs.Gathering.{messages_append}
use Rattle.node_steps.proofs.Spelling.{spelled_same}
use Rattle.node_laws.proofs.BodyKinds.{command_or_push, no_command}
use Rattle.provider_rows.specs.State.{Rows, State}
use Rattle.provider_steps.specs.declared.pushing.Pushing.{Pushing}
use Rattle.provider_steps.specs.Acts.{referenced, replaced, token_acts}
use Rattle.provider_steps.specs.Events.{Arrives, Asks, Done, Event, Gives, Happens, Input, Refused, Reopened, Reopens, Restarted, Restarts, Submits, Ticks}
use Rattle.provider_steps.specs.Moves.{Out}
use Rattle.provider_steps.specs.Orders as orders
use Rattle.provider_steps.specs.Orders.{Makes, next_reference, next_request}
use Rattle.provider_steps.specs.Packets as lines
use Rattle.provider_steps.specs.Packets.{Answers, PacketLine}
use Rattle.provider_steps.specs.Tick.{all_resent, resent_acts}
use Rattle.provider_laws.specs.Laws.{Run, sent}
use Rattle.provider_laws.specs.Commands.{SentCommandsStand}
use Rattle.provider_laws.proofs.commands.Standing.{AreCounted, commands_stay_from, counted_of, counted_stays, stands_later}
use Rattle.provider_laws.proofs.events.Doing.{asked_plain}
use Rattle.provider_laws.proofs.events.Through.{acted_through, through}

same_command : (c d : Command) → body.Command c ≡ body.Command d → c ≡ d
same_command c d e = cc

-- a packet carries one of the messages
pub record Carried (ms : List Message) (x : Packet) : Type 0 where
  pub message : Message
  pub listed : Contains ms message
  pub to : message.to ≡ x.to
  pub request : message.request ≡ x.request
  pub body : message.body ≡ x.body

pub of_numbered : (party : List ℕ) (serial : ℕ) (ms : List Message) (x : Packet) → Contains (numbered party serial ms) x → Carried ms x
of_numbered party serial [] x h = absurd (in_none x h)
of_numbered party serial (m ∷ ms) x h =
    let first : Packet = record { from = party; to = m.to; serial = serial + 1; request = m.request; body = m.body } in
    elim (Contains-append_cases (first ∷ []) (numbered party (serial + 1) ms) x h) [
      | inl here ↦
          let same : first ≡ x = in_single first x here in
          record { message = m; listed = in_front m ms; to = ap (λ (z : Packet). z.to) same; request = ap (λ (z : Packet). z.request) same; body = ap (λ (z : Packet). z.body) same }
      | inr later ↦
          let c = of_numbered party (serial + 1) ms x later in
          record { message = c.message; listed = Contains-append_right (m ∷ []) ms c.message c.listed; to = c.to; request = c.request; body = c.body }
    ]

-- what a message carries: a reply, a push, a command that stands, or one that is put now
data Says (before after : Commands) (m : Message) : Type 0 where
  WithReply : (r : Reply) → m.body ≡ body_of_reply r → Says before after m
  WithPush : (p : Push) → m.body ≡ body_of_push p → Says before after m
  WithOldCommand : (c : SentCommand) → get before m.request ≡ Some c → key m.to ≡ key c.to → m.body ≡ body.Command c.command → Says before after m
  WithNewCommand : (c : SentCommand) → get after m.request ≡ Some c → key m.to ≡ key c.to → m.body ≡ body.Command c.command → Says before after m

abbrev AreSaid : Commands → Commands → List Message → Type 0
AreSaid before after ms = (m : Message) → Contains ms m → Says before after m

module _ (before after : Commands) where
  said_none : AreSaid before after []
  said_none m h = absurd (in_none m h)

  said_one : (m : Message) → Says before after m → AreSaid before after (m ∷ [])
  said_one m says x h = subst (Says before after) (in_single m x h) says

  said_both : (xs ys : List Message) → AreSaid before after xs → AreSaid before after ys → AreSaid before after (xs ++ ys)
  said_both xs ys f g m h = elim (Contains-append_cases xs ys m h) [ inl i ↦ f m i | inr i ↦ g m i ]

  acts_said : (xs ys : List Act) → AreSaid before after (all_messages xs) → AreSaid before after (all_messages ys) → AreSaid before after (all_messages (xs ++ ys))
  acts_said xs ys f g = subst (AreSaid before after) (sym (messages_append xs ys)) (said_both (all_messages xs) (all_messages ys) f g)

  token_said : (at n : ℕ) (to : List ℕ) (p : Push) (k : Option ℕ) → AreSaid before after (all_messages (replaced k ++ (pushed at n to p ∷ [])))
  token_said at n to p None = said_one (push_message n to p) (WithPush p refl)
  token_said at n to p (Some k) = said_one (push_message n to p) (WithPush p refl)

  tokens_said : (at : ℕ) (v : Token) (last : ℕ) (ps : List Pushing) → AreSaid before after (all_messages (in_turn (token_acts at v) last ps))
  tokens_said at v last [] = said_none
  tokens_said at v last (p ∷ ps) =
      acts_said (token_acts at v last p) (in_turn (token_acts at v) (last + all_requests (token_acts at v last p)) ps)
      (token_said at (last + 1) p.to (push.PutToken v) p.replaced) (tokens_said at v (last + all_requests (token_acts at v last p)) ps)

module _ (operators : List (List ℕ)) (r : OutboxRows) (after : Commands) (at : ℕ) where
  again_said : (n : ℕ) (o : Option Outgoing) (c : Option SentCommand) → get r.commands n ≡ c → AreSaid r.commands after (all_messages (resent_acts operators at n o c))
  again_said n (Some o) c is = said_one r.commands after (push_message n (spelled operators o.to) o.push) (WithPush o.push refl)
  again_said n None (Some c) is = said_one r.commands after (command_message n (spelled operators c.to) c.command) (WithOldCommand c is (spelled_same operators c.to) refl)
  again_said n None None is = said_none r.commands after

  resent_said : (due : List ℕ) → AreSaid r.commands after (all_messages (all_resent operators at r due))
  resent_said [] = said_none r.commands after
  resent_said (n ∷ ns) =
      acts_said r.commands after (resent_acts operators at n (get r.pushes n) (get r.commands n)) (all_resent operators at r ns) (again_said n (get r.pushes n) (get r.commands n) refl) (resent_said ns)

-- what is done beside an answer says nothing
pub own_silent : (s : State) (at : ℕ) (q : Packet) (w : Reply) (own : List Act) → Answers s at q w own → all_messages own ≡ []
own_silent s at q w own (lines.ResultTaken r carries n c fits none w_is is) = ap all_messages is
own_silent s at q w own (lines.ResultKnown r carries n c fits x had w_is is) = ap all_messages is
own_silent s at q w own (lines.ResultOfNone r carries none w_is is) = ap all_messages is
own_silent s at q w own (lines.SessionRefused x carries wrong w_is is) = ap all_messages is
own_silent s at q w own (lines.SessionTaken x carries right news w_is is) = ap all_messages is
own_silent s at q w own (lines.SessionKept x carries right old w_is is) = ap all_messages is
own_silent s at q w own (lines.CdrRefused x carries wrong w_is is) = ap all_messages is
own_silent s at q w own (lines.CdrInConflict x carries right conflict w_is is) = ap all_messages is
own_silent s at q w own (lines.CdrKept x carries right fine had w_is is) = ap all_messages is
own_silent s at q w own (lines.CdrTaken x carries right fine new_one w_is is) = ap all_messages is
own_silent s at q w own (lines.Unknown a carries none w_is is) = ap all_messages is
own_silent s at q w own (lines.Allowed a carries t has valid w_is is) = ap all_messages is
own_silent s at q w own (lines.Blocked a carries t has invalid w_is is) = ap all_messages is

line_said : (s : State) (after : Commands) (at : ℕ) (q : Packet) (to : List ℕ) (acts : List Act) → PacketLine s at q to acts → AreSaid s.rows.outbox.commands after (all_messages acts)
line_said s after at q to acts (lines.Again asks r has is) = subst (λ l. AreSaid s.rows.outbox.commands after (all_messages l)) (sym is) (said_one s.rows.outbox.commands after (record { to = to; request = q.request; body = body_of_reply r }) (WithReply r refl))
line_said s after at q to acts (lines.Answered new w own answers is) = subst (λ l. AreSaid s.rows.outbox.commands after (all_messages l)) (sym is)
    (said_both s.rows.outbox.commands after (record { to = to; request = q.request; body = body_of_reply w } ∷ []) (all_messages own)
    (said_one s.rows.outbox.commands after (record { to = to; request = q.request; body = body_of_reply w }) (WithReply w refl))
    (subst (AreSaid s.rows.outbox.commands after) (sym (own_silent s at q w own answers)) (said_none s.rows.outbox.commands after)))
line_said s after at q to acts (lines.Responded r carries c awaited is) = subst (λ l. AreSaid s.rows.outbox.commands after (all_messages l)) (sym is) (said_none s.rows.outbox.commands after)
line_said s after at q to acts (lines.LateResponse r carries none is) = subst (λ l. AreSaid s.rows.outbox.commands after (all_messages l)) (sym is) (said_none s.rows.outbox.commands after)
line_said s after at q to acts (lines.Acknowledged a carries ends is) = subst (λ l. AreSaid s.rows.outbox.commands after (all_messages l)) (sym is) (said_none s.rows.outbox.commands after)
line_said s after at q to acts (lines.Idle a carries none is) = subst (λ l. AreSaid s.rows.outbox.commands after (all_messages l)) (sym is) (said_none s.rows.outbox.commands after)

-- an order puts the command that it sends
module _ (s : State) (at : ℕ) (to : List ℕ) where
  abbrev SaysOrder : List Act → Type 0
  SaysOrder acts = AreSaid s.rows.outbox.commands (through acts s.rows).outbox.commands (all_messages acts)

  put_now : (c : Command) (after : Commands) → after ≡ insert s.rows.outbox.commands (next_request s) (unanswered to c) → AreSaid s.rows.outbox.commands after (command_message (next_request s) to c ∷ [])
  put_now c after is = said_one s.rows.outbox.commands after (command_message (next_request s) to c)
      (WithNewCommand (unanswered to c) (ap (λ m. get m (next_request s)) is ∙ get-insert_same nat_cmp_total nat_cmp-IsAntisymmetric s.rows.outbox.commands (next_request s) (unanswered to c)) refl refl)

  plain_said : {o : Order} {c : Command} {before : List Act} → Makes s o c before → SaysOrder (commanded at (next_request s) to c ∷ [])
  plain_said {c = c} makes = put_now c (through (commanded at (next_request s) to c ∷ []) s.rows).outbox.commands refl

  start_said : {o : Order} {c : Command} {before : List Act} → Makes s o c before → SaysOrder (referenced (next_reference s) ∷ commanded at (next_request s) to c ∷ [])
  start_said {c = c} makes = put_now c (through (referenced (next_reference s) ∷ commanded at (next_request s) to c ∷ []) s.rows).outbox.commands refl

  order_said : {o : Order} {c : Command} {before : List Act} → Makes s o c before → SaysOrder (before ++ (commanded at (next_request s) to c ∷ []))
  order_said (orders.Start uid type location evse connector t has) = start_said (orders.Start uid type location evse connector t has)
  order_said (orders.Reserve uid type expiry id location evse t has) = plain_said (orders.Reserve uid type expiry id location evse t has)
  order_said (orders.Stop id) = plain_said (orders.Stop id)
  order_said (orders.Cancel id) = plain_said (orders.Cancel id)
  order_said (orders.Unlock location evse connector) = plain_said (orders.Unlock location evse connector)

asked_said : (s : State) (i : Input) (acts : List Act) → Asks s i acts → AreSaid s.rows.outbox.commands (through acts s.rows).outbox.commands (all_messages acts)
asked_said s (Arrives at q) acts comes = line_said s (through acts s.rows).outbox.commands at q comes.operator acts comes.line
asked_said s (Submits at operator o) acts line = subst (λ l. AreSaid s.rows.outbox.commands (through l s.rows).outbox.commands (all_messages l)) (sym line.acts_are) (order_said s at line.to line.makes)
asked_said s (Gives at t) acts line =
    subst (AreSaid s.rows.outbox.commands (through acts s.rows).outbox.commands) (sym (ap all_messages line.acts_are))
    (tokens_said s.rows.outbox.commands (through acts s.rows).outbox.commands at line.version s.rows.outbox.last line.pushes)
asked_said s (Ticks at) acts line =
    subst (AreSaid s.rows.outbox.commands (through acts s.rows).outbox.commands) (sym (ap all_messages line.acts_are)) (resent_said s.operators s.rows.outbox (through acts s.rows).outbox.commands at line.due)
asked_said s Restarts acts line = absurd line
asked_said s (Reopens p) acts line = absurd line

abbrev Stands : State → Packet → Command → Type 0
Stands t x c = (d : SentCommand) × (get t.rows.outbox.commands x.request ≡ Some d) × (key d.to ≡ key x.to) × (d.command ≡ c)

module _ (s t : State) (e : Event) (happens : Happens s e t) (counted : AreCounted s) (x : Packet) (c : Command) (is : x.body ≡ body.Command c) where
  by_says : (ms : List Message) (f : Carried ms x) → Says s.rows.outbox.commands t.rows.outbox.commands f.message → Stands t x c
  by_says ms f (WithReply r carries) = absurd (no_command r c (sym carries ∙ f.body ∙ is))
  by_says ms f (WithPush p carries) = absurd (command_or_push c p (sym is ∙ sym f.body ∙ carries))
  by_says ms f (WithOldCommand d has to carries) =
      let now = stands_later s t e happens counted f.message.request d has in
      (now.0, ap (get t.rows.outbox.commands) (sym f.request) ∙ now.1, ap key now.2.to ∙ sym to ∙ ap key f.to, now.2.command ∙ same_command d.command c (sym carries ∙ f.body ∙ is))
  by_says ms f (WithNewCommand d has to carries) = (d, ap (get t.rows.outbox.commands) (sym f.request) ∙ has, sym to ∙ ap key f.to, same_command d.command c (sym carries ∙ f.body ∙ is))

  sent_now : Contains e.packets x → Stands t x c
  sent_now h = in_event happens
    where
      in_event : Happens s e t → Stands t x c
      in_event (Done by) =
          let rows : t.rows ≡ through by.acts s.rows = ap (λ (o : Out). o.state.rows) by.out_is ∙ acted_through s by.acts (asked_plain s e.input by.acts by.line) in
          let f = of_numbered s.party s.rows.serial (all_messages by.acts) x (subst (λ l. Contains l x) (ap (λ (o : Out). o.packets) by.out_is) h) in
          by_says (all_messages by.acts) f (subst (λ (r : Rows). Says s.rows.outbox.commands r.outbox.commands f.message) (sym rows) (asked_said s e.input by.acts by.line f.message f.listed))
      in_event (Restarted now out_is) = absurd (in_none x (subst (λ l. Contains l x) (ap (λ (o : Out). o.packets) out_is) h))
      in_event (Reopened p now may out_is) = absurd (in_none x (subst (λ l. Contains l x) (ap (λ (o : Out). o.packets) out_is) h))
      in_event (Refused same_setup out_is) = absurd (in_none x (subst (λ l. Contains l x) (ap (λ (o : Out). o.packets) out_is) h))

stand_from : (s t : State) (es : List Event) → AreCounted s → Run s es t → (x : Packet) (c : Command) → Contains (sent es) x → x.body ≡ body.Command c → Stands t x c
stand_from s t [] counted run x c h is = absurd (in_none x h)
stand_from s t (e ∷ es) counted (u, first, rest) x c h is =
    let between = counted_stays s u e first counted in
    elim (Contains-append_cases e.packets (sent es) x h) [
      | inl here ↦
          let (d, has, to, same) = sent_now s u e first counted x c is here in
          let later = (commands_stay_from u t es between rest x.request d has).1 in
          (later.0, later.1, ap key later.2.to ∙ to, later.2.command ∙ same)
      | inr there ↦ stand_from u t es between rest x c there is
    ]

pub sent_commands_stand : SentCommandsStand
sent_commands_stand s t es fine run x c h is = stand_from s t es (counted_of s fine) run x c h is
