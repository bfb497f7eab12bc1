-- Each packet of a provider is to one of its operators, as it spells it at that time.
use Rattle.std.proofs.Common.{◌≡◌, ◌+◌, ◌++◌, ℕ, List, [], ◌∷◌, inl, inr, refl, sym, ap, subst}
use Rattle.std.specs.Prelude.{Option, Some, None, Contains}
use Rattle.std.specs.FinMap.{get}
use Rattle.std.proofs.lemmas.List.Elements.{Contains-append_cases}
use Rattle.tables.proofs.Elements.{in_front, in_later, in_map, in_none, in_single}
use Rattle.ocpi_types.specs.Stored.{body_of_reply}
use Rattle.ocpi_types.specs.declared.commands.Command.{Command}
use Rattle.ocpi_types.specs.declared.events.Order.{Order}
use Rattle.ocpi_types.specs.declared.packet.Packet.{Packet}
use Rattle.ocpi_types.specs.declared.stored.Push.{Push}
use Rattle.ocpi_types.specs.declared.stored.Push.TheVariants as push
use Rattle.ocpi_types.specs.declared.stored.SentCommand.{SentCommand}
use Rattle.ocpi_types.specs.declared.token.Token.{Token}
use Rattle.outbox.specs.declared.push_book.Outgoing.{Outgoing}
use Rattle.node_steps.specs.Acts.{Act, all_messages, all_requests, command_message, commanded, in_turn, push_message, pushed}
use Rattle.node_steps.specs.Messages.{Message}
use Rattle.node_steps.specs.Peers.{spelled}
use Rattle.node_steps.proofs.Gathering.{messages_append}
use Rattle.node_steps.proofs.Spelling.{spelled_listed}
use Rattle.provider_rows.specs.Sound.{IsConsistent}
use Rattle.provider_rows.specs.State.{State}
use Rattle.provider_steps.specs.declared.pushing.Pushing.{Pushing}
use Rattle.provider_steps.specs.Acts.{replaced, token_acts}
use Rattle.provider_steps.specs.Events.{Arrives, Asks, Done, Gives, Happens, Input, Refused, Reopened, Reopens, Restarted, Restarts, Submits, Ticks}
use Rattle.provider_steps.specs.Moves.{Out}
use Rattle.provider_steps.specs.Orders as orders
use Rattle.provider_steps.specs.Orders.{Makes, next_request}
use Rattle.provider_steps.specs.Packets as lines
use Rattle.provider_steps.specs.Packets.{PacketLine}
use Rattle.provider_steps.specs.Tick.{all_resent, resent_acts}
use Rattle.provider_laws.specs.AsNode.{PacketsAreSpelled}
use Rattle.provider_laws.proofs.commands.Sent.{of_numbered, own_silent}

-- messages to these
abbrev AreTo : List (List ℕ) → List Message → Type 0
AreTo ps ms = (m : Message) → Contains ms m → Contains ps m.to

module _ (ps : List (List ℕ)) where
  to_none : AreTo ps []
  to_none m h = absurd (in_none m h)

  to_one : (m : Message) → Contains ps m.to → AreTo ps (m ∷ [])
  to_one m listed x h = subst (λ (z : Message). Contains ps z.to) (in_single m x h) listed

  to_both : (xs ys : List Message) → AreTo ps xs → AreTo ps ys → AreTo ps (xs ++ ys)
  to_both xs ys f g m h = elim (Contains-append_cases xs ys m h) [ inl i ↦ f m i | inr i ↦ g m i ]

  acts_to : (xs ys : List Act) → AreTo ps (all_messages xs) → AreTo ps (all_messages ys) → AreTo ps (all_messages (xs ++ ys))
  acts_to xs ys f g = subst (AreTo ps) (sym (messages_append xs ys)) (to_both (all_messages xs) (all_messages ys) f g)

  token_to : (at n : ℕ) (to : List ℕ) (p : Push) (k : Option ℕ) → Contains ps to → AreTo ps (all_messages (replaced k ++ (pushed at n to p ∷ [])))
  token_to at n to p None listed = to_one (push_message n to p) listed
  token_to at n to p (Some k) listed = to_one (push_message n to p) listed

  tokens_to : (at : ℕ) (v : Token) (last : ℕ) (xs : List Pushing) → ((x : Pushing) → Contains xs x → Contains ps x.to) → AreTo ps (all_messages (in_turn (token_acts at v) last xs))
  tokens_to at v last [] listed = to_none
  tokens_to at v last (x ∷ xs) listed =
      acts_to (token_acts at v last x) (in_turn (token_acts at v) (last + all_requests (token_acts at v last x)) xs)
      (token_to at (last + 1) x.to (push.PutToken v) x.replaced (listed x (in_front x xs)))
      (tokens_to at v (last + all_requests (token_acts at v last x)) xs (λ y i. listed y (in_later x xs y i)))

-- a packet of an operator is answered to it
line_to : (s : State) (at : ℕ) (q : Packet) (to : List ℕ) (acts : List Act) → Contains s.operators to → PacketLine s at q to acts → AreTo s.operators (all_messages acts)
line_to s at q to acts listed (lines.Again asks r has is) =
    subst (λ l. AreTo s.operators (all_messages l)) (sym is) (to_one s.operators (record { to = to; request = q.request; body = body_of_reply r }) listed)
line_to s at q to acts listed (lines.Answered new w own answers is) = subst (λ l. AreTo s.operators (all_messages l)) (sym is)
    (to_both s.operators (record { to = to; request = q.request; body = body_of_reply w } ∷ []) (all_messages own)
    (to_one s.operators (record { to = to; request = q.request; body = body_of_reply w }) listed)
    (subst (AreTo s.operators) (sym (own_silent s at q w own answers)) (to_none s.operators)))
line_to s at q to acts listed (lines.Responded r carries c awaited is) = subst (λ l. AreTo s.operators (all_messages l)) (sym is) (to_none s.operators)
line_to s at q to acts listed (lines.LateResponse r carries none is) = subst (λ l. AreTo s.operators (all_messages l)) (sym is) (to_none s.operators)
line_to s at q to acts listed (lines.Acknowledged a carries ends is) = subst (λ l. AreTo s.operators (all_messages l)) (sym is) (to_none s.operators)
line_to s at q to acts listed (lines.Idle a carries none is) = subst (λ l. AreTo s.operators (all_messages l)) (sym is) (to_none s.operators)

-- an order goes to its operator
module _ (s : State) (at : ℕ) (to : List ℕ) (listed : Contains s.operators to) where
  command_to : (c : Command) → AreTo s.operators (command_message (next_request s) to c ∷ [])
  command_to c = to_one s.operators (command_message (next_request s) to c) listed

  order_to : {o : Order} {c : Command} {before : List Act} → Makes s o c before → AreTo s.operators (all_messages (before ++ (commanded at (next_request s) to c ∷ [])))
  order_to {c = c} (orders.Start uid type location evse connector t has) = command_to c
  order_to {c = c} (orders.Reserve uid type expiry id location evse t has) = command_to c
  order_to {c = c} (orders.Stop id) = command_to c
  order_to {c = c} (orders.Cancel id) = command_to c
  order_to {c = c} (orders.Unlock location evse connector) = command_to c

-- what is sent again goes to its operator as that is spelled now
module _ (s : State) (fine : IsConsistent s) (at : ℕ) where
  again_to : (n : ℕ) (o : Option Outgoing) (c : Option SentCommand) → get s.rows.outbox.pushes n ≡ o → get s.rows.outbox.commands n ≡ c → AreTo s.operators (all_messages (resent_acts s.operators at n o c))
  again_to n (Some o) c o_is c_is = to_one s.operators (push_message n (spelled s.operators o.to) o.push) (spelled_listed s.operators o.to (fine.sound.pushes n o o_is))
  again_to n None (Some c) o_is c_is = to_one s.operators (command_message n (spelled s.operators c.to) c.command) (spelled_listed s.operators c.to (fine.sound.commands n c c_is))
  again_to n None None o_is c_is = to_none s.operators

  resent_to : (due : List ℕ) → AreTo s.operators (all_messages (all_resent s.operators at s.rows.outbox due))
  resent_to [] = to_none s.operators
  resent_to (n ∷ ns) =
      let o = get s.rows.outbox.pushes n in
      let c = get s.rows.outbox.commands n in
      acts_to s.operators (resent_acts s.operators at n o c) (all_resent s.operators at s.rows.outbox ns) (again_to n o c refl refl) (resent_to ns)

asked_to : (s : State) (i : Input) (acts : List Act) → IsConsistent s → Asks s i acts → AreTo s.operators (all_messages acts)
asked_to s (Arrives at q) acts fine comes = line_to s at q comes.operator acts comes.from.listed comes.line
asked_to s (Submits at operator o) acts fine line = subst (λ l. AreTo s.operators (all_messages l)) (sym line.acts_are) (order_to s at line.to line.peer.listed line.makes)
asked_to s (Gives at t) acts fine line =
    subst (λ l. AreTo s.operators (all_messages l)) (sym line.acts_are)
    (tokens_to s.operators at line.version s.rows.outbox.last line.pushes (λ p i. subst (λ l. Contains l p.to) line.are_pushes.to_all (in_map (λ (z : Pushing). z.to) line.pushes p i)))
asked_to s (Ticks at) acts fine line = subst (λ l. AreTo s.operators (all_messages l)) (sym line.acts_are) (resent_to s fine at line.due)
asked_to s Restarts acts fine line = absurd line
asked_to s (Reopens p) acts fine line = absurd line

pub packets_are_spelled : PacketsAreSpelled
packets_are_spelled s t e fine happens x i = by happens
  where
    none : {o : List Packet} → e.packets ≡ o → o ≡ [] → Contains s.operators x.to
    none is empty = absurd (in_none x (subst (λ l. Contains l x) empty (subst (λ l. Contains l x) is i)))

    by : Happens s e t → Contains s.operators x.to
    by (Done h) =
        let f = of_numbered s.party s.rows.serial (all_messages h.acts) x (subst (λ l. Contains l x) (ap (λ (o : Out). o.packets) h.out_is) i) in
        subst (Contains s.operators) f.to (asked_to s e.input h.acts fine h.line f.message f.listed)
    by (Restarted now is) = none (ap (λ (o : Out). o.packets) is) refl
    by (Reopened p now may is) = none (ap (λ (o : Out). o.packets) is) refl
    by (Refused under is) = none (ap (λ (o : Out). o.packets) is) refl
