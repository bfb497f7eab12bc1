-- A provider refuses an input for one reason.
use Rattle.std.proofs.Common.{◌≡◌, ℕ, List, inl, inr, refl, sym, ◌∙◌, arith}
use Rattle.std.specs.Prelude.{◌≢◌}
use Rattle.ocpi_text.specs.Text.{key}
use Rattle.ocpi_types.specs.declared.commands.Command.{Command}
use Rattle.ocpi_types.specs.declared.events.Order.{Order}
use Rattle.ocpi_types.specs.declared.packet.Packet.{Packet}
use Rattle.ocpi_types.specs.declared.token.Token.{Token}
use Rattle.token_desk.specs.Putting.{IsAtEnd}
use Rattle.tables.proofs.Options.{not_both}
use Rattle.node_steps.specs.Acts.{Act}
use Rattle.node_steps.specs.declared.fault.NodeFault.{NodeFault}
use Rattle.node_steps.specs.declared.fault.NodeFault.TheVariants.{NotForMe, UnknownOperator, UnknownToken, StampEnd, NumbersUsedUp, Memory}
use Rattle.provider_rows.specs.State.{State}
use Rattle.provider_steps.specs.Events.{Arrives, Gives, Input, Reopens, Restarts, Submits, Ticks}
use Rattle.provider_steps.specs.Faults.{IsOperator, IsOrderFault, IsPacketFault, IsTickFault, IsTokenFault}
use Rattle.provider_steps.specs.Orders as orders
use Rattle.provider_steps.specs.Orders.{LacksToken, Makes, OrderLine}
use Rattle.provider_steps.specs.Packets as packets
use Rattle.provider_steps.specs.Packets.{Answers, Comes, IsForMe, IsRequest, IsTaken, PacketLine}
use Rattle.provider_steps.specs.Tokens.{TokenLine}
use Rattle.world_steps.specs.Steps.{ProviderRefuses}
use Rattle.ocpi_types.specs.declared.stored.Reply.{Reply}
use Rattle.answer_laws.proofs.Branching.{Branch, one_branch, one_is}

-- what a provider does by an input it does not refuse for another reason than the numbers that it takes
module _ (s : State) where
  is_request : (at : ℕ) (q : Packet) (reply : Reply) (own : List Act) → Answers s at q reply own → IsRequest q.body
  is_request at q reply own (packets.ResultTaken r carries n c fits none a b) = packets.OfResult r carries
  is_request at q reply own (packets.ResultKnown r carries n c fits x known a b) = packets.OfResult r carries
  is_request at q reply own (packets.ResultOfNone r carries none a b) = packets.OfResult r carries
  is_request at q reply own (packets.SessionRefused x carries wrong a b) = packets.OfSession x carries
  is_request at q reply own (packets.SessionTaken x carries right news a b) = packets.OfSession x carries
  is_request at q reply own (packets.SessionKept x carries right old a b) = packets.OfSession x carries
  is_request at q reply own (packets.CdrRefused x carries wrong a b) = packets.OfCdr x carries
  is_request at q reply own (packets.CdrInConflict x carries right conflict a b) = packets.OfCdr x carries
  is_request at q reply own (packets.CdrKept x carries right alone held a b) = packets.OfCdr x carries
  is_request at q reply own (packets.CdrTaken x carries right alone new a b) = packets.OfCdr x carries
  is_request at q reply own (packets.Unknown x carries none a b) = packets.OfAuthorize x carries
  is_request at q reply own (packets.Allowed x carries t held valid a b) = packets.OfAuthorize x carries
  is_request at q reply own (packets.Blocked x carries t held valid a b) = packets.OfAuthorize x carries

  is_taken : (at : ℕ) (q : Packet) (to : List ℕ) (acts : List Act) → PacketLine s at q to acts → IsTaken q.body
  is_taken at q to acts (packets.Again request r kept is) = inl request
  is_taken at q to acts (packets.Answered new reply own answers is) = inl (is_request at q reply own answers)
  is_taken at q to acts (packets.Responded r carries c awaited is) = inr (inl (r, carries))
  is_taken at q to acts (packets.LateResponse r carries none is) = inr (inl (r, carries))
  is_taken at q to acts (packets.Acknowledged a carries ends is) = inr (inr (a, carries))
  is_taken at q to acts (packets.Idle a carries other is) = inr (inr (a, carries))

  -- a packet that comes to something is for the provider
  pub for_me : (at : ℕ) (q : Packet) (acts : List Act) → Comes s at q acts → IsForMe s q
  for_me at q acts h = record { to = h.to; from = (h.operator, h.from); kind = is_taken at q h.operator acts h.line }

  makes_none : (o : Order) (c : Command) (before : List Act) → Makes s o c before → LacksToken s o → ⊥
  makes_none o c before (orders.Start uid type location evse connector t own) lacks = not_both t _ lacks own
  makes_none o c before (orders.Reserve uid type expiry id location evse t own) lacks = not_both t _ lacks own
  makes_none o c before (orders.Stop id) lacks = lacks
  makes_none o c before (orders.Cancel id) lacks = lacks
  makes_none o c before (orders.Unlock location evse connector) lacks = lacks

  -- an order that comes to something names no token that is not held
  pub lacks_none : (at : ℕ) (operator : List ℕ) (o : Order) (acts : List Act) → OrderLine s at operator o acts → LacksToken s o → ⊥
  lacks_none at operator o acts h lacks = makes_none o h.command h.before h.makes lacks

  -- a token that may be stored has a later moment
  pub not_at_end : (at : ℕ) (t : Token) (acts : List Act) → TokenLine s at t acts → IsAtEnd s.rows.desk.tokens t → ⊥
  not_at_end at t acts h end = let last = end.2 in let below = h.next end.0 end.1 in omega (arith, last, below)

  -- ---- the reason, by what holds

  abbrev PacketReason : Packet → NodeFault → Type 0
  PacketReason q f = Branch (IsForMe s q) (λ x. x ≡ NumbersUsedUp) (λ x. x ≡ NotForMe) f

  packet_reason : (at : ℕ) (q : Packet) (f : NodeFault) → IsPacketFault s at q f → f ≢ Memory → PacketReason q f
  packet_reason at q NotForMe h other = inr (h, refl)
  packet_reason at q UnknownOperator h other = absurd h
  packet_reason at q UnknownToken h other = absurd h
  packet_reason at q StampEnd h other = absurd h
  packet_reason at q NumbersUsedUp h other = inl (for_me at q h.acts h.line, refl)
  packet_reason at q Memory h other = absurd (other refl)

  abbrev OrderReason : List ℕ → Order → NodeFault → Type 0
  OrderReason operator o f = Branch (IsOperator s operator) (Branch (LacksToken s o) (λ x. x ≡ UnknownToken) (λ x. x ≡ NumbersUsedUp)) (λ x. x ≡ UnknownOperator) f

  order_reason : (at : ℕ) (operator : List ℕ) (o : Order) (f : NodeFault) → IsOrderFault s at operator o f → f ≢ Memory → OrderReason operator o f
  order_reason at operator o NotForMe h other = absurd h
  order_reason at operator o UnknownOperator h other = inr (h, refl)
  order_reason at operator o UnknownToken h other = inl (h.0, inl (h.1, refl))
  order_reason at operator o StampEnd h other = absurd h
  order_reason at operator o NumbersUsedUp h other = inl ((h.line.to, h.line.peer), inr (lacks_none at operator o h.acts h.line, refl))
  order_reason at operator o Memory h other = absurd (other refl)

  abbrev TokenReason : Token → NodeFault → Type 0
  TokenReason t f = Branch (key t.party ≡ key s.party) (Branch (IsAtEnd s.rows.desk.tokens t) (λ x. x ≡ StampEnd) (λ x. x ≡ NumbersUsedUp)) (λ x. x ≡ NotForMe) f

  token_reason : (at : ℕ) (t : Token) (f : NodeFault) → IsTokenFault s at t f → f ≢ Memory → TokenReason t f
  token_reason at t NotForMe h other = inr (h, refl)
  token_reason at t UnknownOperator h other = absurd h
  token_reason at t UnknownToken h other = absurd h
  token_reason at t StampEnd h other = inl (h.0, inl (h.1, refl))
  token_reason at t NumbersUsedUp h other = inl (h.line.own, inr (not_at_end at t h.acts h.line, refl))
  token_reason at t Memory h other = absurd (other refl)

  tick_reason : (at : ℕ) (f : NodeFault) → IsTickFault s at f → f ≢ Memory → f ≡ NumbersUsedUp
  tick_reason at NotForMe h other = absurd h
  tick_reason at UnknownOperator h other = absurd h
  tick_reason at UnknownToken h other = absurd h
  tick_reason at StampEnd h other = absurd h
  tick_reason at NumbersUsedUp h other = refl
  tick_reason at Memory h other = absurd (other refl)

  pub one_reason : (i : Input) (f g : NodeFault) → ProviderRefuses s i f → ProviderRefuses s i g → f ≢ Memory → g ≢ Memory → f ≡ g
  one_reason (Arrives at q) f g h k a b = one_branch (one_is _) (one_is _) f g (packet_reason at q f h a) (packet_reason at q g k b)
  one_reason (Submits at operator o) f g h k a b =
      one_branch (one_branch (one_is _) (one_is _)) (one_is _) f g (order_reason at operator o f h a) (order_reason at operator o g k b)
  one_reason (Gives at t) f g h k a b = one_branch (one_branch (one_is _) (one_is _)) (one_is _) f g (token_reason at t f h a) (token_reason at t g k b)
  one_reason (Ticks at) f g h k a b = tick_reason at f h a ∙ sym (tick_reason at g k b)
  one_reason Restarts f g h k a b = absurd h
  one_reason (Reopens p) f g h k a b = absurd h
