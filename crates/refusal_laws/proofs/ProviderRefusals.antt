-- What a provider refuses, it does not do: what an event takes of its numbers is one thing.
use Rattle.std.proofs.Common.{◌≡◌, ◌<◌, ◌+◌, ◌++◌, ℕ, true, false, List, [], ◌∷◌, length, inl, inr, refl, sym, ap, subst, ◌∙◌, arith}
use Rattle.std.specs.Prelude.{◌≢◌, ◌⊎◌, Option, Some, None}
use Rattle.std.specs.FinMap.{get}
use Rattle.std.proofs.lemmas.List.{length-map}
use Rattle.tables.proofs.Options.{not_both}
use Rattle.ocpi_text.specs.Text.{key}
use Rattle.ocpi_types.specs.declared.authorizations.Authorize.{Authorize}
use Rattle.ocpi_types.specs.declared.commands.Command.{Command}
use Rattle.ocpi_types.specs.declared.events.Order.{Order}
use Rattle.ocpi_types.specs.declared.events.Order.TheVariants as order
use Rattle.ocpi_types.specs.declared.packet.Body.{Body}
use Rattle.ocpi_types.specs.declared.packet.Body.TheVariants as body
use Rattle.ocpi_types.specs.declared.packet.Packet.{Packet}
use Rattle.ocpi_types.specs.declared.replies.Ack.{Ack}
use Rattle.ocpi_types.specs.declared.replies.CommandResponse.{CommandResponse}
use Rattle.ocpi_types.specs.declared.rows.Counter.TheVariants as counter
use Rattle.ocpi_types.specs.declared.stored.Push.TheVariants as push
use Rattle.ocpi_types.specs.declared.stored.Reply.{Reply}
use Rattle.ocpi_types.specs.declared.token.Token.{Token}
use Rattle.token_desk.specs.Authorizing.{IsHeld, asked_type}
use Rattle.token_desk.specs.Putting.{IsAtEnd}
use Rattle.node_steps.specs.Acts.{Act, all_requests, answered, commanded, in_turn, pushed}
use Rattle.node_steps.specs.Drafts.{IsInRange, later}
use Rattle.node_steps.specs.declared.fault.NodeFault.{NodeFault}
use Rattle.node_steps.specs.declared.fault.NodeFault.TheVariants.{NotForMe, UnknownOperator, UnknownToken, StampEnd, NumbersUsedUp, Memory}
use Rattle.provider_rows.specs.State.{State}
use Rattle.provider_steps.specs.Acts.{replaced, stored, token_acts}
use Rattle.provider_steps.specs.Events.{Arrives, Asks, Gives, Input, Reopens, Restarts, Submits, Ticks}
use Rattle.provider_steps.specs.Faults.{PassesLast}
use Rattle.provider_steps.specs.Moves.{AreInRange, Out, StepBy, counters_of}
use Rattle.provider_steps.specs.Orders as orders
use Rattle.provider_steps.specs.Orders.{LacksToken, Makes, OrderLine, next_reference, next_request}
use Rattle.provider_steps.specs.Packets as packets
use Rattle.provider_steps.specs.Packets.{Answers, Comes, IsRequest, IsTaken, PacketLine}
use Rattle.provider_steps.specs.Tick.{TickLine, all_resent}
use Rattle.provider_steps.specs.Tokens.{TokenLine}
use Rattle.provider_steps.specs.declared.pushing.Pushing.{Pushing}
use Rattle.world_steps.specs.Steps.{ProviderRefuses}
use Rattle.refusal_laws.proofs.Listings.{one_listing}
use Rattle.refusal_laws.proofs.Tallies.{Takes, Tally, both, nothing, one_way, same_counts, takes, tally, tally_both, tally_parts}

-- ---- packets

abbrev reply_alone : Tally
reply_alone = takes 1 0 []

not_request : {A : Type 0} (b : Body) → IsRequest b → ((r : CommandResponse) × (b ≡ body.CommandResponse r)) ⊎ ((a : Ack) × (b ≡ body.Ack a)) → A
not_request b (packets.OfResult r is) (inl x) = let bad : body.CommandResult r ≡ body.CommandResponse x.0 = sym is ∙ x.1 in absurd (cc)
not_request b (packets.OfSession r is) (inl x) = let bad : body.PutSession r ≡ body.CommandResponse x.0 = sym is ∙ x.1 in absurd (cc)
not_request b (packets.OfCdr r is) (inl x) = let bad : body.PostCdr r ≡ body.CommandResponse x.0 = sym is ∙ x.1 in absurd (cc)
not_request b (packets.OfAuthorize r is) (inl x) = let bad : body.Authorize r ≡ body.CommandResponse x.0 = sym is ∙ x.1 in absurd (cc)
not_request b (packets.OfResult r is) (inr x) = let bad : body.CommandResult r ≡ body.Ack x.0 = sym is ∙ x.1 in absurd (cc)
not_request b (packets.OfSession r is) (inr x) = let bad : body.PutSession r ≡ body.Ack x.0 = sym is ∙ x.1 in absurd (cc)
not_request b (packets.OfCdr r is) (inr x) = let bad : body.PostCdr r ≡ body.Ack x.0 = sym is ∙ x.1 in absurd (cc)
not_request b (packets.OfAuthorize r is) (inr x) = let bad : body.Authorize r ≡ body.Ack x.0 = sym is ∙ x.1 in absurd (cc)

module _ (s : State) (at : ℕ) (q : Packet) where
  -- a reference is given, or none is, by the token that is asked about
  record Allows : Type 0 where
    pub asked : Authorize
    pub carries : q.body ≡ body.Authorize asked
    pub token : Token
    pub held : IsHeld s.rows.desk s.party asked.token_type (key asked.token_uid) token
    pub valid : token.valid ≡ true

  abbrev reference_given : Tally
  reference_given = takes 0 0 ((counter.Reference, next_reference s) ∷ [])

  is_request : (reply : Reply) (own : List Act) → Answers s at q reply own → IsRequest q.body
  is_request reply own (packets.ResultTaken r carries n c fits none a b) = packets.OfResult r carries
  is_request reply own (packets.ResultKnown r carries n c fits x known a b) = packets.OfResult r carries
  is_request reply own (packets.ResultOfNone r carries none a b) = packets.OfResult r carries
  is_request reply own (packets.SessionRefused x carries wrong a b) = packets.OfSession x carries
  is_request reply own (packets.SessionTaken x carries right news a b) = packets.OfSession x carries
  is_request reply own (packets.SessionKept x carries right old a b) = packets.OfSession x carries
  is_request reply own (packets.CdrRefused x carries wrong a b) = packets.OfCdr x carries
  is_request reply own (packets.CdrInConflict x carries right conflict a b) = packets.OfCdr x carries
  is_request reply own (packets.CdrKept x carries right alone held a b) = packets.OfCdr x carries
  is_request reply own (packets.CdrTaken x carries right alone new a b) = packets.OfCdr x carries
  is_request reply own (packets.Unknown x carries none a b) = packets.OfAuthorize x carries
  is_request reply own (packets.Allowed x carries t held valid a b) = packets.OfAuthorize x carries
  is_request reply own (packets.Blocked x carries t held valid a b) = packets.OfAuthorize x carries

  no_token : (a : Authorize) → q.body ≡ body.Authorize a → Allows → get s.rows.desk.tokens ((asked_type a.token_type, key a.token_uid), key s.party) ≡ None → ⊥
  no_token a carries f none =
      let both_are : body.Authorize f.asked ≡ body.Authorize a = sym f.carries ∙ carries in
      let same : f.asked ≡ a = cc in
      not_both f.token _ none (subst (λ (z : Authorize). IsHeld s.rows.desk s.party z.token_type (key z.token_uid) f.token) same f.held)

  no_other : (b : Body) → ((a : Authorize) → b ≡ body.Authorize a → ⊥) → q.body ≡ b → Allows → ⊥
  no_other b other is f = other f.asked (sym is ∙ f.carries)

  own_takes : (reply : Reply) (own : List Act) → Answers s at q reply own → Takes Allows nothing reference_given (tally own)
  own_takes reply own (packets.ResultTaken r carries n c fits none a b) = inl (ap tally b, no_other _ (λ x is. cc) carries)
  own_takes reply own (packets.ResultKnown r carries n c fits x known a b) = inl (ap tally b, no_other _ (λ x is. cc) carries)
  own_takes reply own (packets.ResultOfNone r carries none a b) = inl (ap tally b, no_other _ (λ x is. cc) carries)
  own_takes reply own (packets.SessionRefused x carries wrong a b) = inl (ap tally b, no_other _ (λ x is. cc) carries)
  own_takes reply own (packets.SessionTaken x carries right news a b) = inl (ap tally b, no_other _ (λ x is. cc) carries)
  own_takes reply own (packets.SessionKept x carries right old a b) = inl (ap tally b, no_other _ (λ x is. cc) carries)
  own_takes reply own (packets.CdrRefused x carries wrong a b) = inl (ap tally b, no_other _ (λ x is. cc) carries)
  own_takes reply own (packets.CdrInConflict x carries right conflict a b) = inl (ap tally b, no_other _ (λ x is. cc) carries)
  own_takes reply own (packets.CdrKept x carries right alone held a b) = inl (ap tally b, no_other _ (λ x is. cc) carries)
  own_takes reply own (packets.CdrTaken x carries right alone new a b) = inl (ap tally b, no_other _ (λ x is. cc) carries)
  own_takes reply own (packets.Unknown x carries none a b) = inl (ap tally b, λ f. no_token x carries f none)
  own_takes reply own (packets.Allowed x carries t held valid a b) = inr (ap tally b, record { asked = x; carries = carries; token = t; held = held; valid = valid })
  own_takes reply own (packets.Blocked x carries t held void a b) = inl (
    ap tally b,
    λ f.
        let both_are : body.Authorize f.asked ≡ body.Authorize x = sym f.carries ∙ carries in
        let same : f.asked ≡ x = cc in
        let found : Some f.token ≡ Some t = sym (subst (λ (z : Authorize). IsHeld s.rows.desk s.party z.token_type (key z.token_uid) f.token) same f.held) ∙ held in
        let token : f.token ≡ t = cc in
        let bad : true ≡ false = sym f.valid ∙ ap (λ (z : Token). z.valid) token ∙ void in
        cc,
  )

  -- a request is answered, as before or for the first time
  data PacketIs (acts : List Act) : Type 0 where
    Again : IsRequest q.body → (r : Reply) → get s.rows.replies (key q.from, q.request) ≡ Some r → tally acts ≡ reply_alone → PacketIs acts
    New : IsRequest q.body → get s.rows.replies (key q.from, q.request) ≡ None → (own : List Act) → Takes Allows nothing reference_given (tally own) →
        tally acts ≡ both reply_alone (tally own) → PacketIs acts
    Reply_or_ack : ((r : CommandResponse) × (q.body ≡ body.CommandResponse r)) ⊎ ((a : Ack) × (q.body ≡ body.Ack a)) → tally acts ≡ nothing → PacketIs acts

  packet_is : (to : List ℕ) (acts : List Act) → PacketLine s at q to acts → PacketIs acts
  packet_is to acts (packets.Again request r kept is) = Again request r kept (ap tally is)
  packet_is to acts (packets.Answered new reply own answers is) =
      New (is_request reply own answers) new own (own_takes reply own answers) (ap tally is ∙ tally_both (answered (key q.from) to q.request reply ∷ []) own)
  packet_is to acts (packets.Responded r carries c awaited is) = Reply_or_ack (inl (r, carries)) (ap tally is)
  packet_is to acts (packets.LateResponse r carries none is) = Reply_or_ack (inl (r, carries)) (ap tally is)
  packet_is to acts (packets.Acknowledged a carries ends is) = Reply_or_ack (inr (a, carries)) (ap tally is)
  packet_is to acts (packets.Idle a carries other is) = Reply_or_ack (inr (a, carries)) (ap tally is)

  one_kind : (xs ys : List Act) → PacketIs xs → PacketIs ys → tally xs ≡ tally ys
  one_kind xs ys (Again request r kept is) (Again a x b same) = is ∙ sym same
  one_kind xs ys (Again request r kept is) (New a new own t same) = not_both r _ new kept
  one_kind xs ys (Again request r kept is) (Reply_or_ack other same) = not_request q.body request other
  one_kind xs ys (New a new own t is) (Again request r kept same) = not_both r _ new kept
  one_kind xs ys (New a new own t is) (New b also others u same) = is ∙ ap (both reply_alone) (one_way (tally own) (tally others) t u) ∙ sym same
  one_kind xs ys (New request new own t is) (Reply_or_ack other same) = not_request q.body request other
  one_kind xs ys (Reply_or_ack other is) (Again request r kept same) = not_request q.body request other
  one_kind xs ys (Reply_or_ack other is) (New request new own t same) = not_request q.body request other
  one_kind xs ys (Reply_or_ack other is) (Reply_or_ack others same) = is ∙ sym same

  is_taken : (acts : List Act) → PacketIs acts → IsTaken q.body
  is_taken acts (Again request r kept is) = inl request
  is_taken acts (New request new own t is) = inl request
  is_taken acts (Reply_or_ack other is) = inr other

  one_packet : (xs ys : List Act) → Comes s at q xs → Comes s at q ys → tally xs ≡ tally ys
  one_packet xs ys h g = one_kind xs ys (packet_is h.operator xs h.line) (packet_is g.operator ys g.line)

-- ---- orders

module _ (s : State) (at : ℕ) (operator : List ℕ) where
  -- an order to start gives a reference
  abbrev order_tally : Order → Tally
  order_tally (order.StartSession uid type location evse connector) = takes 1 1 ((counter.Reference, next_reference s) ∷ [])
  order_tally (order.ReserveNow uid type expiry id location evse) = takes 1 1 []
  order_tally (order.StopSession id) = takes 1 1 []
  order_tally (order.CancelReservation id) = takes 1 1 []
  order_tally (order.UnlockConnector location evse connector) = takes 1 1 []

  makes_tally : (o : Order) (c : Command) (before : List Act) (to : List ℕ) → Makes s o c before → tally (before ++ (commanded at (next_request s) to c ∷ [])) ≡ order_tally o
  makes_tally o c before to (orders.Start uid type location evse connector t own) = refl
  makes_tally o c before to (orders.Reserve uid type expiry id location evse t own) = refl
  makes_tally o c before to (orders.Stop id) = refl
  makes_tally o c before to (orders.Cancel id) = refl
  makes_tally o c before to (orders.Unlock location evse connector) = refl

  order_takes : (o : Order) (acts : List Act) → OrderLine s at operator o acts → tally acts ≡ order_tally o
  order_takes o acts h = ap tally h.acts_are ∙ makes_tally o h.command h.before h.to h.makes

  makes_none : (o : Order) (c : Command) (before : List Act) → Makes s o c before → LacksToken s o → ⊥
  makes_none o c before (orders.Start uid type location evse connector t own) lacks = not_both t _ lacks own
  makes_none o c before (orders.Reserve uid type expiry id location evse t own) lacks = not_both t _ lacks own
  makes_none o c before (orders.Stop id) lacks = lacks
  makes_none o c before (orders.Cancel id) lacks = lacks
  makes_none o c before (orders.Unlock location evse connector) lacks = lacks

-- ---- tokens, and moments

push_tally : (at last : ℕ) (t : Token) (p : Pushing) (old : Option ℕ) → p.replaced ≡ old → tally (token_acts at t last p) ≡ takes 1 1 []
push_tally at last t p None is = ap (λ (o : Option ℕ). tally (replaced o ++ (pushed at (last + 1) p.to (push.PutToken t) ∷ []))) is
push_tally at last t p (Some n) is = ap (λ (o : Option ℕ). tally (replaced o ++ (pushed at (last + 1) p.to (push.PutToken t) ∷ []))) is

pushes_tally : (at k l : ℕ) (t u : Token) (xs ys : List Pushing) → length xs ≡ length ys → tally (in_turn (token_acts at t) k xs) ≡ tally (in_turn (token_acts at u) l ys)
pushes_tally at k l t u [] [] same = refl
pushes_tally at k l t u [] (y ∷ ys) same = absurd (omega (arith, same))
pushes_tally at k l t u (x ∷ xs) [] same = absurd (omega (arith, same))
pushes_tally at k l t u (x ∷ xs) (y ∷ ys) same =
    tally_parts (token_acts at t k x) _ (token_acts at u l y) _ (push_tally at k t x x.replaced refl ∙ sym (push_tally at l u y y.replaced refl))
    (pushes_tally at (k + all_requests (token_acts at t k x)) (l + all_requests (token_acts at u l y)) t u xs ys (omega (arith, same)))

one_token : (s : State) (at : ℕ) (t : Token) (xs ys : List Act) → TokenLine s at t xs → TokenLine s at t ys → tally xs ≡ tally ys
one_token s at t xs ys h g =
    let many : length h.pushes ≡ length g.pushes =
    sym (length-map h.pushes (λ (p : Pushing). p.to)) ∙ ap length (h.are_pushes.to_all ∙ sym g.are_pushes.to_all) ∙ length-map g.pushes (λ (p : Pushing). p.to) in
    ap tally h.acts_are
    ∙ tally_parts (stored h.version ∷ []) _ (stored g.version ∷ []) _ refl (pushes_tally at s.rows.outbox.last s.rows.outbox.last h.version g.version h.pushes g.pushes many)
    ∙ sym (ap tally g.acts_are)

no_token_after : (s : State) (at : ℕ) (t : Token) (acts : List Act) → IsAtEnd s.rows.desk.tokens t → TokenLine s at t acts → ⊥
no_token_after s at t acts h line = let last = h.2 in let below = line.next h.0 h.1 in omega (arith, last, below)

not_below_both : (x y : ℕ) → x < y → y < x → ⊥
not_below_both x y a b = omega (arith, a, b)

one_moment : (s : State) (at : ℕ) (xs ys : List Act) → TickLine s at xs → TickLine s at ys → tally xs ≡ tally ys
one_moment s at xs ys h g =
    let due : h.due ≡ g.due = one_listing (λ (a b : ℕ). a < b) not_below_both h.due g.due h.are_due.in_order g.are_due.in_order
    (λ z i. (g.are_due.exact z).1 ((h.are_due.exact z).0 i)) (λ z i. (h.are_due.exact z).1 ((g.are_due.exact z).0 i)) in
    ap tally (h.acts_are ∙ ap (all_resent s.operators at s.rows.outbox) due ∙ sym g.acts_are)

-- ---- refusals

range_of : (s : State) (xs ys : List Act) → tally xs ≡ tally ys → AreInRange s ys → AreInRange s xs
range_of s xs ys same h = record {
  counters = subst (λ (t : Tally). IsInRange (later (counters_of s) t.messages t.requests)) (sym same) h.counters;
  references = λ n i. h.references n (same_counts xs ys same counter.Reference n i);
}

none_past : (Line : List Act → Type 0) (s : State) → ((xs ys : List Act) → Line xs → Line ys → tally xs ≡ tally ys) → PassesLast Line s → (out : Out) → StepBy Line s out → ⊥
none_past Line s one h out step = h.past (range_of s h.acts step.acts (one h.acts step.acts h.line step.line) step.in_range)

module _ (s : State) (out : Out) where
  of_packet : (at : ℕ) (q : Packet) (fault : NodeFault) → ProviderRefuses s (Arrives at q) fault → fault ≢ Memory → StepBy (Comes s at q) s out → ⊥
  of_packet at q NotForMe h other step =
      h (record { to = step.line.to; from = (step.line.operator, step.line.from); kind = is_taken s at q step.acts (packet_is s at q step.line.operator step.acts step.line.line) })
  of_packet at q UnknownOperator h other step = h
  of_packet at q UnknownToken h other step = h
  of_packet at q StampEnd h other step = h
  of_packet at q NumbersUsedUp h other step = none_past (Comes s at q) s (one_packet s at q) h out step
  of_packet at q Memory h other step = other refl

  of_order : (at : ℕ) (operator : List ℕ) (o : Order) (fault : NodeFault) → ProviderRefuses s (Submits at operator o) fault → fault ≢ Memory → StepBy (OrderLine s at operator o) s out → ⊥
  of_order at operator o NotForMe h other step = h
  of_order at operator o UnknownOperator h other step = h (step.line.to, step.line.peer)
  of_order at operator o UnknownToken h other step = makes_none s at operator o step.line.command step.line.before step.line.makes h.1
  of_order at operator o StampEnd h other step = h
  of_order at operator o NumbersUsedUp h other step = none_past (OrderLine s at operator o) s
      (λ xs ys a b. order_takes s at operator o xs a ∙ sym (order_takes s at operator o ys b)) h out step
  of_order at operator o Memory h other step = other refl

  of_token : (at : ℕ) (t : Token) (fault : NodeFault) → ProviderRefuses s (Gives at t) fault → fault ≢ Memory → StepBy (TokenLine s at t) s out → ⊥
  of_token at t NotForMe h other step = h step.line.own
  of_token at t UnknownOperator h other step = h
  of_token at t UnknownToken h other step = h
  of_token at t StampEnd h other step = no_token_after s at t step.acts h.1 step.line
  of_token at t NumbersUsedUp h other step = none_past (TokenLine s at t) s (one_token s at t) h out step
  of_token at t Memory h other step = other refl

  of_tick : (at : ℕ) (fault : NodeFault) → ProviderRefuses s (Ticks at) fault → fault ≢ Memory → StepBy (TickLine s at) s out → ⊥
  of_tick at NotForMe h other step = h
  of_tick at UnknownOperator h other step = h
  of_tick at UnknownToken h other step = h
  of_tick at StampEnd h other step = h
  of_tick at NumbersUsedUp h other step = none_past (TickLine s at) s (one_moment s at) h out step
  of_tick at Memory h other step = other refl

  pub provider_excludes : (i : Input) (fault : NodeFault) → ProviderRefuses s i fault → fault ≢ Memory → StepBy (Asks s i) s out → ⊥
  provider_excludes (Arrives at q) fault h other step = of_packet at q fault h other step
  provider_excludes (Submits at operator o) fault h other step = of_order at operator o fault h other step
  provider_excludes (Gives at t) fault h other step = of_token at t fault h other step
  provider_excludes (Ticks at) fault h other step = of_tick at fault h other step
  provider_excludes Restarts fault h other step = h
  provider_excludes (Reopens p) fault h other step = h
