-- A provider has one step by an input.
use Rattle.std.proofs.Common.{◌≡◌, ◌++◌, ℕ, List, [], ◌∷◌, map, refl, sym, ap, subst, ◌∙◌}
use Rattle.std.specs.Prelude.{Option, Some, Contains}
use Rattle.std.proofs.lemmas.List.Elements.{Contains-append_right}
use Rattle.tables.proofs.Elements.{in_front, not_none}
use Rattle.ocpi_text.specs.Text.{key}
use Rattle.ocpi_types.specs.declared.commands.Command.{Command}
use Rattle.ocpi_types.specs.declared.commands.Command.TheVariants as command
use Rattle.ocpi_types.specs.declared.events.Order.{Order}
use Rattle.ocpi_types.specs.declared.events.Order.TheVariants as order
use Rattle.ocpi_types.specs.declared.packet.Packet.{Packet}
use Rattle.ocpi_types.specs.declared.stored.Push.TheVariants as push
use Rattle.ocpi_types.specs.declared.token.Token.{Token}
use Rattle.ocpi_types.specs.declared.words.TokenType.{TokenType}
use Rattle.outbox.specs.Pushes.{IsReplaced, OneEach, Pushes, subject}
use Rattle.token_desk.specs.References.{reference_of}
use Rattle.node_steps.specs.Acts.{Act, commanded, in_turn}
use Rattle.provider_rows.specs.Sound.{IsConsistent}
use Rattle.provider_rows.specs.State.{State}
use Rattle.provider_steps.specs.Acts.{own_url, referenced, stored, token_acts}
use Rattle.provider_steps.specs.Events.{Arrives, Asks, Event, Gives, Input, Reopens, Restarts, Submits, Ticks, event_out}
use Rattle.provider_steps.specs.Moves.{acted}
use Rattle.provider_steps.specs.Orders as orders
use Rattle.provider_steps.specs.Orders.{IsOwnToken, Makes, OrderLine, next_reference, next_request}
use Rattle.provider_steps.specs.Packets.{Comes, PacketLine}
use Rattle.provider_steps.specs.Tick.{TickLine, all_resent}
use Rattle.provider_steps.specs.Tokens.{TokenLine}
use Rattle.provider_steps.specs.declared.pushing.Pushing.{Pushing}
use Rattle.world_steps.specs.Steps as steps
use Rattle.world_steps.specs.Steps.{ProviderDoes}
use Rattle.world_steps.specs.World.{Operates, Provides}
use Rattle.answer_laws.specs.Answers.{ProvidersHaveOneStep}
use Rattle.answer_laws.specs.Nodes.{UrlsDiffer}
use Rattle.answer_laws.proofs.Branching.{AtMostOne}
use Rattle.answer_laws.proofs.Listings.{one_exactly, one_peer, one_replaced}
use Rattle.answer_laws.proofs.ProviderPackets.{one_line}

-- ---- packets

one_packet : (s : State) (at : ℕ) (q : Packet) → IsConsistent s → UrlsDiffer s → AtMostOne (Comes s at q)
one_packet s at q fine apart xs ys h g =
    let same : h.operator ≡ g.operator = one_peer (key s.party ∷ []) s.operators q.from h.operator g.operator fine.peers.apart h.from g.from in
    one_line s at q g.operator apart xs ys (subst (λ (to : List ℕ). PacketLine s at q to xs) same h.line) g.line

-- ---- orders

module _ (s : State) where
  -- the token that an order names
  abbrev Named : (Token → Command × List Act) → TokenType → List ℕ → Command × List Act → Type 0
  Named made type uid x = (t : Token) × IsOwnToken s type uid t × (x ≡ made t)

  abbrev start_made : List ℕ → Option (List ℕ) → Option (List ℕ) → Token → Command × List Act
  start_made location evse connector t = (
    command.StartSession (record { response_url = own_url s.party (next_request s); token = t; location_id = location; evse_uid = evse; connector_id = connector; authorization_reference = Some (reference_of s.party (next_reference s)).text }),
    referenced (next_reference s) ∷ [],
  )

  abbrev reserve_made : ℕ → List ℕ → List ℕ → Option (List ℕ) → Token → Command × List Act
  reserve_made expiry id location evse t =
      (command.ReserveNow (record { response_url = own_url s.party (next_request s); token = t; expiry_date = expiry; reservation_id = id; location_id = location; evse_uid = evse }), [])

  abbrev MakesIs : Order → Command × List Act → Type 0
  MakesIs (order.StartSession uid type location evse connector) x = Named (start_made location evse connector) type uid x
  MakesIs (order.ReserveNow uid type expiry id location evse) x = Named (reserve_made expiry id location evse) type uid x
  MakesIs (order.StopSession id) x = x ≡ (command.StopSession (record { response_url = own_url s.party (next_request s); session_id = id }), [])
  MakesIs (order.CancelReservation id) x = x ≡ (command.CancelReservation (record { response_url = own_url s.party (next_request s); reservation_id = id }), [])
  MakesIs (order.UnlockConnector location evse connector) x =
      x ≡ (command.UnlockConnector (record { response_url = own_url s.party (next_request s); location_id = location; evse_uid = evse; connector_id = connector }), [])

  makes_is : (o : Order) (c : Command) (before : List Act) → Makes s o c before → MakesIs o (c, before)
  makes_is o c before (orders.Start uid type location evse connector t own) = (t, own, refl)
  makes_is o c before (orders.Reserve uid type expiry id location evse t own) = (t, own, refl)
  makes_is o c before (orders.Stop id) = refl
  makes_is o c before (orders.Cancel id) = refl
  makes_is o c before (orders.Unlock location evse connector) = refl

  one_named : (made : Token → Command × List Act) (type : TokenType) (uid : List ℕ) → AtMostOne (Named made type uid)
  one_named made type uid x y h g =
      let found : Some h.0 ≡ Some g.0 = sym h.1 ∙ g.1 in
      let same : h.0 ≡ g.0 = cc in
      h.2 ∙ ap made same ∙ sym g.2

  one_made : (o : Order) → AtMostOne (MakesIs o)
  one_made (order.StartSession uid type location evse connector) x y h g = one_named (start_made location evse connector) type uid x y h g
  one_made (order.ReserveNow uid type expiry id location evse) x y h g = one_named (reserve_made expiry id location evse) type uid x y h g
  one_made (order.StopSession id) x y h g = h ∙ sym g
  one_made (order.CancelReservation id) x y h g = h ∙ sym g
  one_made (order.UnlockConnector location evse connector) x y h g = h ∙ sym g

  one_order : (at : ℕ) (operator : List ℕ) (o : Order) → IsConsistent s → AtMostOne (OrderLine s at operator o)
  one_order at operator o fine xs ys h g =
      let to : h.to ≡ g.to = one_peer (key s.party ∷ []) s.operators operator h.to g.to fine.peers.apart h.peer g.peer in
      let made : ◌≡◌ {A = Command × List Act} (h.command, h.before) (g.command, g.before) = one_made o (h.command, h.before) (g.command, g.before) (makes_is o h.command h.before h.makes) (makes_is o g.command g.before g.makes) in
      h.acts_are ∙ (λ i. (made i).1 ++ (commanded at (next_request s) (to i) (made i).0 ∷ [])) ∙ sym g.acts_are

-- ---- tokens, and moments

-- the pushes to a list of operators, each in place of an older one, are one list
one_pushes : (m : Pushes) (t : Token) → OneEach m → (xs ys : List Pushing) → map (λ (p : Pushing). p.to) xs ≡ map (λ (p : Pushing). p.to) ys →
    ((p : Pushing) → Contains xs p → IsReplaced m (subject p.to (push.PutToken t)) p.replaced) → ((p : Pushing) → Contains ys p → IsReplaced m (subject p.to (push.PutToken t)) p.replaced) → xs ≡ ys
one_pushes m t one [] [] same h g = refl
one_pushes m t one [] (y ∷ ys) same h g = not_none y.to (map (λ (p : Pushing). p.to) ys) (map (λ (p : Pushing). p.to) (y ∷ ys)) refl (sym same)
one_pushes m t one (x ∷ xs) [] same h g = not_none x.to (map (λ (p : Pushing). p.to) xs) (map (λ (p : Pushing). p.to) (x ∷ xs)) refl same
one_pushes m t one (x ∷ xs) (y ∷ ys) same h g =
    let first : x.to ≡ y.to = cc in
    let rest : map (λ (p : Pushing). p.to) xs ≡ map (λ (p : Pushing). p.to) ys = cc in
    let mine : IsReplaced m (subject y.to (push.PutToken t)) x.replaced = subst (λ (to : List ℕ). IsReplaced m (subject to (push.PutToken t)) x.replaced) first (h x (in_front x xs)) in
    let old : x.replaced ≡ y.replaced = one_replaced m (subject y.to (push.PutToken t)) x.replaced y.replaced one mine (g y (in_front y ys)) in
    let others : xs ≡ ys = one_pushes m t one xs ys rest (λ p i. h p (Contains-append_right (x ∷ []) xs p i)) (λ p i. g p (Contains-append_right (y ∷ []) ys p i)) in
    λ i. record { to = first i; replaced = old i } ∷ others i

one_token : (s : State) (at : ℕ) (t : Token) → IsConsistent s → AtMostOne (TokenLine s at t)
one_token s at t fine xs ys h g =
    let version : h.version ≡ g.version = h.version_is ∙ sym g.version_is in
    let m = s.rows.outbox.pushes in
    let mine : (p : Pushing) → Contains h.pushes p → IsReplaced m (subject p.to (push.PutToken g.version)) p.replaced =
    λ p i. subst (λ (v : Token). IsReplaced m (subject p.to (push.PutToken v)) p.replaced) version (h.are_pushes.replaced p i) in
    let pushes : h.pushes ≡ g.pushes = one_pushes m g.version fine.sound.outbox.one_each h.pushes g.pushes (h.are_pushes.to_all ∙ sym g.are_pushes.to_all) mine g.are_pushes.replaced in
    h.acts_are ∙ (λ i. stored (version i) ∷ in_turn (token_acts at (version i)) s.rows.outbox.last (pushes i)) ∙ sym g.acts_are

one_moment : (s : State) (at : ℕ) → AtMostOne (TickLine s at)
one_moment s at xs ys h g = h.acts_are ∙ ap (all_resent s.operators at s.rows.outbox) (one_exactly _ h.due g.due h.are_due g.are_due) ∙ sym g.acts_are

-- ---- any input

pub one_asked : (s : State) → IsConsistent s → UrlsDiffer s → (i : Input) → AtMostOne (Asks s i)
one_asked s fine apart (Arrives at q) xs ys h g = one_packet s at q fine apart xs ys h g
one_asked s fine apart (Submits at operator o) xs ys h g = one_order s at operator o fine xs ys h g
one_asked s fine apart (Gives at t) xs ys h g = one_token s at t fine xs ys h g
one_asked s fine apart (Ticks at) xs ys h g = one_moment s at xs ys h g
one_asked s fine apart Restarts xs ys h g = absurd h
one_asked s fine apart (Reopens p) xs ys h g = absurd h

module _ (s : State) (fine : IsConsistent s) (apart : UrlsDiffer s) where
  -- what is left of an event is one, where what it leaves is
  one_event : (x y : Event) (t u : State) → x.input ≡ y.input → event_out x t ≡ event_out y u → (x ≡ y) × (t ≡ u)
  one_event x y t u same out = (λ i. record { input = same i; changes = (out i).changes; packets = (out i).packets }, λ i. (out i).state)

  no_acts : (x y : Event) (acts : List Act) → x.input ≡ y.input → Asks s x.input acts → y.input ≡ Restarts → ⊥
  no_acts x y acts same asks is = subst (λ (i : Input). Asks s i acts) (same ∙ is) asks

  one_done : (x y : Event) (t u : State) → x.input ≡ y.input → ProviderDoes s x t → ProviderDoes s y u → event_out x t ≡ event_out y u
  one_done x y t u same (steps.Done h) (steps.Done g) =
      let there : Asks s y.input h.acts = subst (λ (i : Input). Asks s i h.acts) same h.line in
      h.out_is ∙ ap (acted s) (one_asked s fine apart y.input h.acts g.acts there g.line) ∙ sym g.out_is
  one_done x y t u same (steps.Done h) (steps.Restarted is out) = absurd (no_acts x y h.acts same h.line is)
  one_done x y t u same (steps.Restarted is out) (steps.Done g) = absurd (no_acts y x g.acts (sym same) g.line is)
  one_done x y t u same (steps.Restarted is out) (steps.Restarted also left) = out ∙ sym left

pub providers_have_one_step : ProvidersHaveOneStep
providers_have_one_step s (Provides t) (Provides u) x y sound apart same h g =
    let one = one_event s sound.0 apart x y t u same (one_done s sound.0 apart x y t u same h g) in
    (one.0, ap Provides one.1)
providers_have_one_step s (Operates t) n x y sound apart same h g = absurd h
providers_have_one_step s (Provides t) (Operates u) x y sound apart same h g = absurd g
