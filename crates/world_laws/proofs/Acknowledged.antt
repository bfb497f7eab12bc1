-- What is acknowledged is held: the provider that acknowledged a push came by it from the operator, and holds what it
-- carried.
use Rattle.std.proofs.Common.{◌≡◌, ◌⊎◌, ◌≤◌, ℕ, List, map, inl, inr, refl, sym, ap, subst, ◌∙◌, arith}
use Rattle.std.specs.Prelude.{Some, Contains}
use Rattle.std.specs.FinMap.{get, get-empty}
use Rattle.tables.specs.Keys.{text_number_cmp, text_pair_cmp}
use Rattle.tables.proofs.Options.{not_both}
use Rattle.ocpi_text.specs.Text.{key}
use Rattle.ocpi_types.specs.Stored.{body_of_push}
use Rattle.ocpi_types.specs.Prices.{price_at}
use Rattle.ocpi_types.specs.declared.cdrs.Cdr.{Cdr}
use Rattle.ocpi_types.specs.declared.packet.Body.TheVariants as body
use Rattle.ocpi_types.specs.declared.packet.Packet.{Packet}
use Rattle.ocpi_types.specs.declared.replies.Ack.{Ack}
use Rattle.ocpi_types.specs.declared.sessions.Session.{Session}
use Rattle.ocpi_types.specs.declared.setup.Node.{Node}
use Rattle.ocpi_types.specs.declared.stored.Push.{Push}
use Rattle.ocpi_types.specs.declared.stored.Push.TheVariants as push
use Rattle.ocpi_types.specs.declared.stored.Reply.{Reply}
use Rattle.ocpi_types.specs.declared.stored.Reply.TheVariants as reply
use Rattle.ocpi_types.specs.declared.words.SessionStatus.{SessionStatus}
use Rattle.handover.specs.Cdrs.{cdr_key}
use Rattle.handover.specs.Inbox as inbox
use Rattle.handover.specs.Inbox.{session_key}
use Rattle.node_laws.proofs.NodeRuns as node_runs
use Rattle.operator_laws.specs.AsNode as operator_node
use Rattle.operator_laws.specs.Laws as operator_laws
use Rattle.operator_laws.specs.Sessions.{WasTaken}
use Rattle.operator_laws.proofs.nodes.NodeLaws as operator_proofs
use Rattle.operator_laws.proofs.sessions.HandedOver.{versions_are_pushed}
use Rattle.operator_laws.proofs.standing.AtAllTimes.{always_consistent}
use Rattle.operator_rows.specs.Sound.{IsConsistent}
use Rattle.operator_rows.specs.State as operator
use Rattle.provider_laws.specs.Held.{IsTaken}
use Rattle.provider_laws.specs.Laws as provider_laws
use Rattle.provider_laws.proofs.held.Cdrs.{acknowledged_cdrs_are_held}
use Rattle.provider_laws.proofs.held.Sessions.{acknowledged_sessions_are_held, held_sessions_came}
use Rattle.provider_laws.proofs.nodes.NodeLaws as provider_proofs
use Rattle.provider_laws.proofs.replies.Answering.{replies_answer}
use Rattle.provider_rows.specs.State as provider
use Rattle.provider_steps.specs.Events as provider_events
use Rattle.session_laws.specs.Pasts.{past}
use Rattle.world_laws.proofs.Steady.{pasts_are_orderly}
use Rattle.session_laws.proofs.Sending.{sent_versions_are_past}
use Rattle.session_state.specs.Pasts.{IsFinal}
use Rattle.world_laws.specs.Agree.{AcknowledgedIsHeld, HasNoPushOfCdr, HasNoPushOfSession}
use Rattle.world_laws.specs.Laws.{IsSetup}
use Rattle.world_laws.specs.Nodes.{Holds, HoldsCdr, OperatorOf, ProviderOf}
use Rattle.world_laws.proofs.NodeRuns.{OperatorAt, ProviderAt, came_to_operator, came_to_provider, line_of, operator_at, peering_of, provider_at}
use Rattle.world_laws.proofs.Newest.{IsEarlier, last_or_earlier}
use Rattle.world_laws.proofs.Senders.{came_to_be_answered, push_is_no_reply, run_of_operator, run_of_provider, sent_by_operator}
use Rattle.world_steps.specs.Traces.{Histories, Traces}
use Rattle.world_steps.specs.World.{Place, World}

is_final : (s : SessionStatus) → inbox.IsFinal s → IsFinal s
is_final s (inl done) = subst IsFinal (sym done) tt
is_final s (inr void) = subst IsFinal (sym void) tt

-- what is held of a session is its newest version, where it is of its past and at least as new
newest : (v y : Session) → (y ≡ v) ⊎ IsEarlier y v → inbox.IsFinal y.status ⊎ (v.last_updated ≤ y.last_updated) → y ≡ v
newest v y (inl same) at_least = same
newest v y (inr earlier) (inl final) = absurd (earlier.going (is_final y.status final))
newest v y (inr earlier) (inr no_older) = let below = earlier.below in absurd (omega (arith, below, no_older))

module _ (setup : List Node) (is_setup : IsSetup setup) (w : World) (hs : Histories) (traces : Traces setup w hs) where
  -- the provider of that party answered the push by an acknowledgement with status 1000
  record Took (party : List ℕ) (x : Push) : Type 0 where
    place : Place
    state : provider.State
    of : ProviderOf w party place state
    before : provider.State
    after : provider.State
    event : provider_events.Event
    later : List provider_events.Event
    happens : provider_events.Happens before event after
    left : provider_laws.Run after later state
    packet : Packet
    reply : Reply
    answers : provider_laws.AnswersIt before event after packet reply
    taken : IsTaken reply
    carries : packet.body ≡ body_of_push x

  -- an acknowledgement that a provider sent is to a push that came to it
  replied : (party : List ℕ) (q : Place) (t : provider.State) (there : ProviderAt setup is_setup w hs traces party q t) (a : Packet) (ack : Ack) →
      Contains (provider_laws.sent there.trace.events) a → a.body ≡ body.Ack ack →
      provider_laws.IsReplyTo (provider.opening (peering_of setup there.trace.party)) there.trace.events t (key a.to) a.request (reply.Ack ack)
  replied party q t there a ack within is_ack =
      let peering = peering_of setup there.trace.party in
      let run = run_of_provider setup is_setup w hs traces party q t there in
      elim (replies_answer (provider.opening peering) t there.trace.events run (key a.to) a.request (reply.Ack ack)
      (provider_proofs.sent_replies_are_kept peering there.trace.events t run a (reply.Ack ack) within is_ack)) [
        | inl old ↦ not_both (reply.Ack ack) _ (get-empty text_number_cmp (key a.to, a.request)) old
        | inr r ↦ r
      ]

  module _ (o : List ℕ) (p : Place) (s : operator.State) (of : OperatorOf w o p s) where
    abbrev at : OperatorAt setup is_setup w hs traces o p s
    at = operator_at setup is_setup w hs traces o p s of

    abbrev run : operator_laws.Run (operator.opening (line_of setup at.trace.party at.trace.site)) at.trace.events s
    run = run_of_operator setup is_setup w hs traces o p s at

    consistent : IsConsistent s
    consistent = (always_consistent (line_of setup at.trace.party at.trace.site) at.trace.events s at.trace.by_form run).consistent

    -- the party that the operator stores is that of its place
    party_is : key s.party ≡ o
    party_is =
        let line = line_of setup at.trace.party at.trace.site in
        let whole = node_runs.runs_are_steps (operator_proofs.before line at.trace.events s at.trace.by_form run) (operator_proofs.after line at.trace.events s at.trace.by_form run) (map operator_node.exchange at.trace.events)
        (operator_proofs.as_run line at.trace.events s at.trace.by_form run) in
        ap key (whole.counts.party ∙ sym at.trace.party_is) ∙ at.party

    -- what the provider of the push acknowledged is the push, and came to it from this operator
    took : (party : List ℕ) (x : Push) → WasTaken at.trace.events party x → Took party x
    took party x t = by t.acknowledged
      where
        by : operator_laws.Acknowledged at.trace.events t.packet.to t.packet.request → Took party x
        by (a, came, (ack, is_ack, thousand), from, number) =
            let (to_us, f) = came_to_operator setup is_setup w hs traces o p s at a came in
            let r = replied (key a.from) f.place f.state f.at a ack f.within is_ack in
            let came_there = came_to_be_answered (provider.opening (peering_of setup f.at.trace.party)) f.state f.at.trace.events r.packet (reply.Ack ack) r.answered in
            let (to_it, g) = came_to_provider setup is_setup w hs traces (key a.from) f.place f.state f.at r.packet came_there in
            let within = sent_by_operator setup is_setup w hs traces o p s of at r.packet g (r.by ∙ to_us) in
            let same = operator_proofs.requests_agree (line_of setup at.trace.party at.trace.site) at.trace.events s at.trace.by_form run r.packet t.packet within t.was_sent
            (push_is_no_reply r.packet.body r.answers.0 r.answers.1) (push_is_no_reply t.packet.body x t.carries) (r.number ∙ number) in
            record {
              place = f.place;
              state = f.state;
              of = subst (λ z. ProviderOf w z f.place f.state) (from ∙ t.of_provider) f.of;
              before = r.answered.before;
              after = r.answered.after;
              event = r.answered.event;
              later = r.answered.later;
              happens = r.answered.happens;
              left = r.answered.left;
              packet = r.packet;
              reply = reply.Ack ack;
              answers = r.answered.answers;
              taken = (ack, refl, thousand);
              carries = same.0 ∙ t.carries;
            }

    -- a version of its session that a provider holds is of the session's past
    of_past : (party id : List ℕ) (q : Place) (t : provider.State) (there : ProviderAt setup is_setup w hs traces party q t) (y : Session) → get t.rows.inbox.sessions (o, id) ≡ Some y →
        Contains (past id at.trace.events) y
    of_past party id q t there y has =
        elim (held_sessions_came (provider.opening (peering_of setup there.trace.party)) t there.trace.events (run_of_provider setup is_setup w hs traces party q t there) (o, id) y has) [
          | inl old ↦ not_both y _ (get-empty text_pair_cmp (o, id)) old
          | inr (same, (x, came, carries, parties)) ↦
              let (to, f) = came_to_provider setup is_setup w hs traces party q t there x came in
              let within = sent_by_operator setup is_setup w hs traces o p s of at x f (sym parties.1 ∙ ap (λ (k : List ℕ × List ℕ). k.0) (sym same)) in
              subst (λ k. Contains (past k at.trace.events) y) (ap (λ (k : List ℕ × List ℕ). k.1) (sym same))
              ((sent_versions_are_past (line_of setup at.trace.party at.trace.site) at.trace.events s at.trace.by_form run).versions x y within carries)
        ]

    module _ (id : List ℕ) where
      held_session : (v : Session) → get s.rows.charged.sessions id ≡ Some v → Took (key v.cdr_token.party) (push.PutSession v) → Holds w (key v.cdr_token.party) o id v
      held_session v stands t =
          let (y, has, at_least) = acknowledged_sessions_are_held t.before t.after t.state t.event t.later t.packet v t.reply t.happens t.answers t.taken t.carries t.left in
          let its_key : session_key v ≡ (o, id) = λ i. (((consistent.sound.sessions id v stands).own ∙ party_is) i, sym (consistent.sound.charged_keyed.sessions id v stands) i) in
          let held : get t.state.rows.inbox.sessions (o, id) ≡ Some y = ap (get t.state.rows.inbox.sessions) (sym its_key) ∙ has in
          let (ordered, is_last) = pasts_are_orderly (line_of setup at.trace.party at.trace.site) at.trace.events s at.trace.by_form run at.trace.steady id in
          let among =
          last_or_earlier (price_at at.trace.site) (past id at.trace.events) v y ordered (sym is_last ∙ stands)
          (of_past (key v.cdr_token.party) id t.place t.state (provider_at setup is_setup w hs traces (key v.cdr_token.party) t.place t.state t.of) y held) in
          record { place = t.place; state = t.state; at = t.of; held = held ∙ ap Some (newest v y among at_least) }

      held_cdr : (x : Cdr) → get s.rows.charged.cdrs id ≡ Some x → Took (key x.cdr_token.party) (push.PostCdr x) → HoldsCdr w (key x.cdr_token.party) o id x
      held_cdr x stands t =
          let its_key : cdr_key x ≡ (o, id) = λ i. ((consistent.sound.cdrs id x stands ∙ party_is) i, sym (consistent.sound.charged_keyed.cdrs id x stands) i) in
          record {
            place = t.place;
            state = t.state;
            at = t.of;
            held = ap (get t.state.rows.inbox.cdrs) (sym its_key)
                ∙ acknowledged_cdrs_are_held t.before t.after t.state t.event t.later t.packet x t.reply t.happens t.answers t.taken t.carries t.left;
          }

      session_held : (v : Session) → get s.rows.charged.sessions id ≡ Some v → HasNoPushOfSession s id → Holds w (key v.cdr_token.party) o id v
      session_held v stands none = elim ((versions_are_pushed (line_of setup at.trace.party at.trace.site) at.trace.events s at.trace.by_form run).sessions id v stands) [
        | inl h ↦ absurd (none h.number _ v h.stands refl (sym (consistent.sound.charged_keyed.sessions id v stands)))
        | inr t ↦ held_session v stands (took (key v.cdr_token.party) (push.PutSession v) t)
      ]

      cdr_held : (x : Cdr) → get s.rows.charged.cdrs id ≡ Some x → HasNoPushOfCdr s id → HoldsCdr w (key x.cdr_token.party) o id x
      cdr_held x stands none = elim ((versions_are_pushed (line_of setup at.trace.party at.trace.site) at.trace.events s at.trace.by_form run).cdrs id x stands) [
        | inl h ↦ absurd (none h.number _ x h.stands refl (sym (consistent.sound.charged_keyed.cdrs id x stands)))
        | inr t ↦ held_cdr x stands (took (key x.cdr_token.party) (push.PostCdr x) t)
      ]

  pub acknowledged_is_held : AcknowledgedIsHeld w
  acknowledged_is_held = record {
    sessions = λ o id p s v of stands none. session_held o p s of id v stands none;
    cdrs = λ o id p s x of stands none. cdr_held o p s of id x stands none;
  }
