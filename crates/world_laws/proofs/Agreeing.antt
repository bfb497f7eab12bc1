-- The answers that a provider stored are those that the operator keeps, and a start that was ACCEPTED has its session.
use Rattle.std.proofs.Common.{◌≡◌, ◌⊎◌, ℕ, List, inl, inr, refl, sym, ap, subst, ◌∙◌}
use Rattle.std.specs.Prelude.{Option, Some, None, Contains, IsTrue}
use Rattle.std.specs.FinMap.{contains_key, get, get-empty}
use Rattle.std.specs.Ordering.{nat_cmp}
use Rattle.tables.proofs.Options.{known, none_contained, not_both}
use Rattle.node_laws.specs.Nodes as nodes
use Rattle.ocpi_text.specs.Text.{key}
use Rattle.ocpi_types.specs.Commands.{url_of}
use Rattle.ocpi_types.specs.Prices.{price_at}
use Rattle.ocpi_types.specs.declared.commands.StartSession.{StartSession}
use Rattle.ocpi_types.specs.declared.packet.Body.{Body}
use Rattle.ocpi_types.specs.declared.packet.Body.TheVariants as body
use Rattle.ocpi_types.specs.declared.packet.Packet.{Packet}
use Rattle.ocpi_types.specs.declared.replies.CommandResponse.{CommandResponse}
use Rattle.ocpi_types.specs.declared.replies.CommandResult.{CommandResult}
use Rattle.ocpi_types.specs.declared.token.CdrToken.{CdrToken}
use Rattle.ocpi_types.specs.declared.sessions.Session.{Session}
use Rattle.ocpi_types.specs.declared.setup.Node.{Node}
use Rattle.ocpi_types.specs.declared.site.SiteLine.{SiteLine}
use Rattle.ocpi_types.specs.declared.commands.Command.{Command}
use Rattle.ocpi_types.specs.declared.commands.Command.TheVariants as command
use Rattle.ocpi_types.specs.declared.stored.Push.TheVariants as push
use Rattle.ocpi_types.specs.declared.stored.Reply.{Reply}
use Rattle.ocpi_types.specs.declared.stored.Reply.TheVariants as reply
use Rattle.ocpi_types.specs.declared.stored.SentCommand.{SentCommand}
use Rattle.ocpi_types.specs.declared.words.CommandResultType.{CommandResultType}
use Rattle.ocpi_types.specs.declared.words.CommandResultType.TheVariants.{Accepted}
use Rattle.operator_laws.specs.Laws as operator_laws
use Rattle.operator_laws.specs.Replied.{Asked}
use Rattle.operator_laws.specs.Sessions.{BeganIn}
use Rattle.operator_laws.proofs.nodes.NodeLaws as operator_proofs
use Rattle.operator_laws.proofs.replies.Given.{replies_were_given}
use Rattle.operator_laws.proofs.results.Posting.{results_are_posted}
use Rattle.operator_laws.proofs.sessions.Accepted.{accepted_starts_have_sessions}
use Rattle.operator_laws.proofs.standing.AtAllTimes.{always_consistent}
use Rattle.operator_rows.specs.State as operator
use Rattle.operator_steps.specs.Events as operator_events
use Rattle.provider_laws.specs.Laws as provider_laws
use Rattle.provider_laws.proofs.commands.Sent.{sent_commands_stand}
use Rattle.provider_laws.proofs.commands.Standing.{answers_came, results_came}
use Rattle.provider_laws.proofs.commands.Urls.{urls_have_one_number}
use Rattle.provider_laws.proofs.nodes.NodeLaws as provider_proofs
use Rattle.provider_rows.specs.State as provider
use Rattle.provider_rows.proofs.KeepingTimes.{opening_consistent}
use Rattle.session_laws.specs.Pasts.{past}
use Rattle.world_laws.proofs.Steady.{pasts_are_orderly}
use Rattle.world_laws.specs.Agree.{AnswersAgree, HasBegun, KeepsResponse, KeepsResult}
use Rattle.world_laws.specs.Laws.{IsSetup}
use Rattle.world_laws.specs.Nodes.{OperatorOf, ProviderOf}
use Rattle.world_laws.proofs.NodeRuns.{FromOperator, OperatorAt, ProviderAt, came_to_operator, came_to_provider, line_of, peering_of, provider_at}
use Rattle.world_laws.proofs.Newest.{IsEarlier, has_last, in_past, last_or_earlier}
use Rattle.world_laws.proofs.Senders.{came_and_was_answered, command_is_no_reply, push_is_no_reply, run_of_operator, run_of_provider, sent_by_provider}
use Rattle.world_steps.specs.Traces.{Histories, Traces}
use Rattle.world_steps.specs.World.{Place, World}

-- what an operator answers is no reply
answered_is_no_reply : (r : Reply) (b : Body) → operator_laws.IsReplyTo r b → ¬ nodes.IsReply b
answered_is_no_reply (reply.CommandResponse r) b (c, is) = command_is_no_reply b c is
answered_is_no_reply (reply.Ack r) b (t, is) = push_is_no_reply b (push.PutToken t) is
answered_is_no_reply (reply.Authorization r) b never = absurd never

-- the versions of a session agree in its token's party and in its reference
with_last : (v y : Session) → (y ≡ v) ⊎ IsEarlier y v → (y.cdr_token ≡ v.cdr_token) × (y.authorization_reference ≡ v.authorization_reference)
with_last v y (inl same) = (ap (λ (z : Session). z.cdr_token) same, ap (λ (z : Session). z.authorization_reference) same)
with_last v y (inr earlier) = (earlier.same.cdr_token, earlier.same.authorization_reference)

-- the result that an operator sent is that of a command which came from the party, and is posted where that command
-- says
abbrev IsPosted : List operator_events.Event → operator.State → List ℕ → CommandResult → Type 0
IsPosted es s to r = (m : ℕ) × (c : Command) × Asked (operator_laws.Came es) to m c × (r.response_url ≡ url_of c) × (get s.rows.commands.results (to, m) ≡ Some r.result)

one_value : {X : Type 0} (o : Option X) (x y : X) → o ≡ Some x → o ≡ Some y → x ≡ y
one_value o x y f g = let both : Some x ≡ Some y = sym f ∙ g in cc

module _ (setup : List Node) (is_setup : IsSetup setup) (w : World) (hs : Histories) (traces : Traces setup w hs) where
  module _ (p : List ℕ) (q : Place) (t : provider.State) (of : ProviderOf w p q t) where
    abbrev at : ProviderAt setup is_setup w hs traces p q t
    at = provider_at setup is_setup w hs traces p q t of

    abbrev peering : provider.Peering
    peering = peering_of setup at.trace.party

    abbrev run : provider_laws.Run (provider.opening peering) at.trace.events t
    run = run_of_provider setup is_setup w hs traces p q t at

    module _ (n : ℕ) (d : SentCommand) (has : get t.rows.outbox.commands n ≡ Some d) where
      response_kept : (r : CommandResponse) → d.answer ≡ Some r → KeepsResponse w p (key d.to) n r
      response_kept r answer = elim (answers_came (provider.opening peering) t at.trace.events run n d r has answer) [
        | inl (c, old, had) ↦ not_both c _ (get-empty nat_cmp n) old
        | inr (x, came, carries, from, number) ↦
            let (to, f) = came_to_provider setup is_setup w hs traces p q t at x came in
            let line = line_of setup f.at.trace.party f.at.trace.site in
            let kept = operator_proofs.sent_replies_are_kept line f.at.trace.events f.state f.at.trace.by_form (run_of_operator setup is_setup w hs traces (key x.from) f.place f.state f.at) x
            (reply.CommandResponse r) f.within carries in
            record {
              place = f.place;
              state = f.state;
              at = subst (λ z. OperatorOf w z f.place f.state) from f.of;
              kept = subst (λ k. get f.state.rows.commands.replies k ≡ Some (reply.CommandResponse r)) (λ i. (to i, number i)) kept;
            }
      ]

      -- the operator of the command's addressee keeps the result of this very command, which came to it
      record Posted (x : CommandResultType) : Type 0 where
        party : List ℕ
        place : Place
        state : operator.State
        of_it : OperatorOf w party place state
        there : OperatorAt setup is_setup w hs traces party place state
        to : party ≡ key d.to
        kept : get state.rows.commands.results (p, n) ≡ Some x
        asked : Packet
        sent : Contains (provider_laws.sent at.trace.events) asked
        number : asked.request ≡ n
        carries : asked.body ≡ body.Command d.command

      module _ (y : Packet) (f : FromOperator setup is_setup w hs traces y) where
        abbrev line : SiteLine
        line = line_of setup f.at.trace.party f.at.trace.site

        its_run : operator_laws.Run (operator.opening line) f.at.trace.events f.state
        its_run = run_of_operator setup is_setup w hs traces (key y.from) f.place f.state f.at

        -- the operator sent the result of a command that it had from this provider, under the number that its url has
        posted_by : (x : CommandResultType) (r : CommandResult) → key y.to ≡ p → key y.from ≡ key d.to → r.result ≡ x → r.response_url ≡ url_of d.command →
            IsPosted f.at.trace.events f.state (key y.to) r → Posted x
        posted_by x r to_us from word url (m, c, (z, z_came, z_from, z_number, z_carries), posted_to, kept) =
            let (to_it, g) = came_to_operator setup is_setup w hs traces (key y.from) f.place f.state f.at z z_came in
            let within = sent_by_provider setup is_setup w hs traces p q t of at z g (z_from ∙ to_us) in
            let (stood, stands, to, same) = sent_commands_stand (provider.opening peering) t at.trace.events (opening_consistent peering at.trace.are_peers) run z c within z_carries in
            let one = urls_have_one_number peering at.trace.events t run z.request n stood d stands has (ap url_of same ∙ sym posted_to ∙ url) in
            let equal : stood ≡ d = one_value (get t.rows.outbox.commands n) stood d (ap (get t.rows.outbox.commands) (sym one) ∙ stands) has in
            record {
              party = key y.from;
              place = f.place;
              state = f.state;
              of_it = f.of;
              there = f.at;
              to = from;
              kept = subst (λ k. get f.state.rows.commands.results k ≡ Some x) (λ i. (to_us i, (sym z_number ∙ one) i)) (kept ∙ ap Some word);
              asked = z;
              sent = within;
              number = one;
              carries = z_carries ∙ ap body.Command (sym same ∙ ap (λ (c : SentCommand). c.command) equal);
            }

      posted : (x : CommandResultType) → d.result ≡ Some x → Posted x
      posted x result = elim (results_came (provider.opening peering) t at.trace.events run n d x has result) [
        | inl (c, old, had) ↦ not_both c _ (get-empty nat_cmp n) old
        | inr (y, r, came, carried, word, url, from) ↦
            let (to_us, f) = came_to_provider setup is_setup w hs traces p q t at y came in
            posted_by y f x r to_us from word url (results_are_posted (line y f) f.at.trace.events f.state f.at.trace.by_form (its_run y f) y r f.within carried)
      ]

      result_kept : (x : CommandResultType) → d.result ≡ Some x → KeepsResult w p (key d.to) n x
      result_kept x result = let h = posted x result in record { place = h.place; state = h.state; at = subst (λ z. OperatorOf w z h.place h.state) h.to h.of_it; kept = h.kept }

      -- the operator answered the start, and began a session by it
      module _ (h : Posted Accepted) (c : StartSession) (is_start : d.command ≡ command.StartSession c) where
        abbrev its_line : SiteLine
        its_line = line_of setup h.there.trace.party h.there.trace.site

        abbrev es : List operator_events.Event
        es = h.there.trace.events

        ran : operator_laws.Run (operator.opening its_line) es h.state
        ran = run_of_operator setup is_setup w hs traces h.party h.place h.state h.there

        answered : IsTrue (contains_key h.state.rows.commands.replies (p, n))
        answered = (always_consistent its_line es h.state h.there.trace.by_form ran).consistent.sound.results (p, n) Accepted h.kept

        -- what was answered under the command's number is the command
        is_the_start : (x : Packet) → operator_laws.Came es x → key x.from ≡ p → x.request ≡ n → ¬ nodes.IsReply x.body → x.body ≡ body.Command (command.StartSession c)
        is_the_start x came from number no_reply =
            let (to_it, g) = came_to_operator setup is_setup w hs traces h.party h.place h.state h.there x came in
            let within = sent_by_provider setup is_setup w hs traces p q t of at x g from in
            let same = provider_proofs.requests_agree peering at.trace.events t run x h.asked within h.sent no_reply (command_is_no_reply h.asked.body d.command h.carries) (number ∙ sym h.number) in
            same.0 ∙ h.carries ∙ ap body.Command is_start

        -- the session that it began stands, in a later version
        has_begun : (x : Packet) → key x.from ≡ p → BeganIn es (key x.from) x.request c → HasBegun w p (key d.to) c
        has_begun x from b =
            let (ordered, is_last) = pasts_are_orderly its_line es h.state h.there.trace.by_form ran h.there.trace.steady (key b.session.id) in
            let of_past = in_past es b.event b.session b.happened b.begins in
            let (v, last) = has_last (past (key b.session.id) es) b.session of_past in
            let (token, reference) = with_last v b.session (last_or_earlier (price_at its_line.site) (past (key b.session.id) es) v b.session ordered last of_past) in
            record {
              place = h.place;
              state = h.state;
              at = subst (λ z. OperatorOf w z h.place h.state) h.to h.of_it;
              id = key b.session.id;
              session = v;
              stands = is_last ∙ last;
              of_provider = ap (λ (k : CdrToken). key k.party) (sym token) ∙ b.of_provider ∙ from;
              reference_is = sym reference ∙ b.reference_is;
            }

        begun : HasBegun w p (key d.to) c
        begun = by (known (get h.state.rows.commands.replies (p, n)))
          where
            by : (get h.state.rows.commands.replies (p, n) ≡ None) ⊎ ((r : Reply) × (get h.state.rows.commands.replies (p, n) ≡ Some r)) → HasBegun w p (key d.to) c
            by (inl none) = none_contained (get h.state.rows.commands.replies (p, n)) answered none
            by (inr (r, kept)) =
                let (x, it, from, number, to_it) = replies_were_given its_line es h.state ran p n r kept in
                let carries = is_the_start x (came_and_was_answered (operator.opening its_line) h.state es x r it) from number (answered_is_no_reply r x.body to_it) in
                let settled : get h.state.rows.commands.results (key x.from, x.request) ≡ Some Accepted = ap (get h.state.rows.commands.results) (λ i. (from i, number i)) ∙ h.kept in
                has_begun x from (accepted_starts_have_sessions its_line es h.state h.there.trace.by_form ran x r c it carries settled)

  pub answers_agree : AnswersAgree w
  answers_agree = record {
    responses = λ p q t of n d r has answer. response_kept p q t of n d has r answer;
    results = λ p q t of n d x has result. result_kept p q t of n d has x result;
    started = λ p q t of n d c has result is_start. begun p q t of n d has (posted p q t of n d has Accepted result) c is_start;
  }
