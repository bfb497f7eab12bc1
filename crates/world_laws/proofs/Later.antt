-- A world to which a run goes on is later: each node goes on from the very state that it had.
use Rattle.std.proofs.Common.{◌≡◌, ◌⊎◌, ◌<◌, ℕ, List, ◌++◌, inl, inr, refl, sym, ap, subst, ◌∙◌, arith}
use Rattle.std.specs.Prelude.{Some, Contains, slice_get}
use Rattle.std.specs.Str.{bytes_eq}
use Rattle.std.proofs.lemmas.List.Elements.{Contains-append_left, filter-append}
use Rattle.std.proofs.lemmas.List.Concat.{flat_map-append}
use Rattle.std.proofs.lemmas.List.{map-append}
use Rattle.ocpi_text.specs.Text.{key}
use Rattle.ocpi_types.specs.Prices.{price_at}
use Rattle.ocpi_types.specs.declared.sessions.Session.{Session}
use Rattle.ocpi_types.specs.declared.setup.Node.{Node}
use Rattle.ocpi_types.specs.declared.site.SiteLine.{SiteLine}
use Rattle.ocpi_types.specs.declared.stored.SentCommand.{SentCommand}
use Rattle.node_laws.proofs.Runs.{run_join}
use Rattle.operator_laws.specs.Laws as operator_laws
use Rattle.operator_laws.specs.Laws.{setup_of}
use Rattle.operator_laws.proofs.standing.AtAllTimes as operators
use Rattle.operator_rows.specs.Sound as operator_sound
use Rattle.operator_rows.specs.State as operator
use Rattle.operator_steps.specs.Events as operator_events
use Rattle.provider_laws.specs.Commands.{IsLater}
use Rattle.provider_laws.specs.Held.{IsAfter}
use Rattle.provider_laws.specs.Laws as provider_laws
use Rattle.provider_laws.proofs.commands.Standing.{commands_stay}
use Rattle.provider_laws.proofs.held.Cdrs.{held_cdrs_stay}
use Rattle.provider_laws.proofs.held.Sessions.{held_sessions_rise}
use Rattle.provider_laws.proofs.replies.Answering as provider_replies
use Rattle.provider_laws.proofs.standing.AtAllTimes.{consistent_over_runs}
use Rattle.provider_rows.specs.Sound as provider_sound
use Rattle.provider_rows.specs.State as provider
use Rattle.provider_rows.proofs.KeepingTimes.{opening_consistent, follow_consistent, restarted_consistent}
use Rattle.provider_steps.specs.Events as provider_events
use Rattle.provider_steps.proofs.OrderSteps.{orders}
use Rattle.provider_steps.proofs.PacketSteps.{packets}
use Rattle.provider_steps.proofs.TickSteps.{ticks}
use Rattle.provider_steps.proofs.TokenSteps.{tokens}
use Rattle.session_laws.proofs.Billing.{records_stay}
use Rattle.session_state.specs.Pasts.{IsOrderly}
use Rattle.world_laws.specs.Later.{IsLater as IsLaterWorld, IsLaterCommand, OperatorIsLater, OperatorKeeps, ProviderKeeps, StandsAfter}
use Rattle.world_laws.specs.Laws.{IsSetup}
use Rattle.world_laws.specs.Nodes.{Holds, IsPast, OperatorOf, ProviderOf}
use Rattle.world_laws.proofs.Holding.{held, orderly}
use Rattle.world_laws.proofs.NodeRuns.{OperatorAt, OperatorGoes, OperatorTrace, ProviderAt, ProviderGoes, line_of, one_operator, operator_at, operator_goes, peering_of, provider_at, provider_goes, versions_in}
use Rattle.world_laws.proofs.PastOrder.{stands_after}
use Rattle.world_laws.proofs.Reserving.{newly_made}
use Rattle.world_steps.specs.Steps.{AtOperator, all_put}
use Rattle.world_steps.specs.Traces.{Histories, Goes, Traces, joined}
use Rattle.world_steps.specs.World.{Place, World, past_of}
use Rattle.world_steps.proofs.Places.{got_within, stands}

-- what holds of a provider at all times
provider_consistent : provider_laws.AlwaysConsistent
provider_consistent = consistent_over_runs (record {
  rows = record { at_first = opening_consistent; by_steps = follow_consistent; by_restarts = restarted_consistent };
  packets = packets;
  orders = orders;
  tokens = tokens;
  ticks = ticks;
})

-- the past of a session grows by what is stored of it
past_grows : (id : List ℕ) (p q : Place) (more : List Session) → q.versions ≡ p.versions ++ more → past_of id q.versions ≡ past_of id p.versions ++ past_of id more
past_grows id p q more is = ap (past_of id) is ∙ filter-append (λ (v : Session). bytes_eq (key v.id) id) p.versions more

operator_keeps : (s t : operator.State) (es : List operator_events.Event) → operator_sound.IsConsistent s → operator_laws.Run s es t → OperatorKeeps s t
operator_keeps s t es fine run = record {
  cdrs = records_stay s t es fine run;
  replies = λ p n. operators.replies_stay s t es run (p, n);
  results = λ p n. operators.results_stay s t es fine run (p, n);
  spent = operators.spent_stays_law s t es run;
}

later_command : (c d : SentCommand) → IsLater c d → IsLaterCommand c d
later_command c d h = record { to = h.to; command = h.command; answer = h.answer; result = h.result }

provider_keeps : (s t : provider.State) (es : List provider_events.Event) → provider_sound.IsConsistent s → provider_laws.Run s es t → ProviderKeeps s t
provider_keeps s t es fine run = record {
  cdrs = λ o id. held_cdrs_stay s t es run (o, id);
  replies = λ o n. provider_replies.replies_stay s t es run (o, n);
  commands = λ n c has. let (d, stands, later) = commands_stay s t es fine run n c has in (d, stands, later_command c d later);
}

module _ (setup : List Node) (is_setup : IsSetup setup) (w : World) (hs : Histories) (traces : Traces setup w hs) (v : World) (ms : Histories) (goes : Goes w ms v)
    (on : Traces setup v (joined hs ms)) where
  -- each place has one in the later world
  there : (i : ℕ) (p : Place) → slice_get w i ≡ Some p → (q : Place) × (slice_get v i ≡ Some q)
  there i p here = let within = got_within w i p here in let size = goes.size in stands v i (omega (arith, within, size))

  -- an operator, and what it is in the later world, with all that it did
  record OperatorOn (o : List ℕ) (p : Place) (s : operator.State) : Type 0 where
    first : OperatorAt setup is_setup w hs traces o p s
    place : Place
    here : slice_get v first.number ≡ Some place
    same : place.party ≡ p.party
    more : OperatorGoes p place (ms first.number) s

  operator_on : (o : List ℕ) (p : Place) (s : operator.State) → OperatorOf w o p s → OperatorOn o p s
  operator_on o p s of =
      let first = operator_at setup is_setup w hs traces o p s of in
      let (q, here) = there first.number p first.here in
      let went = goes.each first.number p q first.here here in
      record { first = first; place = q; here = here; same = went.party; more = operator_goes p q (ms first.number) s went of.node }

  module _ (o : List ℕ) (p : Place) (s : operator.State) (h : OperatorOn o p s) where
    abbrev line : SiteLine
    line = line_of setup h.first.trace.party h.first.trace.site

    abbrev events : List operator_events.Event
    events = h.first.trace.events

    run_first : operator_laws.Run (operator.opening line) events s
    run_first = subst (operator_laws.Run (operator.opening line) events) h.first.state_is h.first.trace.run

    -- all that the operator did until the later world
    abbrev trace_on : OperatorTrace setup h.first.number h.place (joined hs ms h.first.number)
    trace_on = record {
      party = h.first.trace.party;
      site = h.first.trace.site;
      in_setup = h.first.trace.in_setup;
      by_form = h.first.trace.by_form;
      party_is = h.same ∙ h.first.trace.party_is;
      state = h.more.state;
      is = h.more.is;
      events = events ++ h.more.events;
      run = run_join operator_events.Happens (operator.opening line) s h.more.state events h.more.events run_first h.more.run;
      history = (λ i. h.first.trace.history i ++ h.more.history i) ∙ sym (map-append AtOperator events h.more.events);
      sent_is = h.more.sent_is ∙ ap (λ l. l ++ operator_laws.sent h.more.events) h.first.trace.sent_is ∙ sym (flat_map-append (λ (e : operator_events.Event). e.packets) events h.more.events);
      versions_is = h.more.versions_is ∙ ap (λ l. l ++ versions_in h.more.events) h.first.trace.versions_is ∙ sym (flat_map-append (λ (e : operator_events.Event). all_put e.changes) events h.more.events);
      steady = flat_map-append (λ (e : operator_events.Event). setup_of e.input) events h.more.events ∙ (λ i. h.first.trace.steady i ++ h.more.steady i);
    }

    abbrev at_on : OperatorAt setup is_setup v (joined hs ms) on o h.place h.more.state
    at_on = record { number = h.first.number; here = h.here; party = ap key h.same ∙ h.first.party; trace = trace_on; state_is = refl }

    of_on : OperatorOf v o h.place h.more.state
    of_on = record { number = h.first.number; here = h.here; party = ap key h.same ∙ h.first.party; node = h.more.is }

    fine_first : operator_sound.IsConsistent s
    fine_first = (operators.always_consistent line events s h.first.trace.by_form run_first).consistent

    operator_later : OperatorIsLater v o p h.place s h.more.state
    operator_later = record {
      pasts = λ id. (past_of id (versions_in h.more.events), past_grows id p h.place (versions_in h.more.events) h.more.versions_is);
      keeps = operator_keeps s h.more.state h.more.events fine_first h.more.run;
      reservations = newly_made setup is_setup v (joined hs ms) on o h.place h.more.state at_on line events h.more.events refl s fine_first run_first h.more.run;
    }

  -- and a provider
  record ProviderOn (o : List ℕ) (p : Place) (s : provider.State) : Type 0 where
    first : ProviderAt setup is_setup w hs traces o p s
    place : Place
    here : slice_get v first.number ≡ Some place
    same : place.party ≡ p.party
    more : ProviderGoes p place (ms first.number) s

  provider_on : (o : List ℕ) (p : Place) (s : provider.State) → ProviderOf w o p s → ProviderOn o p s
  provider_on o p s of =
      let first = provider_at setup is_setup w hs traces o p s of in
      let (q, here) = there first.number p first.here in
      let went = goes.each first.number p q first.here here in
      record { first = first; place = q; here = here; same = went.party; more = provider_goes p q (ms first.number) s went of.node }

  module _ (o : List ℕ) (p : Place) (s : provider.State) (h : ProviderOn o p s) where
    provider_of_on : ProviderOf v o h.place h.more.state
    provider_of_on = record { number = h.first.number; here = h.here; party = ap key h.same ∙ h.first.party; node = h.more.is }

    provider_fine : provider_sound.IsConsistent s
    provider_fine =
        subst provider_sound.IsConsistent h.first.state_is
        (provider_consistent (peering_of setup h.first.trace.party) h.first.trace.events h.first.trace.state h.first.trace.are_peers h.first.trace.run)

    provider_later : ProviderKeeps s h.more.state
    provider_later = provider_keeps s h.more.state h.more.events provider_fine h.more.run

  -- of two versions that a provider held at one time and later, each is of the later past
  rose : (p o id : List ℕ) (a b : Session) → Holds w p o id a → Holds v p o id b → a.last_updated < b.last_updated → (versions : List Session) × IsPast v o id versions × StandsAfter versions a b
  rose p o id a b first then later =
      let was = held setup is_setup w hs traces p o id a first in
      let is = held setup is_setup v (joined hs ms) on p o id b then in
      let h = operator_on o was.is_past.place was.is_past.state was.is_past.at in
      let one = one_operator setup is_setup v (joined hs ms) on o is.is_past.place h.place is.is_past.state h.more.state is.is_past.at (of_on o was.is_past.place was.is_past.state h) in
      let all : is.versions ≡ past_of id h.place.versions = is.is_past.past_is ∙ ap (λ (z : Place). past_of id z.versions) one.0 in
      let grown : is.versions ≡ was.versions ++ past_of id (versions_in h.more.events) =
      all ∙ past_grows id was.is_past.place h.place (versions_in h.more.events) h.more.versions_is ∙ ap (λ l. l ++ past_of id (versions_in h.more.events)) (sym was.is_past.past_is) in
      let member : Contains is.versions a = subst (λ l. Contains l a) (sym grown) (Contains-append_left was.versions (past_of id (versions_in h.more.events)) a was.member) in
      let in_order = (orderly setup is_setup v (joined hs ms) on o is.is_past.place is.is_past.state is.is_past.at id).orderly in
      let follows = subst (IsOrderly (price_at is.is_past.state.site)) (sym is.is_past.past_is) in_order in
      (is.versions, is.is_past, stands_after (price_at is.is_past.state.site) is.versions follows a b member is.member later)

  held_later : (p o id : List ℕ) (a : Session) → Holds w p o id a →
      (b : Session) × Holds v p o id b × ((a ≡ b) ⊎ ((versions : List Session) × IsPast v o id versions × StandsAfter versions a b))
  held_later p o id a first =
      let h = provider_on p first.place first.state first.at in
      let (b, stands, after) = held_sessions_rise first.state h.more.state h.more.events h.more.run (o, id) a first.held in
      let now : Holds v p o id b = record { place = h.place; state = h.more.state; at = provider_of_on p first.place first.state h; held = stands } in
      (b, now, by_rise b now after)
    where
      by_rise : (b : Session) → Holds v p o id b → IsAfter a b → (a ≡ b) ⊎ ((versions : List Session) × IsPast v o id versions × StandsAfter versions a b)
      by_rise b now (inl same) = inl same
      by_rise b now (inr (open_still, later)) = inr (rose p o id a b first now later)

  pub is_later : IsLaterWorld w v
  is_later = record {
    operators = λ o p s of. let h = operator_on o p s of in (h.place, h.more.state, of_on o p s h, operator_later o p s h);
    providers = λ o p s of. let h = provider_on o p s of in (h.place, h.more.state, provider_of_on o p s h, provider_later o p s h);
    held = held_later;
  }
