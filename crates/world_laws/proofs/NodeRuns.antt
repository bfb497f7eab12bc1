-- A node of a traced world: the run of its own that its part of the traces is, and who sent what came to it.
use Rattle.std.proofs.Common.{◌≡◌, ◌⊎◌, ℕ, List, [], ◌∷◌, ◌++◌, map, inl, inr, refl, sym, ap, subst, ◌∙◌, arith}
use Rattle.std.specs.Prelude.{Some, Ok, Contains, slice_get}
use Rattle.std.specs.List.{flat_map}
use Rattle.node_laws.specs.Runs.{Run}
use Rattle.ocpi_text.specs.Party.{party_at}
use Rattle.ocpi_text.specs.Text.{key}
use Rattle.ocpi_types.specs.declared.packet.Packet.{Packet}
use Rattle.ocpi_types.specs.declared.sessions.Session.{Session}
use Rattle.ocpi_types.specs.declared.setup.Node.{Node}
use Rattle.ocpi_types.specs.declared.setup.Node.TheVariants as node
use Rattle.ocpi_types.specs.declared.site.Site.{Site}
use Rattle.ocpi_types.specs.declared.site.SiteLine.{SiteLine}
use Rattle.operator_laws.specs.Laws as operator_laws
use Rattle.operator_rows.specs.State as operator
use Rattle.operator_steps.specs.Events as operator_events
use Rattle.provider_laws.specs.Laws as provider_laws
use Rattle.provider_rows.specs.State as provider
use Rattle.provider_steps.specs.Events as provider_events
use Rattle.world_laws.specs.Laws.{IsSetup}
use Rattle.world_laws.specs.Nodes.{OperatorOf, ProviderOf}
use Rattle.world_steps.specs.Steps as steps
use Rattle.world_steps.specs.Steps.{AtOperator, AtProvider, NodeEvent, NodeStep, OperatorDoes, ProviderDoes, all_put}
use Rattle.world_steps.specs.Traces.{Came, Histories, IsSent, Traces, Went, sent, stored}
use Rattle.world_steps.specs.World.{NodeState, Operates, Place, Provides, World, opened, operators_of, place_of, providers_of}
use Rattle.world_steps.proofs.Places.{got_within, of_mapped, some_same, stands}
use Rattle.operator_laws.proofs.nodes.NodeLaws.{packets_are_addressed as operator_addressed}
use Rattle.provider_laws.proofs.nodes.NodeLaws.{packets_are_addressed as provider_addressed}
use Rattle.tables.proofs.Elements.{in_map}
use Rattle.operator_laws.specs.Laws.{setups_in}
use Rattle.provider_laws.specs.Laws.{peerings_in}
use Rattle.world_laws.proofs.Steady.{does_none, of_first, of_first_peers, provider_does_none}
use Rattle.world_laws.proofs.Setups.{are_peers_of, by_form_of, of_operators, of_providers, one_node, one_role}

abbrev pub line_of : List Node → List ℕ → Site → SiteLine
line_of setup party site = record { at = 0; parties = record { operator = party; providers = providers_of setup }; site = site }

abbrev pub peering_of : List Node → List ℕ → provider.Peering
peering_of setup party = record { provider = party; operators = operators_of setup }

-- the versions that events of an operator put
abbrev pub versions_in : List operator_events.Event → List Session
versions_in es = flat_map (λ (e : operator_events.Event). all_put e.changes) es

pub record OperatorTrace (setup : List Node) (i : ℕ) (p : Place) (es : List NodeEvent) : Type 0 where
  pub party : List ℕ
  pub site : Site
  pub in_setup : slice_get setup i ≡ Some (node.Operator party site)
  -- so `IsOfParty (line_of setup party site)`
  pub by_form : party_at party ≡ Ok party
  pub party_is : p.party ≡ party
  pub state : operator.State
  pub is : p.node ≡ Operates state
  pub events : List operator_events.Event
  pub run : operator_laws.Run (operator.opening (line_of setup party site)) events state
  pub history : es ≡ map AtOperator events
  pub sent_is : p.sent ≡ operator_laws.sent events
  pub versions_is : p.versions ≡ versions_in events
  -- it started again under no other setup
  pub steady : setups_in events ≡ []

pub record ProviderTrace (setup : List Node) (i : ℕ) (p : Place) (es : List NodeEvent) : Type 0 where
  pub party : List ℕ
  pub in_setup : slice_get setup i ≡ Some (node.Provider party)
  pub are_peers : provider.ArePeers (peering_of setup party)
  pub party_is : p.party ≡ party
  pub state : provider.State
  pub is : p.node ≡ Provides state
  pub events : List provider_events.Event
  pub run : provider_laws.Run (provider.opening (peering_of setup party)) events state
  pub history : es ≡ map AtProvider events
  pub sent_is : p.sent ≡ provider_laws.sent events
  pub steady : peerings_in events ≡ []

-- a place goes on as an operator, or as a provider, from the state that it had
pub record OperatorGoes (p q : Place) (es : List NodeEvent) (s : operator.State) : Type 0 where
  pub state : operator.State
  pub is : q.node ≡ Operates state
  pub events : List operator_events.Event
  pub run : operator_laws.Run s events state
  pub history : es ≡ map AtOperator events
  pub sent_is : q.sent ≡ p.sent ++ operator_laws.sent events
  pub versions_is : q.versions ≡ p.versions ++ versions_in events
  pub steady : setups_in events ≡ []

pub record ProviderGoes (p q : Place) (es : List NodeEvent) (s : provider.State) : Type 0 where
  pub state : provider.State
  pub is : q.node ≡ Provides state
  pub events : List provider_events.Event
  pub run : provider_laws.Run s events state
  pub history : es ≡ map AtProvider events
  pub sent_is : q.sent ≡ p.sent ++ provider_laws.sent events
  pub steady : peerings_in events ≡ []

-- what an operator of a world does, happens at an operator
operator_happens : (s : operator.State) (e : operator_events.Event) (t : operator.State) → OperatorDoes s e t → operator_events.Happens s e t
operator_happens s e t (steps.Done does) = operator_events.Done does
operator_happens s e t (steps.Restarted restarts is) = operator_events.Restarted restarts is

provider_happens : (s : provider.State) (e : provider_events.Event) (t : provider.State) → ProviderDoes s e t → provider_events.Happens s e t
provider_happens s e t (steps.Done does) = provider_events.Done does
provider_happens s e t (steps.Restarted restarts is) = provider_events.Restarted restarts is

-- a node that is an operator stays one, and its events are those of an operator
record OperatorRuns (s : operator.State) (es : List NodeEvent) (t : NodeState) : Type 0 where
  state : operator.State
  is : t ≡ Operates state
  events : List operator_events.Event
  history : es ≡ map AtOperator events
  run : operator_laws.Run s events state
  steady : setups_in events ≡ []

operator_runs : (es : List NodeEvent) (s : operator.State) (t : NodeState) → Run NodeStep (Operates s) es t → OperatorRuns s es t
operator_runs [] s t run = record { state = s; is = run; events = []; history = refl; run = refl; steady = refl }
operator_runs (AtOperator e ∷ es) s t (Operates m, step, rest) =
    let r = operator_runs es m t rest in
    record { state = r.state; is = r.is; events = e ∷ r.events; history = ap (λ l. AtOperator e ∷ l) r.history; run = (m, operator_happens s e m step, r.run); steady = (λ i. does_none s e m step i ++ r.steady i) }
operator_runs (AtOperator e ∷ es) s t (Provides m, step, rest) = absurd step
operator_runs (AtProvider e ∷ es) s t (m, step, rest) = absurd step

record ProviderRuns (s : provider.State) (es : List NodeEvent) (t : NodeState) : Type 0 where
  state : provider.State
  is : t ≡ Provides state
  events : List provider_events.Event
  history : es ≡ map AtProvider events
  run : provider_laws.Run s events state
  steady : peerings_in events ≡ []

provider_runs : (es : List NodeEvent) (s : provider.State) (t : NodeState) → Run NodeStep (Provides s) es t → ProviderRuns s es t
provider_runs [] s t run = record { state = s; is = run; events = []; history = refl; run = refl; steady = refl }
provider_runs (AtProvider e ∷ es) s t (Provides m, step, rest) =
    let r = provider_runs es m t rest in
    record { state = r.state; is = r.is; events = e ∷ r.events; history = ap (λ l. AtProvider e ∷ l) r.history; run = (m, provider_happens s e m step, r.run); steady = (λ i. provider_does_none s e m step i ++ r.steady i) }
provider_runs (AtProvider e ∷ es) s t (Operates m, step, rest) = absurd step
provider_runs (AtOperator e ∷ es) s t (m, step, rest) = absurd step

-- what a history of a world's node sent and stored is what the node's own did
operator_sent : (es : List operator_events.Event) → sent (map AtOperator es) ≡ operator_laws.sent es
operator_sent [] = refl
operator_sent (e ∷ es) = ap (λ l. e.packets ++ l) (operator_sent es)

operator_stored : (es : List operator_events.Event) → stored (map AtOperator es) ≡ versions_in es
operator_stored [] = refl
operator_stored (e ∷ es) = ap (λ l. all_put e.changes ++ l) (operator_stored es)

provider_sent : (es : List provider_events.Event) → sent (map AtProvider es) ≡ provider_laws.sent es
provider_sent [] = refl
provider_sent (e ∷ es) = ap (λ l. e.packets ++ l) (provider_sent es)

operator_came : (es : List operator_events.Event) (q : Packet) → operator_laws.Came es q → Came (map AtOperator es) q
operator_came es q (e, within, brings) = (AtOperator e, in_map AtOperator es e within, brings)

provider_came : (es : List provider_events.Event) (q : Packet) → provider_laws.Came es q → Came (map AtProvider es) q
provider_came es q (e, within, brings) = (AtProvider e, in_map AtProvider es e within, brings)

pub operator_goes : (p q : Place) (es : List NodeEvent) (s : operator.State) → Went p es q → p.node ≡ Operates s → OperatorGoes p q es s
operator_goes p q es s went is =
    let r = operator_runs es s q.node (subst (λ z. Run NodeStep z es q.node) is went.run) in
    record {
      state = r.state;
      is = r.is;
      events = r.events;
      run = r.run;
      history = r.history;
      sent_is = went.sent_is ∙ ap (λ l. p.sent ++ sent l) r.history ∙ ap (λ l. p.sent ++ l) (operator_sent r.events);
      versions_is = went.versions_is ∙ ap (λ l. p.versions ++ stored l) r.history ∙ ap (λ l. p.versions ++ l) (operator_stored r.events);
      steady = r.steady;
    }

pub provider_goes : (p q : Place) (es : List NodeEvent) (s : provider.State) → Went p es q → p.node ≡ Provides s → ProviderGoes p q es s
provider_goes p q es s went is =
    let r = provider_runs es s q.node (subst (λ z. Run NodeStep z es q.node) is went.run) in
    record {
      state = r.state;
      is = r.is;
      events = r.events;
      run = r.run;
      history = r.history;
      sent_is = went.sent_is ∙ ap (λ l. p.sent ++ sent l) r.history ∙ ap (λ l. p.sent ++ l) (provider_sent r.events);
      steady = r.steady;
    }

-- the trace of a place, by the node with which it began
trace_of : (setup : List Node) → IsSetup setup → (i : ℕ) (n : Node) → slice_get setup i ≡ Some n → (p : Place) (es : List NodeEvent) → Went (place_of setup n) es p → OperatorTrace setup i p es ⊎ ProviderTrace setup i p es
trace_of setup is_setup i (node.Operator party site) at p es went =
    let g = operator_goes (place_of setup (node.Operator party site)) p es (operator.opening (line_of setup party site)) went refl in
    inl (record {
      party = party;
      site = site;
      in_setup = at;
      by_form = by_form_of setup is_setup i (node.Operator party site) at;
      party_is = went.party;
      state = g.state;
      is = g.is;
      events = g.events;
      run = g.run;
      history = g.history;
      sent_is = g.sent_is;
      versions_is = g.versions_is;
      steady = g.steady;
    })
trace_of setup is_setup i (node.Provider party) at p es went =
    let g = provider_goes (place_of setup (node.Provider party)) p es (provider.opening (peering_of setup party)) went refl in
    inr (record {
      party = party;
      in_setup = at;
      are_peers = are_peers_of setup is_setup i party at;
      party_is = went.party;
      state = g.state;
      is = g.is;
      events = g.events;
      run = g.run;
      history = g.history;
      sent_is = g.sent_is;
      steady = g.steady;
    })

module _ (setup : List Node) (is_setup : IsSetup setup) (w : World) (hs : Histories) (traces : Traces setup w hs) where
  -- the operator of a party, with the run that leads to the state that it has
  pub record OperatorAt (o : List ℕ) (p : Place) (s : operator.State) : Type 0 where
    pub number : ℕ
    pub here : slice_get w number ≡ Some p
    pub party : key p.party ≡ o
    pub trace : OperatorTrace setup number p (hs number)
    pub state_is : trace.state ≡ s

  pub record ProviderAt (o : List ℕ) (p : Place) (s : provider.State) : Type 0 where
    pub number : ℕ
    pub here : slice_get w number ≡ Some p
    pub party : key p.party ≡ o
    pub trace : ProviderTrace setup number p (hs number)
    pub state_is : trace.state ≡ s

  -- the node of the setup with which a place began
  record Began (i : ℕ) (p : Place) : Type 0 where
    node : Node
    in_setup : slice_get setup i ≡ Some node
    first : slice_get (opened setup) i ≡ Some (place_of setup node)
    went : Went (place_of setup node) (hs i) p

  began : (i : ℕ) (p : Place) → slice_get w i ≡ Some p → Began i p
  began i p at =
      let size = traces.goes.size in
      let within = got_within w i p at in
      let (o, first) = stands (opened setup) i (omega (arith, size, within)) in
      let (n, there, is) = of_mapped (place_of setup) setup i o first in
      let begins : slice_get (opened setup) i ≡ Some (place_of setup n) = first ∙ ap Some (sym is) in
      record { node = n; in_setup = there; first = begins; went = traces.goes.each i (place_of setup n) p begins at }

  pub trace : (i : ℕ) (p : Place) → slice_get w i ≡ Some p → OperatorTrace setup i p (hs i) ⊎ ProviderTrace setup i p (hs i)
  trace i p at = let b = began i p at in trace_of setup is_setup i b.node b.in_setup p (hs i) b.went

  pub operator_at : (o : List ℕ) (p : Place) (s : operator.State) → OperatorOf w o p s → OperatorAt o p s
  operator_at o p s at = by (trace at.number p at.here)
    where
      by : OperatorTrace setup at.number p (hs at.number) ⊎ ProviderTrace setup at.number p (hs at.number) → OperatorAt o p s
      by (inl t) =
          let both : Operates t.state ≡ Operates s = sym t.is ∙ at.node in
          let same : t.state ≡ s = cc in
          record { number = at.number; here = at.here; party = at.party; trace = t; state_is = same }
      by (inr t) = let bad : Provides t.state ≡ Operates s = sym t.is ∙ at.node in absurd (cc)

  pub provider_at : (o : List ℕ) (p : Place) (s : provider.State) → ProviderOf w o p s → ProviderAt o p s
  provider_at o p s at = by (trace at.number p at.here)
    where
      by : OperatorTrace setup at.number p (hs at.number) ⊎ ProviderTrace setup at.number p (hs at.number) → ProviderAt o p s
      by (inl t) = let bad : Operates t.state ≡ Provides s = sym t.is ∙ at.node in absurd (cc)
      by (inr t) =
          let both : Provides t.state ≡ Provides s = sym t.is ∙ at.node in
          let same : t.state ≡ s = cc in
          record { number = at.number; here = at.here; party = at.party; trace = t; state_is = same }

  -- no two places are of one party
  pub one_place : (i j : ℕ) (p q : Place) → slice_get w i ≡ Some p → slice_get w j ≡ Some q → key p.party ≡ key q.party → i ≡ j
  one_place i j p q here there same =
      let b = began i p here in
      let c = began j q there in
      one_node setup is_setup i j b.node c.node b.in_setup c.in_setup (ap key (sym b.went.party) ∙ same ∙ ap key c.went.party)

  same_place : (i j : ℕ) (o : List ℕ) (p q : Place) → slice_get w i ≡ Some p → slice_get w j ≡ Some q → key p.party ≡ o → key q.party ≡ o → p ≡ q
  same_place i j o p q here there is also =
      some_same p q (sym here ∙ ap (slice_get w) (one_place i j p q here there (is ∙ sym also)) ∙ there)

  -- so an operator is one place and one state, and no provider has its party
  pub one_operator : (o : List ℕ) (p q : Place) (s t : operator.State) → OperatorOf w o p s → OperatorOf w o q t → (p ≡ q) × (s ≡ t)
  one_operator o p q s t at there =
      let same = same_place at.number there.number o p q at.here there.here at.party there.party in
      let both : Operates s ≡ Operates t = sym at.node ∙ ap (λ (z : Place). z.node) same ∙ there.node in
      let equal : s ≡ t = cc in
      (same, equal)

  pub one_provider : (o : List ℕ) (p q : Place) (s t : provider.State) → ProviderOf w o p s → ProviderOf w o q t → (p ≡ q) × (s ≡ t)
  one_provider o p q s t at there =
      let same = same_place at.number there.number o p q at.here there.here at.party there.party in
      let both : Provides s ≡ Provides t = sym at.node ∙ ap (λ (z : Place). z.node) same ∙ there.node in
      let equal : s ≡ t = cc in
      (same, equal)

  -- the packet is from the provider of its sender's party, which sent it
  pub record FromProvider (q : Packet) : Type 0 where
    pub place : Place
    pub state : provider.State
    pub of : ProviderOf w (key q.from) place state
    pub at : ProviderAt (key q.from) place state
    pub spelled : q.from ≡ place.party
    pub within : Contains (provider_laws.sent at.trace.events) q

  pub record FromOperator (q : Packet) : Type 0 where
    pub place : Place
    pub state : operator.State
    pub of : OperatorOf w (key q.from) place state
    pub at : OperatorAt (key q.from) place state
    pub spelled : q.from ≡ place.party
    pub within : Contains (operator_laws.sent at.trace.events) q

  -- the place that sent a packet, as it stands now
  record Sender (q : Packet) : Type 0 where
    number : ℕ
    place : Place
    here : slice_get w number ≡ Some place
    within : Contains (sent (hs number)) q

  sender : (q : Packet) → IsSent (opened setup) hs q → Sender q
  sender q h =
      let size = traces.goes.size in
      let inside = got_within (opened setup) h.number h.place h.here in
      let (p, here) = stands w h.number (omega (arith, size, inside)) in
      record { number = h.number; place = p; here = here; within = h.within }

  -- what came to the node of a party was sent to that party, by a node
  came_from : (i : ℕ) (p : Place) → slice_get w i ≡ Some p → (q : Packet) → Came (hs i) q → (key q.to ≡ key p.party) × Sender q
  came_from i p here q came =
      let b = began i p here in
      let (to, is_sent) = traces.linked i (place_of setup b.node) b.first q came in
      (to ∙ ap key (sym b.went.party), sender q is_sent)

  -- a packet of an operator is to a provider, and one of a provider to an operator
  module _ (q : Packet) (r : Sender q) where
    operator_sends : (t : OperatorTrace setup r.number r.place (hs r.number)) → Contains (operator_laws.sent t.events) q
    operator_sends t = subst (λ l. Contains l q) (ap sent t.history ∙ operator_sent t.events) r.within

    provider_sends : (t : ProviderTrace setup r.number r.place (hs r.number)) → Contains (provider_laws.sent t.events) q
    provider_sends t = subst (λ l. Contains l q) (ap sent t.history ∙ provider_sent t.events) r.within

    from_operator : OperatorTrace setup r.number r.place (hs r.number) → FromOperator q
    from_operator t =
        let within = operator_sends t in
        let spelled : q.from ≡ r.place.party = (operator_addressed (line_of setup t.party t.site) t.events t.state t.by_form t.run q within).0 ∙ sym t.party_is in
        let party : key r.place.party ≡ key q.from = ap key (sym spelled) in
        record {
          place = r.place;
          state = t.state;
          of = record { number = r.number; here = r.here; party = party; node = t.is };
          at = record { number = r.number; here = r.here; party = party; trace = t; state_is = refl };
          spelled = spelled;
          within = within;
        }

    from_provider : ProviderTrace setup r.number r.place (hs r.number) → FromProvider q
    from_provider t =
        let within = provider_sends t in
        let spelled : q.from ≡ r.place.party = (provider_addressed (peering_of setup t.party) t.events t.state t.run q within).0 ∙ sym t.party_is in
        let party : key r.place.party ≡ key q.from = ap key (sym spelled) in
        record {
          place = r.place;
          state = t.state;
          of = record { number = r.number; here = r.here; party = party; node = t.is };
          at = record { number = r.number; here = r.here; party = party; trace = t; state_is = refl };
          spelled = spelled;
          within = within;
        }

    not_to_operator : OperatorTrace setup r.number r.place (hs r.number) → (i : ℕ) (party : List ℕ) (site : Site) → slice_get setup i ≡ Some (node.Operator party site) → key q.to ≡ key party → ⊥
    not_to_operator t i party site there to =
        let (j, is) = of_providers setup q.to (of_first (line_of setup t.party t.site) t.events t.steady q.to (operator_addressed (line_of setup t.party t.site) t.events t.state t.by_form t.run q (operator_sends t)).1) in
        one_role setup is_setup i j party q.to site there is (sym to)

    not_to_provider : ProviderTrace setup r.number r.place (hs r.number) → (i : ℕ) (party : List ℕ) → slice_get setup i ≡ Some (node.Provider party) → key q.to ≡ key party → ⊥
    not_to_provider t i party there to =
        let (j, site, is) = of_operators setup q.to (of_first_peers (peering_of setup t.party) t.events t.steady q.to (provider_addressed (peering_of setup t.party) t.events t.state t.run q (provider_sends t)).1) in
        one_role setup is_setup j i q.to party site is there to

  -- what came to an operator was sent to it by a provider, and the other way
  pub came_to_operator : (o : List ℕ) (p : Place) (s : operator.State) (at : OperatorAt o p s) (q : Packet) → operator_laws.Came at.trace.events q → (key q.to ≡ o) × FromProvider q
  came_to_operator o p s at q came =
      let (to, r) = came_from at.number p at.here q (subst (λ l. Came l q) (sym at.trace.history) (operator_came at.trace.events q came)) in
      (to ∙ at.party, by to r (trace r.number r.place r.here))
    where
      by : key q.to ≡ key p.party → (r : Sender q) → OperatorTrace setup r.number r.place (hs r.number) ⊎ ProviderTrace setup r.number r.place (hs r.number) → FromProvider q
      by to r (inl t) = absurd (not_to_operator q r t at.number at.trace.party at.trace.site at.trace.in_setup (to ∙ ap key at.trace.party_is))
      by to r (inr t) = from_provider q r t

  pub came_to_provider : (o : List ℕ) (p : Place) (s : provider.State) (at : ProviderAt o p s) (q : Packet) → provider_laws.Came at.trace.events q → (key q.to ≡ o) × FromOperator q
  came_to_provider o p s at q came =
      let (to, r) = came_from at.number p at.here q (subst (λ l. Came l q) (sym at.trace.history) (provider_came at.trace.events q came)) in
      (to ∙ at.party, by to r (trace r.number r.place r.here))
    where
      by : key q.to ≡ key p.party → (r : Sender q) → OperatorTrace setup r.number r.place (hs r.number) ⊎ ProviderTrace setup r.number r.place (hs r.number) → FromOperator q
      by to r (inl t) = from_operator q r t
      by to r (inr t) = absurd (not_to_provider q r t at.number at.trace.party at.trace.in_setup (to ∙ ap key at.trace.party_is))
