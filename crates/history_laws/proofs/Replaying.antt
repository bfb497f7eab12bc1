-- A replayed history as a run of its node: its party stays, what comes is for it, and its packets are numbered.
use Rattle.std.proofs.Common.{◌≡◌, ℕ, ◌+◌, List, [], ◌∷◌, ◌++◌, refl, sym, ap, subst, ◌∙◌, arith}
use Rattle.std.specs.Prelude.{Some, Contains, slice_get}
use Rattle.ocpi_text.specs.Text.{key}
use Rattle.ocpi_types.specs.Setups.{party_of}
use Rattle.ocpi_types.specs.declared.node_events.NodeEventKind.TheVariants as event
use Rattle.ocpi_types.specs.declared.packet.Packet.{Packet}
use Rattle.ocpi_types.specs.declared.setup.Node.{Node}
use Rattle.ocpi_types.specs.declared.setup.Node.TheVariants as node
use Rattle.histories.specs.declared.entry.Entry.{Entry}
use Rattle.histories.specs.Entries as entries
use Rattle.histories.specs.Entries.{IsNumbered}
use Rattle.histories.proofs.Lists.{is_in}
use Rattle.node_laws.specs.Runs.{Run}
use Rattle.operator_laws.proofs.events.Doing.{does as operator_does}
use Rattle.operator_laws.proofs.nodes.NodeLaws as operator_proofs
use Rattle.operator_rows.specs.State as operator
use Rattle.operator_steps.specs.Events as operator_events
use Rattle.provider_laws.proofs.events.Doing.{same_party as provider_same_party}
use Rattle.provider_laws.proofs.nodes.NodeLaws as provider_proofs
use Rattle.provider_rows.specs.State as provider
use Rattle.provider_steps.specs.Events as provider_events
use Rattle.world_laws.proofs.NodeRuns.{line_of, operator_goes, peering_of, provider_goes}
use Rattle.world_laws.specs.Laws.{IsSetup}
use Rattle.world_steps.specs.Steps as steps
use Rattle.world_steps.specs.Steps.{AtOperator, AtProvider, NodeEvent, NodeStep, OperatorDoes, ProviderDoes, input_of}
use Rattle.world_steps.specs.Traces as traces
use Rattle.world_steps.specs.Traces.{Went, stored}
use Rattle.world_steps.specs.World.{NodeState, Operates, Place, Provides, opening_of, place_of}
use Rattle.history_laws.specs.Laws as laws
use Rattle.history_laws.specs.Replays.{Brings, Does, Idle, Replays}

-- whose node it is
pub own_party : NodeState → List ℕ
own_party (Operates s) = s.party
own_party (Provides s) = s.party

pub operator_happens : (s : operator.State) (e : operator_events.Event) (t : operator.State) → OperatorDoes s e t → operator_events.Happens s e t
operator_happens s e t (steps.Done by) = operator_events.Done by
operator_happens s e t (steps.Restarted now is) = operator_events.Restarted now is

pub provider_happens : (s : provider.State) (e : provider_events.Event) (t : provider.State) → ProviderDoes s e t → provider_events.Happens s e t
provider_happens s e t (steps.Done by) = provider_events.Done by
provider_happens s e t (steps.Restarted now is) = provider_events.Restarted now is

pub party_stays : (s : NodeState) (x : NodeEvent) (t : NodeState) → NodeStep s x t → own_party t ≡ own_party s
unfolding own_party
party_stays (Operates s) (AtOperator e) (Operates t) step = (operator_does s t e (operator_happens s e t step)).party
party_stays (Operates s) (AtOperator e) (Provides t) step = absurd step
party_stays (Operates s) (AtProvider e) t step = absurd step
party_stays (Provides s) (AtProvider e) (Provides t) step = provider_same_party s t e (provider_happens s e t step)
party_stays (Provides s) (AtProvider e) (Operates t) step = absurd step
party_stays (Provides s) (AtOperator e) t step = absurd step

pub opens_as : (setup : List Node) (n : Node) → own_party (opening_of setup n) ≡ party_of n
unfolding own_party
opens_as setup (node.Operator party site) = refl
opens_as setup (node.Provider party) = refl

pub own_operator : (s : operator.State) → own_party (Operates s) ≡ s.party
unfolding own_party
own_operator s = refl

pub own_provider : (s : provider.State) → own_party (Provides s) ≡ s.party
unfolding own_party
own_provider s = refl

-- a packet that a node takes is for it
operator_takes : (s : operator.State) (e : operator_events.Event) (t : operator.State) (at : ℕ) (q : Packet) → OperatorDoes s e t → e.input ≡ operator_events.Arrives at q → key q.to ≡ key s.party
operator_takes s e t at q (steps.Done by) is = (subst (λ i. operator_events.Asks s i by.work) is by.line).to
operator_takes s e t at q (steps.Restarted now out) is = let bad : operator_events.Restarts ≡ operator_events.Arrives at q = sym now ∙ is in absurd (cc)

provider_takes : (s : provider.State) (e : provider_events.Event) (t : provider.State) (at : ℕ) (q : Packet) → ProviderDoes s e t → e.input ≡ provider_events.Arrives at q → key q.to ≡ key s.party
provider_takes s e t at q (steps.Done by) is = (subst (λ i. provider_events.Asks s i by.acts) is by.line).to
provider_takes s e t at q (steps.Restarted now out) is = let bad : provider_events.Restarts ≡ provider_events.Arrives at q = sym now ∙ is in absurd (cc)

pub takes_own : (s : NodeState) (x : NodeEvent) (t : NodeState) (at : ℕ) (q : Packet) → NodeStep s x t → Brings s (event.Deliver at q) (input_of x) → key q.to ≡ key (own_party s)
unfolding own_party
takes_own (Operates s) (AtOperator e) (Operates t) at q step brings = operator_takes s e t at q step brings
takes_own (Operates s) (AtOperator e) (Provides t) at q step brings = absurd step
takes_own (Operates s) (AtProvider e) t at q step brings = absurd step
takes_own (Provides s) (AtProvider e) (Provides t) at q step brings = provider_takes s e t at q step brings
takes_own (Provides s) (AtProvider e) (Operates t) at q step brings = absurd step
takes_own (Provides s) (AtOperator e) t at q step brings = absurd step

-- what the node did in its history, without what was idle
record Ran (s : NodeState) (es : List Entry) (t : NodeState) : Type 0 where
  xs : List NodeEvent
  run : Run NodeStep s xs t
  sent_is : traces.sent xs ≡ entries.sent es

ran : (es : List Entry) (s t : NodeState) → Replays s es t → Ran s es t
ran [] s t run = record { xs = []; run = run; sent_is = refl }
ran (e ∷ es) s t (u, Does x did, rest) =
    let r = ran es u t rest in
    record { xs = x ∷ r.xs; run = (u, did.step, r.run); sent_is = ap (λ l. steps.packets_of x ++ l) r.sent_is ∙ ap (λ l. l ++ entries.sent es) (sym did.sends) }
ran (e ∷ es) s t (u, Idle idle, rest) =
    let r = ran es u t rest in
    record { xs = r.xs; run = subst (λ z. Run NodeStep z r.xs t) idle.same r.run; sent_is = r.sent_is ∙ ap (λ l. l ++ entries.sent es) (sym idle.sends) }

module _ (setup : List Node) (is_setup : IsSetup setup) where
  -- a place from its opening to the end of a run
  ended : Node → List NodeEvent → NodeState → Place
  ended n xs t = record { party = party_of n; node = t; sent = traces.sent xs; versions = stored xs }

  went : (n : Node) (xs : List NodeEvent) (t : NodeState) → Run NodeStep (opening_of setup n) xs t → Went (place_of setup n) xs (ended n xs t)
  unfolding ended
  went n xs t run = record { run = run; party = refl; sent_is = refl; versions_is = refl }

  run_numbered : (n : Node) → Contains setup n → (xs : List NodeEvent) (t : NodeState) → Run NodeStep (opening_of setup n) xs t → IsNumbered (party_of n) 0 (traces.sent xs)
  unfolding ended
  run_numbered (node.Operator party site) member xs t run k q at =
      let line = line_of setup party site in
      let g = operator_goes (place_of setup (node.Operator party site)) (ended (node.Operator party site) xs t) xs (operator.opening line) (went (node.Operator party site) xs t run) refl in
      let there = subst (λ l. slice_get l k ≡ Some q) g.sent_is at in
      let by_form = is_setup.parties (node.Operator party site) member in
      let serial : q.serial ≡ k + 1 = operator_proofs.numbered line g.events g.state g.run k q there in
      (ap key (operator_proofs.packets_are_addressed line g.events g.state by_form g.run q (is_in _ k q there)).0, omega (arith, serial))
  run_numbered (node.Provider party) member xs t run k q at =
      let peering = peering_of setup party in
      let g = provider_goes (place_of setup (node.Provider party)) (ended (node.Provider party) xs t) xs (provider.opening peering) (went (node.Provider party) xs t run) refl in
      let there = subst (λ l. slice_get l k ≡ Some q) g.sent_is at in
      let serial : q.serial ≡ k + 1 = provider_proofs.numbered peering g.events g.state g.run k q there in
      (ap key (provider_proofs.packets_are_addressed peering g.events g.state g.run q (is_in _ k q there)).0, omega (arith, serial))

pub replays_are_numbered : laws.ReplaysAreNumbered
replays_are_numbered setup is_setup h t replayed k q at =
    let r = ran h.entries.now (opening_of setup replayed.node) t replayed.replays in
    let numbered = run_numbered setup is_setup replayed.node replayed.in_setup r.xs t r.run k q (ap (λ l. slice_get l k) r.sent_is ∙ at) in
    (numbered.0 ∙ sym (ap key replayed.party), numbered.1)
