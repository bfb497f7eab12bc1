-- Each node of a world deals with all of the other role, and a delivery brings the packet that it names.
use Rattle.std.proofs.Common.{zero, suc, ◌≡◌, ◌⊎◌, ℕ, ◌+◌, List, [], ◌∷◌, map, inl, inr, sym, ap, subst, ◌∙◌}
use Rattle.std.specs.Prelude.{Some, Contains, slice_get}
use Rattle.std.proofs.lemmas.List.Elements.{Contains-append_right}
use Rattle.world_laws.proofs.Steady.{peers_kept, setup_kept}
use Rattle.ocpi_text.specs.Text.{key}
use Rattle.ocpi_types.specs.declared.packet.Packet.{Packet}
use Rattle.ocpi_types.specs.declared.setup.Node.{Node}
use Rattle.ocpi_types.specs.declared.setup.Node.TheVariants as node
use Rattle.ocpi_types.specs.declared.site.Site.{Site}
use Rattle.operator_laws.specs.AsNode as operator_node
use Rattle.operator_laws.proofs.nodes.NodeLaws as operator_proofs
use Rattle.operator_rows.specs.State as operator
use Rattle.operator_rows.proofs.KeepingTimes.{opening_consistent as operator_opening}
use Rattle.provider_laws.specs.AsNode as provider_node
use Rattle.provider_laws.proofs.nodes.NodeLaws as provider_proofs
use Rattle.provider_rows.specs.State as provider
use Rattle.provider_rows.proofs.KeepingTimes.{opening_consistent as provider_opening}
use Rattle.tables.proofs.Elements.{in_front}
use Rattle.world_laws.specs.Laws.{IsSetup}
use Rattle.world_laws.specs.Linked.{IsLinked}
use Rattle.world_laws.specs.Nodes.{OperatorOf, ProviderOf}
use Rattle.world_laws.proofs.NodeRuns.{OperatorAt, OperatorTrace, ProviderAt, ProviderTrace, line_of, operator_at, peering_of, provider_at, trace}
use Rattle.world_laws.proofs.Senders.{run_of_operator, run_of_provider}
use Rattle.world_steps.specs.Network.{MayArrive}
use Rattle.world_steps.specs.Traces.{Histories, Traces}
use Rattle.world_steps.specs.World.{Place, World, operators_of, providers_of}
use Rattle.world_steps.proofs.Places.{is_in}

-- a node of a setup is among those of its role
is_operator : (ns : List Node) (i : ℕ) (party : List ℕ) (site : Site) → slice_get ns i ≡ Some (node.Operator party site) → Contains (operators_of ns) party
is_operator [] i party site at = absurd (cc)
is_operator (node.Operator p here ∷ ns) zero party site at = subst (Contains (operators_of (node.Operator p here ∷ ns))) (cc) (in_front p (operators_of ns))
is_operator (node.Provider p ∷ ns) zero party site at = absurd (cc)
is_operator (node.Operator p here ∷ ns) (suc i) party site at = Contains-append_right (p ∷ []) (operators_of ns) party (is_operator ns i party site at)
is_operator (node.Provider p ∷ ns) (suc i) party site at = is_operator ns i party site at

is_provider : (ns : List Node) (i : ℕ) (party : List ℕ) → slice_get ns i ≡ Some (node.Provider party) → Contains (providers_of ns) party
is_provider [] i party at = absurd (cc)
is_provider (node.Provider p ∷ ns) zero party at = subst (Contains (providers_of (node.Provider p ∷ ns))) (cc) (in_front p (providers_of ns))
is_provider (node.Operator p here ∷ ns) zero party at = absurd (cc)
is_provider (node.Provider p ∷ ns) (suc i) party at = Contains-append_right (p ∷ []) (providers_of ns) party (is_provider ns i party at)
is_provider (node.Operator p here ∷ ns) (suc i) party at = is_provider ns i party at

module _ (setup : List Node) (is_setup : IsSetup setup) (w : World) (hs : Histories) (traces : Traces setup w hs) where
  -- whom a node deals with is as it was at the opening
  operator_deals : (o : List ℕ) (p : Place) (s : operator.State) → OperatorAt setup is_setup w hs traces o p s → s.providers ≡ providers_of setup
  operator_deals o p s at =
      let line = line_of setup at.trace.party at.trace.site in
      (setup_kept at.trace.events (operator.opening line) s (run_of_operator setup is_setup w hs traces o p s at) at.trace.steady).1

  provider_deals : (o : List ℕ) (p : Place) (s : provider.State) → ProviderAt setup is_setup w hs traces o p s → s.operators ≡ operators_of setup
  provider_deals o p s at =
      let peering = peering_of setup at.trace.party in
      peers_kept at.trace.events (provider.opening peering) s (run_of_provider setup is_setup w hs traces o p s at) at.trace.steady

  module _ (o p : List ℕ) (here there : Place) (s : operator.State) (t : provider.State) (of_operator : OperatorOf w o here s) (of_provider : ProviderOf w p there t) where
    abbrev first : OperatorAt setup is_setup w hs traces o here s
    first = operator_at setup is_setup w hs traces o here s of_operator

    abbrev other : ProviderAt setup is_setup w hs traces p there t
    other = provider_at setup is_setup w hs traces p there t of_provider

    deals_with_provider : Contains s.providers there.party
    deals_with_provider =
        subst (λ l. Contains l there.party) (sym (operator_deals o here s first))
        (subst (Contains (providers_of setup)) (sym other.trace.party_is) (is_provider setup other.number other.trace.party other.trace.in_setup))

    deals_with_operator : Contains t.operators here.party
    deals_with_operator =
        subst (λ l. Contains l here.party) (sym (provider_deals p there t other))
        (subst (Contains (operators_of setup)) (sym first.trace.party_is) (is_operator setup first.number first.trace.party first.trace.site first.trace.in_setup))

  -- the packets that a node sent are its own, under the serials from 1 on
  module _ (i : ℕ) (p : Place) (k : ℕ) (q : Packet) (stands : slice_get p.sent k ≡ Some q) where
    operator_sends : OperatorTrace setup i p (hs i) → (q.from ≡ p.party) × (q.serial ≡ k + 1)
    operator_sends t =
        let line = line_of setup t.party t.site in
        let at = subst (λ l. slice_get l k ≡ Some q) t.sent_is stands in
        let own = (operator_proofs.packets_are_addressed line t.events t.state t.by_form t.run q (is_in _ k q at)).0 in
        (own ∙ sym t.party_is, operator_proofs.numbered line t.events t.state t.run k q at)

    provider_sends : ProviderTrace setup i p (hs i) → (q.from ≡ p.party) × (q.serial ≡ k + 1)
    provider_sends t =
        let peering = peering_of setup t.party in
        let at = subst (λ l. slice_get l k ≡ Some q) t.sent_is stands in
        let own = (provider_proofs.packets_are_addressed peering t.events t.state t.run q (is_in _ k q at)).0 in
        (own ∙ sym t.party_is, provider_proofs.numbered peering t.events t.state t.run k q at)

    node_sends : OperatorTrace setup i p (hs i) ⊎ ProviderTrace setup i p (hs i) → (q.from ≡ p.party) × (q.serial ≡ k + 1)
    node_sends (inl t) = operator_sends t
    node_sends (inr t) = provider_sends t

  named : (to from : List ℕ) (serial : ℕ) (q : Packet) → MayArrive w to from serial q → (key q.from ≡ key from) × (q.serial ≡ serial)
  named to from serial q m =
      let x = m.was_sent in
      let own = node_sends x.number x.sender x.position q x.stands (trace setup is_setup w hs traces x.number x.sender x.at.here) in
      (ap key own.0 ∙ x.at.same, own.1 ∙ sym x.serial_is)

  pub linked : IsLinked w
  linked = record { providers = deals_with_provider; operators = deals_with_operator; named = named }
