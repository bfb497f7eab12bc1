-- A node has one answer to an event.
use Rattle.std.proofs.Common.{◌≡◌, ◌↔◌, List, [], Bool, IsTrue, true, false, inl, inr, refl, sym, ap, subst, ◌∙◌}
use Rattle.std.specs.Prelude.{◌≢◌}
use Rattle.ocpi_types.specs.declared.node_events.NodeEventKind.{NodeEventKind}
use Rattle.ocpi_types.specs.declared.node_events.NodeEventKind.TheVariants as event
use Rattle.ocpi_types.specs.declared.packet.Packet.{Packet}
use Rattle.answer_laws.proofs.OperatorReasons.{refusals_have_one_reason}
use Rattle.answer_laws.proofs.OperatorSteps.{operators_have_one_step}
use Rattle.answer_laws.proofs.ProviderSteps.{providers_have_one_step}
use Rattle.answer_laws.specs.Nodes.{IsApart}
use Rattle.histories.specs.declared.entry.Entry.{Entry}
use Rattle.history_laws.specs.Replays.{Brings, Does, EntryStep, Idle, WasIdle}
use Rattle.node_steps.specs.declared.fault.NodeFault.{NodeFault}
use Rattle.node_replay.specs.Replayed.{ChangesRows, Refuses}
use Rattle.operator_rows.specs.State as operator
use Rattle.operator_steps.specs.Events as operator_events
use Rattle.provider_rows.specs.State as provider
use Rattle.provider_steps.specs.Events as provider_events
use Rattle.refusal_laws.proofs.Refusing.{refusals_exclude_steps}
use Rattle.refusal_laws.specs.Refusals.{HasLocations}
use Rattle.node_replay.specs.Answers.{Declined, HasOneAnswer, PassedOver, Stepped}
use Rattle.replay_laws.specs.Answers.{NodesHaveOneAnswer}
use Rattle.stored_laws.specs.Nodes.{IsSound}
use Rattle.world_steps.specs.Network.{Input, OfOperator, OfProvider}
use Rattle.world_steps.specs.Steps.{AtOperator, AtProvider, NodeEvent, NodeRefuses, NodeStep, changes_of, input_of, packets_of}
use Rattle.world_steps.specs.World.{NodeState, Operates, Provides}

-- ---- what reaches a node by an event is one thing

operator_gets : (k : NodeEventKind) (s : operator.State) (x y : operator_events.Input) → Brings (Operates s) k (OfOperator x) → Brings (Operates s) k (OfOperator y) → x ≡ y
operator_gets (event.Submit at to order) s x y h g = absurd h
operator_gets (event.Token at token) s x y h g = absurd h
operator_gets (event.Service evse in_service) s x y h g = h ∙ sym g
operator_gets (event.Charger at report) s x y h g = h ∙ sym g
operator_gets (event.Credit at session) s x y h g = h ∙ sym g
operator_gets (event.Deliver at packet) s x y h g = h ∙ sym g
operator_gets (event.Tick at) s x y h g = h ∙ sym g
operator_gets event.Restart s x y h g = h ∙ sym g
operator_gets event.Refused s x y h g = absurd h

provider_gets : (k : NodeEventKind) (s : provider.State) (x y : provider_events.Input) → Brings (Provides s) k (OfProvider x) → Brings (Provides s) k (OfProvider y) → x ≡ y
provider_gets (event.Submit at to order) s x y h g = h ∙ sym g
provider_gets (event.Token at token) s x y h g = h ∙ sym g
provider_gets (event.Service evse in_service) s x y h g = absurd h
provider_gets (event.Charger at report) s x y h g = absurd h
provider_gets (event.Credit at session) s x y h g = absurd h
provider_gets (event.Deliver at packet) s x y h g = h ∙ sym g
provider_gets (event.Tick at) s x y h g = h ∙ sym g
provider_gets event.Restart s x y h g = h ∙ sym g
provider_gets event.Refused s x y h g = absurd h

one_input : (s : NodeState) (k : NodeEventKind) (x y : Input) → Brings s k x → Brings s k y → x ≡ y
one_input (Operates s) k (OfOperator x) (OfOperator y) h g = ap OfOperator (operator_gets k s x y h g)
one_input (Operates s) k (OfOperator x) (OfProvider y) h g = absurd g
one_input (Operates s) k (OfProvider x) y h g = absurd h
one_input (Provides s) k (OfProvider x) (OfProvider y) h g = ap OfProvider (provider_gets k s x y h g)
one_input (Provides s) k (OfProvider x) (OfOperator y) h g = absurd g
one_input (Provides s) k (OfOperator x) y h g = absurd h

-- an event whose storing was refused brings nothing
pub refused_brings : (s : NodeState) (x : Input) → Brings s event.Refused x → ⊥
refused_brings (Operates s) (OfOperator x) h = h
refused_brings (Operates s) (OfProvider x) h = h
refused_brings (Provides s) (OfOperator x) h = h
refused_brings (Provides s) (OfProvider x) h = h

-- ---- steps

module _ (k : NodeEventKind) where
  -- what a node does by an event is one thing
  pub one_step : (s : NodeState) → IsSound s → IsApart s → (m n : NodeState) (x y : NodeEvent) → Brings s k (input_of x) → Brings s k (input_of y) → NodeStep s x m → NodeStep s y n →
      (x ≡ y) × (m ≡ n)
  one_step (Operates s) sound apart m n (AtOperator x) (AtOperator y) h g step also =
      let one = operators_have_one_step s m n x y sound apart (operator_gets k s x.input y.input h g) step also in
      (ap AtOperator one.0, one.1)
  one_step (Operates s) sound apart m n (AtOperator x) (AtProvider y) h g step also = absurd g
  one_step (Operates s) sound apart m n (AtProvider x) y h g step also = absurd h
  one_step (Provides s) sound apart m n (AtProvider x) (AtProvider y) h g step also =
      let one = providers_have_one_step s m n x y sound apart (provider_gets k s x.input y.input h g) step also in
      (ap AtProvider one.0, one.1)
  one_step (Provides s) sound apart m n (AtProvider x) (AtOperator y) h g step also = absurd g
  one_step (Provides s) sound apart m n (AtOperator x) y h g step also = absurd h

has_locations : (s : NodeState) → IsApart s → HasLocations s
has_locations (Operates s) apart = apart.places.locations
has_locations (Provides s) apart = tt

pub one_truth : (a b : Bool) → (IsTrue a → IsTrue b) → (IsTrue b → IsTrue a) → a ≡ b
one_truth true true h g = refl
one_truth true false h g = absurd (let bad : false ≡ true = h refl in cc)
one_truth false true h g = absurd (let bad : false ≡ true = g refl in cc)
one_truth false false h g = refl

module _ (s : NodeState) (k : NodeEventKind) (sound : IsSound s) (apart : IsApart s) where
  abbrev entry_of : List Packet → Entry
  entry_of packets = record { event = k; packets = packets }

  brings_none : (packets : List Packet) (t : NodeState) → WasIdle s (entry_of packets) t → (x : Input) → Brings s k x → ⊥
  brings_none packets t idle x h = elim idle.why [
    | inl is ↦ refused_brings s x (subst (λ (z : NodeEventKind). Brings s z x) is h)
    | inr nothing ↦ nothing x h
  ]

  one_lead : (a b : List Packet) (p q : Bool) (t u : NodeState) (x : EntryStep s (entry_of a) t) (y : EntryStep s (entry_of b) u) → (IsTrue p ↔ ChangesRows x) → (IsTrue q ↔ ChangesRows y) →
      (a ≡ b) × (p ≡ q) × (t ≡ u)
  one_lead a b p q t u (Does x did) (Does y also) h g =
      let one = one_step k s sound apart t u x y did.brings also.brings did.step also.step in
      let tells : IsTrue q ↔ (changes_of x ≢ []) = subst (λ (z : NodeEvent). IsTrue q ↔ (changes_of z ≢ [])) (sym one.0) g in
      (did.sends ∙ ap packets_of one.0 ∙ sym also.sends, one_truth p q (λ i. tells.1 (h.0 i)) (λ i. h.1 (tells.0 i)), one.1)
  one_lead a b p q t u (Does x did) (Idle idle) h g = absurd (brings_none b u idle (input_of x) did.brings)
  one_lead a b p q t u (Idle idle) (Does y did) h g = absurd (brings_none a t idle (input_of y) did.brings)
  one_lead a b p q t u (Idle idle) (Idle also) h g =
      (idle.sends ∙ sym also.sends, one_truth p q (λ i. absurd (h.0 i)) (λ i. absurd (g.0 i)), idle.same ∙ sym also.same)

  -- what is refused is not done
  no_lead : (packets : List Packet) (t : NodeState) (x : EntryStep s (entry_of packets) t) (why : NodeFault) → Refuses s k why → ⊥
  no_lead packets t (Does x did) why r =
      let same : r.input ≡ input_of x = one_input s k r.input (input_of x) r.brings did.brings in
      refusals_exclude_steps s t x why sound (has_locations s apart) (subst (λ (i : Input). NodeRefuses s i why) same r.refuses) r.other did.step
  no_lead packets t (Idle idle) why r = brings_none packets t idle r.input r.brings

  pub one_answer : HasOneAnswer s k
  one_answer (Stepped a p t) (Stepped b q u) h g =
      let one = one_lead a b p q t u h.step g.step h.tells g.tells in
      λ i. Stepped (one.0 i) (one.1 i) (one.2 i)
  one_answer (Stepped a p t) PassedOver h g = absurd (h.own g)
  one_answer (Stepped a p t) (Declined why) h g = absurd (no_lead a t h.step why g)
  one_answer PassedOver (Stepped b q u) h g = absurd (g.own h)
  one_answer PassedOver PassedOver h g = refl
  one_answer PassedOver (Declined why) h g = absurd (h.nothing g.input g.brings)
  one_answer (Declined why) (Stepped b q u) h g = absurd (no_lead b u g.step why h)
  one_answer (Declined why) PassedOver h g = absurd (g.nothing h.input h.brings)
  one_answer (Declined why) (Declined other) h g =
      let same : h.input ≡ g.input = one_input s k h.input g.input h.brings g.brings in
      ap Declined (refusals_have_one_reason s g.input why other sound apart (subst (λ (i : Input). NodeRefuses s i why) same h.refuses) g.refuses h.other g.other)

pub nodes_have_one_answer : NodesHaveOneAnswer
nodes_have_one_answer s k sound apart = one_answer s k sound apart
