-- What a world refuses for a reason is carried out in no way.
use Rattle.std.proofs.Common.{◌≡◌, ◌+◌, ℕ, List, [], sym, ap, subst, ◌∙◌, arith}
use Rattle.std.specs.Prelude.{◌≢◌, Some, Contains, slice_get}
use Rattle.ocpi_text.specs.Text.{key}
use Rattle.ocpi_types.specs.Locations.{AreLocations}
use Rattle.ocpi_types.specs.declared.events.Event.{Event}
use Rattle.ocpi_types.specs.declared.events.EventKind.{EventKind}
use Rattle.ocpi_types.specs.declared.events.EventKind.TheVariants as kind
use Rattle.ocpi_types.specs.declared.packet.Packet.{Packet}
use Rattle.ocpi_types.specs.declared.setup.Node.{Node}
use Rattle.ocpi_types.specs.declared.setup.Node.TheVariants as node
use Rattle.ocpi_types.specs.declared.site.Site.{Site}
use Rattle.node_laws.proofs.Runs.{kept_runs}
use Rattle.node_steps.specs.declared.fault.NodeFault.{NodeFault}
use Rattle.node_steps.specs.declared.fault.NodeFault.TheVariants.{Memory}
use Rattle.operator_rows.specs.State as operator_state
use Rattle.operator_steps.specs.Events as operator
use Rattle.operator_laws.proofs.events.Doing.{does}
use Rattle.provider_steps.specs.Events as provider
use Rattle.refusal_laws.specs.Refusals.{HasLocations}
use Rattle.refusal_laws.proofs.Refusing.{refusals_exclude_steps}
use Rattle.stored_laws.specs.Nodes.{CanStartAgain}
use Rattle.stored_laws.proofs.Starting.{nodes_can_start_again, openings_can_start_again}
use Rattle.world_laws.specs.Laws.{IsSetup}
use Rattle.world_laws.proofs.Steady.{does_none, event_keeps}
use Rattle.world_laws.proofs.NodeRuns.{one_place}
use Rattle.world_steps.specs.Network.{Input, OfOperator, OfProvider, OperatorInput, ProviderInput, Reaches, WasSent}
use Rattle.world_steps.specs.Steps as steps
use Rattle.world_steps.specs.Steps.{AtOperator, AtProvider, Does, Gives, IsForNone, Loses, NoNode, NodeEvent, NodeRefuses, NodeStep, NothingReaches, OperatorDoes, Outcome, Passes, Refused, Refuses, Skipped, Stepped, WorldRun, changes_of, input_of, packets_of}
use Rattle.world_steps.specs.Traces.{Histories, Traces}
use Rattle.world_steps.specs.World.{IsAt, NodeState, Operates, Place, Provides, World, opened, opening_of, place_of}
use Rattle.world_steps.proofs.Places.{got_within, is_in, of_mapped, some_same, stands}
use Rattle.world_steps.proofs.Tracing.{traced}
use Rattle.reached_laws.specs.Refused.{IsOfLocations, IsRefusal, RefusedIsNotCarriedOut}

-- ---- what reaches a node by an event is one thing

-- no two places are of one party
abbrev OnePlaceEach : World → Type 0
OnePlaceEach w = (i j : ℕ) (p q : Place) → slice_get w i ≡ Some p → slice_get w j ≡ Some q → key p.party ≡ key q.party → i ≡ j

module _ (w : World) (one : OnePlaceEach w) where
  same_place : (party : List ℕ) (i j : ℕ) (p q : Place) → IsAt w party i p → IsAt w party j q → p ≡ q
  same_place party i j p q here there = some_same p q (sym here.here ∙ ap (slice_get w) (one i j p q here.here there.here (here.same ∙ sym there.same)) ∙ there.here)

  -- the packet of a serial is one
  same_packet : (from : List ℕ) (serial : ℕ) (q r : Packet) → WasSent w from serial q → WasSent w from serial r → q ≡ r
  same_packet from serial q r a b =
      let sender : a.sender ≡ b.sender = same_place from a.number b.number a.sender b.sender a.at b.at in
      let first : serial ≡ a.position + 1 = a.serial_is in
      let second : serial ≡ b.position + 1 = b.serial_is in
      let position : a.position ≡ b.position = omega (arith, first, second) in
      some_same q r (sym a.stands ∙ ap (λ (z : Place). slice_get z.sent a.position) sender ∙ ap (slice_get b.sender.sent) position ∙ b.stands)

  operator_input : (party : List ℕ) (k : EventKind) (x y : operator.Input) → OperatorInput w party k x → OperatorInput w party k y → x ≡ y
  operator_input party (kind.Submit at to order) x y h g = absurd h
  operator_input party (kind.Token at token) x y h g = absurd h
  operator_input party (kind.Service evse_uid in_service) x y h g = h ∙ sym g
  operator_input party (kind.Charger at report) x y h g = h ∙ sym g
  operator_input party (kind.Credit at session_id) x y h g = h ∙ sym g
  operator_input party (kind.Deliver at from serial) x y (q, may, is) (r, also, same) = is ∙ ap (operator.Arrives at) (same_packet from serial q r may.was_sent also.was_sent) ∙ sym same
  operator_input party (kind.Tick at) x y h g = h ∙ sym g
  operator_input party kind.Restart x y h g = h ∙ sym g
  operator_input party kind.Refused x y h g = absurd h

  provider_input : (party : List ℕ) (k : EventKind) (x y : provider.Input) → ProviderInput w party k x → ProviderInput w party k y → x ≡ y
  provider_input party (kind.Submit at to order) x y h g = h ∙ sym g
  provider_input party (kind.Token at token) x y h g = h ∙ sym g
  provider_input party (kind.Service evse_uid in_service) x y h g = absurd h
  provider_input party (kind.Charger at report) x y h g = absurd h
  provider_input party (kind.Credit at session_id) x y h g = absurd h
  provider_input party (kind.Deliver at from serial) x y (q, may, is) (r, also, same) = is ∙ ap (provider.Arrives at) (same_packet from serial q r may.was_sent also.was_sent) ∙ sym same
  provider_input party (kind.Tick at) x y h g = h ∙ sym g
  provider_input party kind.Restart x y h g = h ∙ sym g
  provider_input party kind.Refused x y h g = absurd h

  same_input : (party : List ℕ) (n : NodeState) (k : EventKind) (x y : Input) → Reaches w party n k x → Reaches w party n k y → x ≡ y
  same_input party (Operates s) k (OfOperator x) (OfOperator y) h g = ap OfOperator (operator_input party k x y h g)
  same_input party (Operates s) k (OfOperator x) (OfProvider y) h g = absurd g
  same_input party (Operates s) k (OfProvider x) y h g = absurd h
  same_input party (Provides s) k (OfProvider x) (OfProvider y) h g = ap OfProvider (provider_input party k x y h g)
  same_input party (Provides s) k (OfProvider x) (OfOperator y) h g = absurd g
  same_input party (Provides s) k (OfOperator x) y h g = absurd h

-- and by an event whose storing was refused nothing does
none_reaches : (w : World) (party : List ℕ) (n : NodeState) (x : Input) → Reaches w party n kind.Refused x → ⊥
none_reaches w party (Operates s) (OfOperator x) h = h
none_reaches w party (Operates s) (OfProvider x) h = h
none_reaches w party (Provides s) (OfOperator x) h = h
none_reaches w party (Provides s) (OfProvider x) h = h

-- ---- what a node refuses it does not do

-- what a node of a world is at any time
record IsFit (n : NodeState) : Type 0 where
  can : CanStartAgain n
  located : HasLocations n

operator_happens : (s t : operator_state.State) (e : operator.Event) → OperatorDoes s e t → operator.Happens s e t
operator_happens s t e (steps.Done by) = operator.Done by
operator_happens s t e (steps.Restarted is out) = operator.Restarted is out

-- the site of an operator stays
sites_stay : (n m : NodeState) (x : NodeEvent) → NodeStep n x m → HasLocations n → HasLocations m
sites_stay (Operates s) (Operates t) (AtOperator e) step h = subst (λ (z : Site). AreLocations z.locations) (sym (event_keeps s t e (does_none s e t step) (does s t e (operator_happens s t e step)).under).0) h
sites_stay (Operates s) (Provides t) (AtOperator e) step h = absurd step
sites_stay (Operates s) m (AtProvider e) step h = absurd step
sites_stay (Provides s) (Provides t) (AtProvider e) step h = tt
sites_stay (Provides s) (Operates t) (AtProvider e) step h = absurd step
sites_stay (Provides s) m (AtOperator e) step h = absurd step

stays_fit : (n m : NodeState) (x : NodeEvent) → NodeStep n x m → IsFit n → IsFit m
stays_fit n m x step h = record { can = nodes_can_start_again n m x h.can step; located = sites_stay n m x step h.located }

opens_located : (setup : List Node) (n : Node) → IsOfLocations n → HasLocations (opening_of setup n)
opens_located setup (node.Operator party site) are = are
opens_located setup (node.Provider party) are = tt

module _ (setup : List Node) (is_setup : IsSetup setup) (are : (n : Node) → Contains setup n → IsOfLocations n) (w : World) (hs : Histories) (traces : Traces setup w hs) where
  -- each node of the world began as one of the setup
  fit : (i : ℕ) (p : Place) → slice_get w i ≡ Some p → IsFit p.node
  fit i p at =
      let size = traces.goes.size in
      let within = got_within w i p at in
      let (o, first) = stands (opened setup) i (omega (arith, size, within)) in
      let (n, there, is) = of_mapped (place_of setup) setup i o first in
      let begins : slice_get (opened setup) i ≡ Some (place_of setup n) = first ∙ ap Some (sym is) in
      let listed : Contains setup n = is_in setup i n there in
      kept_runs NodeStep IsFit stays_fit (opening_of setup n) p.node (hs i) (traces.goes.each i (place_of setup n) p begins at).run
      (record { can = openings_can_start_again setup is_setup n listed; located = opens_located setup n (are n listed) })

module _ (w : World) (one : OnePlaceEach w) (fit_each : (i : ℕ) (p : Place) → slice_get w i ≡ Some p → IsFit p.node) (e : Event) (i : ℕ) (p : Place) (x : Input) (fault : NodeFault) (here : IsAt w e.node i p)
    (reaches : Reaches w p.party p.node e.kind x) (refuses : NodeRefuses p.node x fault) (other : fault ≢ Memory) where
  not_passed : IsForNone w e → ⊥
  not_passed (NoNode none) = none i p here
  not_passed (NothingReaches j q there kept nothing) =
      nothing x (subst (λ (z : Place). Reaches w z.party z.node e.kind x) (same_place w one e.node i j p q here there) reaches)

  not_done : (j : ℕ) (q : Place) (m : NodeState) (y : NodeEvent) → IsAt w e.node j q → Reaches w q.party q.node e.kind (input_of y) → NodeStep q.node y m → ⊥
  not_done j q m y there comes step =
      let same : q ≡ p = same_place w one e.node j i q p there here in
      let comes_here : Reaches w p.party p.node e.kind (input_of y) = subst (λ (z : Place). Reaches w z.party z.node e.kind (input_of y)) same comes in
      let is : x ≡ input_of y = same_input w one p.party p.node e.kind x (input_of y) reaches comes_here in
      let f = fit_each i p here.here in
      refusals_exclude_steps p.node m y fault f.can.sound f.located (subst (λ (z : Input). NodeRefuses p.node z fault) is refuses) other (subst (λ (z : Place). NodeStep z.node y m) same step)

  not_lost : e.kind ≡ kind.Refused → ⊥
  not_lost is = none_reaches w p.party p.node x (subst (λ (k : EventKind). Reaches w p.party p.node k x) is reaches)

  refused_too : (o : Outcome) (v : World) → Gives w e o v → IsRefusal o
  refused_too o v (Passes none told is) = absurd (not_passed none)
  refused_too o v (Does j q r y there comes step told is) = absurd (not_done j q r.node y there comes step.step)
  refused_too o v (Refuses j q y g there comes refused apart told is) = (g, told)
  refused_too o v (Loses j q there refused told is) = absurd (not_lost refused)

-- what refuses an event is a node, for a reason that it has
by_node : (w : World) → OnePlaceEach w → ((i : ℕ) (p : Place) → slice_get w i ≡ Some p → IsFit p.node) → (e : Event) (fault : NodeFault) (o : Outcome) (u v : World) →
    Gives w e (Refused fault) u → Gives w e o v → IsRefusal o
by_node w one fit_each e fault o u v (Refuses i p x g here reaches refuses other told is) second = refused_too w one fit_each e i p x g here reaches refuses other o v second
by_node w one fit_each e fault o u v (Passes none told is) second = let never : Refused fault ≡ Skipped = told in absurd (cc)
by_node w one fit_each e fault o u v (Does i p q x here reaches step told is) second = let never : Refused fault ≡ Stepped (packets_of x) (changes_of x) = told in absurd (cc)
by_node w one fit_each e fault o u v (Loses i p here refused told is) second = let never : Refused fault ≡ Stepped [] [] = told in absurd (cc)

pub refused_is_not_carried_out : RefusedIsNotCarriedOut
refused_is_not_carried_out setup es w is_setup are run e fault o u v first second =
    let (hs, traces) = traced setup es w run in
    by_node w (one_place setup is_setup w hs traces) (fit setup is_setup are w hs traces) e fault o u v first second
