-- From a run of a world to the runs of its nodes: the one induction over worlds.
use Rattle.std.proofs.Common.{◌≡◌, ℕ, List, [], ◌∷◌, ◌++◌, inl, inr, refl, sym, ap, subst, subst₂, ◌∙◌, arith, append_assoc, append-nil, length-set}
use Rattle.std.specs.Prelude.{Some, Contains, slice_get, slice_set}
use Rattle.std.proofs.lemmas.Bool.{cases_eq}
use Rattle.ocpi_text.specs.Text.{key}
use Rattle.ocpi_types.specs.declared.events.Event.{Event}
use Rattle.ocpi_types.specs.declared.events.EventKind.{EventKind}
use Rattle.ocpi_types.specs.declared.events.EventKind.TheVariants as kind
use Rattle.ocpi_types.specs.declared.packet.Packet.{Packet}
use Rattle.ocpi_types.specs.declared.setup.Node.{Node}
use Rattle.operator_steps.specs.Events as operator
use Rattle.provider_steps.specs.Events as provider
use Rattle.tables.proofs.Elements.{in_none}
use Rattle.world_steps.specs.Laws as laws
use Rattle.world_steps.specs.Network.{MayArrive, OperatorInput, ProviderInput, Reaches}
use Rattle.world_steps.specs.Steps.{AtOperator, AtProvider, Does, Gives, Loses, NodeEvent, Outcome, Passes, PlaceStep, Refuses, WorldRun, input_of}
use Rattle.world_steps.specs.Traces.{Brings, Came, Goes, Histories, IsSent, Linked, Traces, Went, joined, only, sent}
use Rattle.world_steps.specs.World.{NodeState, Operates, Place, Provides, World, opened, place_of}
use Rattle.world_steps.proofs.Histories.{came_cases, came_one, only_elsewhere, only_here, sent_before, went_none, went_on, went_one}
use Rattle.world_steps.proofs.Places.{got_within, is_in, of_mapped, set_other, set_same, some_same, stands}

-- some node of the world sent the packet
pub record SentIn (w : World) (q : Packet) : Type 0 where
  pub number : ℕ
  pub place : Place
  pub here : slice_get w number ≡ Some place
  pub within : Contains place.sent q

-- and it was sent to the party
pub record ComesTo (w : World) (party : List ℕ) (q : Packet) : Type 0 where
  pub to : key q.to ≡ key party
  pub from : SentIn w q

arrived : (w : World) (party from : List ℕ) (serial : ℕ) (q : Packet) → MayArrive w party from serial q → ComesTo w party q
arrived w party from serial q h = record {
  to = h.addressed;
  from = record { number = h.was_sent.number; place = h.was_sent.sender; here = h.was_sent.at.here; within = is_in h.was_sent.sender.sent h.was_sent.position q h.was_sent.stands };
}

-- a packet that reaches an operator was sent to it
comes_to_operator : (w : World) (party : List ℕ) (k : EventKind) (x : operator.Input) (at : ℕ) (q : Packet) → OperatorInput w party k x → x ≡ operator.Arrives at q → ComesTo w party q
comes_to_operator w party (kind.Submit moment to order) x at q reaches is = absurd reaches
comes_to_operator w party (kind.Token moment token) x at q reaches is = absurd reaches
comes_to_operator w party (kind.Service evse_uid in_service) x at q reaches is = let bad : operator.Serves (key evse_uid) in_service ≡ operator.Arrives at q = sym reaches ∙ is in absurd (cc)
comes_to_operator w party (kind.Charger moment report) x at q reaches is = let bad : operator.Reports moment report ≡ operator.Arrives at q = sym reaches ∙ is in absurd (cc)
comes_to_operator w party (kind.Credit moment session_id) x at q reaches is = let bad : operator.Credits moment (key session_id) ≡ operator.Arrives at q = sym reaches ∙ is in absurd (cc)
comes_to_operator w party (kind.Deliver moment from serial) x at q (r, may, other) is =
    let both : operator.Arrives moment r ≡ operator.Arrives at q = sym other ∙ is in
    let same : r ≡ q = cc in
    subst (ComesTo w party) same (arrived w party from serial r may)
comes_to_operator w party (kind.Tick moment) x at q reaches is = let bad : operator.Ticks moment ≡ operator.Arrives at q = sym reaches ∙ is in absurd (cc)
comes_to_operator w party kind.Restart x at q reaches is = let bad : operator.Restarts ≡ operator.Arrives at q = sym reaches ∙ is in absurd (cc)
comes_to_operator w party kind.Refused x at q reaches is = absurd reaches

-- and so was one that reaches a provider
comes_to_provider : (w : World) (party : List ℕ) (k : EventKind) (x : provider.Input) (at : ℕ) (q : Packet) → ProviderInput w party k x → x ≡ provider.Arrives at q → ComesTo w party q
comes_to_provider w party (kind.Submit moment to order) x at q reaches is = let bad : provider.Submits moment to order ≡ provider.Arrives at q = sym reaches ∙ is in absurd (cc)
comes_to_provider w party (kind.Token moment token) x at q reaches is = let bad : provider.Gives moment token ≡ provider.Arrives at q = sym reaches ∙ is in absurd (cc)
comes_to_provider w party (kind.Service evse_uid in_service) x at q reaches is = absurd reaches
comes_to_provider w party (kind.Charger moment report) x at q reaches is = absurd reaches
comes_to_provider w party (kind.Credit moment session_id) x at q reaches is = absurd reaches
comes_to_provider w party (kind.Deliver moment from serial) x at q (r, may, other) is =
    let both : provider.Arrives moment r ≡ provider.Arrives at q = sym other ∙ is in
    let same : r ≡ q = cc in
    subst (ComesTo w party) same (arrived w party from serial r may)
comes_to_provider w party (kind.Tick moment) x at q reaches is = let bad : provider.Ticks moment ≡ provider.Arrives at q = sym reaches ∙ is in absurd (cc)
comes_to_provider w party kind.Restart x at q reaches is = let bad : provider.Restarts ≡ provider.Arrives at q = sym reaches ∙ is in absurd (cc)
comes_to_provider w party kind.Refused x at q reaches is = absurd reaches

pub comes_to : (w : World) (party : List ℕ) (s : NodeState) (k : EventKind) (x : NodeEvent) (q : Packet) → Reaches w party s k (input_of x) → Brings x q → ComesTo w party q
comes_to w party (Operates s) k (AtOperator e) q reaches (at, is) = comes_to_operator w party k e.input at q reaches is
comes_to w party (Operates s) k (AtProvider e) q reaches brings = absurd reaches
comes_to w party (Provides s) k (AtOperator e) q reaches brings = absurd reaches
comes_to w party (Provides s) k (AtProvider e) q reaches (at, is) = comes_to_provider w party k e.input at q reaches is

goes_none : (w : World) → Goes w (λ i. []) w
goes_none w = record { size = refl; each = λ i p q at there. went_none p q (some_same p q (sym at ∙ there)) }

goes_on : (w u v : World) (ms ns : Histories) → Goes w ms u → Goes u ns v → Goes w (joined ms ns) v
goes_on w u v ms ns h g = record {
  size = g.size ∙ h.size;
  each = λ i p r at there.
      let size = h.size in
      let within = got_within w i p at in
      let (q, middle) = stands u i (omega (arith, size, within)) in
      went_on p q r (ms i) (ns i) (h.each i p q at middle) (g.each i q r middle there);
}

-- one step of a world: at most one node goes on, by one event; what comes to it was sent before
record Steps (w u : World) : Type 0 where
  ms : Histories
  goes : Goes w ms u
  linked : (i : ℕ) (p : Place) → slice_get w i ≡ Some p → (q : Packet) → Came (ms i) q → ComesTo w p.party q

-- of an event that leaves the world as it is, no node has an event
still : (w u : World) → u ≡ w → Steps w u
still w u is = record {
  ms = λ i. [];
  goes = subst (Goes w (λ i. [])) (sym is) (goes_none w);
  linked = λ i p at q h. absurd (in_none h.0 h.1);
}

module _ (w : World) (i : ℕ) (p q : Place) (x : NodeEvent) (at : slice_get w i ≡ Some p) where
  goes_each : PlaceStep p x q → (j : ℕ) (a b : Place) → slice_get w j ≡ Some a → slice_get (slice_set w i q) j ≡ Some b → Went a (only i x j) b
  goes_each step j a b was now = elim (cases_eq j i) [
    | inl same ↦
        let is_a : p ≡ a = some_same p a (sym at ∙ ap (slice_get w) (sym same) ∙ was) in
        let is_b : q ≡ b = some_same q b (sym (set_same w i p q at) ∙ ap (slice_get (slice_set w i q)) (sym same) ∙ now) in
        subst (λ l. Went a l b) (sym (ap (only i x) same ∙ only_here i x)) (subst₂ (λ a b. Went a (x ∷ []) b) is_a is_b (went_one p q x step))
    | inr apart ↦ subst (λ l. Went a l b) (sym (only_elsewhere i j x apart)) (went_none a b (some_same a b (sym was ∙ sym (set_other w i j q apart) ∙ now)))
  ]

  linked_each : (k : EventKind) → Reaches w p.party p.node k (input_of x) → (j : ℕ) (a : Place) → slice_get w j ≡ Some a → (r : Packet) → Came (only i x j) r → ComesTo w a.party r
  linked_each k reaches j a was r h = elim (cases_eq j i) [
    | inl same ↦
        let is_a : p ≡ a = some_same p a (sym at ∙ ap (slice_get w) (sym same) ∙ was) in
        let brings : Brings x r = came_one x r (subst (λ l. Came l r) (ap (only i x) same ∙ only_here i x) h) in
        subst (λ (z : Place). ComesTo w z.party r) is_a (comes_to w p.party p.node k x r reaches brings)
    | inr apart ↦ let none = subst (λ l. Came l r) (only_elsewhere i j x apart) h in absurd (in_none none.0 none.1)
  ]

steps : (w u : World) (e : Event) (o : Outcome) → Gives w e o u → Steps w u
steps w u e o (Passes none told is) = still w u is
steps w u e o (Does i p q x at reaches step told is) = record {
  ms = only i x;
  goes = subst (Goes w (only i x)) (sym is) (record { size = length-set w i q; each = goes_each w i p q x at.here step });
  linked = linked_each w i p q x at.here e.kind reaches;
}
steps w u e o (Refuses i p x fault at reaches refuses other told is) = still w u is
steps w u e o (Loses i p at refused told is) = still w u is

module _ (setup : List Node) where
  -- what was sent in a traced world stands in the history of its node, since nothing was sent before the opening
  sent_in_history : (w : World) (hs : Histories) → Goes (opened setup) hs w → (q : Packet) → SentIn w q → IsSent (opened setup) hs q
  sent_in_history w hs goes q h =
      let size = goes.size in
      let within = got_within w h.number h.place h.here in
      let (o, first) = stands (opened setup) h.number (omega (arith, size, within)) in
      let went = goes.each h.number o h.place first h.here in
      let (n, there, is) = of_mapped (place_of setup) setup h.number o first in
      let none : o.sent ≡ [] = ap (λ (z : Place). z.sent) (sym is) in
      record { number = h.number; place = o; here = first; within = subst (λ l. Contains l q) (went.sent_is ∙ ap (λ l. l ++ sent (hs h.number)) none) h.within }

  sent_later : (hs ms : Histories) (q : Packet) → IsSent (opened setup) hs q → IsSent (opened setup) (joined hs ms) q
  sent_later hs ms q h = record { number = h.number; place = h.place; here = h.here; within = sent_before (hs h.number) (ms h.number) q h.within }

  linked_on : (w u : World) (hs : Histories) → Goes (opened setup) hs w → Linked (opened setup) hs → (s : Steps w u) → Linked (opened setup) (joined hs s.ms)
  linked_on w u hs goes linked s i p first q came = elim (came_cases (hs i) (s.ms i) q came) [
    | inl before ↦ let (to, is_sent) = linked i p first q before in (to, sent_later hs s.ms q is_sent)
    | inr now ↦
        let size = goes.size in
        let within = got_within (opened setup) i p first in
        let (a, at) = stands w i (omega (arith, size, within)) in
        let went = goes.each i p a first at in
        let comes = s.linked i a at q now in
        (comes.to ∙ ap key went.party, sent_later hs s.ms q (sent_in_history w hs goes q comes.from))
  ]

  on : (w v : World) (hs : Histories) → Traces setup w hs → (es : List Event) → WorldRun w es v → (ms : Histories) × Goes w ms v × Traces setup v (joined hs ms)
  on w v hs h [] run = (λ i. [], subst (Goes w (λ i. [])) (sym run) (goes_none w), subst₂ (λ z gs. Traces setup z gs) (sym run) (sym nothing) h)
    where
      nothing : joined hs (λ i. []) ≡ hs
      nothing = λ k i. append-nil (hs i) k
  on w v hs h (e ∷ es) (u, (o, first), rest) =
      let s = steps w u e o first in
      let (ns, goes, traces) = on u v (joined hs s.ms) (record { goes = goes_on (opened setup) w u hs s.ms h.goes s.goes; linked = linked_on w u hs h.goes h.linked s }) es rest in
      (joined s.ms ns, goes_on w u v s.ms ns s.goes goes, subst (Traces setup v) (λ k i. append_assoc (hs i) (s.ms i) (ns i) k) traces)

pub traced_on : laws.TracedOn
traced_on setup w v hs traces es run = on setup w v hs traces es run

pub traced : laws.Traced
traced setup es w run =
    let (ms, goes, traces) = on setup (opened setup) w (λ i. []) (record { goes = goes_none (opened setup); linked = λ i p at q h. absurd (in_none h.0 h.1) }) es run in
    (joined (λ i. []) ms, traces)
