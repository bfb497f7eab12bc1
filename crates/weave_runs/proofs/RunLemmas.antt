-- A run stays one where its events spell their nodes, and the senders of what comes, in another case.
use Rattle.std.proofs.Common.{◌≡◌, ◌≢◌, ◌⊎◌, ◌∙◌, ℕ, List, [], ◌∷◌, Bool, true, false, bytes_eq, cond, inl, inr, map, refl, sym, ap, subst}
use Rattle.std.proofs.lemmas.Slice.Eq.{bytes_eq-Decides}
use Rattle.std.specs.Prelude.{Contains}
use Rattle.ocpi_text.specs.Text.{key}
use Rattle.ocpi_types.specs.Setups.{node_key, party_of}
use Rattle.ocpi_types.specs.declared.events.Event.{Event}
use Rattle.ocpi_types.specs.declared.events.EventKind.{EventKind}
use Rattle.ocpi_types.specs.declared.events.EventKind.TheVariants as kind
use Rattle.ocpi_types.specs.declared.packet.Packet.{Packet}
use Rattle.ocpi_types.specs.declared.setup.Node.{Node}
use Rattle.histories.specs.declared.entry.Entry.{Entry}
use Rattle.histories.specs.declared.history.NodeHistory.{NodeHistory}
use Rattle.histories.specs.Weaving.{event_of, kind_of}
use Rattle.histories.proofs.Lists.{in_later}
use Rattle.history_laws.specs.Laws.{IsRunOf}
use Rattle.tables.proofs.Elements.{in_front}
use Rattle.world_steps.specs.Network.{Input, MayArrive, OfOperator, OfProvider, Reaches}
use Rattle.world_steps.specs.Steps.{Does, Gives, IsForNone, Loses, NoNode, NothingReaches, Outcome, Passes, Refuses, WorldRun, WorldStep}
use Rattle.world_steps.specs.World.{IsAt, NodeState, Operates, Place, Provides, World}
use Rattle.weave_runs.specs.Refusals.{spelled}
use Rattle.weave_runs.specs.Steps.{Came, Delivered, Given, IsStep, Restarted, Step, entry_of, event_told}

-- ---- a sender in another case

-- two kinds of events are the same, but for the case in which a sender is spelled
pub data Respells (k l : EventKind) : Type 0 where
  Same : k ≡ l → Respells k l
  OfSender : (at : ℕ) (from other : List ℕ) (serial : ℕ) → k ≡ kind.Deliver at from serial → l ≡ kind.Deliver at other serial → key from ≡ key other → Respells k l

back : (k l : EventKind) → Respells k l → Respells l k
back k l (Same is) = Same (sym is)
back k l (OfSender at from other serial is also same) = OfSender at other from serial also is (sym same)

module _ (w : World) (party : List ℕ) where
  arrives : (from other : List ℕ) → key from ≡ key other → (serial : ℕ) (q : Packet) → MayArrive w party from serial q → MayArrive w party other serial q
  arrives from other same serial q may = record {
    was_sent = record {
      number = may.was_sent.number;
      sender = may.was_sent.sender;
      at = record { here = may.was_sent.at.here; same = may.was_sent.at.same ∙ same };
      position = may.was_sent.position;
      serial_is = may.was_sent.serial_is;
      stands = may.was_sent.stands;
    };
    addressed = may.addressed;
  }

  reaches : (s : NodeState) (k l : EventKind) → Respells k l → (x : Input) → Reaches w party s k x → Reaches w party s l x
  reaches s k l (Same is) x reached = subst (λ (m : EventKind). Reaches w party s m x) is reached
  reaches s k l (OfSender at from other serial is also same) x reached =
      subst (λ (m : EventKind). Reaches w party s m x) (sym also) (of s x (subst (λ (m : EventKind). Reaches w party s m x) is reached))
    where
      of : (s : NodeState) (x : Input) → Reaches w party s (kind.Deliver at from serial) x → Reaches w party s (kind.Deliver at other serial) x
      of (Operates s) (OfOperator x) (q, may, is) = (q, arrives from other same serial q may, is)
      of (Operates s) (OfProvider x) bad = absurd bad
      of (Provides s) (OfOperator x) bad = absurd bad
      of (Provides s) (OfProvider x) (q, may, is) = (q, arrives from other same serial q may, is)

-- ---- one step

module _ (w : World) (a b : List ℕ) (same : key a ≡ key b) (k l : EventKind) (kinds : Respells k l) where
  at_respelled : (i : ℕ) (p : Place) → IsAt w a i p → IsAt w b i p
  at_respelled i p at = record { here = at.here; same = at.same ∙ same }

  at_before : (i : ℕ) (p : Place) → IsAt w b i p → IsAt w a i p
  at_before i p at = record { here = at.here; same = at.same ∙ sym same }

  lost : Respells k l → k ≡ kind.Refused → l ≡ kind.Refused
  lost (Same is) refused = sym is ∙ refused
  lost (OfSender at from other serial is also same) refused = absurd (no_delivery at from serial (sym refused ∙ is))
    where
      no_delivery : (at : ℕ) (from : List ℕ) (serial : ℕ) → kind.Refused ≡ kind.Deliver at from serial → ⊥
      no_delivery at from serial e = cc

  not_lost : Respells k l → k ≢ kind.Refused → l ≢ kind.Refused
  not_lost (Same is) taken refused = taken (is ∙ refused)
  not_lost (OfSender at from other serial is also same) taken refused = no_delivery at other serial (sym refused ∙ also)
    where
      no_delivery : (at : ℕ) (from : List ℕ) (serial : ℕ) → kind.Refused ≡ kind.Deliver at from serial → ⊥
      no_delivery at from serial e = cc

  none_respelled : IsForNone w (record { node = a; kind = k }) → IsForNone w (record { node = b; kind = l })
  none_respelled (NoNode none) = NoNode (λ i p at. none i p (at_before i p at))
  none_respelled (NothingReaches i p at taken nothing) =
      NothingReaches i p (at_respelled i p at) (not_lost kinds taken) (λ x reached. nothing x (reaches w p.party p.node l k (back k l kinds) x reached))

  gives_respelled : (o : Outcome) (v : World) → Gives w (record { node = a; kind = k }) o v → Gives w (record { node = b; kind = l }) o v
  gives_respelled o v (Passes none told stays) = Passes (none_respelled none) told stays
  gives_respelled o v (Does i p q x at reached step told is) = Does i p q x (at_respelled i p at) (reaches w p.party p.node k l kinds _ reached) step told is
  gives_respelled o v (Refuses i p x fault at reached refuses other told stays) = Refuses i p x fault (at_respelled i p at) (reaches w p.party p.node k l kinds x reached) refuses other told stays
  gives_respelled o v (Loses i p at refused told stays) = Loses i p (at_respelled i p at) (lost kinds refused) told stays

step_respelled : (w v : World) (d e : Event) → key d.node ≡ key e.node → Respells d.kind e.kind → WorldStep w d v → WorldStep w e v
step_respelled w v d e node kinds (o, gives) = (o, gives_respelled w d.node e.node node d.kind e.kind kinds o v gives)

-- ---- the lines of a run

-- a party as a setup spells it is the same in another case
pub spelled_key : (nodes : List Node) (party : List ℕ) → key (spelled nodes party) ≡ key party
spelled_key [] party = refl
spelled_key (n ∷ ns) party = of (spelled_key ns party) (bytes_eq (node_key n) (key party)) refl
  where
    of : key (spelled ns party) ≡ key party → (b : Bool) → bytes_eq (node_key n) (key party) ≡ b → key (cond b (party_of n) (spelled ns party)) ≡ key party
    of later true is = (bytes_eq-Decides (node_key n) (key party)).0 is
    of later false is = later

-- its node is that of the entry, in whichever case
abbrev pub IsOwn : Step → Type 0
IsOwn s = key s.node ≡ key s.entry.party

module _ (given : List (List ℕ)) (hs : List NodeHistory) where
  node_told : (s : Step) → IsStep given hs s → IsOwn s → key (event_of s.entry).node ≡ key s.event.node
  node_told s (Came reads node kind) own = sym (node ∙ own)
  node_told s (Delivered at q is asked text told reads) own = sym (ap (λ (e : Event). key e.node) told ∙ own)
  node_told s (Restarted is text told reads) own = sym (ap (λ (e : Event). key e.node) told ∙ own)
  node_told s (Given at q is taken line told) own = ap (λ (e : Event). key e.node) (sym told)

  kind_told : (s : Step) → IsStep given hs s → Respells (event_of s.entry).kind s.event.kind
  kind_told s (Came reads node kind) = Same (sym kind)
  kind_told s (Delivered at q is asked text told reads) =
      OfSender at q.from (spelled s.nodes q.from) q.serial (ap kind_of is) (ap (λ (e : Event). e.kind) told) (sym (spelled_key s.nodes q.from))
  kind_told s (Restarted is text told reads) =
      Same (ap (λ (e : Entry). kind_of e.event) is ∙ ap (λ (e : Event). e.kind) (sym told))
  kind_told s (Given at q is taken line told) = Same (ap (λ (e : Event). e.kind) (sym told))

  run_told : (steps : List Step) (w v : World) → ((s : Step) → Contains steps s → IsStep given hs s × IsOwn s) → WorldRun w (map event_of (map entry_of steps)) v → WorldRun w (map event_told steps) v
  run_told [] w v each run = run
  run_told (s ∷ steps) w v each (u, step, rest) =
      let is = each s (in_front s steps) in
      (u, step_respelled w u (event_of s.entry) s.event (node_told s is.0 is.1) (kind_told s is.0) step, run_told steps u v (λ t within. each t (in_later s steps t within)) rest)

  -- the events that the lines tell are the run that the entries are
  pub run_as_told : (setup : List Node) (of : List NodeHistory) (states : List NodeState) (steps : List Step) → ((s : Step) → Contains steps s → IsStep given hs s × IsOwn s)
      → IsRunOf setup of states (map event_of (map entry_of steps)) → IsRunOf setup of states (map event_told steps)
  run_as_told setup of states steps each run =
      record { world = run.world; run = run_told steps _ run.world each run.run; ends = run.ends; others = run.others; right = run.right }
