-- A node numbers its packets on, whatever its events and its setups were.
use Rattle.std.proofs.Common.{◌≡◌, ◌≢◌, ◌⊎◌, ◌∙◌, zero, suc, ℕ, ◌+◌, List, [], ◌∷◌, ◌++◌, length, length-append, sym, ap, subst, arith, refl, inl, inr}
use Rattle.std.specs.Prelude.{Contains, Some, slice_get}
use Rattle.ocpi_text.specs.Text.{key}
use Rattle.ocpi_types.specs.Setups.{party_of}
use Rattle.ocpi_types.specs.declared.packet.Packet.{Packet}
use Rattle.ocpi_types.specs.declared.rows.Counter.TheVariants as counter
use Rattle.ocpi_types.specs.declared.rows.Row.{Row}
use Rattle.ocpi_types.specs.declared.rows.Row.TheVariants as row
use Rattle.ocpi_types.specs.declared.setup.Node.{Node}
use Rattle.ocpi_types.specs.declared.setup.Node.TheVariants as node
use Rattle.histories.specs.Entries.{IsNumbered, sent}
use Rattle.histories.specs.declared.entry.Entry.{Entry}
use Rattle.history_laws.specs.Replays.{Does, EntryStep, Idle}
use Rattle.node_core.specs.Members.{IsMadeOfRows}
use Rattle.operator_laws.proofs.events.Doing.{does as operator_does}
use Rattle.operator_laws.proofs.nodes.NodeSteps.{counts as operator_counts}
use Rattle.operator_rows.specs.State as operator
use Rattle.operator_steps.specs.Events as operator_events
use Rattle.provider_laws.proofs.nodes.NodeSteps.{steps_are_node_steps}
use Rattle.provider_rows.specs.State as provider
use Rattle.provider_steps.specs.Events as provider_events
use Rattle.replays.specs.Happenings.{Came, Happening, Opened, OpenedRun, entries_behind}
use Rattle.stored_laws.specs.Nodes.{AreNodeRows, CanStartAgain, last_serial}
use Rattle.stored_laws.proofs.Starting.{nodes_can_start_again}
use Rattle.world_steps.specs.Steps as steps
use Rattle.world_steps.specs.Steps.{AtOperator, AtProvider, NodeEvent, NodeStep, OperatorDoes, ProviderDoes, packets_of}
use Rattle.world_steps.specs.World.{NodeState, Operates, Provides}
use Rattle.weave_runs.proofs.LifeLemmas.{Leads, OpensSo}

-- ---- one step

-- whose node it is
abbrev pub own_party : NodeState → List ℕ
own_party (Operates s) = s.party
own_party (Provides s) = s.party

-- the packets of a step follow the last one, and are of its node
record Follows (n m : NodeState) (packets : List Packet) : Type 0 where
  party : own_party m ≡ own_party n
  last : last_serial m ≡ last_serial n + length packets
  each : (k : ℕ) (q : Packet) → slice_get packets k ≡ Some q → (q.from ≡ own_party n) × (q.serial ≡ last_serial n + (k + 1))

operator_happens : (s : operator.State) (e : operator_events.Event) (t : operator.State) → OperatorDoes s e t → operator_events.Happens s e t
operator_happens s e t (steps.Done by) = operator_events.Done by
operator_happens s e t (steps.Restarted now is) = operator_events.Restarted now is

provider_happens : (s : provider.State) (e : provider_events.Event) (t : provider.State) → ProviderDoes s e t → provider_events.Happens s e t
provider_happens s e t (steps.Done by) = provider_events.Done by
provider_happens s e t (steps.Restarted now is) = provider_events.Restarted now is

follow : (n m : NodeState) (x : NodeEvent) → CanStartAgain n → NodeStep n x m → Follows n m (packets_of x)
follow (Operates s) (Operates t) (AtOperator e) can step =
    let counts = operator_counts s t e (operator_does s t e (operator_happens s e t step)) s.providers in
    record { party = counts.party; last = counts.serial; each = λ k q at. let is = counts.each k q at in (is.from, is.serial) }
follow (Provides s) (Provides t) (AtProvider e) can step =
    let counts = (steps_are_node_steps s.operators s t e (λ x i. i) can.sound.0 (provider_happens s e t step)).counts in
    record { party = counts.party; last = counts.serial; each = λ k q at. let is = counts.each k q at in (is.from, is.serial) }
follow (Operates s) (Operates t) (AtProvider e) can step = absurd step
follow (Operates s) (Provides t) (AtOperator e) can step = absurd step
follow (Operates s) (Provides t) (AtProvider e) can step = absurd step
follow (Provides s) (Operates t) (AtOperator e) can step = absurd step
follow (Provides s) (Operates t) (AtProvider e) can step = absurd step
follow (Provides s) (Provides t) (AtOperator e) can step = absurd step

-- ---- one entry

record Enters (n m : NodeState) (e : Entry) : Type 0 where
  follows : Follows n m e.packets
  can : CanStartAgain m

none_follow : (n m : NodeState) → m ≡ n → Follows n m []
none_follow n m same = record { party = ap own_party same; last = ap last_serial same ∙ none (last_serial n); each = λ k q at. cc }
  where
    none : (a : ℕ) → a ≡ a + 0
    none a = omega arith

pub entry_can : (n m : NodeState) (e : Entry) → CanStartAgain n → EntryStep n e m → CanStartAgain m
entry_can n m e can (Does x did) = nodes_can_start_again n m x can did.step
entry_can n m e can (Idle idle) = subst CanStartAgain (sym idle.same) can

enters : (n m : NodeState) (e : Entry) → CanStartAgain n → EntryStep n e m → Enters n m e
enters n m e can (Does x did) = record {
  follows = subst (Follows n m) (sym did.sends) (follow n m x can did.step);
  can = nodes_can_start_again n m x can did.step;
}
enters n m e can (Idle idle) = record {
  follows = subst (Follows n m) (sym idle.sends) (none_follow n m idle.same);
  can = subst CanStartAgain (sym idle.same) can;
}

-- ---- an opening

pub rows_made : (setup : List Node) (m : Node) (rows : List Row) (n : NodeState) → IsMadeOfRows setup m rows n → AreNodeRows rows n
rows_made setup (node.Operator party site) rows (Operates s) made = made.has_rows
rows_made setup (node.Operator party site) rows (Provides s) made = absurd made
rows_made setup (node.Provider party) rows (Operates s) made = absurd made
rows_made setup (node.Provider party) rows (Provides s) made = made.has_rows

party_made : (setup : List Node) (m : Node) (rows : List Row) (n : NodeState) → IsMadeOfRows setup m rows n → own_party n ≡ party_of m
party_made setup (node.Operator party site) rows (Operates s) made = ap (λ (z : operator.State). z.party) made.of_site
party_made setup (node.Operator party site) rows (Provides s) made = absurd made
party_made setup (node.Provider party) rows (Operates s) made = absurd made
party_made setup (node.Provider party) rows (Provides s) made = ap (λ (z : provider.State). z.party) made.with_peers

serial_listed : (rows : List Row) (n : NodeState) (k : ℕ) → AreNodeRows rows n → last_serial n ≡ suc k → Contains rows (row.Count counter.Serial (suc k))
serial_listed rows (Operates s) k are is = (are.exact (row.Count counter.Serial (suc k))).1 (is, λ none. omega (arith, none))
serial_listed rows (Provides s) k are is = (are.exact (row.Count counter.Serial (suc k))).1 (is, λ none. omega (arith, none))

serial_told : (rows : List Row) (n : NodeState) (k : ℕ) → AreNodeRows rows n → Contains rows (row.Count counter.Serial k) → last_serial n ≡ k
serial_told rows (Operates s) k are within = ((are.exact (row.Count counter.Serial k)).0 within).0
serial_told rows (Provides s) k are within = ((are.exact (row.Count counter.Serial k)).0 within).0

-- rows tell the serial, whichever role their node has
pub one_serial : (rows : List Row) (n m : NodeState) → AreNodeRows rows n → AreNodeRows rows m → last_serial n ≡ last_serial m
one_serial rows n m first second = of (last_serial n) (last_serial m) refl refl
  where
    of : (a b : ℕ) → last_serial n ≡ a → last_serial m ≡ b → last_serial n ≡ last_serial m
    of zero zero is also = is ∙ sym also
    of (suc a) b is also = is ∙ sym (serial_told rows m (suc a) second (serial_listed rows n a first is))
    of zero (suc b) is also = serial_told rows n (suc b) first (serial_listed rows m b second also) ∙ sym also

pub opens_party : (w : List ℕ) (Had : List Row → Type 0) (o : OpenedRun) (s : NodeState) → OpensSo w Had o s → key (own_party s) ≡ key w
opens_party w Had o s opens = ap key (party_made o.setup o.member opens.rows s opens.made) ∙ opens.same

-- ---- a history

number_join : (w : List ℕ) (n : ℕ) (ps qs : List Packet) → IsNumbered w n ps → IsNumbered w (n + length ps) qs → IsNumbered w n (ps ++ qs)
number_join w n [] qs first later k q at = let is = later k q at in let serial = is.1 in (is.0, omega (arith, serial))
number_join w n (p ∷ ps) qs first later zero q at = first zero q at
number_join w n (p ∷ ps) qs first later (suc k) q at =
    let is = number_join w (suc n) ps qs
    (λ j r there. let one = first (suc j) r there in let serial = one.1 in (one.0, omega (arith, serial)))
    (λ j r there. let one = later j r there in let serial = one.1 in (one.0, omega (arith, serial))) k q at in
    let serial = is.1 in
    (is.0, omega (arith, serial))

numbered_by : (w : List ℕ) (n m : NodeState) (packets : List Packet) → key (own_party n) ≡ key w → Follows n m packets → IsNumbered w (last_serial n) packets
numbered_by w n m packets party follows k q at = let is = follows.each k q at in (ap key is.0 ∙ party, is.1)

pub numbered : (w p : List ℕ) (s t : NodeState) (hs : List Happening) → CanStartAgain s → key (own_party s) ≡ key w → Leads w p s hs t → IsNumbered w (last_serial s) (sent (entries_behind hs))
numbered w p s t [] can party leads = λ k q at. cc
numbered w p s t (Came text x ∷ hs) can party (u, step, reads, rest) =
    let one = enters s u x.entry can step in
    number_join w (last_serial s) x.entry.packets (sent (entries_behind hs)) (numbered_by w s u x.entry.packets party one.follows)
    (subst (λ (n : ℕ). IsNumbered w n (sent (entries_behind hs))) one.follows.last (numbered w p u t hs one.can (ap key one.follows.party ∙ party) rest))
numbered w p s t (Opened o ∷ hs) can party (u, opens, rest) =
    subst (λ (n : ℕ). IsNumbered w n (sent (entries_behind hs))) (sym (one_serial opens.rows s u opens.had (rows_made o.setup o.member opens.rows u opens.made)))
    (numbered w (party_of o.member) u t hs opens.starts (opens_party w (λ rows. AreNodeRows rows s) o u opens) rest)
