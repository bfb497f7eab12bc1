-- A node of either role that starts again under another setup.
use Rattle.std.proofs.Common.{List, refl, sym, ap, subst, ◌∙◌}
use Rattle.history_laws.proofs.Replaying.{own_operator, own_provider, party_stays}
use Rattle.node_core.specs.Members.{line_of, peers_of}
use Rattle.ocpi_types.specs.declared.setup.Node.{Node}
use Rattle.ocpi_types.specs.declared.setup.Node.TheVariants as node
use Rattle.operator_rows.specs.State as operator_state
use Rattle.operator_steps.specs.Events as operator
use Rattle.operator_steps.specs.Moves as operator_moves
use Rattle.provider_rows.specs.State as provider_state
use Rattle.provider_steps.specs.Events as provider
use Rattle.provider_steps.specs.Moves as provider_moves
use Rattle.reopening_laws.proofs.Reopening.{operators_reopen, providers_reopen}
use Rattle.reopening_laws.specs.Nodes.{IsNodeOf, NodesReopen, NodesStay}
use Rattle.world_steps.specs.Steps.{AtOperator, AtProvider, NodeEvent, NodeStep}
use Rattle.world_steps.specs.World.{NodeState, Operates, Provides, opening_of}

opens_so : (setup : List Node) (member : Node) → IsNodeOf member (opening_of setup member)
opens_so setup (node.Operator party site) = refl
opens_so setup (node.Provider party) = refl

stays_so : (member : Node) (s : NodeState) (x : NodeEvent) (t : NodeState) → NodeStep s x t → IsNodeOf member s → IsNodeOf member t
stays_so (node.Operator party site) (Operates s) (AtOperator e) (Operates t) step own = sym (own_operator t) ∙ party_stays (Operates s) (AtOperator e) (Operates t) step ∙ own_operator s ∙ own
stays_so (node.Operator party site) (Operates s) (AtOperator e) (Provides t) step own = absurd step
stays_so (node.Operator party site) (Operates s) (AtProvider e) t step own = absurd step
stays_so (node.Operator party site) (Provides s) x t step own = absurd own
stays_so (node.Provider party) (Operates s) x t step own = absurd own
stays_so (node.Provider party) (Provides s) (AtProvider e) (Provides t) step own = sym (own_provider t) ∙ party_stays (Provides s) (AtProvider e) (Provides t) step ∙ own_provider s ∙ own
stays_so (node.Provider party) (Provides s) (AtProvider e) (Operates t) step own = absurd step
stays_so (node.Provider party) (Provides s) (AtOperator e) t step own = absurd step

pub nodes_stay : NodesStay
nodes_stay = record { at_first = opens_so; by_steps = stays_so }

pub nodes_reopen : NodesReopen
nodes_reopen setup (node.Operator party site) (node.Operator other place) (Operates s) (Operates t) rows same are made can again own =
    let line = line_of setup other place in
    let r = operators_reopen line rows s t can.sound are again.sound.sound made (same ∙ sym own) in
    (operator.Reopened line refl r.1 (ap operator_moves.idle r.0), ap (λ (u : operator_state.State). u.party) r.0 ∙ own)
nodes_reopen setup (node.Operator party site) (node.Operator other place) (Operates s) (Provides t) rows same are made can again own = absurd made
nodes_reopen setup (node.Operator party site) (node.Operator other place) (Provides s) t rows same are made can again own = absurd own
nodes_reopen setup (node.Operator party site) (node.Provider other) s t rows same are made can again own = absurd same
nodes_reopen setup (node.Provider party) (node.Operator other place) s t rows same are made can again own = absurd same
nodes_reopen setup (node.Provider party) (node.Provider other) (Operates s) t rows same are made can again own = absurd own
nodes_reopen setup (node.Provider party) (node.Provider other) (Provides s) (Operates t) rows same are made can again own = absurd made
nodes_reopen setup (node.Provider party) (node.Provider other) (Provides s) (Provides t) rows same are made can again own =
    let p = peers_of setup other in
    let peers = subst (λ (u : provider_state.State). provider_state.ArePeers (record { provider = u.party; operators = u.operators })) made.with_peers again.sound.0.peers in
    let r = providers_reopen p rows s t can.sound.1 again.sound.1 are peers again.sound.0.sound made (same ∙ sym own) in
    (provider.Reopened p refl r.1 (ap provider_moves.idle r.0), ap (λ (u : provider_state.State). u.party) r.0 ∙ own)
