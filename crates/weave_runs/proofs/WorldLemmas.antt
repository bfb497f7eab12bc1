-- Where all runs have one setup, and the first no rows, a history is replayed from the opening of its node.
use Rattle.std.proofs.Common.{◌≡◌, ◌∙◌, zero, suc, ℕ, List, [], ◌∷◌, ◌++◌, length, sym, ap, subst, arith, refl}
use Rattle.std.specs.Prelude.{Contains, Some, slice_get}
use Rattle.ocpi_text.specs.Text.{key}
use Rattle.ocpi_types.specs.Setups.{party_of}
use Rattle.ocpi_types.specs.declared.rows.Row.{Row}
use Rattle.ocpi_types.specs.declared.setup.Node.{Node}
use Rattle.ocpi_types.specs.declared.setup.Node.TheVariants as node
use Rattle.histories.specs.declared.entry.Entry.{Entry}
use Rattle.histories.proofs.Lists.{in_later, place_in, some_same}
use Rattle.history_laws.specs.Replays.{Does, EntryStep, Idle, Replays}
use Rattle.node_core.specs.Members.{IsMadeOfRows, StartsAgainFrom, line_of, peers_of}
use Rattle.node_core.proofs.MadeAgain.{same_operator, same_provider}
use Rattle.node_replay.specs.Replayed.{restart_entry}
use Rattle.operator_rows.specs.State as operator
use Rattle.operator_rows.specs.Steps as operator_steps
use Rattle.operator_steps.specs.Events as operator_events
use Rattle.operator_stored.proofs.BadRows.{make_again as operator_again}
use Rattle.operator_stored.proofs.Putting.{none_put}
use Rattle.provider_rows.specs.State as provider
use Rattle.provider_rows.specs.Steps as provider_steps
use Rattle.provider_steps.specs.Events as provider_events
use Rattle.provider_stored.proofs.Made.{made_of_none}
use Rattle.provider_stored.proofs.Told.{make_again as provider_again}
use Rattle.replays.specs.Happenings.{Came, Happening, Opened, OpenedRun, entries_behind, openings_in}
use Rattle.stored_laws.specs.Nodes.{AreNodeRows, CanStartAgain, IsOfOpening, restarted}
use Rattle.stored_laws.proofs.Openings.{nodes_keep_openings}
use Rattle.stored_laws.proofs.Starting.{openings_can_start_again}
use Rattle.tables.proofs.Elements.{in_front}
use Rattle.world_laws.specs.Laws.{IsSetup}
use Rattle.world_laws.proofs.Setups.{one_node}
use Rattle.world_steps.specs.Steps as steps
use Rattle.world_steps.specs.Steps.{AtOperator, AtProvider}
use Rattle.world_steps.specs.World.{NodeState, Operates, Provides, opening_of}
use Rattle.weave_runs.proofs.LifeLemmas.{Leads, OpensSo}
use Rattle.weave_runs.proofs.NumberLemmas.{entry_can}

-- ---- a node that is made of rows

made_of_opening : (setup : List Node) (m : Node) (rows : List Row) (n : NodeState) → IsMadeOfRows setup m rows n → IsOfOpening (opening_of setup m) n
made_of_opening setup (node.Operator party site) rows (Operates s) made = ap operator_steps.restarted made.of_site
made_of_opening setup (node.Operator party site) rows (Provides s) made = absurd made
made_of_opening setup (node.Provider party) rows (Operates s) made = absurd made
made_of_opening setup (node.Provider party) rows (Provides s) made = ap provider_steps.restarted made.with_peers

-- it is the one that had them, as it starts again
again : (setup : List Node) (m : Node) (rows : List Row) (u : NodeState) → IsMadeOfRows setup m rows u → CanStartAgain u → (n : NodeState) → CanStartAgain n → StartsAgainFrom setup m rows n
    → u ≡ restarted n
again setup (node.Operator party site) rows (Operates s) made can n can_start from =
    same_operator setup party site rows (line_of setup party site) refl s
    (λ z sound starts. (operator_again (line_of setup party site) rows z sound starts).same s can.sound.sound made) n can_start from
again setup (node.Operator party site) rows (Provides s) made can n can_start from = absurd made
again setup (node.Provider party) rows (Operates s) made can n can_start from = absurd made
again setup (node.Provider party) rows (Provides s) made can n can_start from =
    same_provider setup party rows (peers_of setup party) refl s
    (λ z sound keyed starts. (provider_again (peers_of setup party) rows z sound keyed starts).same s can.sound.1 made) n can_start from

-- ---- the first run

no_rows_first : (setup : List Node) (m : Node) → AreNodeRows [] (opening_of setup m)
no_rows_first setup (node.Operator party site) = (none_put (line_of setup party site) (operator.opening (line_of setup party site)) refl).has_rows
no_rows_first setup (node.Provider party) = (made_of_none (peers_of setup party) (provider.opening (peers_of setup party)) refl).has_rows

first_again : (setup : List Node) (m : Node) → restarted (opening_of setup m) ≡ opening_of setup m
first_again setup (node.Operator party site) = refl
first_again setup (node.Provider party) = refl

-- of no rows the node is made that stands before its first event
pub opened_first : (setup : List Node) → IsSetup setup → (m : Node) → Contains setup m → (u : NodeState) → IsMadeOfRows setup m [] u → CanStartAgain u → u ≡ opening_of setup m
opened_first setup is_setup m within u made can =
    again setup m [] u made can (opening_of setup m) (openings_can_start_again setup is_setup m within)
    (record { of_member = nodes_keep_openings.at_first setup m; has_rows = no_rows_first setup m })
    ∙ first_again setup m

-- ---- a later one

restarts : (n : NodeState) → EntryStep n restart_entry (restarted n)
restarts (Operates s) = Does (AtOperator (record { input = operator_events.Restarts; changes = []; packets = [] })) (record { brings = refl; step = steps.Restarted refl refl; sends = refl })
restarts (Provides s) = Does (AtProvider (record { input = provider_events.Restarts; changes = []; packets = [] })) (record { brings = refl; step = steps.Restarted refl refl; sends = refl })

entry_keeps : (first n m : NodeState) (e : Entry) → IsOfOpening first n → EntryStep n e m → IsOfOpening first m
entry_keeps first n m e is (Does x did) = nodes_keep_openings.by_steps first n m x is did.step
entry_keeps first n m e is (Idle idle) = subst (IsOfOpening first) (sym idle.same) is

one_member : (setup : List Node) → IsSetup setup → (m n : Node) → Contains setup m → Contains setup n → key (party_of m) ≡ key (party_of n) → m ≡ n
one_member setup is_setup m n first second same =
    let a = place_in setup m first in
    let b = place_in setup n second in
    let here = one_node setup is_setup a.0 b.0 m n a.1 b.1 same in
    some_same m n (sym a.1 ∙ ap (slice_get setup) here ∙ b.1)

module _ (setup : List Node) (is_setup : IsSetup setup) (w : List ℕ) (m : Node) (within : Contains setup m) (same : key (party_of m) ≡ key w) where
  -- the node that a later run was opened with is the one before, as it starts again
  reopened : (s : NodeState) (o : OpenedRun) (u : NodeState) → CanStartAgain s → IsOfOpening (opening_of setup m) s → o.setup ≡ setup
      → OpensSo w (λ rows. AreNodeRows rows s) o u → u ≡ restarted s
  reopened s o u can of one opens =
      let inside = subst (λ (ns : List Node). Contains ns o.member) one opens.within in
      let member = one_member setup is_setup o.member m inside within (opens.same ∙ sym same) in
      let made : IsMadeOfRows setup m opens.rows u = subst (λ (n : Node). IsMadeOfRows setup n opens.rows u) member
      (subst (λ (ns : List Node). IsMadeOfRows ns o.member opens.rows u) one opens.made) in
      again setup m opens.rows u made opens.starts s can (record { of_member = of; has_rows = opens.had })

  pub replays_on : (p : List ℕ) (s t : NodeState) (hs : List Happening) → CanStartAgain s → IsOfOpening (opening_of setup m) s → ((o : OpenedRun) → Contains (openings_in hs) o → o.setup ≡ setup)
      → Leads w p s hs t → Replays s (entries_behind hs) t
  replays_on p s t [] can of one leads = sym leads
  replays_on p s t (Came text x ∷ hs) can of one (u, step, reads, rest) =
      (u, step, replays_on p u t hs (entry_can s u x.entry can step) (entry_keeps (opening_of setup m) s u x.entry of step) one rest)
  replays_on p s t (Opened o ∷ hs) can of one (u, opens, rest) =
      let is = reopened s o u can of (one o (in_front o (openings_in hs))) opens in (
        u,
        subst (EntryStep s restart_entry) (sym is) (restarts s),
        replays_on (party_of o.member) u t hs opens.starts (subst (IsOfOpening (opening_of setup m)) (sym is) (nodes_keep_openings.by_restarts (opening_of setup m) s of))
            (λ x inside. one x (in_later o (openings_in hs) x inside)) rest,
      )
