-- Of which nodes of a setup cells are.
use Rattle.std.proofs.Common.{◌≡◌, ◌∙◌, ℕ, List, length, sym, ap, subst}
use Rattle.std.proofs.lemmas.List.Elements.{All-contains}
use Rattle.std.specs.Prelude.{All, Contains, Some, slice_get}
use Rattle.cell_openings.specs.Opened.{IsOfSetup, IsOpenedAs}
use Rattle.histories.proofs.Lists.{got_within, is_in, place_in, some_same}
use Rattle.node_desk.specs.Logs.{GoesOn, Log, log_of}
use Rattle.node_harness.specs.Opened.{AreOpened, RanOf}
use Rattle.node_harness.specs.Settled.{AreSettled}
use Rattle.node_harness.specs.declared.settling.NodeRan.{NodeRan}
use Rattle.node_cells.specs.Cells.{Cell}
use Rattle.ocpi_text.specs.Text.{key}
use Rattle.ocpi_types.specs.Setups.{party_of}
use Rattle.ocpi_types.specs.declared.node_events.NodeEventKind.{NodeEventKind}
use Rattle.ocpi_types.specs.declared.setup.Node.{Node}
use Rattle.world_laws.proofs.Setups.{one_node}
use Rattle.world_laws.specs.Laws.{IsSetup}

-- the cell of a setup's node is so after more entries
pub still : {K : Type 0} (setup : List Node) (c d : Cell K) → IsOfSetup setup c → d.party ≡ c.party → d.first ≡ c.first → IsOfSetup setup d
still setup c d of party first =
    record { member = of.member; among = of.among; opened = record { party = party ∙ of.opened.party; first = first ∙ of.opened.first } }

-- the cell of a desk that is closed is of the node that it was of, and began as that did
pub goes_party : {K : Type 0} (before : Log) (new : Cell K) (number : ℕ) → GoesOn before (log_of new) number → new.party ≡ before.party
goes_party before new number goes = goes.party

pub goes_first : {K : Type 0} (before : Log) (new : Cell K) (number : ℕ) → GoesOn before (log_of new) number → new.first ≡ before.first
goes_first before new number goes = goes.first

-- which is the node of the cell that it was made of
pub same_party : {K : Type 0} (before : Log) (old new : Cell K) → log_of old ≡ before → new.party ≡ before.party → new.party ≡ old.party
same_party before old new is goes = goes ∙ ap (λ (l : Log). l.party) (sym is)

pub same_first : {K : Type 0} (before : Log) (old new : Cell K) → log_of old ≡ before → new.first ≡ before.first → new.first ≡ old.first
same_first before old new is goes = goes ∙ ap (λ (l : Log). l.first) (sym is)

module _ (setup : List Node) (is_setup : IsSetup setup) (script : ℕ → List NodeEventKind) (nodes : List NodeRan) (settled : AreSettled setup script nodes (length setup)) (all : All (RanOf setup) nodes) where
  -- the cell at a place is of that node which stands there: of the setup there is but one of its party
  opened_at : (k : ℕ) (member : Node) (node : NodeRan) → slice_get setup k ≡ Some member → slice_get nodes k ≡ Some node → IsOpenedAs setup member node.cell
  opened_at k member node at_m at_n =
      let of = All-contains (RanOf setup) nodes node all (is_in nodes k node at_n) in
      let place = place_in setup of.member of.among in
      let by_key = (settled.each k member node (got_within setup k member at_m) at_m at_n).of_party in
      let here = one_node setup is_setup place.0 k of.member member place.1 at_m (ap key (sym of.opened.party) ∙ by_key) in
      let same : of.member ≡ member = some_same of.member member (sym place.1 ∙ ap (slice_get setup) here ∙ at_m) in
      subst (λ (m : Node). IsOpenedAs setup m node.cell) same of.opened

  opened_each : AreOpened setup nodes
  opened_each = record { each = opened_at }

-- so is each cell of settled nodes of a named setup
pub opened : (setup named : List Node) (script : ℕ → List NodeEventKind) (nodes : List NodeRan) → IsSetup setup → setup ≡ named → AreSettled setup script nodes (length setup) → All (RanOf named) nodes
    → AreOpened setup nodes
opened setup named script nodes is_setup same settled all =
    opened_each setup is_setup script nodes settled (subst (λ (s : List Node). All (RanOf s) nodes) (sym same) all)
