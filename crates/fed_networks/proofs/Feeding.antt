-- Nodes that were fed have lives.
use Rattle.std.specs.FinMap.{empty, get-empty}
use Rattle.std.proofs.Common.{◌≡◌, List, [], ◌∷◌, map, refl, sym, ap, subst}
use Rattle.std.specs.Prelude.{Contains}
use Rattle.feeding_laws.specs.Fed.{FedRunsAreExact}
use Rattle.node_keepers.specs.Opening.{Source}
use Rattle.node_rows.specs.Laws.{EmptyIsHeld}
use Rattle.node_store.specs.Contents.{line_place, number_kept}
use Rattle.stored_laws.specs.Nodes.{NodesCanStartAgain, OpeningsCanStartAgain}
use Rattle.stored_nodes.specs.Keepers.{Keeper}
use Rattle.tables.proofs.Elements.{in_front, in_later}
use Rattle.tables.specs.Keys.{text_pair_cmp}
use Rattle.world_laws.specs.Laws.{IsSetup}
use Rattle.world_steps.specs.World.{opening_of}
use Rattle.fed_networks.proofs.Merging.{nodes_form_networks}
use Rattle.fed_networks.specs.Fed.{AreLivesOf, FedNode, FedNodesFormNetworks, IsLifeOf}
use Rattle.fed_networks.specs.Laws.{AreNodes}
use Rattle.fed_networks.specs.Lives.{History, Life, NodeSetups, history_of}

module _ {K : Type 0} (keeper : Keeper K) (source : Source K) (exact : FedRunsAreExact keeper source) (held : EmptyIsHeld) (openings : OpeningsCanStartAgain) where
  life_of : (n : FedNode keeper source) → IsSetup n.of.setup → Contains n.of.setup n.of.member → (l : Life) × IsLifeOf n l
  life_of n is_setup within =
      let e = exact n.of.setups n.lines empty n.last (record { state = opening_of n.of.setup n.of.member; line = 1 }) n.seen
      (record { starts = openings n.of.setup is_setup n.of.member within; rows = held.openings n.of.setup n.of.member; line = ap number_kept (get-empty text_pair_cmp line_place) }) refl n.runs in
      (record { of = n.of; lines = n.lines; last = e.exact.member; number = e.exact.last; now = e.exact.now; came = e.exact.came }, (e, refl))

  record Lived (ns : List (FedNode keeper source)) : Type 0 where
    lives : List Life
    are : AreLivesOf ns lives
    of : map (λ (n : FedNode keeper source). n.of) ns ≡ map (λ (h : History). h.of) (map history_of lives)

  all_lived : (ns : List (FedNode keeper source)) → ((n : NodeSetups) → Contains (map (λ (n : FedNode keeper source). n.of) ns) n → IsSetup n.setup × Contains n.setup n.member) → Lived ns
  all_lived [] each = record { lives = []; are = tt; of = refl }
  all_lived (n ∷ ns) each =
      let of_ns : List NodeSetups = map (λ (n : FedNode keeper source). n.of) ns in
      let here = each n.of (in_front n.of of_ns) in
      let l = life_of n here.0 here.1 in
      let ls = all_lived ns (λ m within. each m (in_later n.of of_ns m within)) in
      record { lives = l.0 ∷ ls.lives; are = (l.1, ls.are); of = λ i. ap (λ (x : Life). x.of) (sym l.1.1) i ∷ ls.of i }

pub fed_nodes_form_networks : NodesCanStartAgain → OpeningsCanStartAgain → EmptyIsHeld → {K : Type 0} (keeper : Keeper K) (source : Source K) → FedRunsAreExact keeper source → FedNodesFormNetworks keeper source
fed_nodes_form_networks again openings held keeper source exact nodes are =
    let ls = all_lived keeper source exact held openings nodes (λ n within. (are.setups n within, are.members n within)) in
    (ls.lives, ls.are, λ xs happened invent. nodes_form_networks again openings ls.lives xs (subst AreNodes ls.of are) happened invent)
