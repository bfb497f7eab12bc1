use Rattle.fed_networks.proofs.Merging as merging
use Rattle.fed_networks.proofs.laws.nodes_form_networks.Goals as goal

pub returns : goal.returns
returns c = merging.nodes_form_networks c.nodes_can_start_again.ensures c.openings_can_start_again.ensures
