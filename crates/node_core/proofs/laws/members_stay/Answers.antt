use Rattle.node_core.proofs.Members.{after_of_member, opening_of_member}
use Rattle.node_core.proofs.laws.members_stay.Goals as goal

pub returns : goal.returns
returns c = record { at_first = opening_of_member; by_work = after_of_member }
