use Rattle.node_keepers.proofs.FileLemmas.{handed_on}
use Rattle.node_keepers.proofs.files.open_file.Goals as goal

-- a keeper whose log was looked after is the one that was opened
pub returns-clause-found : goal.returns-clause-found
returns-clause-found g c = handed_on _ c.open_file_from.result _ c.keeper_of.ensures.same c.keeper_of.ensures.fault c.open_file_from.ensures.content

pub returns-clause-stops : goal.returns-clause-stops
returns-clause-stops g c = handed_on _ c.open_file_from.result _ c.keeper_of.ensures.same c.keeper_of.ensures.fault c.open_file_from.ensures.stops
