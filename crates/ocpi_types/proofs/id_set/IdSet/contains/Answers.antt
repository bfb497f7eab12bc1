use Rattle.std.proofs.Common.{◌∙◌}
use Rattle.ocpi_types.proofs.Ids.{held}
use Rattle.ocpi_types.proofs.id_set.IdSet.contains.Goals as goal

pub returns : goal.returns
returns c = c.contains.ensures ∙ held c.self.inside.keys.keys c.key.result c.self.view_is c.key.ensures
