use Rattle.ocpi_json.proofs.RowKeyLemmas.{cut_behind}
use Rattle.ocpi_json.proofs.row_keys.behind_party.Goals as goal

pub range_from-requires : goal.range_from-requires
range_from-requires c = λ _. cut_behind c.args.key.now c.utf8.key c.requires
