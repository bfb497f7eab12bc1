use Rattle.std.proofs.Common.{refl}
use Rattle.node_keepers.proofs.FileLemmas.{all_blank}
use Rattle.node_keepers.proofs.files.open_new.Goals as goal

-- the file held nothing
pub returns-clause-blank : goal.returns-clause-blank
returns-clause-blank c = all_blank _ c.open_file.result c.open_file.ensures.found refl
