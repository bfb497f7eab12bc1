use Rattle.node_store.proofs.ClosedFiles.{closed_files_are_found}
use Rattle.node_store.proofs.laws.closed_files_are_found.Goals as goal

pub returns : goal.returns
returns g c = closed_files_are_found g.D.Disk g.E.Disk
