use Rattle.weave_runs.specs.Outputs.{OfFile}
use Rattle.weave_runs.proofs.weaving.weave_files.Goals as goal

pub returns : goal.returns
returns c = OfFile _ _ c.in-Err.ensures.err c.in_ok-line-in-Err.ensures
