use Rattle.std.proofs.Common.{rules}
use Rattle.std.proofs.KnownBytes.{Keeps-refl}
use Rattle.line_runs.proofs.EchoLemmas.{cuts_nothing}
use Rattle.line_runs.proofs.lines.LineReader.next_part.Goals as goal

pub returns-in-Err-clause-err : goal.returns-in-Err-clause-err
returns-in-Err-clause-err g c = (search rules, Keeps-refl _, cuts_nothing c.args.echo c.in-Err.fault c.args.held.now _ _ _ c.in-Err.ensures.writer)
