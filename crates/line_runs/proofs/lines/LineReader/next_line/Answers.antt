use Rattle.std.proofs.Common.{false}
use Rattle.line_runs.proofs.EchoLemmas.{either_way, part_in_line}
use Rattle.line_runs.proofs.lines.LineReader.next_line.Goals as goal

pub returns-clause-err : goal.returns-clause-err
returns-clause-err g c = part_in_line c.next_echoed.result false _ _ _ _ c.next_echoed.ensures.err

pub returns-clause-writer : goal.returns-clause-writer
returns-clause-writer g c = either_way c.next_echoed.result _ c.next_echoed.ensures.echoed c.next_echoed.ensures.begun
