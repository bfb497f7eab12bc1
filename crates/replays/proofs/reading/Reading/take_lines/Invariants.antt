use Rattle.std.proofs.Common.{◌≡◌, ◌+◌, length}
use Rattle.replays.specs.Answering.{shown}
use Rattle.replays.specs.CutRuns.{HasNumbers}
use Rattle.replays.specs.RunParts.{AreRead, IsSameNode}
use Rattle.replays.proofs.reading.Reading.take_lines.Given as goal

-- the lines in front of the rest were read
abbrev pub invariant-loop-bytes : goal.invariant-loop-bytes
invariant-loop-bytes l =
    AreRead (shown l.fn.running) l.behind.rest.now l.fn.self.story (l.behind.line.number + 2) (shown l.running) l.rest l.self.story l.number
    × IsSameNode l.fn.self l.self × (l.running.opening ≡ l.fn.running.opening) × HasNumbers l.number l.rest

abbrev pub decreases-loop-bytes : goal.decreases-loop-bytes
decreases-loop-bytes l = length l.rest
