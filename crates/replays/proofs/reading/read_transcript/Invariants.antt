use Rattle.std.proofs.Common.{length}
use Rattle.replays.proofs.FileRead.{IsSoFar}
use Rattle.replays.proofs.Facts.{Stores}
use Rattle.replays.specs.CutRuns.{HasNumbers}
use Rattle.replays.specs.LineTurns.{held_in}
use Rattle.replays.specs.Transcripts.{HasOwnUrls}
use Rattle.replays.proofs.reading.read_transcript.Given as goal

-- the runs in front of the rest were read
abbrev pub invariant-loop-run : goal.invariant-loop-run
invariant-loop-run l =
    IsSoFar Stores (HasOwnUrls l.fn.start.held.rows) l.fn.earlier (held_in l.fn.start.held) l.fn.text l.reading l.runs.rest.now l.runs.number × HasNumbers l.runs.number l.runs.rest.now

abbrev pub decreases-loop-run : goal.decreases-loop-run
decreases-loop-run l = length l.runs.rest.now
