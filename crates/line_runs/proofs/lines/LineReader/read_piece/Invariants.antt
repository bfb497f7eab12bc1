use Rattle.std.proofs.Common.{◌≡◌, ◌≢◌, ℕ, List, All, take}
use Rattle.std.specs.Io.KnownBytes.{Consumes}
use Rattle.line_runs.specs.declared.lines.TheConstants.{ROOM}
use Rattle.line_runs.proofs.EchoLemmas.{EchoedSoFar}
use Rattle.line_runs.proofs.lines.LineReader.read_piece.Given as goal

-- the bytes read so far have no line feed, the first of them are kept, and they are echoed
abbrev pub invariant-loop-turn : goal.invariant-loop-turn
invariant-loop-turn g l = (done : List ℕ) × Consumes (g.R.Read.remaining l.fn.self.reader) (g.R.Read.remaining l.self.reader) done × All (λ b. b ≢ 10) done × (l.line.items ≡ take ROOM done)
    × EchoedSoFar l.fn.echo done l.held (g.W.Write.contents l.fn.writer) (g.W.Write.contents l.writer)
