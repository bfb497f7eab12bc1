use Rattle.std.specs.Io.KnownBytes.{Keeps}
use Rattle.line_runs.proofs.lines.is_at_end.Given as goal

-- nothing is taken
abbrev pub invariant-loop-turn : goal.invariant-loop-turn
invariant-loop-turn g l = Keeps (g.R.Read.remaining l.fn.reader) (g.R.Read.remaining l.reader)
