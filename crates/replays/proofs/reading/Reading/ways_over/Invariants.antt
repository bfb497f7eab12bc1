use Rattle.std.proofs.Common.{take}
use Rattle.replays.proofs.WayLemmas.{ArePassed}
use Rattle.replays.specs.LineTurns.{held_in}
use Rattle.replays.proofs.reading.Reading.ways_over.Given as goal

-- the members before this place were passed
abbrev pub invariant-loop-place : goal.invariant-loop-place
invariant-loop-place l = ArePassed l.self l.setup l.piece.is_closed l.piece.bytes.now (held_in l.held) (take l.place l.setup) l.parties.items
