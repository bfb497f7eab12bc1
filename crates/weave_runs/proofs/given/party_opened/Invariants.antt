use Rattle.std.proofs.Common.{take}
use Rattle.std.specs.Prelude.{Contains}
use Rattle.replays.specs.declared.transcript.Opening.{Opening}
use Rattle.weave_runs.specs.Parties.{HasNoNode}
use Rattle.weave_runs.proofs.given.party_opened.Given as goal

-- no setup before this one has the party
abbrev pub invariant-loop-opening : goal.invariant-loop-opening
invariant-loop-opening l = (x : Opening) → Contains (take l.opening-index l.openings) x → HasNoNode x.setup l.party
