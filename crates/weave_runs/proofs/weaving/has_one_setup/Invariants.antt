use Rattle.std.proofs.Common.{◌≡◌, take}
use Rattle.std.specs.Prelude.{Contains}
use Rattle.replays.specs.declared.transcript.Opening.{Opening}
use Rattle.weave_runs.proofs.weaving.has_one_setup.Given as goal

-- the runs before this one have that setup
abbrev pub invariant-loop-opening : goal.invariant-loop-opening
invariant-loop-opening l = (x : Opening) → Contains (take l.opening-index l.transcript.openings) x → x.setup ≡ l.first.setup
