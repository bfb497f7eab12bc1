use Rattle.std.proofs.Common.{◌≡◌, drop}
use Rattle.world.proofs.finding.of_party.Given as goal
use Rattle.world.specs.Deliveries.{first_of}

abbrev pub invariant-loop-place : goal.invariant-loop-place
invariant-loop-place l = first_of (drop l.place-index l.places) l.party ≡ first_of l.places l.party
