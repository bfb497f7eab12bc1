use Rattle.std.proofs.Common.{◌≡◌, take}
use Rattle.world.proofs.opening.keys_of.Given as goal
use Rattle.world.specs.Seen.{places_seen}
use Rattle.world.specs.State.{names_of}

abbrev pub invariant-loop-place : goal.invariant-loop-place
invariant-loop-place l = l.names.items ≡ names_of (places_seen (take l.place-index l.places))
