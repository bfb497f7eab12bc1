use Rattle.std.proofs.Common.{ℕ, ◌<◌}
use Rattle.ocpi_types.specs.declared.packet.Packet.{Packet}
use Rattle.world.proofs.finding.delivered.Given as goal
use Rattle.world.specs.Deliveries.{IsPlaceOf}
use Rattle.world_steps.specs.Deliveries.{IsSentTo}
use Rattle.world.specs.declared.place.Place.{Place}

abbrev pub invariant-loop-i : goal.invariant-loop-i
invariant-loop-i l = (k : ℕ) (p : Place) (q : Packet) → k < l.i → IsPlaceOf l.places l.from k p → IsSentTo p.sent.items l.to l.serial q → ⊥
