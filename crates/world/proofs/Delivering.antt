-- What may be delivered.
use Rattle.std.proofs.Common.{◌≡◌, ℕ, ◌<◌, List, length, get_or, refl, ap, ◌∙◌}
use Rattle.std.specs.Prelude.{Some, slice_get, option_map}
use Rattle.std.proofs.lemmas.Option.{slice_get-map, slice_get_read, slice_get_within}
use Rattle.ocpi_text.specs.Text.{key}
use Rattle.ocpi_types.specs.declared.packet.Packet.{Packet}
use Rattle.world.specs.Deliveries.{IsPlaceOf}
use Rattle.world_steps.specs.Deliveries.{IsSentTo}
use Rattle.world.specs.Seen.{place_seen, places_seen}
use Rattle.world.specs.declared.place.Place.{Place}
use Rattle.world_steps.specs.Network.{MayArrive}
use Rattle.world_steps.specs.World as steps
use Rattle.world_steps.proofs.Places.{of_mapped}

-- the place that was read
pub is_here : (places : List Place) (i : ℕ) (x : Place) → i < length places → x ≡ get_or places i x → slice_get places i ≡ Some x
is_here places i x within is = slice_get_read places (length places) i x refl within is

pub may_arrive : (places : List Place) (to from : List ℕ) (serial i : ℕ) (p : Place) (q : Packet) → slice_get places i ≡ Some p → key p.party ≡ key from → IsSentTo p.sent.items to serial q →
    MayArrive (places_seen places) to from serial q
may_arrive places to from serial i p q here same sent = record {
  was_sent = record {
    number = i;
    sender = place_seen p;
    at = record { here = slice_get-map place_seen places i ∙ ap (option_map place_seen) here; same = same };
    position = sent.position;
    serial_is = sent.serial_is;
    stands = sent.stands;
  };
  addressed = sent.addressed;
}

pub none_arrives : (places : List Place) (to from : List ℕ) (serial : ℕ) (q : Packet) → ((k : ℕ) (p : Place) → k < length places → IsPlaceOf places from k p → IsSentTo p.sent.items to serial q → ⊥) →
    MayArrive (places_seen places) to from serial q → ⊥
none_arrives places to from serial q none may =
    let sent = may.was_sent in
    let (x, here, is) = of_mapped place_seen places sent.number sent.sender sent.at.here in
    none sent.number x (slice_get_within places sent.number x here)
    (record { here = here; same = ap (λ (z : steps.Place). key z.party) is ∙ sent.at.same })
    (record { position = sent.position; serial_is = sent.serial_is; stands = ap (λ (z : steps.Place). slice_get z.sent sent.position) is ∙ sent.stands; addressed = may.addressed })
