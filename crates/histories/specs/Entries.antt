-- The history of a node: what happened at it and what it sent then, entry by entry.
use Rattle.std.specs.Prelude.{◌≡◌, ℕ, ◌+◌, List, Some, slice_get}
use Rattle.std.specs.List.{flat_map}
use Rattle.ocpi_text.specs.Text.{key}
use Rattle.ocpi_types.specs.declared.node_events.NodeEventKind.TheVariants as event
use Rattle.ocpi_types.specs.declared.packet.Packet.{Packet}
use Rattle.histories.specs.declared.entry.Entry.{Entry}

abbrev pub packets_of : Entry → List Packet
packets_of e = e.packets

-- all packets of a history, in order
abbrev pub sent : List Entry → List Packet
sent es = flat_map packets_of es

-- the entry is that this packet comes, at some moment
abbrev pub Delivers : Entry → Packet → Type 0
Delivers e q = (at : ℕ) × (e.event ≡ event.Deliver at q)

-- the packets are those of a party, in whichever case, under the serials behind that one
abbrev pub IsNumbered : List ℕ → ℕ → List Packet → Type 0
IsNumbered party before packets = (k : ℕ) (q : Packet) → slice_get packets k ≡ Some q → (key q.from ≡ key party) × (q.serial ≡ before + (k + 1))
