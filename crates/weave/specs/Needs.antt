-- The packets of each history by their serials, and what each entry waits for.
use Rattle.std.specs.Prelude.{◌≡◌, ℕ, ◌+◌, List, None, Some, Vec, length, map, slice_get}
use Rattle.std.specs.Borrow.{Bor}
use Rattle.ocpi_text.specs.Text.{key}
use Rattle.ocpi_types.specs.declared.packet.Packet.{Packet}
use Rattle.histories.specs.declared.entry.Entry.{Entry}
use Rattle.histories.specs.declared.history.NodeHistory.{NodeHistory}
use Rattle.histories.specs.Entries.{sent}
use Rattle.weave.specs.declared.needs.Need.{Need}
use Rattle.weave.specs.Given.{Asks}

abbrev pub now_of : List (Bor Packet) → List Packet
now_of rs = map (λ (r : Bor Packet). r.now) rs

abbrev pub row_of : {A : Type 0} → Vec (Bor Packet) A → List Packet
row_of v = now_of v.items

abbrev pub sent_in : NodeHistory → List Packet
sent_in h = sent h.entries.now

-- a row for each history, of all that it sent
abbrev pub IsTable : {A : Type 0} → List NodeHistory → List (Vec (Bor Packet) A) → Type 0
IsTable hs rows = map row_of rows ≡ map sent_in hs

-- the packet stands at that serial, where the first stands behind that one
pub record StandsAt (packets : List Packet) (before serial : ℕ) (q : Packet) : Type 0 where
  pub position : ℕ
  pub serial_is : serial ≡ before + (position + 1)
  pub stands : slice_get packets position ≡ Some q

-- no packet stands at that serial
abbrev pub IsMissing : List Packet → ℕ → ℕ → Type 0
IsMissing packets before serial = (k : ℕ) → serial ≡ before + (k + 1) → slice_get packets k ≡ None

-- the packet's sender has this number, and gave it, under its serial
pub record IsGivenBy (hs : List NodeHistory) (n : Need) (q : Packet) : Type 0 where
  pub sender : NodeHistory
  pub here : slice_get hs n.sender ≡ Some sender
  pub same : key sender.party ≡ key q.from
  pub serial_is : n.serial ≡ q.serial
  pub stands : StandsAt (sent sender.entries.now) sender.before q.serial q

-- what the entry waits for: the packet that it delivers; or nothing, where it delivers none, or one that is taken as it
-- came
pub data IsNeed (given : List (List ℕ)) (hs : List NodeHistory) (e : Entry) (n : Need) : Type 0 where
  OfPacket : (q : Packet) → Asks given hs e q → IsGivenBy hs n q → IsNeed given hs e n
  OfNothing : ((q : Packet) → Asks given hs e q → ⊥) → (h : NodeHistory) → slice_get hs n.sender ≡ Some h → n.serial ≡ 0 → IsNeed given hs e n

-- what each of these entries waits for
pub record AreNeeds (given : List (List ℕ)) (hs : List NodeHistory) (es : List Entry) (ns : List Need) : Type 0 where
  pub size : length ns ≡ length es
  pub each : (k : ℕ) (e : Entry) (n : Need) → slice_get es k ≡ Some e → slice_get ns k ≡ Some n → IsNeed given hs e n

-- what each entry of the history of that number waits for
abbrev pub AreNeedsAt : {A : Type 0} → List (List ℕ) → List NodeHistory → ℕ → Vec Need A → Type 0
AreNeedsAt given hs i v = (h : NodeHistory) → slice_get hs i ≡ Some h → AreNeeds given hs h.entries.now v.items

-- a row for each of the first histories, of what each of its entries waits for
pub record AreAllNeeds {A : Type 0} (given : List (List ℕ)) (hs : List NodeHistory) (count : ℕ) (rows : List (Vec Need A)) : Type 0 where
  pub size : length rows ≡ count
  pub each : (i : ℕ) (v : Vec Need A) → slice_get rows i ≡ Some v → AreNeedsAt given hs i v
