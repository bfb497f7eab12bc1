-- How far histories are woven.
use Rattle.std.specs.Prelude.{◌≡◌, ◌<◌, ◌≤◌, ◌+◌, ℕ, List, [], Option, None, Some, Contains, length, slice_get, slice_index, sum, sum_by, take}
use Rattle.ocpi_text.specs.Text.{key}
use Rattle.ocpi_types.specs.declared.packet.Packet.{Packet}
use Rattle.histories.specs.declared.entry.Entry.{Entry}
use Rattle.histories.specs.declared.history.NodeHistory.{NodeHistory}
use Rattle.histories.specs.Entries.{sent}
use Rattle.histories.specs.Weaving.{Woven, history}
use Rattle.weave.specs.declared.turn.Turn.{Turn}
use Rattle.weave.specs.Given.{Asks, IsWovenWith}
use Rattle.weave.specs.Turns.{AreTurns}

-- how far one history is woven: to that place, and what it sent so far is numbered up to that serial
pub record IsWovenTo (h : NodeHistory) (place newest : ℕ) (xs : List Woven) : Type 0 where
  pub before : history (key h.party) xs ≡ take place h.entries.now
  pub within : place ≤ length h.entries.now
  pub newest_is : newest ≡ h.before + length (sent (history (key h.party) xs))

-- the turns name the entries before these places, woven, and what each history sent last by them has these serials
pub record Reached (given : List (List ℕ)) (hs : List NodeHistory) (places newest : List ℕ) (turns : List Turn) : Type 0 where
  pub xs : List Woven
  pub nodes : (x : Woven) → Contains xs x → (h : NodeHistory) × Contains hs h × (h.party ≡ x.party)
  pub names : IsWovenWith given hs [] xs
  pub turns_are : AreTurns hs turns xs
  pub place_each : length places ≡ length hs
  pub newest_each : length newest ≡ length hs
  pub each : (i : ℕ) (h : NodeHistory) → slice_get hs i ≡ Some h → IsWovenTo h (slice_index places i) (slice_index newest i) xs
  pub count : length turns ≡ sum places

-- the serial of the last of the packets, if there are any
abbrev pub serial_in : ℕ → Option Packet → ℕ
serial_in n None = n
serial_in n (Some q) = q.serial

-- the entry cannot be taken: it delivers what its sender has still to give
pub record IsEarly (given : List (List ℕ)) (hs : List NodeHistory) (newest : List ℕ) (e : Entry) : Type 0 where
  pub packet : Packet
  pub asks : Asks given hs e packet
  pub number : ℕ
  pub sender : NodeHistory
  pub here : slice_get hs number ≡ Some sender
  pub same : key sender.party ≡ key packet.from
  pub later : slice_index newest number < packet.serial

-- no entry of the history can be taken
abbrev pub IsStuck : List (List ℕ) → List NodeHistory → List ℕ → List ℕ → ℕ → Type 0
IsStuck given hs places newest i = (h : NodeHistory) (e : Entry) → slice_get hs i ≡ Some h → slice_get h.entries.now (slice_index places i) ≡ Some e → IsEarly given hs newest e

abbrev pub entries_in : NodeHistory → ℕ
entries_in h = length h.entries.now

-- how many entries there are
abbrev pub total : List NodeHistory → ℕ
total hs = sum_by entries_in hs
