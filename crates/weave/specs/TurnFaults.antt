-- What is told where there is no order of entries, by the entries that it names. What given parties sent is taken as it
-- came.
use Rattle.std.specs.Prelude.{◌≡◌, ◌≢◌, ◌⊎◌, ◌<◌, ◌≤◌, ℕ, List, [], Some, Contains, length, slice_get, slice_index, take}
use Rattle.ocpi_text.specs.Text.{key}
use Rattle.ocpi_types.specs.declared.packet.Packet.{Packet}
use Rattle.histories.specs.declared.entry.Entry.{Entry}
use Rattle.histories.specs.declared.history.NodeHistory.{NodeHistory}
use Rattle.histories.specs.Causes.{IsGiven, IsUnsent}
use Rattle.histories.specs.Entries.{Delivers, packets_of}
use Rattle.histories.specs.Weaving.{Woven, history}
use Rattle.weave.specs.declared.needs.Gap.{Gap}
use Rattle.weave.specs.declared.needs.Gap.TheVariants as gap
use Rattle.weave.specs.declared.needs.Need.{Need}
use Rattle.weave.specs.declared.turn.Turn.{Turn}
use Rattle.weave.specs.declared.turn_fault.TurnFault.{TurnFault}
use Rattle.weave.specs.declared.turn_fault.TurnFault.TheVariants.{Differs, Memory, NeverSent, NoOrder}
use Rattle.weave.specs.Faults.{EntryAt}
use Rattle.weave.specs.Given.{AreAllGivenWith, Asks, IsBlockWith, IsWovenWith}
use Rattle.weave.specs.Needs.{StandsAt, sent_in}

-- ---- a packet that came

-- the turn names an entry that delivers the packet
pub record Comes (hs : List NodeHistory) (t : Turn) (q : Packet) : Type 0 where
  pub entry : Entry
  pub at : EntryAt hs t.history t.entry entry
  pub delivers : Delivers entry q

-- the entry of that place in the history of that number stands before the one that the turn names: histories in order,
-- and entries of each
abbrev pub IsEarlier : ℕ → ℕ → Turn → Type 0
IsEarlier i k t = (i < t.history) ⊎ ((i ≡ t.history) × (k < t.entry))

-- what these entries deliver, but from given parties, was sent so
abbrev pub AreGivenWhere : List (List ℕ) → List NodeHistory → (ℕ → ℕ → Type 0) → Type 0
AreGivenWhere given hs P = (i k : ℕ) (e : Entry) → P i k → EntryAt hs i k e → (r : Packet) → Asks given hs e r → IsGiven hs r

-- the turn names an entry that delivers the packet, from no given party; and what earlier entries deliver was sent so
pub record CameFirst (given : List (List ℕ)) (hs : List NodeHistory) (came : Turn) (q : Packet) : Type 0 where
  pub entry : Entry
  pub at : EntryAt hs came.history came.entry entry
  pub asks : Asks given hs entry q
  pub before : AreGivenWhere given hs (λ i k. IsEarlier i k came)

-- the turn names the entry of the packet's sender that gave the one of its serial; and that differs
pub record IsSentOtherwiseBy (hs : List NodeHistory) (t : Turn) (q : Packet) : Type 0 where
  pub sender : NodeHistory
  pub here : slice_get hs t.history ≡ Some sender
  pub same : key sender.party ≡ key q.from
  pub entry : Entry
  pub stands : slice_get sender.entries.now t.entry ≡ Some entry
  pub packet : Packet
  pub was_given : Contains (packets_of entry) packet
  pub serial : packet.serial ≡ q.serial
  pub apart : packet ≢ q

-- ---- where the order comes to its end

-- some order of the entries before these places: it keeps the order of each history, and each delivery, but from a given
-- party, follows the sending of that packet
pub record IsWovenUpTo (given : List (List ℕ)) (hs : List NodeHistory) (places : List ℕ) (xs : List Woven) : Type 0 where
  pub nodes : (x : Woven) → Contains xs x → (h : NodeHistory) × Contains hs h × (h.party ≡ x.party)
  pub within : (i : ℕ) (h : NodeHistory) → slice_get hs i ≡ Some h → slice_index places i ≤ length h.entries.now
  pub order : (i : ℕ) (h : NodeHistory) → slice_get hs i ≡ Some h → history (key h.party) xs ≡ take (slice_index places i) h.entries.now
  pub names : IsWovenWith given hs [] xs

-- each history is advanced to these places in such an order, and none further in any: each next entry waits
pub record IsEnd (given : List (List ℕ)) (hs : List NodeHistory) (places : List ℕ) : Type 0 where
  pub placed : (xs : List Woven) × IsWovenUpTo given hs places xs
  pub block : IsBlockWith given hs places

-- ---- all that is told

-- What is told is so. That there is no order is told only where each packet that came, but from a given party, was sent so.
abbrev pub ExplainsTurns : List (List ℕ) → List NodeHistory → TurnFault → Type 0
ExplainsTurns given hs (NeverSent came) = (q : Packet) × CameFirst given hs came q × IsUnsent hs q
ExplainsTurns given hs (Differs came sent_by) = (q : Packet) × CameFirst given hs came q × IsSentOtherwiseBy hs sent_by q
ExplainsTurns given hs (NoOrder places) = IsEnd given hs places.items × AreAllGivenWith given hs
ExplainsTurns given hs Memory = Unit {0}

-- ---- what is told of one packet, entry or history

-- the sender has that number, and what it gave under the packet's serial differs
pub record IsGivenOtherwise (hs : List NodeHistory) (n : Need) (q : Packet) : Type 0 where
  pub sender : NodeHistory
  pub here : slice_get hs n.sender ≡ Some sender
  pub same : key sender.party ≡ key q.from
  pub packet : Packet
  pub serial_is : n.serial ≡ q.serial
  pub stands : StandsAt (sent_in sender) sender.before n.serial packet
  pub serial : packet.serial ≡ q.serial
  pub apart : packet ≢ q

-- of a packet that comes
abbrev pub BlamesPacket : List NodeHistory → Packet → Gap → Type 0
BlamesPacket hs q gap.NeverSent = IsUnsent hs q
BlamesPacket hs q (gap.Differs n) = IsGivenOtherwise hs n q

-- of an entry
abbrev pub Blames : List (List ℕ) → List NodeHistory → Entry → Gap → Type 0
Blames given hs e g = (q : Packet) × Asks given hs e q × BlamesPacket hs q g

-- the turn's entry, which stands in the history of that number, delivers the packet; and what entries before it in this
-- history deliver was sent so
pub record CameFirstIn (given : List (List ℕ)) (hs : List NodeHistory) (i : ℕ) (came : Turn) (q : Packet) : Type 0 where
  pub inside : came.history ≡ i
  pub entry : Entry
  pub at : EntryAt hs came.history came.entry entry
  pub asks : Asks given hs entry q
  pub before : AreGivenWhere given hs (λ j k. (j ≡ came.history) × (k < came.entry))

-- of a history
abbrev pub BlamesIn : List (List ℕ) → List NodeHistory → ℕ → TurnFault → Type 0
BlamesIn given hs i (NeverSent came) = (q : Packet) × CameFirstIn given hs i came q × IsUnsent hs q
BlamesIn given hs i (Differs came sent_by) = (q : Packet) × CameFirstIn given hs i came q × IsSentOtherwiseBy hs sent_by q
BlamesIn given hs i (NoOrder places) = ⊥
BlamesIn given hs i Memory = Unit {0}

-- of an entry that the turn names
abbrev pub BlamesTurn : List NodeHistory → Turn → Packet → TurnFault → Type 0
BlamesTurn hs came q (NeverSent t) = (t ≡ came) × IsUnsent hs q
BlamesTurn hs came q (Differs t sent_by) = (t ≡ came) × IsSentOtherwiseBy hs sent_by q
BlamesTurn hs came q (NoOrder places) = ⊥
BlamesTurn hs came q Memory = ⊥
