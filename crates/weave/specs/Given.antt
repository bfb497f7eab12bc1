-- Interleavings in which what some parties sent is taken as it came, and what was sent before the histories begin. A list of given parties has them as they are
-- spelled.
use Rattle.std.specs.Prelude.{◌≡◌, ◌≤◌, ◌⊎◌, ℕ, List, [], ◌∷◌, ◌++◌, Some, Contains, length, slice_get, slice_index}
use Rattle.ocpi_text.specs.Text.{key}
use Rattle.ocpi_types.specs.declared.packet.Packet.{Packet}
use Rattle.histories.specs.declared.entry.Entry.{Entry}
use Rattle.histories.specs.declared.history.NodeHistory.{NodeHistory}
use Rattle.histories.specs.Causes.{CameTo, HasMore, IsGiven, IsGivenBefore}
use Rattle.histories.specs.Entries.{Delivers, sent}
use Rattle.histories.specs.Weaving.{CanInterleave, Interleaves, Woven, history}

-- the packet is from a given party, in whichever case
abbrev pub IsFrom : List (List ℕ) → Packet → Type 0
IsFrom given q = (party : List ℕ) × Contains given party × (key party ≡ key q.from)

-- the node of a history had sent the packet before that begins
pub record IsBefore (h : NodeHistory) (q : Packet) : Type 0 where
  pub same : key h.party ≡ key q.from
  pub first : 1 ≤ q.serial
  pub last : q.serial ≤ h.before

-- one of them had
pub record WasBefore (hs : List NodeHistory) (q : Packet) : Type 0 where
  pub sender : NodeHistory
  pub among : Contains hs sender
  pub is : IsBefore sender q

-- the entry delivers the packet, which is from no given party, and was not sent before
pub record Asks (given : List (List ℕ)) (hs : List NodeHistory) (e : Entry) (q : Packet) : Type 0 where
  pub delivers : Delivers e q
  pub not_given : IsFrom given q → ⊥
  pub not_before : WasBefore hs q → ⊥

-- what an entry delivers and is not taken as it came an earlier entry of its sender sent, equal in every field
abbrev pub NamesWith : List (List ℕ) → List NodeHistory → List Woven → Woven → Type 0
NamesWith given hs before x = (q : Packet) → Asks given hs x.entry q → Contains (sent (history (key q.from) before)) q

abbrev pub IsWovenWith : List (List ℕ) → List NodeHistory → List Woven → List Woven → Type 0
IsWovenWith given hs before [] = Unit {0}
IsWovenWith given hs before (x ∷ xs) = NamesWith given hs before x × IsWovenWith given hs (before ++ x ∷ []) xs

-- one list of all entries of the histories: it keeps the order of each, and each delivery, but from a given party or of
-- what was sent before, follows the sending of that packet
pub record InterleavesWith (given : List (List ℕ)) (hs : List NodeHistory) (xs : List Woven) : Type 0 where
  pub nodes : (x : Woven) → Contains xs x → (h : NodeHistory) × Contains hs h × (h.party ≡ x.party)
  pub order : (h : NodeHistory) → Contains hs h → history (key h.party) xs ≡ h.entries.now
  pub names : IsWovenWith given hs [] xs

-- the histories can be interleaved so
abbrev pub CanInterleaveWith : List (List ℕ) → List NodeHistory → Type 0
CanInterleaveWith given hs = (xs : List Woven) × InterleavesWith given hs xs

-- each packet that came, but from a given party or sent before, came as an entry of its sender gave it
abbrev pub AreAllGivenWith : List (List ℕ) → List NodeHistory → Type 0
AreAllGivenWith given hs = (q : Packet) → CameTo hs q → (IsFrom given q → ⊥) → (WasBefore hs q → ⊥) → IsGiven hs q

-- the entry delivers a packet, not taken as it came, that no entry of its sender before the front gave
abbrev pub WaitsWith : List (List ℕ) → List NodeHistory → List ℕ → Entry → Type 0
WaitsWith given hs front e = (q : Packet) × Asks given hs e q × (IsGivenBefore hs front q → ⊥)

-- a place for each history, of which one at least has an entry there; and each entry there waits
pub record IsBlockWith (given : List (List ℕ)) (hs : List NodeHistory) (front : List ℕ) : Type 0 where
  pub size : length front ≡ length hs
  pub some : HasMore hs front
  pub each : (i : ℕ) (h : NodeHistory) (e : Entry) → slice_get hs i ≡ Some h → slice_get h.entries.now (slice_index front i) ≡ Some e → WaitsWith given hs front e

-- ---- where nobody is given

-- no packet came from a given party, and none was sent before
abbrev pub CameFromNone : List (List ℕ) → List NodeHistory → Type 0
CameFromNone given hs = (q : Packet) → CameTo hs q → IsFrom given q ⊎ WasBefore hs q → ⊥

-- then these are the interleavings in which every delivery follows its sending
abbrev pub NoneGiven : Type 0
NoneGiven = (given : List (List ℕ)) (hs : List NodeHistory) (xs : List Woven) → CameFromNone given hs → InterleavesWith given hs xs → Interleaves hs xs

-- and such a one is always one of these
abbrev pub AnyGiven : Type 0
AnyGiven = (given : List (List ℕ)) (hs : List NodeHistory) → CanInterleave hs → CanInterleaveWith given hs
