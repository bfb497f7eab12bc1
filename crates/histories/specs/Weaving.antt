-- Interleavings of the histories of several nodes: one list of all their entries, in an order in which they may have
-- happened.
use Rattle.std.specs.Prelude.{◌≡◌, ℕ, List, [], ◌∷◌, ◌++◌, Some, cond, map, bytes_eq, Contains, slice_get}
use Rattle.std.specs.List.{flat_map}
use Rattle.ocpi_text.specs.Text.{key}
use Rattle.ocpi_types.specs.declared.events.Event.{Event}
use Rattle.ocpi_types.specs.declared.events.EventKind.{EventKind}
use Rattle.ocpi_types.specs.declared.events.EventKind.TheVariants as kind
use Rattle.ocpi_types.specs.declared.node_events.NodeEventKind.{NodeEventKind}
use Rattle.ocpi_types.specs.declared.node_events.NodeEventKind.TheVariants as event
use Rattle.ocpi_types.specs.declared.packet.Packet.{Packet}
use Rattle.histories.specs.declared.entry.Entry.{Entry}
use Rattle.histories.specs.declared.history.NodeHistory.{NodeHistory}
use Rattle.histories.specs.Entries.{Delivers, IsNumbered, sent}

-- an entry of the history of a party's node
pub record Woven : Type 0 where
  pub party : List ℕ
  pub entry : Entry

-- x where two keys are one, and nothing elsewhere
abbrev pub only : List ℕ → Entry → List ℕ → List Entry
only own x other = cond (bytes_eq own other) (x ∷ []) []

-- the entries of the node of a party, which is given in key form, in order
abbrev pub history : List ℕ → List Woven → List Entry
history k xs = flat_map (λ (x : Woven). only (key x.party) x.entry k) xs

-- what an entry delivers, an earlier entry of its sender sent, equal in every field
abbrev pub Names : List Woven → Woven → Type 0
Names before x = (q : Packet) → Delivers x.entry q → Contains (sent (history (key q.from) before)) q

abbrev pub IsWoven : List Woven → List Woven → Type 0
IsWoven before [] = Unit {0}
IsWoven before (x ∷ xs) = Names before x × IsWoven (before ++ x ∷ []) xs

-- one list of all entries of the histories: it keeps the order of each, and each delivery follows the sending of that
-- packet
pub record Interleaves (hs : List NodeHistory) (xs : List Woven) : Type 0 where
  pub nodes : (x : Woven) → Contains xs x → (h : NodeHistory) × Contains hs h × (h.party ≡ x.party)
  pub order : (h : NodeHistory) → Contains hs h → history (key h.party) xs ≡ h.entries.now
  pub names : IsWoven [] xs

-- the histories can be interleaved
abbrev pub CanInterleave : List NodeHistory → Type 0
CanInterleave hs = (xs : List Woven) × Interleaves hs xs

-- ---- as events of a world, where a delivery names its packet by sender and serial

abbrev pub kind_of : NodeEventKind → EventKind
kind_of (event.Submit at to order) = kind.Submit at to order
kind_of (event.Token at token) = kind.Token at token
kind_of (event.Service evse_uid in_service) = kind.Service evse_uid in_service
kind_of (event.Charger at report) = kind.Charger at report
kind_of (event.Credit at session_id) = kind.Credit at session_id
kind_of (event.Deliver at packet) = kind.Deliver at packet.from packet.serial
kind_of (event.Tick at) = kind.Tick at
kind_of event.Restart = kind.Restart
kind_of event.Refused = kind.Refused

abbrev pub event_of : Woven → Event
event_of x = record { node = x.party; kind = kind_of x.entry.event }

-- the events are an interleaving of the whole histories
abbrev pub IsInterleaving : List NodeHistory → List Event → Type 0
IsInterleaving hs events = (xs : List Woven) × Interleaves hs xs × (events ≡ map event_of xs)

-- ---- what is asked of the histories

-- no two are of one party
abbrev pub AreApart : List NodeHistory → Type 0
AreApart hs = (i j : ℕ) (h g : NodeHistory) → slice_get hs i ≡ Some h → slice_get hs j ≡ Some g → key h.party ≡ key g.party → i ≡ j

-- each node numbers its packets behind that of the last one that it had sent before
abbrev pub AreNumberedBehind : List NodeHistory → Type 0
AreNumberedBehind hs = (h : NodeHistory) → Contains hs h → IsNumbered h.party h.before (sent h.entries.now)

-- and where it had sent none, from 1
abbrev pub AreNumbered : List NodeHistory → Type 0
AreNumbered hs = (h : NodeHistory) → Contains hs h → (h.before ≡ 0) × IsNumbered h.party h.before (sent h.entries.now)
