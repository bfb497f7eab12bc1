-- Transcripts of different parties, and their histories.
use Rattle.std.specs.Borrow.{Bor}
use Rattle.std.specs.Prelude.{◌≡◌, ℕ, List, [], ◌∷◌, Option, None, Some, Contains, length, map, slice_get, take}
use Rattle.ocpi_text.specs.Text.{key}
use Rattle.histories.specs.declared.entry.Entry.{Entry}
use Rattle.histories.specs.declared.history.NodeHistory.{NodeHistory}
use Rattle.replays.specs.LineTurns.{Store, nothing_held}
use Rattle.replays.specs.Transcripts.{IsTranscript, IsTranscriptOf, Transcript, teller}
use Rattle.replays.specs.declared.transcript.Opening.{Opening}
use Rattle.weave_runs.specs.declared.told.StoreRows.{StoreRows}
use Rattle.weave_runs.specs.declared.told.TranscriptFile.{TranscriptFile}

-- no two are of one party
pub record AreTold (told : List Transcript) : Type 0 where
  pub each : (t : Transcript) → Contains told t → IsTranscript t
  pub apart : (i j : ℕ) (t u : Transcript) → slice_get told i ≡ Some t → slice_get told j ≡ Some u → key (teller t) ≡ key (teller u) → i ≡ j

-- what the store of a file had before it: nothing, where none is named
abbrev pub start_of : Option (Bor StoreRows) → Store
start_of None = nothing_held
start_of (Some s) = record { rows = s.now.rows.items; line = s.now.line }

-- each file is the transcript of a node, over what its store had, of a party that no file before has
pub record AreTranscripts (files : List TranscriptFile) (told : List Transcript) : Type 0 where
  pub size : length told ≡ length files
  pub each : (i : ℕ) (f : TranscriptFile) (t : Transcript) → slice_get files i ≡ Some f → slice_get told i ≡ Some t
      → IsTranscriptOf (map teller (take i told)) (start_of f.store) f.text.now t

-- what a history has, whoever holds its entries
pub record Lived : Type 0 where
  pub party : List ℕ
  pub before : ℕ
  pub entries : List Entry

abbrev pub lived : NodeHistory → Lived
lived h = record { party = h.party; before = h.before; entries = h.entries.now }

-- the serial of the last packet that the node had sent as its first run was opened
abbrev pub serial_before : List Opening → ℕ
serial_before [] = 0
serial_before (x ∷ xs) = x.serial

abbrev pub lived_told : Transcript → Lived
lived_told t = record { party = teller t; before = serial_before t.openings; entries = t.entries }

-- the histories are those that are told, in their order
abbrev pub AreHistories : List NodeHistory → List Transcript → Type 0
AreHistories hs told = map lived hs ≡ map lived_told told
