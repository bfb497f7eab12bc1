-- The lines of refusals.
use Rattle.std.specs.Prelude.{◌≡◌, ℕ, Bool, true, false, List, [], ◌∷◌, ◌++◌, Option, None, Some, bytes_eq, codes, cond, decimal, length, slice_get}
use Rattle.ocpi_text.specs.Text.{key}
use Rattle.ocpi_types.specs.Setups.{node_key, party_of}
use Rattle.ocpi_types.specs.declared.setup.Node.{Node}
use Rattle.histories.specs.declared.entry.Entry.{Entry}
use Rattle.histories.specs.Entries.{Delivers}
use Rattle.ocpi_types.specs.declared.packet.Packet.{Packet}
use Rattle.replays.specs.Transcripts.{Transcript, opening_of}
use Rattle.replays.specs.declared.fault.ReplayFault.{ReplayFault}
use Rattle.replays.specs.declared.fault.ReplayFault.TheVariants as file
use Rattle.replays.specs.declared.transcript.Opening.{Opening}
use Rattle.replays.specs.declared.transcript.Source.{Source}
use Rattle.replays.specs.declared.transcript.Source.TheVariants.{Echoed, Restarted}
use Rattle.weave.specs.declared.turn.Turn.{Turn}
use Rattle.weave.specs.declared.turn_fault.TurnFault.{TurnFault}
use Rattle.weave.specs.declared.turn_fault.TurnFault.TheVariants as weave
use Rattle.weave_runs.specs.declared.told.TranscriptFile.{TranscriptFile}

-- ---- for want of memory

abbrev pub memory_line : List ℕ
memory_line = codes "refused 4 Memory\n"

-- ---- a file

-- a line of a file
abbrev pub place_text : List ℕ → ℕ → List ℕ
place_text name line = name ++ (codes ":" ++ decimal line)

-- a refusal, by its number and name, with that line
abbrev pub place_line : List ℕ → List ℕ → ℕ → List ℕ
place_line what name line = codes "refused " ++ (what ++ (codes "(" ++ (name ++ (codes ":" ++ (decimal line ++ codes ")\n")))))

abbrev pub transcript_line : List ℕ → ReplayFault → List ℕ
transcript_line name (file.NotARun line) = place_line (codes "5 NotARun") name line
transcript_line name (file.Wrong line) = place_line (codes "6 WrongTranscript") name line
transcript_line name (file.BegunLater line) = place_line (codes "8 BegunLater") name line
transcript_line name (file.LinesMissing line) = place_line (codes "9 LinesMissing") name line
transcript_line name file.Memory = memory_line

-- ---- a party

-- the party as the setup spells it; or as it is, where the setup does not have it
abbrev pub spelled : List Node → List ℕ → List ℕ
spelled [] party = party
spelled (n ∷ ns) party = cond (bytes_eq (node_key n) (key party)) (party_of n) (spelled ns party)

-- ---- a front

-- the number of the line, where the entry came as one: a delivery did
abbrev pub number_of : Option Source → Option ℕ
number_of None = None
number_of (Some (Echoed at line)) = Some line.number
number_of (Some (Restarted at)) = None

-- and of the entry at a place
abbrev pub next_number : Transcript → ℕ → Option ℕ
next_number t place = number_of (slice_get t.sources place)

abbrev pub place_list : List ℕ → Option ℕ → List (List ℕ)
place_list name None = []
place_list name (Some line) = place_text name line ∷ []

-- the line of the next entry of each file that has one
abbrev pub front_places : List TranscriptFile → List Transcript → List ℕ → List (List ℕ)
front_places [] told front = []
front_places (f ∷ files) [] front = []
front_places (f ∷ files) (t ∷ told) [] = []
front_places (f ∷ files) (t ∷ told) (place ∷ front) = place_list f.name.now (next_number t place) ++ front_places files told front

-- the first behind a bracket, and the others behind a space each
abbrev pub mark_of : Bool → List ℕ
mark_of true = codes "("
mark_of false = codes " "

abbrev pub marked : Bool → List (List ℕ) → List ℕ
marked is_first [] = []
marked is_first (p ∷ ps) = mark_of is_first ++ p ++ marked false ps

abbrev pub front_line : List TranscriptFile → List Transcript → List ℕ → List ℕ
front_line files told front = codes "refused 3 NoOrder" ++ marked true (front_places files told front) ++ codes ")\n"

-- ---- an entry that a turn names

-- it delivers the packet
pub record DeliversAt (told : List Transcript) (t : Turn) (q : Packet) : Type 0 where
  pub teller_of : Transcript
  pub here : slice_get told t.history ≡ Some teller_of
  pub entry : Entry
  pub stands : slice_get teller_of.entries t.entry ≡ Some entry
  pub delivers : Delivers entry q

-- it came as that line of the file of that name
pub record IsLineOf (files : List TranscriptFile) (told : List Transcript) (t : Turn) (name : List ℕ) (line : ℕ) : Type 0 where
  pub file : TranscriptFile
  pub of_file : slice_get files t.history ≡ Some file
  pub name_is : file.name.now ≡ name
  pub teller_of : Transcript
  pub here : slice_get told t.history ≡ Some teller_of
  pub line_is : next_number teller_of t.entry ≡ Some line

-- both
pub record ComesBy (files : List TranscriptFile) (told : List Transcript) (t : Turn) : Type 0 where
  pub packet : Packet
  pub delivers : DeliversAt told t packet
  pub name : List ℕ
  pub line : ℕ
  pub is_line : IsLineOf files told t name line

-- its line alone
abbrev pub CameAsLine : List TranscriptFile → List Transcript → Turn → Type 0
CameAsLine files told t = (name : List ℕ) × (line : ℕ) × IsLineOf files told t name line

-- ---- any refusal to weave histories

-- of the sender's serial, by the line at which the packet came
abbrev pub never_sent_line : List ℕ → ℕ → List ℕ → ℕ → List ℕ
never_sent_line sender serial name line =
    codes "refused 1 NeverSent(" ++ (sender ++ (codes " " ++ (decimal serial ++ (codes " " ++ (name ++ (codes ":" ++ (decimal line ++ codes ")\n")))))))

-- of the sender's serial, by the line for which it sent the other packet, and the one at which this came
abbrev pub differs_line : List ℕ → ℕ → List ℕ → ℕ → List ℕ → ℕ → List ℕ
differs_line sender serial sent_name sent_line name line =
    codes "refused 2 Differs(" ++ (sender ++ (codes " " ++ (decimal serial ++ (codes " " ++ (sent_name ++ (codes ":" ++ (decimal sent_line
    ++ (codes " " ++ (name ++ (codes ":" ++ (decimal line ++ codes ")\n")))))))))))

-- the nodes of the setup of the run in which the turn's entry came
abbrev pub nodes_opened : Option Opening → List Node
nodes_opened None = []
nodes_opened (Some x) = x.setup

abbrev pub nodes_of_source : List Opening → Option Source → List Node
nodes_of_source openings None = []
nodes_of_source openings (Some x) = nodes_opened (slice_get openings (opening_of x))

abbrev pub nodes_in : Option Transcript → ℕ → List Node
nodes_in None place = []
nodes_in (Some t) place = nodes_of_source t.openings (slice_get t.sources place)

abbrev pub nodes_at : List Transcript → Turn → List Node
nodes_at told t = nodes_in (slice_get told t.history) t.entry

-- what is told can be: the entries that it names came as lines, and a front has a place for each file
abbrev pub CanTell : List TranscriptFile → List Transcript → TurnFault → Type 0
CanTell files told (weave.NeverSent came) = ComesBy files told came
CanTell files told (weave.Differs came by) = ComesBy files told came × CameAsLine files told by
CanTell files told (weave.NoOrder places) = length places.items ≡ length files
CanTell files told weave.Memory = Unit {0}

-- the line tells it: with the sender of the packet as the setup of the run spells it in which that came, and the lines of
-- the entries that it names
abbrev pub TellsFault : List TranscriptFile → List Transcript → TurnFault → List ℕ → Type 0
TellsFault files told (weave.NeverSent came) line =
    (c : ComesBy files told came) × (line ≡ never_sent_line (spelled (nodes_at told came) c.packet.from) c.packet.serial c.name c.line)
TellsFault files told (weave.Differs came by) line =
    (c : ComesBy files told came) × (s : CameAsLine files told by) × (line ≡ differs_line (spelled (nodes_at told came) c.packet.from) c.packet.serial s.0 s.1 c.name c.line)
TellsFault files told (weave.NoOrder places) line = line ≡ front_line files told places.items
TellsFault files told weave.Memory line = line ≡ memory_line
