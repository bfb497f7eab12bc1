-- What a transcript has, and what it is a transcript of.
use Rattle.std.specs.Prelude.{◌≡◌, ◌≢◌, ◌<◌, ℕ, zero, suc, List, [], ◌∷◌, ◌++◌, Option, None, Some, Contains, length, slice_get, cond, ◌==◌}
use Rattle.histories.specs.declared.entry.Entry.{Entry}
use Rattle.ocpi_types.specs.declared.setup.Node.{Node}
use Rattle.ocpi_types.specs.Commands.{url_of}
use Rattle.ocpi_types.specs.Setups.{party_of}
use Rattle.ocpi_types.specs.declared.rows.Row.{Row}
use Rattle.ocpi_types.specs.declared.rows.Row.TheVariants as row
use Rattle.ocpi_types.specs.declared.stored.SentCommand.{SentCommand}
use Rattle.provider_steps.specs.Acts.{own_url}
use Rattle.replays.specs.Happenings.{Happening, openings_in}
use Rattle.replays.specs.LineTurns.{Store, held_in}
use Rattle.replays.specs.Fronts.{lines_front}
use Rattle.replays.specs.Printed.{ArePrinted}
use Rattle.replays.specs.Reading.{IsOther, Story}
use Rattle.replays.specs.Telling.{Tells}
use Rattle.replays.specs.declared.fault.ReplayFault.{ReplayFault}
use Rattle.replays.specs.declared.fault.ReplayFault.TheVariants as fault
use Rattle.replays.specs.declared.transcript.Opening.{Opening}
use Rattle.replays.specs.declared.transcript.Source.{Source}
use Rattle.replays.specs.declared.transcript.Source.TheVariants.{Echoed, Restarted}

-- ---- what a file was printed by

-- Runs of one node, of none of those parties, over a store that had that, printed the text, and what of it is told is that
-- history. The text may begin without the first run's two line feeds, which a run of an earlier program did not print:
-- with two more in front, those that stand there are those of a run that was stopped behind them.
abbrev pub PrintedBy : List (List ℕ) → Store → List ℕ → List Happening → Type 0
PrintedBy earlier start text told = (wanted : List ℕ) × IsOther earlier wanted × ArePrinted wanted (held_in start) (10 ∷ 10 ∷ text) told

-- ---- a transcript

-- the runs that were opened, the entries of the node, and where each of these comes from
pub record Transcript : Type 0 where
  pub openings : List Opening
  pub entries : List Entry
  pub sources : List Source

-- the party of a node, as its setup spells it
abbrev pub party_at : Option Node → List ℕ
party_at None = []
party_at (Some n) = party_of n

abbrev pub party_opened : Opening → List ℕ
party_opened x = party_at (slice_get x.setup x.member)

-- whose node it is, as the setup of the first run spells it
abbrev pub first_party : List Opening → List ℕ
first_party [] = []
first_party (x ∷ xs) = party_opened x

abbrev pub teller : Transcript → List ℕ
teller t = first_party t.openings

-- the run of an entry, by its place among those that were opened
abbrev pub opening_of : Source → ℕ
opening_of (Echoed at line) = at
opening_of (Restarted at) = at

-- what holds of each: a run was opened, each node is one of its setup, and each entry has its source, of some run
pub record IsTranscript (t : Transcript) : Type 0 where
  pub some : t.openings ≢ []
  pub members : (x : Opening) → Contains t.openings x → x.member < length x.setup
  pub size : length t.sources ≡ length t.entries
  pub runs : (x : Source) → Contains t.sources x → opening_of x < length t.openings

-- it tells that history, in which some run was opened
pub record TellsOf (t : Transcript) (told : List Happening) : Type 0 where
  pub tells : Tells told t.openings t.entries t.sources
  pub some : openings_in told ≢ []

-- what was read of runs, of which some was opened, is told
pub record IsToldBy (s : Story) (t : Transcript) : Type 0 where
  pub openings : t.openings ≡ s.openings
  pub entries : t.entries ≡ s.entries
  pub sources : t.sources ≡ s.sources
  pub some : s.openings ≢ []

-- the text tells it
abbrev pub IsTranscriptOf : List (List ℕ) → Store → List ℕ → Transcript → Type 0
IsTranscriptOf earlier start text t = (told : List Happening) × PrintedBy earlier start text told × TellsOf t told

-- ---- a refusal

-- Each request of the rows has a url of its own number, as each has that the node itself made: so no two have one url. It
-- holds of the rows of every node that ran from its opening.
pub record HasOwnUrls (rows : List Row) : Type 0 where
  pub each : (n : ℕ) (c : SentCommand) → Contains rows (row.Command n c) → (party : List ℕ) × (url_of c.command ≡ own_url party n)

-- that no run was opened
abbrev pub OpenedNone : ReplayFault → List Happening → Type 0
OpenedNone f told = (f ≡ fault.Wrong 0) × (openings_in told ≡ [])

-- No runs printed it, whatever was fed, wherever they were stopped, and whatever their setups were; or only such of which
-- none was opened.
abbrev pub AccusesRightly : List (List ℕ) → Store → List ℕ → ReplayFault → Type 0
AccusesRightly earlier start text f = f ≢ fault.Memory → HasOwnUrls start.rows → (told : List Happening) → PrintedBy earlier start text told → OpenedNone f told

-- the line that a fault names, from 1; 0 is none
abbrev pub line_of : ReplayFault → ℕ
line_of (fault.NotARun n) = n
line_of (fault.Wrong n) = n
line_of (fault.BegunLater n) = n
line_of (fault.LinesMissing n) = n
line_of fault.Memory = 0

-- no line before the one that is named can be blamed: some runs print them all
abbrev pub BlamesNoLineBefore : List (List ℕ) → Store → List ℕ → ReplayFault → Type 0
BlamesNoLineBefore earlier start text f =
    (n : ℕ) → line_of f ≡ suc n → (told : List Happening) × PrintedBy earlier start (lines_front n text) told
