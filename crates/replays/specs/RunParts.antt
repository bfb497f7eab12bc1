-- What the parts of the reading of one run give.
use Rattle.std.specs.Prelude.{◌≡◌, ◌≢◌, ◌⊎◌, ℕ, suc, ◌+◌, List, [], ◌∷◌, ◌++◌, Option, None, Some, Bool, length}
use Rattle.json_text.specs.declared.fault.JsonFault.TheVariants.{Memory}
use Rattle.json_text.specs.declared.fault.JsonFault.{JsonFault}
use Rattle.node_runs.specs.DoneLines.{malformed_line}
use Rattle.ocpi_types.specs.Setups.{party_of}
use Rattle.ocpi_types.specs.declared.setup.Node.{Node}
use Rattle.replays.specs.Answering.{shown}
use Rattle.replays.specs.Cutting.{HasNoEmptyLine}
use Rattle.replays.specs.Fronts.{feeds_of}
use Rattle.replays.specs.Happenings.{Happening}
use Rattle.replays.specs.LineTurns.{Running}
use Rattle.replays.specs.Reading.{Adds, AreCut, Doubt, HasSetup, IsOpenedIn, LinesDiffer, LinesTaken, Reader, RunRefused, RunTaken, Story, WasOpened, begun_over, left_out, run_over, taken_in, with_parties}
use Rattle.replays.specs.Transcripts.{line_of}
use Rattle.replays.specs.Walks.{Walks}
use Rattle.replays.specs.declared.answering.Running.{Running as RunningOf}
use Rattle.replays.specs.declared.fault.ReplayFault.{ReplayFault}
use Rattle.replays.specs.declared.opening.Behind.{Behind}

-- ---- texts

-- the text of a run: it begins with a line, has no empty one, and no line feed at its end
pub record IsRunText (bytes : List ℕ) : Type 0 where
  pub first : ℕ
  pub others : List ℕ
  pub some : bytes ≡ first ∷ others
  pub begins : first ≢ 10
  pub ends : (before : List ℕ) → bytes ≢ before ++ 10 ∷ []
  pub plain : HasNoEmptyLine bytes

-- what stands behind lines that were answered: neither a line feed nor an empty line, nor a line feed at the end
pub record IsRestOfRun (rest : List ℕ) : Type 0 where
  pub plain : HasNoEmptyLine (10 ∷ rest)
  pub ends : (before : List ℕ) → rest ≢ before ++ 10 ∷ []

-- what stands behind a first line that is no setup is what is said of it, or a beginning of that
pub record IsSaid (fault : JsonFault) (behind : List ℕ) : Type 0 where
  pub real : fault ≢ Memory
  pub missing : List ℕ
  pub is : malformed_line 1 None fault ≡ behind ++ missing

-- something else stands there; the line, whose number that is, or one of the two behind it is named
pub record IsNotSaid (fault : JsonFault) (behind : List ℕ) (number : ℕ) (f : ReplayFault) : Type 0 where
  pub real : fault ≢ Memory
  pub none : (missing : List ℕ) → malformed_line 1 None fault ≢ behind ++ missing
  pub place : (line_of f ≡ number) ⊎ (line_of f ≡ suc number) ⊎ ((line_of f ≡ suc (suc number)) × ((more : List ℕ) × (behind ≡ malformed_line 1 None fault ++ more)))

-- ---- lines behind an opening

-- They were read, up to a rest, and the next has that number, where the first has the other.
pub record AreRead (first : Running) (all : List ℕ) (s : Story) (number : ℕ) (now : Running) (rest : List ℕ) (t : Story) (at : ℕ) : Type 0 where
  pub text : List ℕ
  pub told : List Happening
  pub is : all ≡ text ++ rest
  pub walks : Walks first text told now
  pub adds : Adds told s t
  pub doubt : t.doubt ≡ None
  pub fits : IsRestOfRun rest
  pub counted : at ≡ number + feeds_of text

-- what is known of whose runs they are is as it was
pub record IsSameNode (r t : Reader) : Type 0 where
  pub parties : t.parties ≡ r.parties
  pub earlier : t.earlier ≡ r.earlier

-- they were read
pub record AreLinesTaken (first : Running) (rest : List ℕ) (ended : Bool) (r t : Reader) : Type 0 where
  pub lines : LinesTaken first rest ended r.story t.story
  pub same : IsSameNode r t

-- one gives something else, where the first has that number
abbrev pub DiffersAt : Running → List ℕ → ℕ → ℕ → Type 0
DiffersAt first rest number at = (d : LinesDiffer first rest) × (at ≡ number + feeds_of d.text)

-- ---- an opening

-- A node was opened over a store, and runs; its run is the one of that place.
pub record Begins (r t : Reader) (line : List ℕ) (setup : List Node) (base : Option ℕ) (piece : List ℕ) (s : Story) (now : Running) (place : ℕ) : Type 0 where
  pub way : WasOpened r setup piece s.held
  pub is : IsOpenedIn s t.story (run_over line setup way.opens.rows way.member way.state)
  pub shows : now ≡ begun_over s.held way.member way.state base
  pub place_is : suc place ≡ length t.story.openings
  pub doubt : t.story.doubt ≡ None
  pub parties : t.parties ≡ party_of way.member ∷ []
  pub earlier : t.earlier ≡ r.earlier

-- how it was opened: before the line in doubt, or behind it
pub data IsBegun (r t : Reader) (line : List ℕ) (setup : List Node) (base : Option ℕ) (piece : List ℕ) (now : Running) (place : ℕ) : Type 0 where
  Before : Begins r t line setup base piece (left_out r.story) now place → IsBegun r t line setup base piece now place
  After : (d : Doubt) → r.story.doubt ≡ Some d → Begins r t line setup base piece (taken_in r.story d) now place → IsBegun r t line setup base piece now place

-- by which of two cut ways it may have been
pub data IsSettled (r t : Reader) (before after : List (List ℕ)) : Type 0 where
  OnlyBefore : before ≢ [] → after ≡ [] → t ≡ with_parties r before (left_out r.story) → IsSettled r t before after
  OnlyAfter : before ≡ [] → after ≢ [] → (d : Doubt) → r.story.doubt ≡ Some d → t ≡ with_parties r after (taken_in r.story d) → IsSettled r t before after
  Either : before ≢ [] → after ≢ [] → (d : Doubt) → r.story.doubt ≡ Some d → t ≡ with_parties r before r.story → IsSettled r t before after

-- the ways behind the line in doubt, if there is one
abbrev pub AreCutBehind : Reader → List Node → Bool → List ℕ → List (List ℕ) → Type 0
AreCutBehind r setup closed piece parties = ((d : Doubt) → r.story.doubt ≡ Some d → AreCut r setup closed piece d.held parties) × (r.story.doubt ≡ None → parties ≡ [])

-- the line of a setup is named, or the one behind it
abbrev pub NamesOpening : ℕ → ℕ → Type 0
NamesOpening number at = (at ≡ number) ⊎ (at ≡ suc number)

-- there is no way
abbrev pub IsNoWay : List (List ℕ) → List (List ℕ) → ℕ → ℕ → Type 0
IsNoWay before after number at = (before ≡ []) × (after ≡ []) × NamesOpening number at

-- ---- a run of a setup line

-- it was read
abbrev pub SetupTaken : Reader → Reader → List ℕ → List Node → Option ℕ → List ℕ → Bool → List ℕ → Bool → Type 0
SetupTaken r t line setup base piece closed rest ended = (bytes behind : List ℕ) → HasSetup bytes line behind setup base piece closed rest → RunTaken r t bytes ended

-- or is refused
abbrev pub SetupRefused : Reader → List ℕ → List Node → Option ℕ → List ℕ → Bool → List ℕ → ℕ → ℕ → Type 0
SetupRefused r line setup base piece closed rest number at = (bytes behind : List ℕ) → HasSetup bytes line behind setup base piece closed rest → RunRefused r bytes number at

-- the same, by what stands behind the setup line
abbrev pub TakenBehind : Reader → Reader → List Node → Option ℕ → Behind → Type 0
TakenBehind r t setup base b = SetupTaken r t b.line.bytes.now setup base b.piece.bytes.now b.piece.is_closed b.rest.now b.is_ended

abbrev pub RefusedBehind : Reader → List Node → Option ℕ → Behind → ReplayFault → Type 0
RefusedBehind r setup base b f = SetupRefused r b.line.bytes.now setup base b.piece.bytes.now b.piece.is_closed b.rest.now b.line.number (line_of f)

abbrev pub BegunBehind : Reader → Reader → List Node → Option ℕ → Behind → RunningOf → Type 0
BegunBehind r t setup base b now = IsBegun r t b.line.bytes.now setup base b.piece.bytes.now (shown now) now.opening

abbrev pub BeginsBehind : Reader → Reader → List Node → Option ℕ → Behind → RunningOf → Type 0
BeginsBehind r t setup base b now = Begins r t b.line.bytes.now setup base b.piece.bytes.now r.story (shown now) now.opening
