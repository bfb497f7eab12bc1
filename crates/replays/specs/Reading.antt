-- How a run is read, and what that makes of what is known.
use Rattle.std.specs.Prelude.{◌≡◌, ◌≢◌, ◌<◌, ◌⊎◌, ℕ, suc, ◌+◌, List, [], ◌∷◌, ◌++◌, Option, None, Some, Ok, length, All, IsTrue, IsFalse, Bool, true, false, Contains}
use Rattle.histories.specs.declared.entry.Entry.{Entry}
use Rattle.json_text.specs.Fault.{Fails as FailsToRead}
use Rattle.json_text.specs.declared.fault.JsonFault.TheVariants.{Memory}
use Rattle.json_text.specs.declared.fault.JsonFault.{JsonFault}
use Rattle.node_core.specs.Members.{IsMadeOfRows}
use Rattle.node_replay.specs.Replayed.{restart_entry}
use Rattle.node_runs.specs.DoneLines.{malformed_line, opened_line}
use Rattle.node_runs.specs.NodeTurns.{number_from}
use Rattle.node_runs.specs.SetupLines.{numbered_setup_in}
use Rattle.ocpi_text.specs.Text.{key}
use Rattle.ocpi_types.specs.Setups.{party_of}
use Rattle.ocpi_types.specs.declared.rows.Row.{Row}
use Rattle.ocpi_types.specs.declared.setup.Node.{Node}
use Rattle.stored_laws.specs.Nodes.{CanStartAgain, last_serial}
use Rattle.world_steps.specs.Steps.{NodeEvent as Deed}
use Rattle.world_steps.specs.World.{NodeState}
use Rattle.replays.specs.Fronts.{feeds_of}
use Rattle.replays.specs.Happenings.{Happening, OpenedRun, Placed, came_by, entries_behind}
use Rattle.replays.specs.LineTurns.{Held, IsLeftBy, Lists, IsLine, LineGives, Running, echo_of}
use Rattle.replays.specs.Telling.{AreSourcesOf, IsRunOf}
use Rattle.replays.specs.Walks.{Walks}
use Rattle.replays.specs.declared.transcript.Opening.{Opening}
use Rattle.replays.specs.declared.transcript.Source.TheVariants.{Restarted}
use Rattle.replays.specs.declared.transcript.Source.{Source}

-- ---- what is known of the runs so far

-- what the store has where the line in doubt took hold, and what that line entered
pub record Doubt : Type 0 where
  pub held : Held
  pub entries : List Entry
  pub sources : List Source

-- what the runs so far left, but for a line in doubt, and what they tell
pub record Story : Type 0 where
  pub held : Held
  pub doubt : Option Doubt
  pub openings : List Opening
  pub entries : List Entry
  pub sources : List Source

-- lines of the last run were told
pub record Adds (told : List Happening) (s t : Story) : Type 0 where
  pub openings : t.openings ≡ s.openings
  pub entries : t.entries ≡ s.entries ++ entries_behind told
  pub added : List Source
  pub sources : t.sources ≡ s.sources ++ added
  pub from : AreSourcesOf (length s.openings) told added

-- ---- the lines of a run

-- Whether a line of which nothing but its echo stands there is in doubt: it is where it would have taken hold.
pub data Doubts (now : Running) (line : List ℕ) (place : ℕ) : Option Doubt → Type 0 where
  Idle : (out : List ℕ) (entered : List Placed) (did : List Deed) (next : Running) → LineGives now line out entered did next → next.last ≡ now.last
      → Doubts now line place None
  Doubtful : (out : List ℕ) (entered : List Placed) (did : List Deed) (next : Running) → LineGives now line out entered did next → next.last ≢ now.last
      → (d : Doubt) → IsLeftBy next d.held → d.entries ≡ entries_behind (came_by line entered) → AreSourcesOf place (came_by line entered) d.sources
      → Doubts now line place (Some d)

-- What stands behind the lines that were answered: a line without its line feed, which may be in doubt where one may
-- have stood there.
pub data Tail (now : Running) (tail : List ℕ) (ended : Bool) (place : ℕ) (doubt : Option Doubt) : Type 0 where
  Nothing : tail ≡ [] → doubt ≡ None → Tail now tail ended place doubt
  Cut : IsFalse ended → doubt ≡ None → Tail now tail ended place doubt
  Echo : IsTrue ended → IsLine tail → Doubts now tail place doubt → Tail now tail ended place doubt

-- The lines of a run were read up to where it was stopped.
pub data LinesTaken (first : Running) (rest : List ℕ) (ended : Bool) (s t : Story) : Type 0 where
  AtTail : (text tail : List ℕ) (told : List Happening) (now : Running) → rest ≡ text ++ tail → Walks first text told now → All (λ b. b ≢ 10) tail
      → Adds told s t → IsLeftBy now t.held → Tail now tail ended (length s.openings) t.doubt → LinesTaken first rest ended s t
  AtGift : (text line more : List ℕ) (told : List Happening) (now : Running) → rest ≡ text ++ (echo_of line ++ more) → Walks first text told now → IsLine line → more ≢ []
      → (out : List ℕ) (entered : List Placed) (did : List Deed) (next : Running) → LineGives now line out entered did next
      → (missing : List ℕ) → out ≡ more ++ missing → Adds (told ++ came_by line entered) s t → IsLeftBy next t.held → t.doubt ≡ None → LinesTaken first rest ended s t

-- Behind a line stands something else than it gives.
pub record LinesDiffer (first : Running) (rest : List ℕ) : Type 0 where
  pub text : List ℕ
  pub line : List ℕ
  pub more : List ℕ
  pub told : List Happening
  pub now : Running
  pub is : rest ≡ text ++ (echo_of line ++ more)
  pub walks : Walks first text told now
  pub fed : IsLine line
  pub out : List ℕ
  pub entered : List Placed
  pub did : List Deed
  pub next : Running
  pub gives : LineGives now line out entered did next
  pub not_cut : (m : List ℕ) → out ≢ more ++ m
  pub not_whole : (m : List ℕ) → more ≢ out ++ m

-- ---- whose runs they are

-- none of these parties is that one, in whichever case
abbrev pub IsOther : List (List ℕ) → List ℕ → Type 0
IsOther parties wanted = (p : List ℕ) → Contains parties p → key p ≢ key wanted

-- one of them is
abbrev pub IsAmong : List (List ℕ) → List ℕ → Type 0
IsAmong parties wanted = (p : List ℕ) × Contains parties p × (key p ≡ key wanted)

-- What is known of a file so far: the parties of other files, those of which the node may be, where anything tells, and
-- what its runs tell.
pub record Reader : Type 0 where
  pub earlier : List (List ℕ)
  pub parties : List (List ℕ)
  pub story : Story

abbrev pub MayBe : Reader → List ℕ → Type 0
MayBe r wanted = IsOther r.earlier wanted × ((r.parties ≡ []) ⊎ IsAmong r.parties wanted)

-- ---- an opening

-- the member of the setup is made of what the store has
pub record OpensOver (setup : List Node) (member : Node) (held : Held) (state : NodeState) : Type 0 where
  pub rows : List Row
  pub lists : Lists held.kept rows
  pub made : IsMadeOfRows setup member rows state
  pub starts : CanStartAgain state

-- the line that says so
abbrev pub told_line : Held → List Row → Node → NodeState → List ℕ
told_line held rows member state = opened_line held.line (party_of member) (length rows) (last_serial state)

-- the node that runs then
abbrev pub begun_over : Held → Node → NodeState → Option ℕ → Running
begun_over held member state base =
    record { party = party_of member; state = state; known = held.line; last = held.line; number = number_from base held.line }

-- and what is told of it
abbrev pub run_over : List ℕ → List Node → List Row → Node → NodeState → OpenedRun
run_over line setup rows member state =
    record { line = line; setup = setup; member = member; rows = length rows; serial = last_serial state }

-- What stands behind a setup line is that line, but maybe for its line feed, or a beginning of it, behind which nothing
-- stands.
pub data Fits (closed : Bool) (piece line : List ℕ) : Type 0 where
  IsWhole : line ≡ piece ++ 10 ∷ [] → Fits closed piece line
  IsCut : IsFalse closed → (missing : List ℕ) → line ≡ piece ++ missing → 1 < length missing → Fits closed piece line

-- The line of a member stands there, whole.
pub record WasOpened (r : Reader) (setup : List Node) (piece : List ℕ) (held : Held) : Type 0 where
  pub member : Node
  pub within : Contains setup member
  pub may : MayBe r (party_of member)
  pub state : NodeState
  pub opens : OpensOver setup member held state
  pub tells : told_line held opens.rows member state ≡ piece ++ 10 ∷ []

-- A beginning of that of the member of this party stands there.
pub record MayBeOpened (r : Reader) (setup : List Node) (closed : Bool) (piece : List ℕ) (held : Held) (party : List ℕ) : Type 0 where
  pub member : Node
  pub within : Contains setup member
  pub is : party_of member ≡ party
  pub may : MayBe r party
  pub state : NodeState
  pub opens : OpensOver setup member held state
  pub cut : IsFalse closed
  pub missing : List ℕ
  pub tells : told_line held opens.rows member state ≡ piece ++ missing
  pub long : 1 < length missing

-- these parties have such a member, and no other has; the line of none stands there whole
pub record AreCut (r : Reader) (setup : List Node) (closed : Bool) (piece : List ℕ) (held : Held) (parties : List (List ℕ)) : Type 0 where
  pub have : (p : List ℕ) → Contains parties p → MayBeOpened r setup closed piece held p
  pub all : (member : Node) → Contains setup member → MayBe r (party_of member) → (state : NodeState) (over : OpensOver setup member held state)
      → Fits closed piece (told_line held over.rows member state) → Contains parties (party_of member) × (told_line held over.rows member state ≢ piece ++ 10 ∷ [])

-- ---- a run

-- the line in doubt did not take hold, or did
abbrev pub left_out : Story → Story
left_out s = record { held = s.held; doubt = None; openings = s.openings; entries = s.entries; sources = s.sources }

abbrev pub taken_in : Story → Doubt → Story
taken_in s d =
    record { held = d.held; doubt = None; openings = s.openings; entries = s.entries ++ d.entries; sources = s.sources ++ d.sources }

-- a run was opened, which is a restart where one was before
pub record IsOpenedIn (s t : Story) (run : OpenedRun) : Type 0 where
  pub opening : Opening
  pub is : IsRunOf run opening
  pub openings : t.openings ≡ s.openings ++ opening ∷ []
  pub held : t.held ≡ s.held
  pub first : s.openings ≡ [] → (t.entries ≡ s.entries) × (t.sources ≡ s.sources)
  pub later : s.openings ≢ [] → (t.entries ≡ s.entries ++ restart_entry ∷ []) × (t.sources ≡ s.sources ++ Restarted (length s.openings) ∷ [])

-- the next line and what stands behind it, or the beginning of a line
pub data IsBehind (behind piece : List ℕ) : Bool → List ℕ → Type 0 where
  Line : (rest : List ℕ) → behind ≡ piece ++ 10 ∷ rest → IsBehind behind piece true rest
  Beginning : behind ≡ piece → IsBehind behind piece false []

-- The first line of a run, whole, and what stands behind it.
pub record IsFirstLine (bytes line behind : List ℕ) : Type 0 where
  pub is : bytes ≡ line ++ 10 ∷ behind
  pub plain : All (λ b. b ≢ 10) line

-- It is a setup.
pub record HasSetup (bytes line behind : List ℕ) (setup : List Node) (base : Option ℕ) (piece : List ℕ) (closed : Bool) (rest : List ℕ) : Type 0 where
  pub first : IsFirstLine bytes line behind
  pub reads : numbered_setup_in line ≡ Ok (setup, base)
  pub plain : All (λ b. b ≢ 10) piece
  pub is : IsBehind behind piece closed rest

-- The lines behind an opening were read.
pub record IsRun (r t : Reader) (line : List ℕ) (setup : List Node) (base : Option ℕ) (rest : List ℕ) (ended : Bool) (s : Story) (rows : List Row) (member : Node) (state : NodeState) : Type 0 where
  pub opened : Story
  pub is : IsOpenedIn s opened (run_over line setup rows member state)
  pub lines : LinesTaken (begun_over s.held member state base) rest ended opened t.story
  pub parties : t.parties ≡ party_of member ∷ []
  pub earlier : t.earlier ≡ r.earlier

abbrev pub with_parties : Reader → List (List ℕ) → Story → Reader
with_parties r parties story = record { earlier = r.earlier; parties = parties; story = story }

-- How what one run printed is read, and what is known then.
pub data RunTaken (r t : Reader) (bytes : List ℕ) (ended : Bool) : Type 0 where
  -- nothing more than its first line, which is cut
  Unclosed : All (λ b. b ≢ 10) bytes → t ≡ r → RunTaken r t bytes ended
  -- its first line is no setup
  NoSetupThere : (line behind : List ℕ) → IsFirstLine bytes line behind → (fault : JsonFault) → FailsToRead fault (numbered_setup_in line) → fault ≢ Memory
      → (missing : List ℕ) → malformed_line 1 None fault ≡ behind ++ missing → behind ≢ [] → t ≡ r → RunTaken r t bytes ended
  -- the line of an opening is cut: before the line in doubt, behind it, or either
  CutBefore : {line behind piece rest : List ℕ} {setup : List Node} {base : Option ℕ} {closed : Bool} → HasSetup bytes line behind setup base piece closed rest
      → (parties : List (List ℕ)) → parties ≢ [] → AreCut r setup closed piece r.story.held parties
      → ((d : Doubt) → r.story.doubt ≡ Some d → AreCut r setup closed piece d.held [])
      → t ≡ with_parties r parties (left_out r.story) → RunTaken r t bytes ended
  CutAfter : {line behind piece rest : List ℕ} {setup : List Node} {base : Option ℕ} {closed : Bool} → HasSetup bytes line behind setup base piece closed rest
      → AreCut r setup closed piece r.story.held []
      → (d : Doubt) → r.story.doubt ≡ Some d → (parties : List (List ℕ)) → parties ≢ [] → AreCut r setup closed piece d.held parties
      → t ≡ with_parties r parties (taken_in r.story d) → RunTaken r t bytes ended
  CutEither : {line behind piece rest : List ℕ} {setup : List Node} {base : Option ℕ} {closed : Bool} → HasSetup bytes line behind setup base piece closed rest
      → (parties : List (List ℕ)) → parties ≢ [] → AreCut r setup closed piece r.story.held parties
      → (d : Doubt) → r.story.doubt ≡ Some d → (others : List (List ℕ)) → others ≢ [] → AreCut r setup closed piece d.held others
      → t ≡ with_parties r parties r.story → RunTaken r t bytes ended
  -- a node was opened
  OpenedBefore : {line behind piece rest : List ℕ} {setup : List Node} {base : Option ℕ} {closed : Bool} → HasSetup bytes line behind setup base piece closed rest
      → (way : WasOpened r setup piece r.story.held) → IsRun r t line setup base rest ended (left_out r.story) way.opens.rows way.member way.state → RunTaken r t bytes ended
  OpenedAfter : {line behind piece rest : List ℕ} {setup : List Node} {base : Option ℕ} {closed : Bool} → HasSetup bytes line behind setup base piece closed rest
      → (d : Doubt) → r.story.doubt ≡ Some d
      → (way : WasOpened r setup piece d.held) → IsRun r t line setup base rest ended (taken_in r.story d) way.opens.rows way.member way.state → RunTaken r t bytes ended

-- Why no run prints that, and the line at fault, where the first of the run has that number: the lines before it are printed.
pub data RunRefused (r : Reader) (bytes : List ℕ) (number at : ℕ) : Type 0 where
  SaysElse : (line behind : List ℕ) → IsFirstLine bytes line behind → (fault : JsonFault) → FailsToRead fault (numbered_setup_in line) → fault ≢ Memory
      → ((missing : List ℕ) → malformed_line 1 None fault ≢ behind ++ missing)
      → (at ≡ number) ⊎ (at ≡ suc number) ⊎ ((at ≡ suc (suc number)) × ((more : List ℕ) × (behind ≡ malformed_line 1 None fault ++ more))) → RunRefused r bytes number at
  NotOpened : {line behind piece rest : List ℕ} {setup : List Node} {base : Option ℕ} {closed : Bool} → HasSetup bytes line behind setup base piece closed rest
      → AreCut r setup closed piece r.story.held [] → ((d : Doubt) → r.story.doubt ≡ Some d → AreCut r setup closed piece d.held [])
      → (at ≡ number) ⊎ (at ≡ suc number) → RunRefused r bytes number at
  DiffersBefore : {line behind piece rest : List ℕ} {setup : List Node} {base : Option ℕ} {closed : Bool} → HasSetup bytes line behind setup base piece closed rest
      → (way : WasOpened r setup piece r.story.held) → (d : LinesDiffer (begun_over r.story.held way.member way.state base) rest)
      → at ≡ suc (suc number) + feeds_of d.text → RunRefused r bytes number at
  DiffersAfter : {line behind piece rest : List ℕ} {setup : List Node} {base : Option ℕ} {closed : Bool} → HasSetup bytes line behind setup base piece closed rest
      → (doubt : Doubt) → r.story.doubt ≡ Some doubt
      → (way : WasOpened r setup piece doubt.held) → (d : LinesDiffer (begun_over doubt.held way.member way.state base) rest)
      → at ≡ suc (suc number) + feeds_of d.text → RunRefused r bytes number at
