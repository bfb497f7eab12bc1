-- What is written of files.
use Rattle.std.specs.Prelude.{◌≡◌, ◌⊎◌, ℕ, List, [], ◌∷◌, ◌++◌, Option, Contains, map, string_bytes}
use Rattle.std.specs.Borrow.{Bor}
use Rattle.ocpi_types.specs.declared.setup.Node.{Node}
use Rattle.histories.specs.declared.history.NodeHistory.{NodeHistory}
use Rattle.history_laws.specs.Laws.{AreReplayed, IsRunOf}
use Rattle.line_runs.specs.Run.{gives_front}
use Rattle.line_runs.specs.declared.outcome.Ran.{Ran}
use Rattle.line_runs.specs.declared.outcome.Ran.TheVariants.{Whole, WithRefusals}
use Rattle.line_runs.specs.declared.outcome.RunFault.TheVariants.{WriteFailed}
use Rattle.replays.specs.Transcripts.{Transcript}
use Rattle.replays.specs.declared.fault.ReplayFault.{ReplayFault}
use Rattle.replays.specs.declared.transcript.Opening.{Opening}
use Rattle.weave.specs.Given.{CameFromNone, CanInterleaveWith, InterleavesWith}
use Rattle.weave.specs.TurnFaults.{ExplainsTurns}
use Rattle.weave.specs.declared.turn.Turn.{Turn}
use Rattle.weave.specs.declared.turn_fault.TurnFault.{TurnFault}
use Rattle.world_steps.specs.World.{NodeState}
use Rattle.weave_runs.specs.Accusations.{RefusesFile}
use Rattle.weave_runs.specs.Histories.{AreHistories, AreTold, AreTranscripts}
use Rattle.weave_runs.specs.Networks.{AreOfNetwork, AreSpelledAlike, BeginWithoutRows}
use Rattle.weave_runs.specs.Parties.{AreGiven, IsWrongAmong}
use Rattle.weave_runs.specs.Refusals.{TellsFault, memory_line, transcript_line}
use Rattle.weave_runs.specs.Steps.{AreStepsOf, HasSteps, HasStepsAndSetups, Step, ended, entry_of, event_told, lines_text, steps_text, steps_with_setups}
use Rattle.weave_runs.specs.declared.fault.GivenFault.{GivenFault}
use Rattle.weave_runs.specs.declared.fault.WeaveRunFault.{WeaveRunFault}
use Rattle.weave_runs.specs.declared.fault.WeaveRunFault.TheVariants.{Given, Run as OfRun}
use Rattle.weave_runs.specs.declared.told.TranscriptFile.{TranscriptFile}
use Rattle.weave_runs.specs.declared.weaving.Written.{Written}
use Rattle.weave_runs.specs.declared.weaving.Written.TheVariants.{Refused, Run, Wrong}

-- ---- what is read of the files

-- the files are transcripts, no two of one node; and the given parties, which the words name, have none
pub record Read (words : List (Bor (List ℕ))) (files : List TranscriptFile) : Type 0 where
  pub told : List Transcript
  pub given : List (List ℕ)
  pub are_transcripts : AreTranscripts files told
  pub are_told : AreTold told
  pub are_given : AreGiven told words given

-- the same, but that one of the words names none of any setup, or one that has a file
pub record IsWrongGiven (words : List (Bor (List ℕ))) (files : List TranscriptFile) (fault : GivenFault) : Type 0 where
  pub told : List Transcript
  pub are_transcripts : AreTranscripts files told
  pub are_told : AreTold told
  pub wrong : IsWrongAmong told words fault

-- ---- what is made of it

-- each run of each transcript was opened with that setup, and the first without rows
pub record IsOfOneWorld (setup : List Node) (told : List Transcript) : Type 0 where
  pub setups : (t : Transcript) → Contains told t → (x : Opening) → Contains t.openings x → x.setup ≡ setup
  pub empty : (t : Transcript) → Contains told t → (x : Opening) (xs : List Opening) → t.openings ≡ x ∷ xs → x.rows ≡ 0

-- the setup line of the first run of the first transcript
pub record IsSetupLine (told : List Transcript) (line : List ℕ) : Type 0 where
  pub first : Transcript
  pub others : List Transcript
  pub told_are : told ≡ first ∷ others
  pub opening : Opening
  pub later : List Opening
  pub openings_are : first.openings ≡ opening ∷ later
  pub is : line ≡ opening.line.bytes.now

-- the line of each transcript that says that its first run was opened
abbrev pub AreOpeningLines : List Transcript → List (List ℕ) → Type 0
AreOpeningLines [] [] = Unit {0}
AreOpeningLines [] (l ∷ ls) = ⊥
AreOpeningLines (t ∷ ts) [] = ⊥
AreOpeningLines (t ∷ ts) (l ∷ ls) = ((x : Opening) × (xs : List Opening) × (t.openings ≡ x ∷ xs) × (l ≡ x.told.now)) × AreOpeningLines ts ls

-- The text: where all is of one world, the setup line, and a line for each entry, as input of `play`; else how each
-- transcript begins, and a line for each entry behind the setup lines that are to stand before it.
pub data HasLines (told : List Transcript) (steps : List Step) (text : List ℕ) : Type 0 where
  AsPlayed : (setup : List Node) → IsOfOneWorld setup told → (line : List ℕ) → IsSetupLine told line → text ≡ ended line ++ steps_text steps → HasLines told steps text
  Otherwise : ((setup : List Node) → IsOfOneWorld setup told → ⊥) → (lines : List (List ℕ)) → AreOpeningLines told lines → text ≡ lines_text lines ++ steps_with_setups steps
      → HasLines told steps text

-- The entries are an interleaving of the histories, in which what the given parties sent is taken as it came, and so is
-- what a sender had sent before its transcript. Where all is of one world, and nothing came from a given party, the events
-- that the lines tell are a legal run of the setup's world from its opening, which ends with each node as its history left
-- it. Whatever came, and whatever the setups are, the entries are a run of the network of these nodes, where each was first
-- opened without rows and its runs spell its party alike.
pub record IsWoven (given : List (List ℕ)) (told : List Transcript) (text : List ℕ) : Type 0 where
  pub histories : List NodeHistory
  pub turns : List Turn
  pub steps : List Step
  pub are_histories : AreHistories histories told
  pub are_steps : AreStepsOf given histories told turns steps
  pub interleaves : InterleavesWith given histories (map entry_of steps)
  pub run : (setup : List Node) → IsOfOneWorld setup told → CameFromNone given histories
      → (states : List NodeState) × AreReplayed setup histories states × IsRunOf setup histories states (map event_told steps)
  pub network : BeginWithoutRows told → AreSpelledAlike told → AreOfNetwork told histories (map entry_of steps)
  pub lines : HasLines told steps text

-- the line says why the histories that are told have no interleaving; and it is so
pub record HasNone (given : List (List ℕ)) (files : List TranscriptFile) (told : List Transcript) (line : List ℕ) : Type 0 where
  pub histories : List NodeHistory
  pub fault : TurnFault
  pub are_histories : AreHistories histories told
  pub cause : ExplainsTurns given histories fault
  pub none : CanInterleaveWith given histories → ⊥
  pub line_is : TellsFault files told fault line

-- ---- of files

-- the text is a run of what the files tell
abbrev pub IsWovenText : List (Bor (List ℕ)) → List TranscriptFile → List ℕ → Type 0
IsWovenText words files text = (r : Read words files) × IsWoven r.given r.told text

-- the line says why it has none
abbrev pub HaveNoRun : List (Bor (List ℕ)) → List TranscriptFile → List ℕ → Type 0
HaveNoRun words files line = (r : Read words files) × HasNone r.given files r.told line

-- the line is that of a refusal: of a file, of histories, or for want of memory
pub data IsRefusalLine (words : List (Bor (List ℕ))) (files : List TranscriptFile) (line : List ℕ) : Type 0 where
  OfFile : (name : List ℕ) (fault : ReplayFault) → RefusesFile files name fault → line ≡ transcript_line name fault → IsRefusalLine words files line
  OfHistories : HaveNoRun words files line → IsRefusalLine words files line
  OfMemory : line ≡ memory_line → IsRefusalLine words files line

-- nothing is written of no files, and of them alone
abbrev pub IsRunText : List (Bor (List ℕ)) → List TranscriptFile → List ℕ → Type 0
IsRunText words files text = ((files ≡ []) × (text ≡ [])) ⊎ IsWovenText words files text

-- what may be written where files were woven, and where they were refused
abbrev pub Weaves : List (Bor (List ℕ)) → List TranscriptFile → Ran → List ℕ → Type 0
Weaves words files Whole text = IsRunText words files text
Weaves words files WithRefusals text = IsRefusalLine words files text

-- what stopped a run: a write failed, and a beginning of what may be written was; or what a party sent cannot be taken as
-- it came, and nothing was
abbrev pub EndsBefore : List (Bor (List ℕ)) → List TranscriptFile → Option (List ℕ) → Option (List ℕ) → WeaveRunFault → Type 0
EndsBefore words files old new (OfRun fault) = (fault ≡ WriteFailed) × gives_front (λ out. (ran : Ran) × Weaves words files ran out) old new
EndsBefore words files old new (Given fault) = IsWrongGiven words files fault × (new ≡ old)

-- ---- while it is made

-- what is to be written of files
abbrev pub IsWritten : List (Bor (List ℕ)) → List TranscriptFile → Written → Type 0
IsWritten words files (Run text) = IsRunText words files text.items
IsWritten words files (Refused refusal) = IsRefusalLine words files (string_bytes refusal.line)
IsWritten words files (Wrong fault) = IsWrongGiven words files fault

-- and of what is told
abbrev pub IsWrittenWith : List (List ℕ) → List TranscriptFile → List Transcript → Written → Type 0
IsWrittenWith given files told (Run text) = IsWoven given told text.items
IsWrittenWith given files told (Refused refusal) = HasNone given files told (string_bytes refusal.line) ⊎ (string_bytes refusal.line ≡ memory_line)
IsWrittenWith given files told (Wrong fault) = ⊥

-- the lines of turns behind the setup line, as input of `play`; or behind what each transcript begins with
abbrev pub IsPlayedText : List (List ℕ) → List NodeHistory → List Transcript → List Turn → List ℕ → Type 0
IsPlayedText given hs told turns text = (line : List ℕ) × IsSetupLine told line × HasSteps given hs told turns (ended line) text

abbrev pub IsOtherText : List (List ℕ) → List NodeHistory → List Transcript → List Turn → List ℕ → Type 0
IsOtherText given hs told turns text = (lines : List (List ℕ)) × AreOpeningLines told lines × HasStepsAndSetups given hs told turns (lines_text lines) text

-- either of them, as is due
abbrev pub IsTextOf : List (List ℕ) → List NodeHistory → List Transcript → List Turn → List ℕ → Type 0
IsTextOf given hs told turns text = (steps : List Step) × AreStepsOf given hs told turns steps × HasLines told steps text
