-- Which file is refused, and how rightly.
use Rattle.std.specs.Prelude.{◌≡◌, ℕ, List, ◌∷◌, ◌++◌, map}
use Rattle.replays.specs.Transcripts.{AccusesRightly, BlamesNoLineBefore, Transcript, teller}
use Rattle.replays.specs.declared.fault.ReplayFault.{ReplayFault}
use Rattle.weave_runs.specs.Histories.{AreTranscripts, start_of}
use Rattle.weave_runs.specs.declared.told.TranscriptFile.{TranscriptFile}

-- The files before one of that name are transcripts. Where the fault accuses that one, no runs of a node of another party
-- printed it; and no line before the one that is named can be blamed.
pub record RefusesFile (files : List TranscriptFile) (name : List ℕ) (fault : ReplayFault) : Type 0 where
  pub front : List TranscriptFile
  pub file : TranscriptFile
  pub behind : List TranscriptFile
  pub files_are : files ≡ front ++ file ∷ behind
  pub name_is : file.name.now ≡ name
  pub told : List Transcript
  pub are_transcripts : AreTranscripts front told
  pub rightly : AccusesRightly (map teller told) (start_of file.store) file.text.now fault
  pub first : BlamesNoLineBefore (map teller told) (start_of file.store) file.text.now fault
