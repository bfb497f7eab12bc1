use Rattle.std.proofs.Common.{◌≡◌, map, take}
use Rattle.replays.specs.Transcripts.{teller}
use Rattle.weave_runs.specs.Histories.{AreTold, AreTranscripts}
use Rattle.weave_runs.proofs.told.read_files.Given as goal

-- the files before this one are read
abbrev pub invariant-loop-file : goal.invariant-loop-file
invariant-loop-file l = AreTold l.transcripts.items × AreTranscripts (take l.file-index l.files) l.transcripts.items × (l.parties.items ≡ map teller l.transcripts.items)
