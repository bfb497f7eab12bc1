use Rattle.std.proofs.Common.{take}
use Rattle.json.specs.Json as json
use Rattle.json_text.specs.Fits.{FitsCi}
use Rattle.json_text.proofs.Said.{Wrote}
use Rattle.json_text.proofs.record_writer.RecordWriter.strings.Given as goal

abbrev pub invariant-loop-text : goal.invariant-loop-text
invariant-loop-text g l = Wrote (json.string) (FitsCi g.row.MAX) l.initial.self (take l.text-index l.texts) l.self
