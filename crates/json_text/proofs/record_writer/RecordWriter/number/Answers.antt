use Rattle.std.proofs.Common.{rules}
use Rattle.json.proofs.Printed.Decimals.{IsNumber-decimal}
use Rattle.json_text.proofs.record_writer.RecordWriter.number.Goals as goal

pub add_number-requires : goal.add_number-requires
add_number-requires c = rw c.format.ensures.text (IsNumber-decimal c.args.number (search rules))
