use Rattle.json_text.proofs.TextBytes.{is_text, is_no_text}
use Rattle.std.proofs.Common.{arith}
use Rattle.json_text.proofs.lines.text_of.Goals as goal

pub returns-in-Ok : goal.returns-in-Ok
returns-in-Ok c = rw c.in-Ok.ensures.0 (is_text c.args.line.now (omega arith) c.in-Ok.ensures.1)

pub returns-in-Err : goal.returns-in-Err
returns-in-Err c = is_no_text c.args.line.now (omega arith) c.in-Err.ensures
