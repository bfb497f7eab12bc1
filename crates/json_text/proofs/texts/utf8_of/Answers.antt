use Rattle.json_text.proofs.TextTrees.{utf8_is, no_utf8_is}
use Rattle.json_text.proofs.texts.utf8_of.Goals as goal

pub returns-in-Ok : goal.returns-in-Ok
returns-in-Ok c = rw c.in-Ok.ensures.0 (utf8_is c.args.text.now c.in-Ok.ensures.1)

pub returns-in-Err : goal.returns-in-Err
returns-in-Err c = no_utf8_is c.args.text.now c.in-Err.ensures
