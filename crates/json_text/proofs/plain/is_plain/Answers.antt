use Rattle.json.proofs.Printed.Plain.{escape_on_plain}
use Rattle.json_text.proofs.plain.is_plain.Goals as goal

pub returns : goal.returns
returns c = escape_on_plain c.is_plain_all.result c.args.text.now c.is_plain_all.ensures
