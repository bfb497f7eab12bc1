use Rattle.std.proofs.Common.{◌≡◌, length}
use Rattle.json.specs.Lex.{tokens}
use Rattle.json_text.specs.Names.{has_number_name_in}
use Rattle.json_text.proofs.names.has_number_name.Given as goal

abbrev pub invariant-loop-token : goal.invariant-loop-token
invariant-loop-token l = has_number_name_in l.reader ≡ has_number_name_in (tokens l.quoted)

abbrev pub decreases-loop-token : goal.decreases-loop-token
decreases-loop-token l = length l.reader
