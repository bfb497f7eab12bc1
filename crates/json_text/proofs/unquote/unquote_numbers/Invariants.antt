use Rattle.std.proofs.Common.{◌-◌, length, string_bytes}
use Rattle.json_text.proofs.UnquoteRuns.{Unquoted}
use Rattle.json_text.proofs.unquote.unquote_numbers.Given as goal

abbrev pub invariant-loop-i : goal.invariant-loop-i
invariant-loop-i l = Unquoted l.text (string_bytes l.out) l.start l.opening l.i l.way

abbrev pub decreases-loop-i : goal.decreases-loop-i
decreases-loop-i l = length l.text - l.i
