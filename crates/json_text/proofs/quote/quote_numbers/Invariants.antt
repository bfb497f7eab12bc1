use Rattle.std.proofs.Common.{◌-◌, length, string_bytes}
use Rattle.json_text.proofs.Quoting.{Quoted}
use Rattle.json_text.proofs.quote.quote_numbers.Given as goal

abbrev pub invariant-loop-i : goal.invariant-loop-i
invariant-loop-i l = Quoted l.text (string_bytes l.out) l.start l.i l.mode

abbrev pub decreases-loop-i : goal.decreases-loop-i
decreases-loop-i l = length l.text - l.i
