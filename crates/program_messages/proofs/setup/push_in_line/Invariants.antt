use Rattle.std.proofs.Common.{◌≡◌, ◌++◌, map, take}
use Rattle.program_messages.specs.SetupFiles.{in_line}
use Rattle.program_messages.proofs.setup.push_in_line.Given as goal

-- the bytes before this one are in the line
abbrev pub invariant-loop-byte : goal.invariant-loop-byte
invariant-loop-byte l = l.line.items ≡ l.fn.line.items ++ map in_line (take l.byte-index l.text)
