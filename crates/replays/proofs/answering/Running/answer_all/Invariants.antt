use Rattle.std.proofs.Common.{◌≡◌, Ok, [], take, string_bytes}
use Rattle.node_lines.specs.NodeLines.{node_line_in}
use Rattle.node_lines.specs.declared.node_line.NodeLine.TheVariants.{Several}
use Rattle.replays.specs.Answering.{EventsDone}
use Rattle.replays.proofs.answering.Running.answer_all.Given as goal

-- the events before this place are done
abbrev pub invariant-loop-place : goal.invariant-loop-place
invariant-loop-place l =
    node_line_in l.line.bytes.now ≡ Ok (Several l.elements)
    → EventsDone l.initial.self l.self l.number l.line.bytes.now (take l.place l.elements) [] (string_bytes l.text) l.initial.happened l.happened
