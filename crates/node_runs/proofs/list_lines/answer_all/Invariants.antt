use Rattle.std.proofs.Common.{◌≡◌, string_bytes}
use Rattle.node_runs.proofs.ListLemmas.{DoneSoFar}
use Rattle.node_runs.proofs.list_lines.answer_all.Given as goal

-- the events before this place are done, and the keeper was not asked
abbrev pub invariant-loop-place : goal.invariant-loop-place
invariant-loop-place g l =
    DoneSoFar l.party l.initial.transaction l.number l.elements l.place l.turn (string_bytes l.initial.lines) (string_bytes l.lines) l.transaction
    × (l.transaction.keep ≡ l.initial.transaction.keep)
