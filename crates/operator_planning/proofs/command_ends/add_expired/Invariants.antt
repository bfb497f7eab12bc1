use Rattle.std.proofs.Common.{◌≡◌, ◌∷◌, [], drop}
use Rattle.reservation_book.specs.declared.standing.Standing.{Standing}
use Rattle.node_steps.proofs.Gathering.{all_turns}
use Rattle.operator_steps.specs.Acts.{freed}
use Rattle.operator_planning.proofs.command_ends.add_expired.Given as goal

-- with the reservations that are left, all are freed
abbrev pub invariant-loop-standing : goal.invariant-loop-standing
invariant-loop-standing l = all_turns (λ last (x : Standing). freed x.provider x.id ∷ []) (drop l.standing-index l.expired) l.draft ≡ all_turns (λ last (x : Standing). freed x.provider x.id ∷ []) l.expired l.initial.draft
