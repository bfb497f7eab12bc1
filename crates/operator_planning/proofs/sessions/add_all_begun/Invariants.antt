use Rattle.std.proofs.Common.{◌≡◌, drop}
use Rattle.node_steps.proofs.Gathering.{all_turns}
use Rattle.operator_planning.specs.Planned.{begun_acts}
use Rattle.operator_planning.proofs.sessions.add_all_begun.Given as goal

-- with the sessions that are left, all are gathered
abbrev pub invariant-loop-begun : goal.invariant-loop-begun
invariant-loop-begun l = all_turns (begun_acts l.at) (drop l.begun-index l.sessions) l.draft ≡ all_turns (begun_acts l.at) l.sessions l.initial.draft
