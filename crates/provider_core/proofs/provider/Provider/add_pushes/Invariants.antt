use Rattle.std.proofs.Common.{take}
use Rattle.provider_core.proofs.Pushing.{ArePushedTo}
use Rattle.provider_core.proofs.provider.Provider.add_pushes.Given as goal

-- the version was pushed to the operators before this one
abbrev pub invariant-loop-operator : goal.invariant-loop-operator
invariant-loop-operator l = ArePushedTo l.self.state.rows.outbox.pushes l.at l.version (take l.operator-index l.operator-items) l.initial.draft l.draft
