use Rattle.std.proofs.Common.{◌≡◌, map, take}
use Rattle.std.specs.Prelude.{Contains}
use Rattle.operator_steps.specs.declared.ending.Ending.{Ending}
use Rattle.operator_steps.specs.Tick.{IsTimeout, request_of}
use Rattle.operator_planning.proofs.planner.Planner.timed_out.Given as goal

abbrev pub invariant-loop-provider : goal.invariant-loop-provider
invariant-loop-provider l = record {
  requests : map request_of l.ends.items ≡ take l.provider-index l.provider-items;
  each : (e : Ending) → Contains l.ends.items e → IsTimeout l.self.state.providers e;
}
