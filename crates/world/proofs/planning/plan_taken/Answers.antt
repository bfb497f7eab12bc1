use Rattle.std.proofs.Common.{subst}
use Rattle.node_core.specs.States.{state_of}
use Rattle.node_core.specs.Works as nodes
use Rattle.node_core.specs.declared.work.NodePlan.{NodePlan}
use Rattle.world.proofs.Steps.{asks_for, passes, refuses}
use Rattle.world.proofs.planning.plan_taken.Goals as goal
use Rattle.world.specs.Seen.{places_seen}

pub returns-in_default : goal.returns-in_default
returns-in_default c = record { taken = c.requires.taken; nothing = c.in_default.ensures.none (state_of c.args.place.now.node) }

pub returns-in-Skipped : goal.returns-in-Skipped
returns-in-Skipped c =
    let n = state_of c.args.place.now.node in
    let i = c.in-Some.input in
    passes (places_seen c.args.places.now) c.args.place.now.party n c.args.kind.now i c.requires.taken c.in-Some.ensures.some
    (subst (λ (x : NodePlan). nodes.IsPlanned n i x) c.in-Skipped.is c.in_ok-planned.ensures)

pub returns-in-Refused : goal.returns-in-Refused
returns-in-Refused c =
    let n = state_of c.args.place.now.node in
    let i = c.in-Some.input in
    refuses (places_seen c.args.places.now) c.args.place.now.party n c.args.kind.now i c.in-Refused.fault c.in-Some.ensures.some
    (subst (λ (x : NodePlan). nodes.IsPlanned n i x) c.in-Refused.is c.in_ok-planned.ensures)

pub returns-in-Acts : goal.returns-in-Acts
returns-in-Acts c =
    let n = state_of c.args.place.now.node in
    let i = c.in-Some.input in
    asks_for (places_seen c.args.places.now) c.args.place.now.party n c.args.kind.now i c.in-Acts.work c.in-Some.ensures.some
    (subst (λ (x : NodePlan). nodes.IsPlanned n i x) c.in-Acts.is c.in_ok-planned.ensures)
