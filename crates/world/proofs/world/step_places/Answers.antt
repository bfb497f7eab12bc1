use Rattle.std.proofs.Common.{◌∙◌, List, ap, arith, length, subst, sym}
use Rattle.std.specs.Prelude.{slice_set}
use Rattle.std.proofs.lemmas.Option.{same_Some, slice_get_within}
use Rattle.node_core.specs.States.{state_of}
use Rattle.node_core.specs.Works.{MayDo, packets_by}
use Rattle.ocpi_types.specs.declared.packet.Packet.{Packet}
use Rattle.ocpi_types.specs.declared.rows.Change.{Change}
use Rattle.stored_laws.specs.Nodes.{IsWhole}
use Rattle.world.proofs.Names.{none_named, place_named}
use Rattle.world.proofs.Steps.{idle_gives, is_whole, may_do, none_gives, on_err_always, place_here, told_idle, told_work, unchanged, work_gives}
use Rattle.world.proofs.world.step_places.Goals as goal
use Rattle.world.specs.Seen.{places_seen}
use Rattle.world.specs.Works.{AsksFor, IsPlanned}
use Rattle.world.specs.declared.place.Place.{Place}
use Rattle.world.specs.declared.planned.Outcome.TheVariants as outcome
use Rattle.world.specs.declared.planned.EventPlan.{EventPlan}
use Rattle.world_steps.specs.Steps as steps
use Rattle.world_steps.specs.Steps.{Gives}

-- there is no node of that party
pub returns-in_default-clause-ok : goal.returns-in_default-clause-ok
returns-in_default-clause-ok c =
    let ps = c.args.places.now.items in
    let w = places_seen ps in
    let e = c.args.event.now in
    subst (λ (o : steps.Outcome). Gives w e o w) (sym (told_idle w c.idle.result outcome.Skipped c.idle.ensures.outcome c.idle.ensures.sending c.idle.ensures.changes))
    (none_gives ps e (none_named ps c.args.names.now c.requires.named e.node c.in_default.ensures.none))

pub index-requires : goal.index-requires
index-requires c =
    let ps = c.args.places.now.items in
    let found = place_named ps c.args.names.now c.requires.named c.args.event.now.node c.in-Some.i c.in-Some.ensures.found in
    let within = slice_get_within ps c.in-Some.i found.0 found.1.here in
    omega (arith, within)

pub index_mut-place-requires : goal.index_mut-place-requires
index_mut-place-requires c =
    let ps = c.args.places.now.items in
    let found = place_named ps c.args.names.now c.requires.named c.args.event.now.node c.in-Some.i c.in-Some.ensures.found in
    let within = slice_get_within ps c.in-Some.i found.0 found.1.here in
    omega (arith, within)

-- the event leads to no work
pub returns-in-Idle-clause-ok : goal.returns-in-Idle-clause-ok
returns-in-Idle-clause-ok c =
    let ps = c.args.places.now.items in
    let w = places_seen ps in
    let e = c.args.event.now in
    let i = c.in-Some.i in
    let x = c.index.result.now in
    let o = c.in-Idle.outcome in
    let found = place_named ps c.args.names.now c.requires.named e.node i c.in-Some.ensures.found in
    let at = place_here ps e.node i found.0 x found.1 c.index.ensures in
    let planned = subst (λ (l : List Place). IsPlanned (places_seen l) x.party (state_of x.node) e.kind c.in_ok-outcome.field-0) c.as_slice.ensures.value c.in_ok-outcome.ensures in
    let idle = subst (λ (z : EventPlan). IsPlanned w x.party (state_of x.node) e.kind z) c.in-Idle.is planned in
    let t = c.idle-in-Idle in
    subst (λ (z : steps.Outcome). Gives w e z w) (sym (told_idle w t.result o t.ensures.outcome t.ensures.sending t.ensures.changes)) (idle_gives ps e i x o at idle)

-- the event leads to work
pub carry_out-requires-clause-may : goal.carry_out-requires-clause-may
carry_out-requires-clause-may c =
    let ps = c.args.places.now.items in
    let w = places_seen ps in
    let e = c.args.event.now in
    let i = c.in-Some.i in
    let x = c.index.result.now in
    let y = c.index_mut-place.result.now in
    let found = place_named ps c.args.names.now c.requires.named e.node i c.in-Some.ensures.found in
    let at = place_here ps e.node i found.0 x found.1 c.index.ensures in
    let there = place_here ps e.node i found.0 y found.1 c.index_mut-place.ensures.value in
    let planned = subst (λ (l : List Place). IsPlanned (places_seen l) x.party (state_of x.node) e.kind c.in_ok-outcome.field-0) c.as_slice.ensures.value c.in_ok-outcome.ensures in
    let asks = subst (λ (z : EventPlan). IsPlanned w x.party (state_of x.node) e.kind z) c.in-Acts.is planned in
    subst (λ (z : Place). MayDo (state_of z.node) c.in-Acts.work) (same_Some x y (sym at.here ∙ there.here)) (may_do w x.party (state_of x.node) e.kind c.in-Acts.work asks)

pub carry_out-requires-clause-whole : goal.carry_out-requires-clause-whole
carry_out-requires-clause-whole c =
    let ps = c.args.places.now.items in
    let e = c.args.event.now in
    let i = c.in-Some.i in
    let y = c.index_mut-place.result.now in
    let found = place_named ps c.args.names.now c.requires.named e.node i c.in-Some.ensures.found in
    let there = place_here ps e.node i found.0 y found.1 c.index_mut-place.ensures.value in
    is_whole c.operators_are_whole.ensures c.providers_are_whole.ensures ps e.node i y c.requires.reached there

pub returns-in_err-changes-in-Acts-clause-err : goal.returns-in_err-changes-in-Acts-clause-err
returns-in_err-changes-in-Acts-clause-err c =
    on_err_always c.from_residual-in_err-changes-in-Acts.result
    (unchanged c.args.places.now.items c.in-Some.i c.index_mut-place.result.now c.carry_out.new.self c.index_mut-place.ensures.value c.in_err-changes-in-Acts.ensures.err)

pub returns-in_ok-changes-in-Acts-clause-ok : goal.returns-in_ok-changes-in-Acts-clause-ok
returns-in_ok-changes-in-Acts-clause-ok c =
    let ps = c.args.places.now.items in
    let w = places_seen ps in
    let e = c.args.event.now in
    let i = c.in-Some.i in
    let x = c.index.result.now in
    let y = c.index_mut-place.result.now in
    let z = c.carry_out.new.self in
    let d = c.in-Acts.work in
    let found = place_named ps c.args.names.now c.requires.named e.node i c.in-Some.ensures.found in
    let at = place_here ps e.node i found.0 x found.1 c.index.ensures in
    let there = place_here ps e.node i found.0 y found.1 c.index_mut-place.ensures.value in
    let planned = subst (λ (l : List Place). IsPlanned (places_seen l) x.party (state_of x.node) e.kind c.in_ok-outcome.field-0) c.as_slice.ensures.value c.in_ok-outcome.ensures in
    let at_x = subst (λ (q : EventPlan). IsPlanned w x.party (state_of x.node) e.kind q) c.in-Acts.is planned in
    let work = subst (λ (q : Place). AsksFor w q.party (state_of q.node) e.kind d) (same_Some x y (sym at.here ∙ there.here)) at_x in
    let from = length c.as_slice-from.result.now in
    let len = ap length c.as_slice-from.ensures.value in
    let packets = told_work ps i from y z d there.here len c.in_ok-changes-in-Acts.ensures.ok in
    let after = places_seen (slice_set ps i z) in
    subst (λ (q : List Packet). Gives w e (steps.Stepped q c.in_ok-changes-in-Acts.changes.items) after) (sym packets)
    (subst (λ (q : List Change). Gives w e (steps.Stepped (packets_by d) q) after) (sym c.in_ok-changes-in-Acts.ensures.changes)
    (work_gives ps e i y z d there work c.in_ok-changes-in-Acts.ensures.ok))
