use Rattle.std.proofs.Common.{◌∙◌, subst, sym}
use Rattle.world.proofs.Steps.{names_kept, one_event, reached_more}
use Rattle.world.proofs.world.World.step.Goals as goal
use Rattle.world.specs.Seen.{places_seen, told_in}
use Rattle.world.specs.State.{WorldState}
use Rattle.world_laws.specs.Later.{IsLater}

pub invariant_of-self-2 : goal.invariant_of-self-2
invariant_of-self-2 c =
    let w = places_seen c.self.inside.places.items in
    let v = places_seen c.step_places.new.places.items in
    let o = told_in v c.in_ok-told.told in
    let gives = c.in_ok-told.ensures.ok in
    (reached_more w v c.args.event.now o c.self.invariant.0 gives, c.self.invariant.1 ∙ sym (names_kept w v c.args.event.now o gives))

pub returns-clause-right : goal.returns-clause-right
returns-clause-right c =
    let w = places_seen c.self.inside.places.items in
    let v = places_seen c.step_places.new.places.items in
    (one_event c.worlds_go_on.ensures w v c.args.event.now (told_in v c.in_ok-told.told) c.self.invariant.0 c.in_ok-told.ensures.ok).0

pub returns-clause-later : goal.returns-clause-later
returns-clause-later c =
    let w = places_seen c.self.inside.places.items in
    let v = places_seen c.step_places.new.places.items in
    subst (λ (s : WorldState). IsLater s.places v) c.self.view_is
    (one_event c.worlds_go_on.ensures w v c.args.event.now (told_in v c.in_ok-told.told) c.self.invariant.0 c.in_ok-told.ensures.ok).1
