use Rattle.std.proofs.Common.{inr, subst}
use Rattle.operator_steps.specs.Charger.{Shows}
use Rattle.operator_planning.proofs.Showing.{swipe_nothing}
use Rattle.operator_planning.proofs.planner.Planner.shown_by.Goals as goal
use Rattle.session_tables.specs.Swipes.{SwipeLine}
use Rattle.session_tables.specs.declared.shown.Shown.{Shown}

pub returns-in-Swipe-clause-shows : goal.returns-in-Swipe-clause-shows
returns-in-Swipe-clause-shows c =
    let s = c.args.self.now.state in
    let line : SwipeLine s c.in-Swipe.evse_uid c.in-Swipe.connector_id c.in-Swipe.token_uid c.in-Swipe.token_type c.swiped.result = rw (← c.self.view_is) c.swiped.ensures in
    inr (rw c.in-Swipe.is line)

pub returns-in-Swipe-clause-none : goal.returns-in-Swipe-clause-none
returns-in-Swipe-clause-none c =
    let s = c.args.self.now.state in
    let evse = c.in-Swipe.evse_uid in
    let connector = c.in-Swipe.connector_id in
    let uid = c.in-Swipe.token_uid in
    let type = c.in-Swipe.token_type in
    let line : SwipeLine s evse connector uid type c.swiped.result = rw (← c.self.view_is) c.swiped.ensures in
    λ nothing d shows. swipe_nothing s evse connector uid type d c.consistency.ensures.sound.one_claim (subst (λ (x : Shown). SwipeLine s evse connector uid type x) nothing line)
    (subst (λ r. Shows s r d) c.in-Swipe.is shows)
