use Rattle.std.proofs.Common.{◌≡◌}
use Rattle.node_steps.specs.Drafts.{with_acts}
use Rattle.operator_steps.specs.Ends.{all_resent, ends_acts, expired_acts}
use Rattle.operator_planning.specs.Planned.{all_begun}
use Rattle.operator_planning.proofs.Parts.{on_more}
use Rattle.operator_planning.proofs.TickDrafts.{begun_have, ends_have, happening_is, resent_have}
use Rattle.operator_planning.proofs.planner.Planner.add_all.Goals as goal

pub add_ends-requires-clause-stand : goal.add_ends-requires-clause-stand
add_ends-requires-clause-stand c = rw c.as_slice.ensures.value c.requires.open

pub add_ends-requires-clause-numbers : goal.add_ends-requires-clause-numbers
add_ends-requires-clause-numbers c = rw c.as_slice.ensures.value (ends_have c.args.at c.args.self.now.state c.args.all.now c.args.draft.now c.requires.numbered c.requires.numbers)

pub add_all_begun-requires : goal.add_all_begun-requires
add_all_begun-requires c =
    let s = c.args.self.now.state in
    let x = c.args.all.now in
    let d = c.args.draft.now in
    let one : c.add_ends.new.draft ≡ with_acts (ends_acts c.args.at s.rows.commands.pending d.counters.request x.due.ends.items) d = rw (← c.as_slice.ensures.value) c.in_ok-add_ends.ensures in
    let two : c.add_expired.new.draft ≡ with_acts (expired_acts x.due.expired.items) c.add_ends.new.draft = rw (← c.as_slice-2.ensures.value) c.in_ok-add_expired.ensures in
    rw c.as_slice-3.ensures.value (begun_have c.args.at s x d c.requires.numbered c.requires.numbers c.add_ends.new.draft c.add_expired.new.draft c.add_last_session.new.draft one two c.in_ok-add_last_session.ensures)

pub add_all_resent-requires : goal.add_all_resent-requires
add_all_resent-requires c =
    let s = c.args.self.now.state in
    let x = c.args.all.now in
    let d = c.args.draft.now in
    let w = c.add_last_session.new.draft in
    let one : c.add_ends.new.draft ≡ with_acts (ends_acts c.args.at s.rows.commands.pending d.counters.request x.due.ends.items) d = rw (← c.as_slice.ensures.value) c.in_ok-add_ends.ensures in
    let two : c.add_expired.new.draft ≡ with_acts (expired_acts x.due.expired.items) c.add_ends.new.draft = rw (← c.as_slice-2.ensures.value) c.in_ok-add_expired.ensures in
    let four : c.add_all_begun.new.draft ≡ with_acts (all_begun c.args.at w.counters.request x.begun.items) w = rw (← c.as_slice-3.ensures.value) c.in_ok-add_all_begun.ensures in
    rw c.as_slice-4.ensures.value
    (resent_have c.args.at s x d c.requires.numbered c.requires.numbers c.add_ends.new.draft c.add_expired.new.draft w one two c.in_ok-add_last_session.ensures c.add_all_begun.new.draft four)

pub returns : goal.returns
returns c =
    let s = c.args.self.now.state in
    let x = c.args.all.now in
    let d = c.args.draft.now in
    let w = c.add_last_session.new.draft in
    let one : c.add_ends.new.draft ≡ with_acts (ends_acts c.args.at s.rows.commands.pending d.counters.request x.due.ends.items) d = rw (← c.as_slice.ensures.value) c.in_ok-add_ends.ensures in
    let two : c.add_expired.new.draft ≡ with_acts (expired_acts x.due.expired.items) c.add_ends.new.draft = rw (← c.as_slice-2.ensures.value) c.in_ok-add_expired.ensures in
    let four : c.add_all_begun.new.draft ≡ with_acts (all_begun c.args.at w.counters.request x.begun.items) w = rw (← c.as_slice-3.ensures.value) c.in_ok-add_all_begun.ensures in
    on_more c.add_all_resent.result
    (λ last.
    let five : c.add_all_resent.new.draft ≡ with_acts (all_resent s.providers c.args.at s.rows.pushes x.resent.items) c.add_all_begun.new.draft = rw (← c.as_slice-4.ensures.value) last in
    happening_is c.args.at s x d c.requires.numbered c.requires.numbers c.add_ends.new.draft c.add_expired.new.draft w one two c.in_ok-add_last_session.ensures c.add_all_begun.new.draft four c.add_all_resent.new.draft five)
    c.add_all_resent.ensures
