use Rattle.std.proofs.Common.{◌≡◌, ◌+◌, ℕ, List, length, ap, ◌∙◌}
use Rattle.node_steps.specs.Acts.{Act, all_messages, all_requests}
use Rattle.node_steps.specs.Drafts.{Gathered}
use Rattle.node_steps.proofs.Gathering.{has_all, step_is}
use Rattle.operator_steps.specs.Moves.{counters_of}
use Rattle.operator_planning.specs.Happenings.{happening_acts}
use Rattle.operator_planning.proofs.CountedDrafts.{counted_in_range, counted_refused, counted_starved}
use Rattle.operator_planning.proofs.TickDrafts.{happening_ask, happening_send, happening_within}
use Rattle.operator_planning.proofs.planner.Planner.plan_all.Goals as goal

-- what opens the draft is refused where the step is
pub returns-in_err-draft-clause-err : goal.returns-in_err-draft-clause-err
returns-in_err-draft-clause-err c =
    let s = c.args.self.now.state in
    let x = c.args.all.now in
    let acts : ℕ → List Act = λ last. happening_acts c.args.at s x in
    let packets : c.needs.result.packets ≡ (length x.due.ends.items + length x.begun.items) + length x.resent.items = rw (← c.as_slice.ensures.value, ← c.as_slice-3.ensures.value, ← c.as_slice-4.ensures.value) c.needs.ensures.packets in
    let requests : c.needs.result.requests ≡ length x.due.ends.items + length x.begun.items = rw (← c.as_slice.ensures.value, ← c.as_slice-3.ensures.value) c.needs.ensures.requests in
    let sends : c.needs.result.packets ≡ length (all_messages (acts s.rows.request)) = packets ∙ happening_send c.args.at s x c.requires.stand in
    let asks : c.needs.result.requests ≡ all_requests (acts s.rows.request) = requests ∙ happening_ask c.args.at s x in
    counted_refused s acts c.needs.result.packets c.needs.result.requests sends asks (happening_within c.args.at s x c.requires.number) c.from_residual.result _ c.from_residual.ensures.1 c.in_err-draft.ensures.err

-- the counters of the draft are those of the state, and it has the numbers of all acts
pub add_all-requires-clause-numbered : goal.add_all-requires-clause-numbered
add_all-requires-clause-numbered c = ap (λ (g : Gathered). g.counters.request) c.in_ok-draft.ensures.ok

pub add_all-requires-clause-numbers : goal.add_all-requires-clause-numbers
add_all-requires-clause-numbers c =
    let s = c.args.self.now.state in
    let x = c.args.all.now in
    let acts : ℕ → List Act = λ last. happening_acts c.args.at s x in
    let packets : c.needs.result.packets ≡ (length x.due.ends.items + length x.begun.items) + length x.resent.items = rw (← c.as_slice.ensures.value, ← c.as_slice-3.ensures.value, ← c.as_slice-4.ensures.value) c.needs.ensures.packets in
    let requests : c.needs.result.requests ≡ length x.due.ends.items + length x.begun.items = rw (← c.as_slice.ensures.value, ← c.as_slice-3.ensures.value) c.needs.ensures.requests in
    let sends : c.needs.result.packets ≡ length (all_messages (acts s.rows.request)) = packets ∙ happening_send c.args.at s x c.requires.stand in
    let asks : c.needs.result.requests ≡ all_requests (acts s.rows.request) = requests ∙ happening_ask c.args.at s x in
    has_all s.party (counters_of s) acts c.needs.result.packets c.needs.result.requests sends asks c.in_ok-draft.draft c.in_ok-draft.ensures.ok

-- want of memory comes only where the numbers are in range
pub returns-in_err-add_all-clause-err : goal.returns-in_err-add_all-clause-err
returns-in_err-add_all-clause-err c =
    let s = c.args.self.now.state in
    let x = c.args.all.now in
    let acts : ℕ → List Act = λ last. happening_acts c.args.at s x in
    let packets : c.needs.result.packets ≡ (length x.due.ends.items + length x.begun.items) + length x.resent.items = rw (← c.as_slice.ensures.value, ← c.as_slice-3.ensures.value, ← c.as_slice-4.ensures.value) c.needs.ensures.packets in
    let requests : c.needs.result.requests ≡ length x.due.ends.items + length x.begun.items = rw (← c.as_slice.ensures.value, ← c.as_slice-3.ensures.value) c.needs.ensures.requests in
    let sends : c.needs.result.packets ≡ length (all_messages (acts s.rows.request)) = packets ∙ happening_send c.args.at s x c.requires.stand in
    let asks : c.needs.result.requests ≡ all_requests (acts s.rows.request) = requests ∙ happening_ask c.args.at s x in
    counted_starved s acts c.needs.result.packets c.needs.result.requests sends asks (happening_within c.args.at s x c.requires.number) c.from_residual-in_err-add_all.result c.from_residual-in_err-add_all.ensures.1 c.in_ok-draft.ensures.in_range

-- what was gathered is the step
pub returns-clause-ok : goal.returns-clause-ok
returns-clause-ok c =
    let s = c.args.self.now.state in
    let x = c.args.all.now in
    let acts : ℕ → List Act = λ last. happening_acts c.args.at s x in
    let packets : c.needs.result.packets ≡ (length x.due.ends.items + length x.begun.items) + length x.resent.items = rw (← c.as_slice.ensures.value, ← c.as_slice-3.ensures.value, ← c.as_slice-4.ensures.value) c.needs.ensures.packets in
    let requests : c.needs.result.requests ≡ length x.due.ends.items + length x.begun.items = rw (← c.as_slice.ensures.value, ← c.as_slice-3.ensures.value) c.needs.ensures.requests in
    let sends : c.needs.result.packets ≡ length (all_messages (acts s.rows.request)) = packets ∙ happening_send c.args.at s x c.requires.stand in
    let asks : c.needs.result.requests ≡ all_requests (acts s.rows.request) = requests ∙ happening_ask c.args.at s x in
    c.into_plan.ensures ∙ step_is s.party (counters_of s) acts c.needs.result.packets c.needs.result.requests sends asks c.in_ok-draft.draft c.add_all.new.draft c.in_ok-draft.ensures.ok c.in_ok-add_all.ensures

pub returns-clause-in_range : goal.returns-clause-in_range
returns-clause-in_range c =
    let s = c.args.self.now.state in
    let x = c.args.all.now in
    let acts : ℕ → List Act = λ last. happening_acts c.args.at s x in
    let packets : c.needs.result.packets ≡ (length x.due.ends.items + length x.begun.items) + length x.resent.items = rw (← c.as_slice.ensures.value, ← c.as_slice-3.ensures.value, ← c.as_slice-4.ensures.value) c.needs.ensures.packets in
    let requests : c.needs.result.requests ≡ length x.due.ends.items + length x.begun.items = rw (← c.as_slice.ensures.value, ← c.as_slice-3.ensures.value) c.needs.ensures.requests in
    let sends : c.needs.result.packets ≡ length (all_messages (acts s.rows.request)) = packets ∙ happening_send c.args.at s x c.requires.stand in
    let asks : c.needs.result.requests ≡ all_requests (acts s.rows.request) = requests ∙ happening_ask c.args.at s x in
    counted_in_range s acts c.needs.result.packets c.needs.result.requests sends asks (happening_within c.args.at s x c.requires.number) c.in_ok-draft.ensures.in_range
