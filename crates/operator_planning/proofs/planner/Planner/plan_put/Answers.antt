use Rattle.std.proofs.Common.{◌≡◌, ◌∙◌, arith}
use Rattle.std.specs.Prelude.{IfOk}
use Rattle.ocpi_text.specs.Text.{key}
use Rattle.token_desk.specs.Putting.{PutLine}
use Rattle.node_steps.proofs.Gathering.{step_is}
use Rattle.operator_steps.specs.Moves.{counters_of}
use Rattle.operator_steps.specs.Steps.{TokenLine}
use Rattle.operator_planning.specs.Requests.{put_acts}
use Rattle.operator_planning.proofs.CountedDrafts.{counted_in_range, counted_refused, counted_starved, opened_with, line_stops}
use Rattle.operator_planning.proofs.TokenLines.{put_asks, put_within, put_sends, token_line}
use Rattle.operator_planning.proofs.planner.Planner.plan_put.Goals as goal

-- what opens the draft is refused where the step is
pub returns-in_err-draft-clause-err : goal.returns-in_err-draft-clause-err
returns-in_err-draft-clause-err c =
    let s = c.args.self.now.state in
    let r = c.args.request.now in
    let t = c.args.token.now in
    let put = c.judge_put-put.result in
    let kept : IfOk put (λ a. (key t.party ≡ r.provider) × PutLine s.rows.tokens t a) = rw (← c.self.view_is, ← c.desk.ensures) c.judge_put-put.ensures.line in
    let line = token_line r t s put kept c.judge_put-put.ensures.fault in
    line_stops (TokenLine s r.at r.from r.provider r.number t) s (put_acts r t put) line c.from_residual.result
    (counted_refused s (λ last. put_acts r t put) 1 0 (put_sends r t put) (put_asks r t put) (put_within r t put) c.from_residual.result _ c.from_residual.ensures.1 c.in_err-draft.ensures.err)

-- the draft has the numbers of all acts
pub add_put-requires : goal.add_put-requires
add_put-requires c = let s = c.args.self.now.state in opened_with s.party (counters_of s) 1 0 1 0 c.in_ok-draft.draft c.in_ok-draft.ensures.ok (omega arith) (omega arith)

-- want of memory comes only where the numbers are in range
pub returns-in_err-add_put-clause-err : goal.returns-in_err-add_put-clause-err
returns-in_err-add_put-clause-err c =
    let s = c.args.self.now.state in
    let r = c.args.request.now in
    let t = c.args.token.now in
    let put = c.judge_put-put.result in
    let kept : IfOk put (λ a. (key t.party ≡ r.provider) × PutLine s.rows.tokens t a) = rw (← c.self.view_is, ← c.desk.ensures) c.judge_put-put.ensures.line in
    let line = token_line r t s put kept c.judge_put-put.ensures.fault in
    line_stops (TokenLine s r.at r.from r.provider r.number t) s (put_acts r t put) line c.from_residual-in_err-add_put.result
    (counted_starved s (λ last. put_acts r t put) 1 0 (put_sends r t put) (put_asks r t put) (put_within r t put) c.from_residual-in_err-add_put.result c.from_residual-in_err-add_put.ensures.1 c.in_ok-draft.ensures.in_range)

-- what was gathered is the step
pub returns-clause-ok : goal.returns-clause-ok
returns-clause-ok c =
    let s = c.args.self.now.state in
    let r = c.args.request.now in
    let t = c.args.token.now in
    let put = c.judge_put-put.result in
    let kept : IfOk put (λ a. (key t.party ≡ r.provider) × PutLine s.rows.tokens t a) = rw (← c.self.view_is, ← c.desk.ensures) c.judge_put-put.ensures.line in
    record {
      acts = put_acts r t put;
      line = token_line r t s put kept c.judge_put-put.ensures.fault;
      in_range = counted_in_range s (λ last. put_acts r t put) 1 0 (put_sends r t put) (put_asks r t put) (put_within r t put) c.in_ok-draft.ensures.in_range;
      step_is = c.into_plan.ensures ∙ step_is s.party (counters_of s) (λ last. put_acts r t put) 1 0 (put_sends r t put) (put_asks r t put)
          c.in_ok-draft.draft c.add_put.new.draft c.in_ok-draft.ensures.ok c.in_ok-add_put.ensures;
    }
