use Rattle.std.proofs.Common.{◌+◌, ◌++◌, ◌∙◌, ap, List, ℕ, string_bytes}
use Rattle.json_text.proofs.Copying.{tail_is}
use Rattle.json_text.proofs.Quoting.{apart, alike}
use Rattle.json_text.proofs.UnquoteRuns.{begins, kept, turned, passes, cut, ended}
use Rattle.json_text.proofs.unquote.unquote_numbers.Goals as goal
use Rattle.json_text.proofs.unquote.unquote_numbers.Goals.{then-in_token+in_ok-push_str, else-in_token}

pub loop-i-init : goal.loop-i-init
loop-i-init c = rw c.in_ok-out.ensures.bytes (begins c.args.text.now c.utf8.text)

pub range-requires-clause-start_le_end : goal.range-requires-clause-start_le_end
range-requires-clause-start_le_end c =
    (cut c.args.text.now c.as_bytes-bytes.result.now _ c.loop-i.start c.loop-i.opening _ c.end.result c.loop-i.i c.loop-i.way _ c.as_bytes-bytes.ensures.value c.loop-i-test.true c.next-next.ensures c.opening-opening.ensures c.end.ensures
    (apart _ _ _ _ c.in_token.ensures c.in_token-in-loop-i.ensures c.if-in_token.true) c.loop-i.invariant).ordered

pub range-requires-clause-end_boundary : goal.range-requires-clause-end_boundary
range-requires-clause-end_boundary c =
    (cut c.args.text.now c.as_bytes-bytes.result.now _ c.loop-i.start c.loop-i.opening _ c.end.result c.loop-i.i c.loop-i.way _ c.as_bytes-bytes.ensures.value c.loop-i-test.true c.next-next.ensures c.opening-opening.ensures c.end.ensures
    (apart _ _ _ _ c.in_token.ensures c.in_token-in-loop-i.ensures c.if-in_token.true) c.loop-i.invariant).boundary

pub loop-i-preserved : goal.loop-i-preserved
loop-i-preserved c =
    let items = c.as_bytes-bytes.result.now in
    let text = c.args.text.now in
    passes text items _ _ _ c.opening-opening.result c.loop-i.i c.skipped.result c.next-next.result c.as_bytes-bytes.ensures.value (tail_is items (c.loop-i.i + 1)) c.skipped.ensures.value c.skipped.ensures.bound (elim c.if-in_token.branch [
      | then-in_token+in_ok-push_str w ↦
          rw (w.out-is, w.start-is) (turned text items (string_bytes c.loop-i.out) _ c.loop-i.start c.loop-i.opening _ w.end.result c.loop-i.i c.loop-i.way _ c.utf8.text c.as_bytes-bytes.ensures.value c.loop-i-test.true c.next-next.ensures c.opening-opening.ensures w.end.ensures
          (apart _ _ _ _ c.in_token.ensures c.in_token-in-loop-i.ensures w.if-in_token.true)
          (w.in_ok-push_str.ensures.bytes ∙ ap (λ (t : List ℕ). string_bytes c.loop-i.out ++ t) w.range.ensures.value)
          c.loop-i.invariant)
      | else-in_token w ↦
          rw (w.out-is, w.start-is) (kept text items (string_bytes c.loop-i.out) c.loop-i.start c.loop-i.opening _ c.loop-i.i c.loop-i.way _ c.as_bytes-bytes.ensures.value c.loop-i-test.true c.next-next.ensures c.opening-opening.ensures
          (alike _ _ _ _ c.in_token.ensures c.in_token-in-loop-i.ensures w.if-in_token.false) c.loop-i.invariant)
    ])

pub returns : goal.returns
returns c =
    rw (c.in_ok-push_str-2.ensures.bytes, c.range_from.ensures.value)
    (ended c.args.text.now c.as_bytes-bytes.result.now (string_bytes c.loop-i.out) c.loop-i.start c.loop-i.opening c.loop-i.i c.loop-i.way c.as_bytes-bytes.ensures.value c.loop-i-test.false c.loop-i.invariant)
