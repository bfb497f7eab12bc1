use Rattle.std.proofs.Common.{◌+◌, ◌++◌, ◌∙◌, sym, ap, List, ℕ, drop, string_bytes}
use Rattle.std.proofs.lemmas.Result.{err_from_is_err_and}
use Rattle.json_text.specs.Quote.{before}
use Rattle.json_text.proofs.Fails.{Fails-err, Fails-through}
use Rattle.json_text.proofs.Copying.{between, tail_is}
use Rattle.json_text.proofs.Quoting.{begins, kept, turned, passes, boundary, stops, at_end, ended, apart, alike}
use Rattle.json_text.proofs.quote.quote_numbers.Goals as goal
use Rattle.json_text.proofs.quote.quote_numbers.Goals.{then-in_number+in_ok-push_both, else-in_number}

pub loop-i-init : goal.loop-i-init
loop-i-init c = rw c.in_ok-out.ensures.bytes (begins c.args.text.now c.utf8.text)

pub returns-in_err-next : goal.returns-in_err-next
returns-in_err-next c =
    let p = err_from_is_err_and c.from_residual-in_err-next.result c.from_residual-in_err-next.ensures.1 in
    rw (p.1, p.2) (Fails-err _ _ (stops c.args.text.now c.as_bytes-bytes.result.now _ _ c.loop-i.i c.loop-i.mode _ c.as_bytes-bytes.ensures.value c.loop-i-test.true c.in_err-next.ensures c.loop-i.invariant))

pub range-requires-clause-end_boundary : goal.range-requires-clause-end_boundary
range-requires-clause-end_boundary c =
    boundary c.args.text.now c.as_bytes-bytes.result.now _ c.loop-i.start c.loop-i.i c.loop-i.mode c.in_ok-next.next c.as_bytes-bytes.ensures.value c.loop-i-test.true c.in_ok-next.ensures
    (apart _ _ _ _ c.in_number.ensures c.in_number-in-loop-i.ensures c.if-in_number.true) c.loop-i.invariant

pub loop-i-preserved : goal.loop-i-preserved
loop-i-preserved c =
    let items = c.as_bytes-bytes.result.now in
    let text = c.args.text.now in
    passes text items _ _ _ c.loop-i.i c.skipped.result c.in_ok-next.next c.as_bytes-bytes.ensures.value (tail_is items (c.loop-i.i + 1)) c.skipped.ensures.value c.skipped.ensures.bound (elim c.if-in_number.branch [
      | then-in_number+in_ok-push_both w ↦
          rw (w.out-is, w.start-is) (turned text items (string_bytes c.loop-i.out) _ c.loop-i.start c.loop-i.i c.loop-i.mode c.in_ok-next.next c.utf8.text c.as_bytes-bytes.ensures.value c.loop-i-test.true c.in_ok-next.ensures
          (apart _ _ _ _ c.in_number.ensures c.in_number-in-loop-i.ensures w.if-in_number.true)
          (w.in_ok-push_both.ensures ∙ ap (λ (t : List ℕ). string_bytes c.loop-i.out ++ (t ++ w.mark.result.now)) w.range.ensures.value ∙ ap (λ (t : List ℕ). string_bytes c.loop-i.out ++ (between text c.loop-i.start c.loop-i.i ++ t)) w.mark.ensures)
          c.loop-i.invariant)
      | else-in_number w ↦
          rw (w.out-is, w.start-is) (kept text items (string_bytes c.loop-i.out) c.loop-i.start c.loop-i.i c.loop-i.mode c.in_ok-next.next c.utf8.text c.as_bytes-bytes.ensures.value c.loop-i-test.true c.in_ok-next.ensures
          (alike _ _ _ _ c.in_number.ensures c.in_number-in-loop-i.ensures w.if-in_number.false) c.loop-i.invariant)
    ])

pub returns-in_err-ending : goal.returns-in_err-ending
returns-in_err-ending c =
    let p = err_from_is_err_and c.from_residual-in_err-ending.result c.from_residual-in_err-ending.ensures.1 in
    let total = at_end c.args.text.now c.as_bytes-bytes.result.now (string_bytes c.loop-i.out) c.loop-i.start c.loop-i.i c.loop-i.mode c.as_bytes-bytes.ensures.value c.loop-i-test.false c.loop-i.invariant in
    rw (p.1, p.2) (Fails-through _ _ _ c.in_err-ending.ensures (λ f h. total ∙ ap (before (string_bytes c.loop-i.out ++ drop c.loop-i.start c.args.text.now)) h))

pub returns : goal.returns
returns c =
    let total = at_end c.args.text.now c.as_bytes-bytes.result.now (string_bytes c.loop-i.out) c.loop-i.start c.loop-i.i c.loop-i.mode c.as_bytes-bytes.ensures.value c.loop-i-test.false c.loop-i.invariant in
    rw (c.in_ok-push_both-2.ensures, c.range_from.ensures.value) (total ∙ ended (string_bytes c.loop-i.out) (drop c.loop-i.start c.args.text.now) c.in_ok-ending.field-0.now c.loop-i.mode (sym c.in_ok-ending.ensures))
