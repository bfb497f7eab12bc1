use Rattle.std.proofs.Common.{◌≡◌, ◌≤◌, ◌<◌, ◌+◌, ◌++◌, ◌∙◌, ℕ, suc, [], None, Ok, Err, refl, sym, ap, ap₂, subst, arith, string_bytes}
use Rattle.node_runs.specs.DoneLines.{known_line, refused_line}
use Rattle.node_steps.specs.declared.fault.NodeFault.TheVariants.{NumbersUsedUp}
use Rattle.ocpi_text.specs.Whole.{max_whole}
use Rattle.replays.proofs.AnswerLemmas.{on_ok}
use Rattle.replays.proofs.LineLemmas.{line_beyond, line_known, line_read, no_next}
use Rattle.replays.proofs.answering.Running.answer.Goals as goal

pub returns-in-None : goal.returns-in-None
returns-in-None c =
    let now = c.args.self.now in
    let first = c.args.happened.now in
    let over = no_next c.next.result (now.number + 1 ≤ max_whole) (now.number + 1) c.next.ensures c.in-None.is in
    let known = c.value-known.ensures.bound in
    let last = c.value-last.ensures.bound in
    let at : now.number ≡ max_whole = omega (arith, over, last) in
    let new : now.known ≤ now.number = omega (arith, known, at) in
    on_ok c.tell_beyond.result (λ written.
    line_beyond now now c.args.line.bytes.now (string_bytes c.tell_beyond.new.text) first first new at (written ∙ ap (λ t. t ++ refused_line max_whole None NumbersUsedUp) c.clear.ensures.bytes) refl refl) c.tell_beyond.ensures

pub returns-then-last-known : goal.returns-then-last-known
returns-then-last-known c =
    let now = c.args.self.now in
    let first = c.args.happened.now in
    let number = c.in-Some.number in
    let next = c.in-Some.ensures.1 in
    let is : number ≡ suc now.number = omega (arith, next) in
    let within : number ≤ now.known = omega (arith, next, c.if-last-known.true, c.value-known.ensures.value, c.value-last.ensures.value) in
    on_ok c.write_known.result (λ written.
    line_known now _ c.args.line.bytes.now (string_bytes c.write_known.new.output) first first number is within (written ∙ ap₂ (λ t n. t ++ known_line n) c.clear.ensures.bytes c.value.ensures.value) refl refl) c.write_known.ensures

pub returns : goal.returns
returns c =
    let now = c.args.self.now in
    let number = c.in-Some.number in
    let next = c.in-Some.ensures.1 in
    let is : number ≡ suc now.number = omega (arith, next) in
    let within : suc now.number ≤ max_whole = omega (arith, c.in-Some.ensures.0) in
    let new : now.known ≤ now.number = omega (arith, c.if-last-known.false, c.value-known.ensures.value, c.value-last.ensures.value) in
    on_ok c.answer_new.result (λ read.
    line_read now c.answer_new.new.self c.args.line.bytes.now (string_bytes c.answer_new.new.text) c.args.happened.now c.answer_new.new.happened new within number is read) c.answer_new.ensures
