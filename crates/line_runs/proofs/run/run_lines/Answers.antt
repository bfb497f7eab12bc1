use Rattle.std.proofs.Common.{rules, true, false, ◌≡◌, ◌<◌, ◌≤◌, ◌+◌, Ok, sym, ap, ◌∙◌, subst, length, arith}
use Rattle.std.proofs.lemmas.Bool.{eqb-false}
use Rattle.line_runs.specs.Lines.{ReadsLineOf}
use Rattle.line_runs.specs.Run.{gives_front, most_reads}
use Rattle.line_runs.specs.declared.lines.TheConstants.{KEPT_BYTES}
use Rattle.line_runs.specs.declared.outcome.Ran.{Ran}
use Rattle.line_runs.specs.declared.run.Turn.{Turn}
use Rattle.line_runs.specs.declared.run.Turn.TheVariants.{Taken, Refused, Ended}
use Rattle.line_runs.proofs.RunLemmas.{Progress, begins, passes, takes, refuses, stops, ends_of, end_begun_of, begun, begun_in_line, read_stops, too_many, few, few_in_line, few_line, kept_in_line, none_left}
use Rattle.line_runs.proofs.run.run_lines.Goals.{in-Taken, in-Refused}
use Rattle.line_runs.proofs.run.run_lines.Goals as goal

pub loop-read-init : goal.loop-read-init
loop-read-init g c = begins g.M.AnswerLines.line_gives g.M.AnswerLines.end_gives _ _ _

-- the input ended
pub returns-in-Ok-false-clause-output : goal.returns-in-Ok-false-clause-output
returns-in-Ok-false-clause-output g c =
    let none : ReadsLineOf KEPT_BYTES (g.R.Read.remaining c.loop-read.input.reader) false c.next_line.new.line.items (g.R.Read.remaining c.next_line.new.self.reader) =
    subst (λ b. ReadsLineOf KEPT_BYTES (g.R.Read.remaining c.loop-read.input.reader) b c.next_line.new.line.items (g.R.Read.remaining c.next_line.new.self.reader)) c.in-Ok-false.field-0-test c.in-Ok-false.ensures.ok in
    ends_of g.M.AnswerLines.line_gives g.M.AnswerLines.end_gives c.args.machine.now c.write_end.result _ _ c.loop-read._read _ _ _ _ _ _ c.loop-read.invariant (none_left _ (g.R.Read.remaining c.next_line.new.self.reader) KEPT_BYTES c.next_line.new.line.items none).0 c.next_line.ensures.writer c.write_end.ensures.ok

pub returns-in-Ok-false-clause-begun : goal.returns-in-Ok-false-clause-begun
returns-in-Ok-false-clause-begun g c =
    let none : ReadsLineOf KEPT_BYTES (g.R.Read.remaining c.loop-read.input.reader) false c.next_line.new.line.items (g.R.Read.remaining c.next_line.new.self.reader) =
    subst (λ b. ReadsLineOf KEPT_BYTES (g.R.Read.remaining c.loop-read.input.reader) b c.next_line.new.line.items (g.R.Read.remaining c.next_line.new.self.reader)) c.in-Ok-false.field-0-test c.in-Ok-false.ensures.ok in
    end_begun_of g.M.AnswerLines.line_gives g.M.AnswerLines.end_gives c.args.machine.now c.write_end.result _ _ c.loop-read._read _ _ _ _ _ _ c.loop-read.invariant (none_left _ (g.R.Read.remaining c.next_line.new.self.reader) KEPT_BYTES c.next_line.new.line.items none).0 c.next_line.ensures.writer c.write_end.ensures.err

pub returns-in-Ok-false-clause-reads : goal.returns-in-Ok-false-clause-reads
returns-in-Ok-false-clause-reads g c =
    let none : ReadsLineOf KEPT_BYTES (g.R.Read.remaining c.loop-read.input.reader) false c.next_line.new.line.items (g.R.Read.remaining c.next_line.new.self.reader) =
    subst (λ b. ReadsLineOf KEPT_BYTES (g.R.Read.remaining c.loop-read.input.reader) b c.next_line.new.line.items (g.R.Read.remaining c.next_line.new.self.reader)) c.in-Ok-false.field-0-test c.in-Ok-false.ensures.ok in
    let within : c.loop-read._read ≤ most_reads = omega (arith, c.loop-read-test.true) in
    few g.M.AnswerLines.line_gives g.M.AnswerLines.end_gives c.args.machine.now _ _ c.loop-read._read _ _ _ _ _ c.loop-read.invariant (none_left _ (g.R.Read.remaining c.next_line.new.self.reader) KEPT_BYTES c.next_line.new.line.items none).1 within

-- the next line was not read whole
pub returns-in-Err-clause-begun : goal.returns-in-Err-clause-begun
returns-in-Err-clause-begun g c = begun g.M.AnswerLines.line_gives g.M.AnswerLines.end_gives c.args.machine.now _ _ c.loop-read._read _ _ _ _ _ c.loop-read.invariant c.next_line.ensures.writer

pub returns-in-Err-clause-stopped : goal.returns-in-Err-clause-stopped
returns-in-Err-clause-stopped g c = λ _.
    read_stops g.M.AnswerLines.line_gives g.M.AnswerLines.end_gives c.args.machine.now c.in-Err.fault _ _ c.loop-read._read _ _ _ _ _ _ c.loop-read.invariant c.in-Err.ensures.err.1 c.next_line.ensures.writer c.in-Err.ensures.err.0

pub returns-in-Err-clause-reads : goal.returns-in-Err-clause-reads
returns-in-Err-clause-reads g c =
    let within : c.loop-read._read < most_reads = omega (arith, c.loop-read-test.true) in
    few_in_line g.M.AnswerLines.line_gives g.M.AnswerLines.end_gives c.args.machine.now _ _ c.loop-read._read _ _ _ _ _ c.loop-read.invariant c.in-Err.ensures.err.1 within

pub loop-read-preserved-then-is_empty : goal.loop-read-preserved-then-is_empty
loop-read-preserved-then-is_empty g c =
    let read : ReadsLineOf KEPT_BYTES (g.R.Read.remaining c.loop-read.input.reader) true c.next_line.new.line.items (g.R.Read.remaining c.next_line.new.self.reader) =
    subst (λ b. ReadsLineOf KEPT_BYTES (g.R.Read.remaining c.loop-read.input.reader) b c.next_line.new.line.items (g.R.Read.remaining c.next_line.new.self.reader)) c.in-Ok-true.field-0-test c.in-Ok-true.ensures.ok in
    let empty : length c.next_line.new.line.items ≡ 0 = search rules in
    passes g.M.AnswerLines.line_gives g.M.AnswerLines.end_gives c.args.machine.now _ _ c.loop-read._read _ _ _ _ _ _ KEPT_BYTES c.next_line.new.line.items c.loop-read.invariant read c.next_line.ensures.writer (omega arith) empty

-- a line that ends the run
pub returns-in-Ended-clause-output : goal.returns-in-Ended-clause-output
returns-in-Ended-clause-output g c =
    let lines = g.M.AnswerLines.line_gives in
    let line = c.next_line.new.line.items in
    let next = c.write_answer.new.machine in
    let read : ReadsLineOf KEPT_BYTES (g.R.Read.remaining c.loop-read.input.reader) true line (g.R.Read.remaining c.next_line.new.self.reader) =
    subst (λ b. ReadsLineOf KEPT_BYTES (g.R.Read.remaining c.loop-read.input.reader) b c.next_line.new.line.items (g.R.Read.remaining c.next_line.new.self.reader)) c.in-Ok-true.field-0-test c.in-Ok-true.ensures.ok in
    let held = eqb-false _ _ (sym c.is_empty.ensures ∙ c.if-is_empty.false) in
    let long = c.next_line.new.line.ok.0 in
    let holds : 0 < length line = omega (arith, held, long) in
    let wrote = c.in-Ok.ensures.ok in
    let gave = subst (λ l. lines c.loop-read.machine l Ended wrote.0 next) c.as_slice.ensures.value (subst (λ t. lines c.loop-read.machine c.as_slice.result.now t wrote.0 next) c.in-Ended.is wrote.2) in
    stops lines g.M.AnswerLines.end_gives c.args.machine.now KEPT_BYTES g.met.M.AnswerLines.cut_alike _ _ c.loop-read._read _ _ next _ _ _ _ _ line wrote.0 c.loop-read.invariant read c.next_line.ensures.writer holds wrote.1 gave

pub returns-in-Ended-clause-reads : goal.returns-in-Ended-clause-reads
returns-in-Ended-clause-reads g c =
    let read : ReadsLineOf KEPT_BYTES (g.R.Read.remaining c.loop-read.input.reader) true c.next_line.new.line.items (g.R.Read.remaining c.next_line.new.self.reader) =
    subst (λ b. ReadsLineOf KEPT_BYTES (g.R.Read.remaining c.loop-read.input.reader) b c.next_line.new.line.items (g.R.Read.remaining c.next_line.new.self.reader)) c.in-Ok-true.field-0-test c.in-Ok-true.ensures.ok in
    let within : c.loop-read._read < most_reads = omega (arith, c.loop-read-test.true) in
    few_line g.M.AnswerLines.line_gives g.M.AnswerLines.end_gives c.args.machine.now _ _ c.loop-read._read _ _ _ _ _ KEPT_BYTES c.next_line.new.line.items c.loop-read.invariant read within

-- a line whose answer was not written whole
pub returns-in-Err-write_answer-clause-begun : goal.returns-in-Err-write_answer-clause-begun
returns-in-Err-write_answer-clause-begun g c =
    let lines = g.M.AnswerLines.line_gives in
    let line = c.next_line.new.line.items in
    let next = c.write_answer.new.machine in
    let read : ReadsLineOf KEPT_BYTES (g.R.Read.remaining c.loop-read.input.reader) true line (g.R.Read.remaining c.next_line.new.self.reader) =
    subst (λ b. ReadsLineOf KEPT_BYTES (g.R.Read.remaining c.loop-read.input.reader) b c.next_line.new.line.items (g.R.Read.remaining c.next_line.new.self.reader)) c.in-Ok-true.field-0-test c.in-Ok-true.ensures.ok in
    let held = eqb-false _ _ (sym c.is_empty.ensures ∙ c.if-is_empty.false) in
    let long = c.next_line.new.line.ok.0 in
    let holds : 0 < length line = omega (arith, held, long) in
    let gave = subst (λ l. gives_front (λ out. (turn : Turn) × lines c.loop-read.machine l turn out next) (g.W.Write.contents c.next_line.new.writer) (g.W.Write.contents c.write_answer.new.writer))
    c.as_slice.ensures.value c.in-Err-write_answer.ensures.err.1 in
    begun_in_line lines g.M.AnswerLines.end_gives c.args.machine.now KEPT_BYTES g.met.M.AnswerLines.cut_alike _ _ c.loop-read._read _ _ next _ _ _ _ _ line c.loop-read.invariant read c.next_line.ensures.writer holds gave

pub returns-in-Err-write_answer-clause-reads : goal.returns-in-Err-write_answer-clause-reads
returns-in-Err-write_answer-clause-reads g c =
    let read : ReadsLineOf KEPT_BYTES (g.R.Read.remaining c.loop-read.input.reader) true c.next_line.new.line.items (g.R.Read.remaining c.next_line.new.self.reader) =
    subst (λ b. ReadsLineOf KEPT_BYTES (g.R.Read.remaining c.loop-read.input.reader) b c.next_line.new.line.items (g.R.Read.remaining c.next_line.new.self.reader)) c.in-Ok-true.field-0-test c.in-Ok-true.ensures.ok in
    let within : c.loop-read._read < most_reads = omega (arith, c.loop-read-test.true) in
    few_line g.M.AnswerLines.line_gives g.M.AnswerLines.end_gives c.args.machine.now _ _ c.loop-read._read _ _ _ _ _ KEPT_BYTES c.next_line.new.line.items c.loop-read.invariant read within

-- a line after which the next follows
pub loop-read-preserved : goal.loop-read-preserved
loop-read-preserved g c =
    let lines = g.M.AnswerLines.line_gives in
    let last = g.M.AnswerLines.end_gives in
    let line = c.next_line.new.line.items in
    let next = c.write_answer.new.machine in
    let rest = g.R.Read.remaining c.next_line.new.self.reader in
    let read : ReadsLineOf KEPT_BYTES (g.R.Read.remaining c.loop-read.input.reader) true line rest =
    subst (λ b. ReadsLineOf KEPT_BYTES (g.R.Read.remaining c.loop-read.input.reader) b c.next_line.new.line.items (g.R.Read.remaining c.next_line.new.self.reader)) c.in-Ok-true.field-0-test c.in-Ok-true.ensures.ok in
    let held = eqb-false _ _ (sym c.is_empty.ensures ∙ c.if-is_empty.false) in
    let long = c.next_line.new.line.ok.0 in
    let holds : 0 < length line = omega (arith, held, long) in
    let progress = λ (r : Ran). Progress lines last c.args.machine.now (g.R.Read.remaining c.args.input.now.reader) (g.W.Write.contents c.args.writer.now) (c.loop-read._read + 1) r next rest (g.W.Write.contents c.write_answer.new.writer) in
    let wrote = c.in-Ok.ensures.ok in
    let gave : (t : Turn) → c.in-Ok.turn ≡ t → lines c.loop-read.machine line t wrote.0 next =
    λ t e. subst (λ l. lines c.loop-read.machine l t wrote.0 next) c.as_slice.ensures.value (subst (λ u. lines c.loop-read.machine c.as_slice.result.now u wrote.0 next) e wrote.2) in
    elim c.match-turn.branch as (λ _. progress c.match-turn.ran) [
      | in-Taken w ↦ subst progress (sym w.ran-is) (takes lines last c.args.machine.now KEPT_BYTES g.met.M.AnswerLines.cut_alike _ _ c.loop-read._read _ _ next _ _ _ _ _ line wrote.0
          c.loop-read.invariant read c.next_line.ensures.writer holds wrote.1 (gave Taken w.in-Taken.is))
      | in-Refused w ↦ subst progress (sym w.ran-is) (refuses lines last c.args.machine.now KEPT_BYTES g.met.M.AnswerLines.cut_alike _ _ c.loop-read._read _ _ next _ _ _ _ _ line wrote.0
          c.loop-read.invariant read c.next_line.ensures.writer holds wrote.1 (gave Refused w.in-Refused.is))
    ]

-- the end of the input after the most lines
pub returns-in-Ok-true-has_ended-clause-output : goal.returns-in-Ok-true-has_ended-clause-output
returns-in-Ok-true-has_ended-clause-output g c =
    let ended : c.has_ended.result ≡ Ok true = c.in-Ok-true-has_ended.is ∙ ap Ok c.in-Ok-true-has_ended.field-0-test in
    ends_of g.M.AnswerLines.line_gives g.M.AnswerLines.end_gives c.args.machine.now c.write_end-in-Ok-true-has_ended.result _ _ c.loop-read._read _ _ _ _ _ _ c.loop-read.invariant
    (c.has_ended.ensures.ended ended) c.has_ended.ensures.writer c.write_end-in-Ok-true-has_ended.ensures.ok

pub returns-in-Ok-true-has_ended-clause-begun : goal.returns-in-Ok-true-has_ended-clause-begun
returns-in-Ok-true-has_ended-clause-begun g c =
    let ended : c.has_ended.result ≡ Ok true = c.in-Ok-true-has_ended.is ∙ ap Ok c.in-Ok-true-has_ended.field-0-test in
    end_begun_of g.M.AnswerLines.line_gives g.M.AnswerLines.end_gives c.args.machine.now c.write_end-in-Ok-true-has_ended.result _ _ c.loop-read._read _ _ _ _ _ _ c.loop-read.invariant
    (c.has_ended.ensures.ended ended) c.has_ended.ensures.writer c.write_end-in-Ok-true-has_ended.ensures.err

pub returns-in-Ok-true-has_ended-clause-reads : goal.returns-in-Ok-true-has_ended-clause-reads
returns-in-Ok-true-has_ended-clause-reads g c =
    let within : c.loop-read._read ≤ most_reads = omega (arith, c.loop-read.auto._read-end) in
    few g.M.AnswerLines.line_gives g.M.AnswerLines.end_gives c.args.machine.now _ _ c.loop-read._read _ _ _ _ _ c.loop-read.invariant c.has_ended.ensures.reader within

-- too many lines
pub returns-in-Ok-false-has_ended-clause-begun : goal.returns-in-Ok-false-has_ended-clause-begun
returns-in-Ok-false-has_ended-clause-begun g c = begun g.M.AnswerLines.line_gives g.M.AnswerLines.end_gives c.args.machine.now _ _ c.loop-read._read _ _ _ _ _ c.loop-read.invariant c.has_ended.ensures.writer

pub returns-in-Ok-false-has_ended-clause-stopped : goal.returns-in-Ok-false-has_ended-clause-stopped
returns-in-Ok-false-has_ended-clause-stopped g c = λ _.
    let more : c.has_ended.result ≡ Ok false = c.in-Ok-false-has_ended.is ∙ ap Ok c.in-Ok-false-has_ended.field-0-test in
    let all : c.loop-read._read ≡ most_reads = omega (arith, c.loop-read-test.false, c.loop-read.auto._read-end) in
    too_many g.M.AnswerLines.line_gives g.M.AnswerLines.end_gives c.args.machine.now _ _ c.loop-read._read _ _ _ _ _ _ c.loop-read.invariant c.has_ended.ensures.reader (c.has_ended.ensures.more more) c.has_ended.ensures.writer all

pub returns-in-Ok-false-has_ended-clause-reads : goal.returns-in-Ok-false-has_ended-clause-reads
returns-in-Ok-false-has_ended-clause-reads g c =
    let within : c.loop-read._read ≤ most_reads = omega (arith, c.loop-read.auto._read-end) in
    few g.M.AnswerLines.line_gives g.M.AnswerLines.end_gives c.args.machine.now _ _ c.loop-read._read _ _ _ _ _ c.loop-read.invariant c.has_ended.ensures.reader within

-- the look for more failed
pub returns-in-Err-has_ended-clause-begun : goal.returns-in-Err-has_ended-clause-begun
returns-in-Err-has_ended-clause-begun g c = begun g.M.AnswerLines.line_gives g.M.AnswerLines.end_gives c.args.machine.now _ _ c.loop-read._read _ _ _ _ _ c.loop-read.invariant c.has_ended.ensures.writer

pub returns-in-Err-has_ended-clause-stopped : goal.returns-in-Err-has_ended-clause-stopped
returns-in-Err-has_ended-clause-stopped g c = λ _.
    read_stops g.M.AnswerLines.line_gives g.M.AnswerLines.end_gives c.args.machine.now c.in-Err-has_ended.fault _ _ c.loop-read._read _ _ _ _ _ _ c.loop-read.invariant (kept_in_line _ _ c.has_ended.ensures.reader)
    c.has_ended.ensures.writer c.in-Err-has_ended.ensures.err

pub returns-in-Err-has_ended-clause-reads : goal.returns-in-Err-has_ended-clause-reads
returns-in-Err-has_ended-clause-reads g c =
    let within : c.loop-read._read ≤ most_reads = omega (arith, c.loop-read.auto._read-end) in
    few g.M.AnswerLines.line_gives g.M.AnswerLines.end_gives c.args.machine.now _ _ c.loop-read._read _ _ _ _ _ c.loop-read.invariant c.has_ended.ensures.reader within
