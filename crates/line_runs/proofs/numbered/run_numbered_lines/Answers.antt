use Rattle.std.proofs.Common.{rules, true, false, ◌≡◌, ◌<◌, ◌≤◌, ◌+◌, Ok, sym, ap, ◌∙◌, subst, length, arith}
use Rattle.std.proofs.lemmas.Bool.{eqb-false}
use Rattle.line_runs.specs.Lines.{ReadsLineOf}
use Rattle.line_runs.specs.Numbered.{AreNumbered}
use Rattle.line_runs.specs.Run.{gives_front, most_reads}
use Rattle.line_runs.specs.declared.lines.TheConstants.{KEPT_BYTES}
use Rattle.line_runs.specs.declared.outcome.Ran.{Ran}
use Rattle.line_runs.specs.declared.run.Turn.{Turn}
use Rattle.line_runs.specs.declared.run.Turn.TheVariants.{Taken, Refused, Ended}
use Rattle.line_runs.proofs.ChainLemmas.{chain_few, chain_few_part, chain_few_line}
use Rattle.line_runs.proofs.NumberedLemmas.{NumberedProgress, begins, passes, takes, refuses, stops, over_read, over_seen, ends_of, end_begun_of, begun_kept, begun_cut, begun_feed, begun_in_line, read_stops, look_stops, too_many}
use Rattle.line_runs.proofs.numbered.run_numbered_lines.Goals.{in-Taken, in-Refused}
use Rattle.line_runs.proofs.numbered.run_numbered_lines.Goals as goal

pub loop-read-init : goal.loop-read-init
loop-read-init g c = begins g.M.AnswerNumbered.line_gives g.M.AnswerNumbered.end_gives c.args.echo c.args.machine.now _ _

-- the input ended
pub returns-in-Ok-false-clause-output : goal.returns-in-Ok-false-clause-output
returns-in-Ok-false-clause-output g c =
    let read : ReadsLineOf KEPT_BYTES (g.R.Read.remaining c.loop-read.input.reader) false c.next_echoed.new.line.items (g.R.Read.remaining c.next_echoed.new.self.reader) =
    subst (λ b. ReadsLineOf KEPT_BYTES (g.R.Read.remaining c.loop-read.input.reader) b c.next_echoed.new.line.items (g.R.Read.remaining c.next_echoed.new.self.reader)) c.in-Ok-false.field-0-test c.in-Ok-false.ensures.ok in
    let over = over_read c.args.echo KEPT_BYTES (g.R.Read.remaining c.loop-read.input.reader) (g.R.Read.remaining c.next_echoed.new.self.reader) _ _ c.next_echoed.new.line.items read c.in-Ok-false.ensures.echoed in
    ends_of g.M.AnswerNumbered.line_gives g.M.AnswerNumbered.end_gives c.args.echo c.args.machine.now c.write_last.result _ _ c.loop-read.read _ _ _ _ _ _ c.loop-read.invariant over.0 c.write_last.ensures.ok

pub returns-in-Ok-false-clause-begun : goal.returns-in-Ok-false-clause-begun
returns-in-Ok-false-clause-begun g c =
    let read : ReadsLineOf KEPT_BYTES (g.R.Read.remaining c.loop-read.input.reader) false c.next_echoed.new.line.items (g.R.Read.remaining c.next_echoed.new.self.reader) =
    subst (λ b. ReadsLineOf KEPT_BYTES (g.R.Read.remaining c.loop-read.input.reader) b c.next_echoed.new.line.items (g.R.Read.remaining c.next_echoed.new.self.reader)) c.in-Ok-false.field-0-test c.in-Ok-false.ensures.ok in
    let over = over_read c.args.echo KEPT_BYTES (g.R.Read.remaining c.loop-read.input.reader) (g.R.Read.remaining c.next_echoed.new.self.reader) _ _ c.next_echoed.new.line.items read c.in-Ok-false.ensures.echoed in
    end_begun_of g.M.AnswerNumbered.line_gives g.M.AnswerNumbered.end_gives c.args.echo c.args.machine.now c.write_last.result _ _ c.loop-read.read _ _ _ _ _ _ c.loop-read.invariant over.0 c.write_last.ensures.err

pub returns-in-Ok-false-clause-reads : goal.returns-in-Ok-false-clause-reads
returns-in-Ok-false-clause-reads g c =
    let read : ReadsLineOf KEPT_BYTES (g.R.Read.remaining c.loop-read.input.reader) false c.next_echoed.new.line.items (g.R.Read.remaining c.next_echoed.new.self.reader) =
    subst (λ b. ReadsLineOf KEPT_BYTES (g.R.Read.remaining c.loop-read.input.reader) b c.next_echoed.new.line.items (g.R.Read.remaining c.next_echoed.new.self.reader)) c.in-Ok-false.field-0-test c.in-Ok-false.ensures.ok in
    let over = over_read c.args.echo KEPT_BYTES (g.R.Read.remaining c.loop-read.input.reader) (g.R.Read.remaining c.next_echoed.new.self.reader) _ _ c.next_echoed.new.line.items read c.in-Ok-false.ensures.echoed in
    let within : c.loop-read.read ≤ most_reads = omega (arith, c.loop-read-test.true) in
    chain_few (AreNumbered g.M.AnswerNumbered.line_gives c.args.echo c.args.machine.now) _ _ c.loop-read.read _ _ _ _ _ c.loop-read.invariant over.1 within

-- the next line was not read whole
pub returns-in-Err-clause-begun : goal.returns-in-Err-clause-begun
returns-in-Err-clause-begun g c =
    begun_cut g.M.AnswerNumbered.line_gives g.M.AnswerNumbered.end_gives c.args.echo c.args.machine.now _ _ c.loop-read.read _ _ _ _ _ c.loop-read.invariant c.in-Err.ensures.begun

pub returns-in-Err-clause-stopped : goal.returns-in-Err-clause-stopped
returns-in-Err-clause-stopped g c =
    λ read. read_stops g.M.AnswerNumbered.line_gives g.M.AnswerNumbered.end_gives c.args.echo c.args.machine.now c.in-Err.fault _ _ c.loop-read.read _ _ _ _ _ _ c.loop-read.invariant c.in-Err.ensures.err.1 c.in-Err.ensures.err.0 read

pub returns-in-Err-clause-reads : goal.returns-in-Err-clause-reads
returns-in-Err-clause-reads g c =
    let within : c.loop-read.read < most_reads = omega (arith, c.loop-read-test.true) in
    let cut = c.in-Err.ensures.err.1 in
    chain_few_part (AreNumbered g.M.AnswerNumbered.line_gives c.args.echo c.args.machine.now) _ _ c.loop-read.read _ _ _ _ _ cut.0 c.loop-read.invariant cut.1 cut.2 within

-- an empty line
pub loop-read-preserved-then-is_empty : goal.loop-read-preserved-then-is_empty
loop-read-preserved-then-is_empty g c =
    let read : ReadsLineOf KEPT_BYTES (g.R.Read.remaining c.loop-read.input.reader) true c.next_echoed.new.line.items (g.R.Read.remaining c.next_echoed.new.self.reader) =
    subst (λ b. ReadsLineOf KEPT_BYTES (g.R.Read.remaining c.loop-read.input.reader) b c.next_echoed.new.line.items (g.R.Read.remaining c.next_echoed.new.self.reader)) c.in-Ok-true.field-0-test c.in-Ok-true.ensures.ok in
    let empty : length c.next_echoed.new.line.items ≡ 0 = search rules in
    passes g.M.AnswerNumbered.line_gives g.M.AnswerNumbered.end_gives c.args.echo c.args.machine.now _ _ c.loop-read.read _ _ _ _ _ _ KEPT_BYTES c.next_echoed.new.line.items c.loop-read.invariant read c.in-Ok-true.ensures.echoed (omega arith) empty

-- the echo of a line was not written whole
pub returns-in-Err-end_echo-clause-begun : goal.returns-in-Err-end_echo-clause-begun
returns-in-Err-end_echo-clause-begun g c =
    let read : ReadsLineOf KEPT_BYTES (g.R.Read.remaining c.loop-read.input.reader) true c.next_echoed.new.line.items (g.R.Read.remaining c.next_echoed.new.self.reader) =
    subst (λ b. ReadsLineOf KEPT_BYTES (g.R.Read.remaining c.loop-read.input.reader) b c.next_echoed.new.line.items (g.R.Read.remaining c.next_echoed.new.self.reader)) c.in-Ok-true.field-0-test c.in-Ok-true.ensures.ok in
    let held = eqb-false _ _ (sym c.is_empty.ensures ∙ c.if-is_empty.false) in
    let long = c.next_echoed.new.line.ok.0 in
    let holds : 0 < length c.next_echoed.new.line.items = omega (arith, held, long) in
    begun_feed g.M.AnswerNumbered.line_gives g.M.AnswerNumbered.end_gives c.args.echo c.args.machine.now _ _ c.loop-read.read _ _ _ _ _ _ _ KEPT_BYTES c.next_echoed.new.line.items c.loop-read.invariant read c.in-Ok-true.ensures.echoed holds (c.in-Err-end_echo.ensures.err.1, c.in-Err-end_echo.ensures.err.2)

pub returns-in-Err-end_echo-clause-reads : goal.returns-in-Err-end_echo-clause-reads
returns-in-Err-end_echo-clause-reads g c =
    let read : ReadsLineOf KEPT_BYTES (g.R.Read.remaining c.loop-read.input.reader) true c.next_echoed.new.line.items (g.R.Read.remaining c.next_echoed.new.self.reader) =
    subst (λ b. ReadsLineOf KEPT_BYTES (g.R.Read.remaining c.loop-read.input.reader) b c.next_echoed.new.line.items (g.R.Read.remaining c.next_echoed.new.self.reader)) c.in-Ok-true.field-0-test c.in-Ok-true.ensures.ok in
    let within : c.loop-read.read < most_reads = omega (arith, c.loop-read-test.true) in
    chain_few_line (AreNumbered g.M.AnswerNumbered.line_gives c.args.echo c.args.machine.now) _ _ c.loop-read.read _ _ _ _ _ KEPT_BYTES c.next_echoed.new.line.items c.loop-read.invariant read within

-- a line that ends the run
pub returns-in-Ended-clause-output : goal.returns-in-Ended-clause-output
returns-in-Ended-clause-output g c =
    let lines = g.M.AnswerNumbered.line_gives in
    let next = c.write_numbered.new.machine in
    let read : ReadsLineOf KEPT_BYTES (g.R.Read.remaining c.loop-read.input.reader) true c.next_echoed.new.line.items (g.R.Read.remaining c.next_echoed.new.self.reader) =
    subst (λ b. ReadsLineOf KEPT_BYTES (g.R.Read.remaining c.loop-read.input.reader) b c.next_echoed.new.line.items (g.R.Read.remaining c.next_echoed.new.self.reader)) c.in-Ok-true.field-0-test c.in-Ok-true.ensures.ok in
    let held = eqb-false _ _ (sym c.is_empty.ensures ∙ c.if-is_empty.false) in
    let long = c.next_echoed.new.line.ok.0 in
    let holds : 0 < length c.next_echoed.new.line.items = omega (arith, held, long) in
    let wrote = c.in-Ok-write_numbered.ensures.ok in
    let told = subst (λ l. lines c.loop-read.machine (c.from-number.result + 1) l Ended wrote.0 next) c.as_slice.ensures.value
    (subst (λ t. lines c.loop-read.machine (c.from-number.result + 1) c.as_slice.result.now t wrote.0 next) c.in-Ended.is wrote.2) in
    let gave = subst (λ k. lines c.loop-read.machine (k + 1) c.next_echoed.new.line.items Ended wrote.0 next) c.from-number.ensures told in
    stops g.M.AnswerNumbered.line_gives g.M.AnswerNumbered.end_gives c.args.echo c.args.machine.now KEPT_BYTES g.met.M.AnswerNumbered.cut_alike _ _ c.loop-read.read _ _ next _ _ _ _ _ _ c.next_echoed.new.line.items wrote.0 c.loop-read.invariant read c.in-Ok-true.ensures.echoed holds c.in-Ok.ensures.ok wrote.1 gave

pub returns-in-Ended-clause-reads : goal.returns-in-Ended-clause-reads
returns-in-Ended-clause-reads g c =
    let read : ReadsLineOf KEPT_BYTES (g.R.Read.remaining c.loop-read.input.reader) true c.next_echoed.new.line.items (g.R.Read.remaining c.next_echoed.new.self.reader) =
    subst (λ b. ReadsLineOf KEPT_BYTES (g.R.Read.remaining c.loop-read.input.reader) b c.next_echoed.new.line.items (g.R.Read.remaining c.next_echoed.new.self.reader)) c.in-Ok-true.field-0-test c.in-Ok-true.ensures.ok in
    let within : c.loop-read.read < most_reads = omega (arith, c.loop-read-test.true) in
    chain_few_line (AreNumbered g.M.AnswerNumbered.line_gives c.args.echo c.args.machine.now) _ _ c.loop-read.read _ _ _ _ _ KEPT_BYTES c.next_echoed.new.line.items c.loop-read.invariant read within

-- a line whose answer was not written whole
pub returns-in-Err-write_numbered-clause-begun : goal.returns-in-Err-write_numbered-clause-begun
returns-in-Err-write_numbered-clause-begun g c =
    let lines = g.M.AnswerNumbered.line_gives in
    let next = c.write_numbered.new.machine in
    let read : ReadsLineOf KEPT_BYTES (g.R.Read.remaining c.loop-read.input.reader) true c.next_echoed.new.line.items (g.R.Read.remaining c.next_echoed.new.self.reader) =
    subst (λ b. ReadsLineOf KEPT_BYTES (g.R.Read.remaining c.loop-read.input.reader) b c.next_echoed.new.line.items (g.R.Read.remaining c.next_echoed.new.self.reader)) c.in-Ok-true.field-0-test c.in-Ok-true.ensures.ok in
    let held = eqb-false _ _ (sym c.is_empty.ensures ∙ c.if-is_empty.false) in
    let long = c.next_echoed.new.line.ok.0 in
    let holds : 0 < length c.next_echoed.new.line.items = omega (arith, held, long) in
    let told = subst (λ l. gives_front (λ out. (turn : Turn) × lines c.loop-read.machine (c.from-number.result + 1) l turn out next) (g.W.Write.contents c.end_echo.new.writer) (g.W.Write.contents c.write_numbered.new.writer))
    c.as_slice.ensures.value c.in-Err-write_numbered.ensures.err.1 in
    let gave = subst (λ k. gives_front (λ out. (turn : Turn) × lines c.loop-read.machine (k + 1) c.next_echoed.new.line.items turn out next) (g.W.Write.contents c.end_echo.new.writer) (g.W.Write.contents c.write_numbered.new.writer))
    c.from-number.ensures told in
    begun_in_line g.M.AnswerNumbered.line_gives g.M.AnswerNumbered.end_gives c.args.echo c.args.machine.now KEPT_BYTES g.met.M.AnswerNumbered.cut_alike _ _ c.loop-read.read _ _ next _ _ _ _ _ _ c.next_echoed.new.line.items c.loop-read.invariant read c.in-Ok-true.ensures.echoed holds c.in-Ok.ensures.ok gave

pub returns-in-Err-write_numbered-clause-reads : goal.returns-in-Err-write_numbered-clause-reads
returns-in-Err-write_numbered-clause-reads g c =
    let read : ReadsLineOf KEPT_BYTES (g.R.Read.remaining c.loop-read.input.reader) true c.next_echoed.new.line.items (g.R.Read.remaining c.next_echoed.new.self.reader) =
    subst (λ b. ReadsLineOf KEPT_BYTES (g.R.Read.remaining c.loop-read.input.reader) b c.next_echoed.new.line.items (g.R.Read.remaining c.next_echoed.new.self.reader)) c.in-Ok-true.field-0-test c.in-Ok-true.ensures.ok in
    let within : c.loop-read.read < most_reads = omega (arith, c.loop-read-test.true) in
    chain_few_line (AreNumbered g.M.AnswerNumbered.line_gives c.args.echo c.args.machine.now) _ _ c.loop-read.read _ _ _ _ _ KEPT_BYTES c.next_echoed.new.line.items c.loop-read.invariant read within

-- a line after which the next follows
pub loop-read-preserved : goal.loop-read-preserved
loop-read-preserved g c =
    let lines = g.M.AnswerNumbered.line_gives in
    let next = c.write_numbered.new.machine in
    let read : ReadsLineOf KEPT_BYTES (g.R.Read.remaining c.loop-read.input.reader) true c.next_echoed.new.line.items (g.R.Read.remaining c.next_echoed.new.self.reader) =
    subst (λ b. ReadsLineOf KEPT_BYTES (g.R.Read.remaining c.loop-read.input.reader) b c.next_echoed.new.line.items (g.R.Read.remaining c.next_echoed.new.self.reader)) c.in-Ok-true.field-0-test c.in-Ok-true.ensures.ok in
    let held = eqb-false _ _ (sym c.is_empty.ensures ∙ c.if-is_empty.false) in
    let long = c.next_echoed.new.line.ok.0 in
    let holds : 0 < length c.next_echoed.new.line.items = omega (arith, held, long) in
    let progress = λ (r : Ran). NumberedProgress g.M.AnswerNumbered.line_gives g.M.AnswerNumbered.end_gives c.args.echo c.args.machine.now (g.R.Read.remaining c.args.input.now.reader) (g.W.Write.contents c.args.writer.now) (c.loop-read.read + 1) r next (g.R.Read.remaining c.next_echoed.new.self.reader) (g.W.Write.contents c.write_numbered.new.writer) in
    let wrote = c.in-Ok-write_numbered.ensures.ok in
    let gave : (t : Turn) → c.in-Ok-write_numbered.turn ≡ t → lines c.loop-read.machine (c.loop-read.read + 1) c.next_echoed.new.line.items t wrote.0 next =
    λ t e. subst (λ k. lines c.loop-read.machine (k + 1) c.next_echoed.new.line.items t wrote.0 next) c.from-number.ensures
    (subst (λ l. lines c.loop-read.machine (c.from-number.result + 1) l t wrote.0 next) c.as_slice.ensures.value (subst (λ u. lines c.loop-read.machine (c.from-number.result + 1) c.as_slice.result.now u wrote.0 next) e wrote.2)) in
    elim c.match-turn.branch as (λ _. progress c.match-turn.ran) [
      | in-Taken w ↦ subst progress (sym w.ran-is) (takes g.M.AnswerNumbered.line_gives g.M.AnswerNumbered.end_gives c.args.echo c.args.machine.now KEPT_BYTES g.met.M.AnswerNumbered.cut_alike _ _ c.loop-read.read _ _ next _ _ _ _ _ _ c.next_echoed.new.line.items wrote.0
          c.loop-read.invariant read c.in-Ok-true.ensures.echoed holds c.in-Ok.ensures.ok wrote.1 (gave Taken w.in-Taken.is))
      | in-Refused w ↦ subst progress (sym w.ran-is) (refuses g.M.AnswerNumbered.line_gives g.M.AnswerNumbered.end_gives c.args.echo c.args.machine.now KEPT_BYTES g.met.M.AnswerNumbered.cut_alike _ _ c.loop-read.read _ _ next _ _ _ _ _ _ c.next_echoed.new.line.items wrote.0
          c.loop-read.invariant read c.in-Ok-true.ensures.echoed holds c.in-Ok.ensures.ok wrote.1 (gave Refused w.in-Refused.is))
    ]

-- the end of the input after the most lines
pub returns-in-Ok-true-has_ended-clause-output : goal.returns-in-Ok-true-has_ended-clause-output
returns-in-Ok-true-has_ended-clause-output g c =
    let ended : c.has_ended.result ≡ Ok true = c.in-Ok-true-has_ended.is ∙ ap Ok c.in-Ok-true-has_ended.field-0-test in
    ends_of g.M.AnswerNumbered.line_gives g.M.AnswerNumbered.end_gives c.args.echo c.args.machine.now c.write_last-in-Ok-true-has_ended.result _ _ c.loop-read.read _ _ _ _ _ _ c.loop-read.invariant (over_seen _ _ _ (c.has_ended.ensures.ended ended) c.has_ended.ensures.writer) c.write_last-in-Ok-true-has_ended.ensures.ok

pub returns-in-Ok-true-has_ended-clause-begun : goal.returns-in-Ok-true-has_ended-clause-begun
returns-in-Ok-true-has_ended-clause-begun g c =
    let ended : c.has_ended.result ≡ Ok true = c.in-Ok-true-has_ended.is ∙ ap Ok c.in-Ok-true-has_ended.field-0-test in
    end_begun_of g.M.AnswerNumbered.line_gives g.M.AnswerNumbered.end_gives c.args.echo c.args.machine.now c.write_last-in-Ok-true-has_ended.result _ _ c.loop-read.read _ _ _ _ _ _ c.loop-read.invariant (over_seen _ _ _ (c.has_ended.ensures.ended ended) c.has_ended.ensures.writer) c.write_last-in-Ok-true-has_ended.ensures.err

pub returns-in-Ok-true-has_ended-clause-reads : goal.returns-in-Ok-true-has_ended-clause-reads
returns-in-Ok-true-has_ended-clause-reads g c =
    let within : c.loop-read.read ≤ most_reads = omega (arith, c.loop-read.auto.read-end) in
    chain_few (AreNumbered g.M.AnswerNumbered.line_gives c.args.echo c.args.machine.now) _ _ c.loop-read.read _ _ _ _ _ c.loop-read.invariant c.has_ended.ensures.reader within

-- too many lines
pub returns-in-Ok-false-has_ended-clause-begun : goal.returns-in-Ok-false-has_ended-clause-begun
returns-in-Ok-false-has_ended-clause-begun g c =
    begun_kept g.M.AnswerNumbered.line_gives g.M.AnswerNumbered.end_gives c.args.echo c.args.machine.now _ _ c.loop-read.read _ _ _ _ _ c.loop-read.invariant c.has_ended.ensures.writer

pub returns-in-Ok-false-has_ended-clause-stopped : goal.returns-in-Ok-false-has_ended-clause-stopped
returns-in-Ok-false-has_ended-clause-stopped g c =
    λ _.
    let more : c.has_ended.result ≡ Ok false = c.in-Ok-false-has_ended.is ∙ ap Ok c.in-Ok-false-has_ended.field-0-test in
    let all : c.loop-read.read ≡ most_reads = omega (arith, c.loop-read-test.false, c.loop-read.auto.read-end) in
    too_many g.M.AnswerNumbered.line_gives g.M.AnswerNumbered.end_gives c.args.echo c.args.machine.now _ _ c.loop-read.read _ _ _ _ _ _ c.loop-read.invariant c.has_ended.ensures.reader (c.has_ended.ensures.more more) c.has_ended.ensures.writer all

pub returns-in-Ok-false-has_ended-clause-reads : goal.returns-in-Ok-false-has_ended-clause-reads
returns-in-Ok-false-has_ended-clause-reads g c =
    let within : c.loop-read.read ≤ most_reads = omega (arith, c.loop-read.auto.read-end) in
    chain_few (AreNumbered g.M.AnswerNumbered.line_gives c.args.echo c.args.machine.now) _ _ c.loop-read.read _ _ _ _ _ c.loop-read.invariant c.has_ended.ensures.reader within

-- the look for more failed
pub returns-in-Err-has_ended-clause-begun : goal.returns-in-Err-has_ended-clause-begun
returns-in-Err-has_ended-clause-begun g c =
    begun_kept g.M.AnswerNumbered.line_gives g.M.AnswerNumbered.end_gives c.args.echo c.args.machine.now _ _ c.loop-read.read _ _ _ _ _ c.loop-read.invariant c.has_ended.ensures.writer

pub returns-in-Err-has_ended-clause-stopped : goal.returns-in-Err-has_ended-clause-stopped
returns-in-Err-has_ended-clause-stopped g c =
    λ _. look_stops g.M.AnswerNumbered.line_gives g.M.AnswerNumbered.end_gives c.args.echo c.args.machine.now c.in-Err-has_ended.fault _ _ c.loop-read.read _ _ _ _ _ _ c.loop-read.invariant c.has_ended.ensures.reader c.has_ended.ensures.writer c.in-Err-has_ended.ensures.err

pub returns-in-Err-has_ended-clause-reads : goal.returns-in-Err-has_ended-clause-reads
returns-in-Err-has_ended-clause-reads g c =
    let within : c.loop-read.read ≤ most_reads = omega (arith, c.loop-read.auto.read-end) in
    chain_few (AreNumbered g.M.AnswerNumbered.line_gives c.args.echo c.args.machine.now) _ _ c.loop-read.read _ _ _ _ _ c.loop-read.invariant c.has_ended.ensures.reader within
