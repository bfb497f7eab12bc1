use Rattle.std.proofs.Common.{refl}
use Rattle.replays.proofs.ResultLemmas.{if_ok, on_err}
use Rattle.replays.proofs.TranscriptRead.{fewer, named_real, none_before, none_told, nothing_read, refused_rightly, run_numbers, run_read, transcript_read}
use Rattle.replays.specs.Transcripts.{line_of}
use Rattle.replays.proofs.reading.read_transcript.Goals as goal

pub loop-run-init : goal.loop-run-init
loop-run-init c =
    let r = c.new-reading in
    let all = c.new-runs in
    let one = all.ensures.number in
    let whole = all.ensures.rest in (
      nothing_read c.args.earlier.now c.args.start.held c.args.text.now c.is_numbered.ensures r.result r.ensures.earlier r.ensures.parties r.ensures.story all.result.rest.now all.result.number whole one,
      c.is_numbered-2.ensures,
    )

pub next-requires : goal.next-requires
next-requires c = c.loop-run.invariant.1

pub take_run-requires-clause-numbers : goal.take_run-requires-clause-numbers
take_run-requires-clause-numbers c = run_numbers c.loop-run.runs c.in-Some.run' c.next.new.self c.in-Some.ensures.some c.loop-run.invariant.1

pub loop-run-smaller : goal.loop-run-smaller
loop-run-smaller c = fewer c.loop-run.runs c.in-Some.run' c.next.new.self c.in-Some.ensures.some

pub loop-run-preserved : goal.loop-run-preserved
loop-run-preserved c = (
  run_read c.args.earlier.now c.args.start.held c.args.text.now c.is_numbered.ensures c.loop-run.reading c.loop-run.runs c.loop-run.invariant.0 c.in-Some.run' c.next.new.self c.in-Some.ensures.some
      c.take_run.new.self c.in-Ok.ensures.ok,
  c.next.ensures.numbers,
)

pub returns-in-Err-clause-none : goal.returns-in-Err-clause-none
returns-in-Err-clause-none c = λ real.
    refused_rightly c.args.earlier.now c.args.start.held c.args.text.now c.is_numbered.ensures c.loop-run.reading c.loop-run.runs c.loop-run.invariant.0 c.in-Some.run' c.next.new.self c.in-Some.ensures.some
    c.in-Err.fault (c.in-Err.ensures.err real) real

pub returns-in-Err-clause-line : goal.returns-in-Err-clause-line
returns-in-Err-clause-line c = λ n is.
    none_before c.args.earlier.now c.args.start.held c.args.text.now c.is_numbered.ensures c.loop-run.reading c.loop-run.runs c.loop-run.invariant.0 c.in-Some.run' c.next.new.self c.in-Some.ensures.some
    (line_of c.in-Err.fault) n (c.in-Err.ensures.err (named_real c.in-Err.fault n is)) is

pub finish-requires : goal.finish-requires
finish-requires c = let knows = c.loop-run.invariant.0.knows in (knows.told, knows.tells)

pub returns-clause-read : goal.returns-clause-read
returns-clause-read c =
    let end = c.in_default.ensures.none in
    if_ok c.finish.result (λ t told. transcript_read c.args.earlier.now c.args.start.held c.args.text.now c.is_numbered.ensures c.loop-run.reading c.loop-run.runs c.loop-run.invariant.0 end.0 end.1 t told) c.finish.ensures.ok

pub returns-clause-none : goal.returns-clause-none
returns-clause-none c =
    let end = c.in_default.ensures.none in
    on_err c.finish.result (λ f none. none_told c.args.earlier.now c.args.start.held c.args.text.now c.is_numbered.ensures c.loop-run.reading c.loop-run.runs c.loop-run.invariant.0 end.0 end.1 f none.0 none.1) c.finish.ensures.none
