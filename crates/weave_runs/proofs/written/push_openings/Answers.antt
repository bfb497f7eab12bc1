use Rattle.std.proofs.Common.{arith}
use Rattle.weave.proofs.Places.{got_by}
use Rattle.weave_runs.proofs.OutputLemmas.{one_begun}
use Rattle.weave_runs.proofs.written.push_openings.Goals as goal

pub loop-transcript-preserved : goal.loop-transcript-preserved
loop-transcript-preserved c =
    one_begun c.args.transcripts.now c.loop-transcript.transcript-index c.transcript-item.result c.first.result.now c.first.ensures.0 c.args.text.now.items c.loop-transcript.text.items c.push_line.new.text.items
    (got_by c.args.transcripts.now c.loop-transcript.transcript-index c.transcript-item.result (omega arith) c.transcript-item.is) c.first.ensures.1 c.loop-transcript.invariant c.in_ok-push_line.ensures
