use Rattle.std.proofs.Common.{◌++◌, ◌∙◌, List, ℕ, ap, arith}
use Rattle.std.proofs.lemmas.Option.{slice_get-get_or}
use Rattle.weave.proofs.Places.{got_by}
use Rattle.weave_runs.specs.Steps.{ended}
use Rattle.weave_runs.proofs.OutputLemmas.{played_more, setup_line}
use Rattle.weave_runs.proofs.StepLemmas.{steps_none}
use Rattle.weave_runs.proofs.written.played_text.Goals as goal

pub loop-turn-init : goal.loop-turn-init
loop-turn-init c = (
  c.first.result.now.line.bytes.now,
  setup_line c.args.transcripts.now c.index-transcripts-0.result c.first.result.now c.first.ensures.0 (got_by c.args.transcripts.now 0 c.index-transcripts-0.result c.requires.some c.index-transcripts-0.is) c.first.ensures.1,
  steps_none c.args.given.now c.args.histories.now c.args.transcripts.now (ended c.first.result.now.line.bytes.now) c.push_line.new.text.items
      (c.in_ok-push_line.ensures ∙ ap (λ (l : List ℕ). l ++ ended c.first.result.now.line.bytes.now) c.new-text.ensures.items),
)

pub push_turn-requires-clause-named : goal.push_turn-requires-clause-named
push_turn-requires-clause-named c = c.requires.named c.loop-turn.turn-index _ (slice_get-get_or c.args.turns.now c.loop-turn.turn-index (record { history = 0; entry = 0 }) (omega arith))

pub loop-turn-preserved : goal.loop-turn-preserved
loop-turn-preserved c =
    let (line, is, so_far) = c.loop-turn.invariant in (
      line,
      is,
      played_more c.args.given.now c.args.histories.now c.args.transcripts.now c.args.turns.now c.requires.named c.requires.told c.requires.sourced c.requires.one c.loop-turn.turn-index _ (ended line)
          c.loop-turn.text.items c.push_turn.new.text.items (slice_get-get_or c.args.turns.now c.loop-turn.turn-index (record { history = 0; entry = 0 }) (omega arith)) so_far c.in_ok-push_turn.ensures,
    )
