use Rattle.std.proofs.Common.{arith}
use Rattle.std.proofs.lemmas.Option.{slice_get-get_or}
use Rattle.weave_runs.specs.Steps.{lines_text}
use Rattle.weave_runs.proofs.OutputLemmas.{other_more}
use Rattle.weave_runs.proofs.written.other_text.Goals as goal

pub push_setups-requires-clause-named : goal.push_setups-requires-clause-named
push_setups-requires-clause-named c = c.requires.named c.loop-turn.turn-index _ (slice_get-get_or c.args.turns.now c.loop-turn.turn-index (record { history = 0; entry = 0 }) (omega arith))

pub push_turn-requires-clause-named : goal.push_turn-requires-clause-named
push_turn-requires-clause-named c = c.requires.named c.loop-turn.turn-index _ (slice_get-get_or c.args.turns.now c.loop-turn.turn-index (record { history = 0; entry = 0 }) (omega arith))

pub loop-turn-preserved : goal.loop-turn-preserved
loop-turn-preserved c =
    let (lines, are_lines, so_far) = c.loop-turn.invariant in (
      lines,
      are_lines,
      other_more c.args.given.now c.args.histories.now c.args.transcripts.now c.args.turns.now c.requires.named c.loop-turn.turn-index _ (lines_text lines) c.loop-turn.text.items c.push_setups.new.text.items
          c.push_turn.new.text.items (slice_get-get_or c.args.turns.now c.loop-turn.turn-index (record { history = 0; entry = 0 }) (omega arith)) so_far c.in_ok-push_setups.ensures c.in_ok-push_turn.ensures,
    )
