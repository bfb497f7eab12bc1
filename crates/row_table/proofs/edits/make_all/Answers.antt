use Rattle.std.proofs.Common.{ap, ◌∙◌, arith}
use Rattle.sqlite.specs.State.{HasCleanDisk}
use Rattle.sqlite.specs.Held.{state}
use Rattle.sqlite.proofs.StateLemmas.{survives_then}
use Rattle.row_table.proofs.EffectLemmas.{keeps_then}
use Rattle.row_table.proofs.EditLemmas.{all_made, one_more}
use Rattle.row_table.proofs.edits.make_all.Goals as goal

pub loop-edit-preserved : goal.loop-edit-preserved
loop-edit-preserved g c =
    let at = c.loop-edit in
    let was = at.invariant in
    let old = state g.S.Store c.args.tx.now.conn.now in
    let mid = state g.S.Store at.tx.conn.now in
    let new = state g.S.Store c.make.new.tx.conn.now in
    let earlier = λ (clean : HasCleanDisk new). let early : HasCleanDisk mid = omega (arith, c.make.ensures.survives.clean) in early in
    record {
      same_reference = c.make.ensures.same_reference ∙ was.same_reference;
      first = λ none. absurd (omega arith);
      kept = λ clean. keeps_then old mid new (was.kept (earlier clean)) (c.make.ensures.kept clean);
      survives = survives_then old mid new _ _ _ (λ _ db none. none) (λ _ db none. none) was.survives c.make.ensures.survives;
      made = λ clean has.
          let on = was.made (earlier clean) has in
          one_more old mid new c.args.edits.now at.edit-index c.edit-item.result c.loop-edit-test.true c.edit-item.is on (c.in_ok-make.ensures.made clean on.tables) (λ none. ap (state g.S.Store) (was.first none));
    }

pub returns-clause-made : goal.returns-clause-made
returns-clause-made g c clean has some =
    let at = c.loop-edit in
    all_made (state g.S.Store c.args.tx.now.conn.now) (state g.S.Store at.tx.conn.now) c.args.edits.now at.edit-index some c.loop-edit-test.false (at.invariant.made clean has)
