use Rattle.sqlite.specs.Held.{state}
use Rattle.row_table.proofs.EffectLemmas.{clears_version}
use Rattle.row_table.proofs.statements.clear_version.Goals as goal

pub returns-clause-made : goal.returns-clause-made
returns-clause-made g c clean has =
    clears_version (state g.S.Store c.args.tx.now.conn.now) (state g.S.Store c.execute.new.self.conn.now) c.execute.result has (λ outside. (_, (c.execute.ensures.ended outside).0)) (c.execute.ensures.runs clean)
