use Rattle.sqlite.specs.Held.{state}
use Rattle.row_table.proofs.EffectLemmas.{adds_version}
use Rattle.row_table.proofs.statements.add_version.Goals as goal

pub returns-clause-made : goal.returns-clause-made
returns-clause-made g c clean schema none =
    adds_version (state g.S.Store c.args.tx.now.conn.now) (state g.S.Store c.execute.new.self.conn.now) c.args.version c.execute.result schema none
    (λ outside. (_, (c.execute.ensures.ended outside).0)) (rw c.params-to_sql.ensures at (c.execute.ensures.runs clean))
