use Rattle.sqlite.specs.Held.{state}
use Rattle.row_table.proofs.ReplaceLemmas.{replaces}
use Rattle.row_table.proofs.statements.replace.Goals as goal

pub returns-clause-made : goal.returns-clause-made
returns-clause-made g c clean has =
    replaces c.args.kind.now c.args.name.now c.args.text.now (state g.S.Store c.args.tx.now.conn.now) (state g.S.Store c.execute.new.self.conn.now) c.execute.result has
    (λ outside. (_, (c.execute.ensures.ended outside).0)) (rw (c.params-to_sql.ensures, c.params-to_sql-2.ensures, c.params-to_sql-3.ensures) at (c.execute.ensures.runs clean))
