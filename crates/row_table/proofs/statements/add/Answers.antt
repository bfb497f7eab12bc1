use Rattle.std.proofs.Common.{[], ◌∷◌, ap, ◌∙◌}
use Rattle.sqlite.specs.declared.types.Value.TheVariants.{Text}
use Rattle.row_table.proofs.Meanings.{insert_text}
use Rattle.sqlite.specs.Held.{state}
use Rattle.row_table.proofs.EffectLemmas.{adds, fails}
use Rattle.row_table.proofs.statements.add.Goals as goal

pub returns-clause-made : goal.returns-clause-made
returns-clause-made g c clean has =
    adds (state g.S.Store c.args.tx.now.conn.now) (state g.S.Store c.execute.new.self.conn.now) c.args.kind.now c.args.name.now c.args.text.now c.execute.result has
    (λ outside. (_, (c.execute.ensures.ended outside).0)) (rw (c.params-to_sql.ensures, c.params-to_sql-2.ensures, c.params-to_sql-3.ensures) at (c.execute.ensures.runs clean))

pub returns-clause-failed : goal.returns-clause-failed
returns-clause-failed g c clean =
    fails (state g.S.Store c.args.tx.now.conn.now) (state g.S.Store c.execute.new.self.conn.now) insert_text (Text c.args.kind.now ∷ Text c.args.name.now ∷ Text c.args.text.now ∷ []) c.execute.result
    (λ outside. ap (λ h. (state g.S.Store h).in_transaction) (c.execute.ensures.ended outside).1 ∙ outside)
    (rw (c.params-to_sql.ensures, c.params-to_sql-2.ensures, c.params-to_sql-3.ensures) at (c.execute.ensures.runs clean))
