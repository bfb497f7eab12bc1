use Rattle.sqlite.specs.Held.{state}
use Rattle.row_table.proofs.EffectLemmas.{ok_then}
use Rattle.row_table.proofs.MakeLemmas.{first_version}
use Rattle.row_table.proofs.making.write_version.Goals as goal

pub returns-clause-made : goal.returns-clause-made
returns-clause-made g c clean has =
    ok_then c.add_version.result _ _ (first_version (state g.S.Store c.args.tx.now.conn.now) (state g.S.Store c.add_version.new.tx.conn.now) c.args.version has) (c.add_version.ensures.made clean has.schema has.no_version)
