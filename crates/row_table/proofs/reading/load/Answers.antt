use Rattle.row_table.proofs.ReadLemmas.{answered_open}
use Rattle.row_table.proofs.LoadLemmas.{loaded, any_ok}
use Rattle.row_table.proofs.reading.load.Goals as goal

pub returns-clause-rows : goal.returns-clause-rows
returns-clause-rows g c clean has =
    loaded g.S.Store c.args.conn.now c.in_ok-rows.rows.items c.read_all.result (c.in_ok-rows.ensures.answer clean) has c.read_all.ensures.read c.read_all.ensures.sorted

pub returns-clause-was_open : goal.returns-clause-was_open
returns-clause-was_open g c clean = any_ok c.read_all.result _ (answered_open g.S.Store c.args.conn.now _ c.in_ok-rows.rows.items (c.in_ok-rows.ensures.answer clean))
