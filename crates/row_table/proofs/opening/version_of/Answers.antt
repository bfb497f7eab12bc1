use Rattle.row_table.proofs.ReadLemmas.{answered_open}
use Rattle.row_table.proofs.LoadLemmas.{any_ok}
use Rattle.row_table.proofs.OpenLemmas.{version_found, version_missed}
use Rattle.row_table.proofs.opening.version_of.Goals as goal

pub returns-clause-one : goal.returns-clause-one
returns-clause-one g c clean has =
    version_found g.S.Store c.args.conn.now c.in_ok-rows.rows.items c.as_slice.result.now (c.in_ok-rows.ensures.answer clean) has c.as_slice.ensures.value c.number_in.result c.number_in.ensures.one

pub returns-clause-none : goal.returns-clause-none
returns-clause-none g c clean has =
    version_missed g.S.Store c.args.conn.now c.in_ok-rows.rows.items c.as_slice.result.now (c.in_ok-rows.ensures.answer clean) has c.as_slice.ensures.value c.args.version c.args.older c.number_in.result c.number_in.ensures.none

pub returns-clause-was_open : goal.returns-clause-was_open
returns-clause-was_open g c clean = any_ok c.number_in.result _ (answered_open g.S.Store c.args.conn.now _ c.in_ok-rows.rows.items (c.in_ok-rows.ensures.answer clean))
