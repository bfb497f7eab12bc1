use Rattle.std.proofs.Common.{arith}
use Rattle.sqlite.specs.State.{HasCleanDisk}
use Rattle.sqlite.specs.Held.{state}
use Rattle.row_table.proofs.EffectLemmas.{ok_then, puts_version}
use Rattle.row_table.proofs.statements.put_version.Goals as goal

pub returns-clause-made : goal.returns-clause-made
returns-clause-made g c clean has =
    let old = state g.S.Store c.args.tx.now.conn.now in
    let mid = state g.S.Store c.clear_version.new.tx.conn.now in
    let new = state g.S.Store c.add_version.new.tx.conn.now in
    let early : HasCleanDisk mid = omega (arith, c.add_version.ensures.survives.clean) in
    let first = c.in_ok-clear_version.ensures.made early has in
    ok_then c.add_version.result _ _ (puts_version old mid new c.args.version has first) (c.add_version.ensures.made clean first.schema first.none)
