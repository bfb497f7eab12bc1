use Rattle.std.proofs.Common.{arith, ap}
use Rattle.sqlite.specs.State.{HasCleanDisk}
use Rattle.sqlite.specs.Held.{state}
use Rattle.row_table.proofs.EditLemmas.{all_made_to}
use Rattle.row_table.proofs.edits.make_to.Goals as goal

pub returns-clause-made : goal.returns-clause-made
returns-clause-made g c clean has =
    let old = state g.S.Store c.args.tx.now.conn.now in
    let mid = state g.S.Store c.put_version.new.tx.conn.now in
    let new = state g.S.Store c.make_all.new.tx.conn.now in
    let early : HasCleanDisk mid = omega (arith, c.make_all.ensures.survives.clean) in
    let first = c.in_ok-put_version.ensures.made early has in
    all_made_to old mid new c.args.version c.args.edits.now c.make_all.result first (c.make_all.ensures.made clean (λ _. first.tables)) (λ none. ap (state g.S.Store) (c.make_all.ensures.idle none))
