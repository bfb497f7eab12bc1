use Rattle.std.proofs.Common.{◌≡◌, arith}
use Rattle.sqlite.specs.State.{HasCleanDisk}
use Rattle.sqlite.specs.Held.{state}
use Rattle.row_table.specs.Texts.{Place}
use Rattle.row_table.proofs.EffectLemmas.{ok_then}
use Rattle.row_table.proofs.ReplaceLemmas.{puts}
use Rattle.row_table.proofs.statements.put.Goals as goal

pub returns-then-count-eq0-clause-made : goal.returns-then-count-eq0-clause-made
returns-then-count-eq0-clause-made g c clean has =
    let old = state g.S.Store c.args.tx.now.conn.now in
    let mid = state g.S.Store c.replace.new.tx.conn.now in
    let new = state g.S.Store c.add.new.tx.conn.now in
    let place : Place = (c.args.kind.now, c.args.name.now) in
    let early : HasCleanDisk mid = omega (arith, c.add.ensures.survives.clean) in
    let none : c.in_ok-count.count ≡ 0 = omega arith in
    let first = (c.in_ok-count.ensures.made early has).0 none in
    ok_then c.add.result _ _ (puts old mid new place c.args.text.now first) (c.add.ensures.made clean (λ _. first.tables))

pub returns-then-count-eq1-clause-made : goal.returns-then-count-eq1-clause-made
returns-then-count-eq1-clause-made g c clean has =
    let one : c.in_ok-count.count ≡ 1 = omega arith in
    (c.in_ok-count.ensures.made clean has).1 one
