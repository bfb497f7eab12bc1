use Rattle.std.proofs.Common.{◌<◌, arith, length, sym, ◌∙◌}
use Rattle.std.proofs.lemmas.Bool.{eqb-false}
use Rattle.line_runs.proofs.EchoLemmas.{held_cut, passed_whole, passed_cut}
use Rattle.line_runs.proofs.echo.pass_on.Goals as goal

pub write_front-requires : goal.write_front-requires
write_front-requires g c =
    let held = eqb-false _ _ (sym c.is_empty.ensures ∙ c.if-is_empty.false) in
    omega (arith, held)

pub returns-in-Err-clause-err : goal.returns-in-Err-clause-err
returns-in-Err-clause-err g c =
    let held = eqb-false _ _ (sym c.is_empty.ensures ∙ c.if-is_empty.false) in
    let some : 0 < length c.args.part.now = omega (arith, held) in
    let failed = c.in-Err.ensures.err in
    let cut = held_cut c.args.held.now c.args.part.now _ _ some (failed.1, failed.2) in
    (failed.0, cut.0, cut.1)

pub returns-clause-ok : goal.returns-clause-ok
returns-clause-ok g c =
    let held = eqb-false _ _ (sym c.is_empty.ensures ∙ c.if-is_empty.false) in
    let some : 0 < length c.args.part.now = omega (arith, held) in
    passed_whole c.write_front.result c.args.held.now c.ends_with-ends.result c.args.part.now _ _ _ some c.ends_with-ends.ensures c.in-Ok.ensures.ok c.write_front.ensures.ok

pub returns-clause-err : goal.returns-clause-err
returns-clause-err g c =
    let held = eqb-false _ _ (sym c.is_empty.ensures ∙ c.if-is_empty.false) in
    let some : 0 < length c.args.part.now = omega (arith, held) in
    passed_cut c.write_front.result c.args.held.now c.ends_with-ends.result c.args.part.now _ _ _ some c.ends_with-ends.ensures c.in-Ok.ensures.ok c.write_front.ensures.err
