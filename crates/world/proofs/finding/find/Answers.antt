use Rattle.std.proofs.Common.{◌∙◌, ap, arith, sym}
use Rattle.std.specs.Prelude.{Some}
use Rattle.ocpi_text.specs.Text.{key}
use Rattle.world.proofs.Names.{name_read, no_name, no_name_more, other_name, same_name}
use Rattle.world.proofs.finding.find.Goals as goal

pub loop-i-init : goal.loop-i-init
loop-i-init c = λ k below at. absurd (omega (arith, below))

pub returns-then-eq-clause-found : goal.returns-then-eq-clause-found
returns-then-eq-clause-found c =
    let x = c.index-names-i.result in
    name_read c.args.names.now c.loop-i.i x c.loop-i-test.true c.index-names-i.is ∙ ap Some (same_name x c.key-name.result c.eq.result c.eq.ensures c.if-eq.true ∙ c.key-name.ensures)

pub loop-i-preserved : goal.loop-i-preserved
loop-i-preserved c =
    let x = c.index-names-i.result in
    no_name_more c.args.names.now (key c.args.party.now) c.loop-i.i x (name_read c.args.names.now c.loop-i.i x c.loop-i-test.true c.index-names-i.is) c.loop-i.invariant
    (λ same. other_name x c.key-name.result c.eq.result c.eq.ensures c.if-eq.false (same ∙ sym c.key-name.ensures))

pub returns-clause-none : goal.returns-clause-none
returns-clause-none c = no_name c.args.names.now (key c.args.party.now) c.loop-i.i c.loop-i-test.false c.loop-i.invariant
