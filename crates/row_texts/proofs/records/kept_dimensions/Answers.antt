use Rattle.std.proofs.Common.{All, arith, subst, take_all}
use Rattle.std.proofs.lemmas.List.Elements.{All-more}
use Rattle.ocpi_forms.specs.ChargingPeriodForms.{CdrDimensionFits}
use Rattle.row_texts.specs.Utf8.{CdrDimensionIsUtf8}
use Rattle.row_texts.proofs.records.kept_dimensions.Goals as goal

pub loop-dimension-preserved : goal.loop-dimension-preserved
loop-dimension-preserved c =
    let at = c.loop-dimension in
    let xs = c.args.dimensions.now in
    let one = c.dimension-item.result in (
      All-more CdrDimensionFits xs at.dimension-index one c.loop-dimension-test.true at.invariant.0 (subst CdrDimensionFits c.dimension-item.is c.kept_dimension.ensures.fits),
      All-more CdrDimensionIsUtf8 xs at.dimension-index one c.loop-dimension-test.true at.invariant.1 (subst CdrDimensionIsUtf8 c.dimension-item.is c.kept_dimension.ensures.utf8),
    )

pub returns-clause-utf8 : goal.returns-clause-utf8
returns-clause-utf8 c =
    let at = c.loop-dimension in
    let past = c.loop-dimension-test.false in
    subst (All CdrDimensionIsUtf8) (take_all at.dimension-index c.args.dimensions.now (omega (arith, past))) at.invariant.1
