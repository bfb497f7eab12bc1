use Rattle.std.proofs.Common.{All, arith, subst, take_all}
use Rattle.std.proofs.lemmas.List.Elements.{All-more}
use Rattle.ocpi_forms.specs.ChargingPeriodForms.{ChargingPeriodFits}
use Rattle.row_texts.specs.Utf8.{ChargingPeriodIsUtf8}
use Rattle.row_texts.proofs.records.kept_periods.Goals as goal

pub loop-period-preserved : goal.loop-period-preserved
loop-period-preserved c =
    let at = c.loop-period in
    let xs = c.args.periods.now in
    let one = c.period-item.result in (
      All-more ChargingPeriodFits xs at.period-index one c.loop-period-test.true at.invariant.0 (subst ChargingPeriodFits c.period-item.is c.kept_period.ensures.fits),
      All-more ChargingPeriodIsUtf8 xs at.period-index one c.loop-period-test.true at.invariant.1 (subst ChargingPeriodIsUtf8 c.period-item.is c.kept_period.ensures.utf8),
    )

pub returns-clause-utf8 : goal.returns-clause-utf8
returns-clause-utf8 c =
    let at = c.loop-period in
    let past = c.loop-period-test.false in
    subst (All ChargingPeriodIsUtf8) (take_all at.period-index c.args.periods.now (omega (arith, past))) at.invariant.1
